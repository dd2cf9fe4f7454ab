use Rattle.std.proofs.Common.{length, arith, ap, ◌-◌}
use Rattle.coded_blocks.proofs.blocks.kept_bytes.Goals as goal

pub returns-in-Some-clause-enough : goal.returns-in-Some-clause-enough
returns-in-Some-clause-enough c = λ k other lt.
    let grown = c.requires k (length c.args.passes.now - 1) other (omega arith) (omega arith) in
    let last = ap (λ p. p.mark.count) (c.in-Some.ensures.item.4 (omega arith) other) in
    omega (arith, grown, last, c.saturating_sub.ensures)
