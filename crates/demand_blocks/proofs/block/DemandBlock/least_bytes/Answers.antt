-- What the last mark put out.
use Rattle.std.proofs.Common.{ℕ, ◌+◌, ◌-◌, sym, ◌∙◌, ap, length, get_or, arith}
use Rattle.demand_blocks.specs.Blocks.{block_coefs, block_shape}
use Rattle.demand_blocks.specs.Points.{least_after}
use Rattle.demand_blocks.proofs.Points.{last_anywhere, least_none}
use Rattle.demand_blocks.proofs.block.DemandBlock.least_bytes.Goals as goal

pub returns-then-coded-eq0 : goal.returns-then-coded-eq0
returns-then-coded-eq0 c =
    let b = c.args.self.now in
    let none = sym c.coded-coded.ensures ∙ c.if-coded-eq0.true in
    sym (ap (least_after (block_coefs b) (block_shape b)) none
    ∙ least_none (block_coefs b) (block_shape b))

pub returns : goal.returns
returns c =
    let b = c.args.self.now in
    let other = c.if-coded-eq0.false in
    let long = c.coded-coded.ensures in
    let last = last_anywhere (block_coefs b) (block_shape b) b.start (length b.passes.items)
    b.passes.items c.last_of.result b.first (omega (arith, other, long)) (omega arith)
    (λ pass. c.last_of.ensures pass ∙ ap (λ (j : ℕ). get_or b.passes.items (j - 1) pass) long) in
    ap (λ (n : ℕ). n + 1) last.mark.count
