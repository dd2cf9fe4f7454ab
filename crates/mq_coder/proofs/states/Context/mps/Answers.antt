use Rattle.std.proofs.Common.{ℕ, ◌/◌, nat_eq, ap, ◌∙◌}
use Rattle.std.proofs.lemmas.Nat.{and_mask}
use Rattle.mq_coder.proofs.RowWords.{fields_of, bit_is}
use Rattle.mq_coder.proofs.states.Context.mps.Goals as goal

pub returns : goal.returns
returns c =
    let f = fields_of c.self.inside.row c.args.self c.self.invariant c.self.view_is in
    ap (λ (v : ℕ). nat_eq v 1) (and_mask (c.self.inside.row / 32768) 1 ∙ f.mps)
    ∙ bit_is c.args.self.1
