use Rattle.std.proofs.Common.{◌∙◌}
use Rattle.std.proofs.lemmas.Nat.{and_mask}
use Rattle.mq_coder.proofs.Rows.{row_in_range}
use Rattle.mq_coder.proofs.RowWords.{fields_of}
use Rattle.mq_coder.proofs.states.Context.estimate.Goals as goal

pub returns-clause-value : goal.returns-clause-value
returns-clause-value c =
    let f = fields_of c.self.inside.row c.args.self c.self.invariant c.self.view_is in
    and_mask c.self.inside.row 15 ∙ f.qe

pub returns-clause-some : goal.returns-clause-some
returns-clause-some c =
    let f = fields_of c.self.inside.row c.args.self c.self.invariant c.self.view_is in
    rw (and_mask c.self.inside.row 15, f.qe) (row_in_range c.args.self.0 f.in_table).some

pub returns-clause-most : goal.returns-clause-most
returns-clause-most c =
    let f = fields_of c.self.inside.row c.args.self c.self.invariant c.self.view_is in
    rw (and_mask c.self.inside.row 15, f.qe) (row_in_range c.args.self.0 f.in_table).less
