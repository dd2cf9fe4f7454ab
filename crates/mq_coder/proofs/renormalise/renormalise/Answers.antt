use Rattle.std.proofs.Common.{◌∙◌}
use Rattle.mq_coder.specs.Registers.{coding_of}
use Rattle.mq_coder.proofs.Shifting.{renormalise_shifts}
use Rattle.mq_coder.proofs.renormalise.renormalise.Goals as goal

pub returns-then-n-r-clause-exact : goal.returns-then-n-r-clause-exact
returns-then-n-r-clause-exact c = λ contexts.
    renormalise_shifts 15 c.shifts_due-n.result (coding_of c.args.r c.args.bytes.now contexts)
    c.shifts_due-n.ensures.few c.shifts_due-n.ensures.wide c.shifts_due-n.ensures.narrow
    ∙ c.shifted.ensures.exact c.args.bytes.now contexts

pub returns-else-n-r-clause-exact : goal.returns-else-n-r-clause-exact
returns-else-n-r-clause-exact c = λ contexts.
    renormalise_shifts 15 c.shifts_due-n.result (coding_of c.args.r c.args.bytes.now contexts)
    c.shifts_due-n.ensures.few c.shifts_due-n.ensures.wide c.shifts_due-n.ensures.narrow
    ∙ c.shifted_out.ensures.exact contexts
