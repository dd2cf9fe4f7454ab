use Rattle.std.proofs.Common.{arith}
use Rattle.std.proofs.lemmas.Grind.{common_steps}
use Rattle.mq_coder.proofs.subintervals.subinterval.Goals as goal

pub returns-then-is_lps-r-clause-exact : goal.returns-then-is_lps-r-clause-exact
returns-then-is_lps-r-clause-exact c = λ bytes contexts.
    let e = c.upper_subinterval.ensures.exact bytes contexts in
    grind (arith, common_steps, e)

pub returns-else-is_lps-r-clause-exact : goal.returns-else-is_lps-r-clause-exact
returns-else-is_lps-r-clause-exact c = λ bytes contexts.
    let e = c.lower_subinterval.ensures.exact bytes contexts in
    grind (arith, common_steps, e)
