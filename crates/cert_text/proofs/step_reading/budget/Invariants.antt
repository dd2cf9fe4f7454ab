use Rattle.cert_text.proofs.StepReading.{Tried}
use Rattle.cert_text.proofs.step_reading.budget.Given as goal

-- the budgets before this place were tried
abbrev pub invariant-loop-place : goal.invariant-loop-place
invariant-loop-place l = Tried l.profile l.least l.text l.at l.place l.furthest
