use Rattle.std.proofs.Common.{ℕ, ◌≤◌, ◌-◌, ◌++◌, List, map, length}
use Rattle.cine_nums.specs.declared.budget.Budget.{Budget}
use Rattle.cert_text.specs.Forms.{Reads, Refuses}
use Rattle.cert_text.specs.LineForms.{Numbers, steps, step_values}
use Rattle.cert_text.specs.declared.cert_refusal.CertRefusal.{CertRefusal}
use Rattle.cert_text.proofs.step_reading.refused_steps.Given as goal

-- what is read of the later steps is read of all after the steps so far
abbrev pub invariant-loop-least : goal.invariant-loop-least
invariant-loop-least l = record {
  within : l.end ≤ length l.text;
  few : length l.refused.items ≤ l.least;
  reads : (rest : List (Budget × Numbers)) (e : ℕ) → Reads (steps l.profile l.least) l.text l.end
      rest e
      → Reads (steps l.profile 0) l.text l.at (map step_values l.refused.items ++ rest) e;
  refuses : (r : CertRefusal) → Refuses (steps l.profile l.least) l.text l.end r
      → Refuses (steps l.profile 0) l.text l.at r;
}

abbrev pub decreases-loop-least : goal.decreases-loop-least
decreases-loop-least l = 5 - l.least
