use Rattle.std.proofs.Common.{ℕ, ◌≤◌, ◌-◌, ◌++◌, List, length}
use Rattle.cert_text.specs.Forms.{Reads, Refuses}
use Rattle.cert_text.specs.LineForms.{name}
use Rattle.cert_text.specs.Characters.{IsSound, name_after}
use Rattle.cert_text.specs.declared.cert_refusal.CertRefusal.{CertRefusal}
use Rattle.cert_text.proofs.read_name.name.Given as goal

-- what is read of the rest of the name is read of all of it after the bytes so far
abbrev pub invariant-loop-state : goal.invariant-loop-state
invariant-loop-state l = record {
  within : l.end ≤ length l.text;
  sound : IsSound l.state;
  reads : (rest : List ℕ) (e : ℕ) → Reads (name_after l.bytes.items l.state) l.text l.end rest e
      → Reads name l.text l.at (l.bytes.items ++ rest) e;
  refuses : (r : CertRefusal) → Refuses (name_after l.bytes.items l.state) l.text l.end r
      → Refuses name l.text l.at r;
}

abbrev pub decreases-loop-state : goal.decreases-loop-state
decreases-loop-state l = length l.text - l.end
