-- Each row of the table of states is in range.
use Rattle.std.proofs.Common.{ℕ, ◌<◌, ◌≤◌, ◌≡◌, Bool, true, false, ◌&&◌, nat_lt, nat_le, length}
use Rattle.std.proofs.Common.{get_or, arith, refl}
use Rattle.std.specs.List.{list_all}
use Rattle.std.proofs.lemmas.List.Folds.{list_all_at}
use Rattle.std.proofs.lemmas.Grind.{common_steps}
use Rattle.mq_coder.specs.States.{StateRow}
use Rattle.mq_coder.specs.States.{state_table, row, line}

pub record IsInRange (r : StateRow) : Type 0 where
  pub some : 1 ≤ r.qe
  pub less : r.qe ≤ 22017
  pub more_next : r.nmps < 47
  pub less_next : r.nlps < 47

-- the same as a test
is_in_range : StateRow → Bool
is_in_range r = nat_le 1 r.qe && nat_le r.qe 22017 && nat_lt r.nmps 47 && nat_lt r.nlps 47

in_range : (r : StateRow) → is_in_range r ≡ true → IsInRange r
unfolding is_in_range
in_range r h = record {
  some = grind (arith, common_steps);
  less = grind (arith, common_steps);
  more_next = grind (arith, common_steps);
  less_next = grind (arith, common_steps);
}

all_in_range : list_all is_in_range state_table ≡ true
unfolding is_in_range state_table
all_in_range = refl

long : length state_table ≡ 47
unfolding state_table
long = refl

pub row_in_range : (state : ℕ) → state < 47 → IsInRange (row state)
unfolding row
row_in_range state h =
    let below : state < length state_table = rw long h in
    in_range _ (elim (is_in_range (get_or state_table state (line 0x5601 46 46 false))) as
    (λ (b : Bool).
    (is_in_range (get_or state_table state (line 0x5601 46 46 false)) ≡ b) → b ≡ true) [
      | true ↦ λ e. refl
      | false ↦ λ e. let no = list_all_at is_in_range state_table state
          (line 0x5601 46 46 false) below e in cc (no, all_in_range)
    ] refl)
