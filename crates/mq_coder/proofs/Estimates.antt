-- The bounds of Qe, and the two parts of an interval.
use Rattle.std.proofs.Common.{◌≡◌, ℕ, zero, suc, ◌-◌, ◌≤◌, Bool, true, false, ◌&&◌, ltb, leb, List}
use Rattle.std.proofs.Common.{[], ◌∷◌, get_or, refl}
use Rattle.std.proofs.lemmas.Bool.{and_parts, leb-true}
use Rattle.mq_coder.specs.States.{StateRow}
use Rattle.mq_coder.specs.States.{state_table, row, context_at, same, line}
use Rattle.mq_coder.specs.Decisions.{estimate, part_symbol}

abbrev pub Bounded : StateRow → Type 0
Bounded r = (1 ≤ r.qe) × (r.qe ≤ 22017)

abbrev pub in_bounds : StateRow → Bool
in_bounds r = leb 1 r.qe && leb r.qe 22017

abbrev all_in_bounds : List StateRow → Bool
all_in_bounds [] = true
all_in_bounds (r ∷ rs) = in_bounds r && all_in_bounds rs

table_in_bounds : all_in_bounds state_table ≡ true
unfolding state_table
table_in_bounds = refl

bounded : (r : StateRow) → in_bounds r ≡ true → Bounded r
bounded r h =
    let p : (leb 1 r.qe ≡ true) × (leb r.qe 22017 ≡ true) = and_parts _ _ h in
    (leb-true _ _ p.0, leb-true _ _ p.1)

read_bounded : (rs : List StateRow) (i : ℕ) (d : StateRow) → all_in_bounds rs ≡ true → Bounded d →
    Bounded (get_or rs i d)
read_bounded [] i d h b = b
read_bounded (r ∷ rs) zero d h b = bounded r (and_parts (in_bounds r) (all_in_bounds rs) h).0
read_bounded (r ∷ rs) (suc i) d h b =
    read_bounded rs i d (and_parts (in_bounds r) (all_in_bounds rs) h).1 b

pub row_bounded : (state : ℕ) → Bounded (row state)
unfolding row
row_bounded state = read_bounded state_table state _ table_in_bounds
    (bounded (line 0x5601 46 46 false) refl)

pub estimate_bounded : (contexts : List (ℕ × Bool)) (cx : ℕ) →
    (1 ≤ estimate contexts cx) × (estimate contexts cx ≤ 22017)
unfolding estimate
estimate_bounded contexts cx = row_bounded (context_at contexts cx).0

-- the part that a symbol takes
abbrev pub lower_of : List (ℕ × Bool) → ℕ → ℕ → Bool → Bool
lower_of contexts size cx bit =
    same (same bit (context_at contexts cx).1)
    (ltb (size - estimate contexts cx) (estimate contexts cx))

same_twice : (bit more swap : Bool) → same (same (same (same bit more) swap) swap) more ≡ bit
same_twice true true true = refl
same_twice true true false = refl
same_twice true false true = refl
same_twice true false false = refl
same_twice false true true = refl
same_twice false true false = refl
same_twice false false true = refl
same_twice false false false = refl

pub symbol_of_part : (contexts : List (ℕ × Bool)) (size cx : ℕ) (bit : Bool) →
    part_symbol contexts size cx (lower_of contexts size cx bit) ≡ bit
unfolding part_symbol
symbol_of_part contexts size cx bit =
    same_twice bit (context_at contexts cx).1
    (ltb (size - estimate contexts cx) (estimate contexts cx))
