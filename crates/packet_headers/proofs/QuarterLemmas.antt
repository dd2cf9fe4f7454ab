-- The table of quarters.
use Rattle.std.proofs.Common.{◌≡◌, ℕ, suc, zero, ◌+◌, ◌*◌, ◌/◌, ◌%◌, ◌<◌, ◌≤◌, Bool, true, false}
use Rattle.std.proofs.Common.{List, [], ◌∷◌, get_or, refl, inl, inr, arith, eqb, ltb}
use Rattle.std.specs.Prelude.{◌&&◌}
use Rattle.std.proofs.lemmas.Bool.{eqb-true, ltb-true, cases_eq}
use Rattle.std.proofs.Math.Nat.{mul-le-mul_left}
use Rattle.tag_trees.specs.TagTree.{middle_node}
use Rattle.packet_headers.specs.InsideWriting.{AreQuarters}

-- whether a test holds at each number below n
all_below : (ℕ → Bool) → ℕ → Bool
all_below test zero = true
all_below test (suc n) = test n && all_below test n

and_both : (a b : Bool) → (a && b) ≡ true → (a ≡ true) × (b ≡ true)
and_both true b h = (refl, h)
and_both false b h = absurd (cc)

below_all : (test : ℕ → Bool) (n k : ℕ) → all_below test n ≡ true → k < n → test k ≡ true
unfolding all_below
below_all test zero k h l = absurd (omega arith)
below_all test (suc n) k h l =
    let both = and_both (test n) (all_below test n) h in
    elim (cases_eq k n) [
      | inl e ↦ rw e both.0
      | inr ne ↦ below_all test n k both.1 (omega arith)
    ]

abbrev row_test : ℕ → List ℕ → ℕ → Bool
row_test width row place = eqb (middle_node (place % width) (place / width))
    (16 + get_or row place 0) && ltb (get_or row place 0) 4

row_of : (width : ℕ) (row : List ℕ) → all_below (row_test width row) (4 * width) ≡ true
    → AreQuarters width row
row_of width row h = record {
  node = λ place l. eqb-true _ _ (and_both _ _ (below_all (row_test width row) (4 * width) place h
      l)).0;
  below = λ place l. ltb-true _ _ (and_both _ _ (below_all (row_test width row) (4 * width) place h
      l)).1;
}

one : all_below (row_test 1 (0 ∷ 0 ∷ 2 ∷ 2 ∷ 0 ∷ 0 ∷ 2 ∷ 2 ∷ 0 ∷ 0 ∷ 2 ∷ 2 ∷ 0 ∷ 0 ∷ 2 ∷ 2 ∷ [])) 4
    ≡ true
unfolding all_below
one = refl

two : all_below (row_test 2 (0 ∷ 0 ∷ 0 ∷ 0 ∷ 2 ∷ 2 ∷ 2 ∷ 2 ∷ 0 ∷ 0 ∷ 0 ∷ 0 ∷ 2 ∷ 2 ∷ 2 ∷ 2 ∷ [])) 8
    ≡ true
unfolding all_below
two = refl

three : all_below (row_test 3 (0 ∷ 0 ∷ 1 ∷ 0 ∷ 0 ∷ 1 ∷ 2 ∷ 2 ∷ 3 ∷ 2 ∷ 2 ∷ 3 ∷ 0 ∷ 0 ∷ 1 ∷ 0 ∷ []))
    12 ≡ true
unfolding all_below
three = refl

four : all_below (row_test 4 (0 ∷ 0 ∷ 1 ∷ 1 ∷ 0 ∷ 0 ∷ 1 ∷ 1 ∷ 2 ∷ 2 ∷ 3 ∷ 3 ∷ 2 ∷ 2 ∷ 3 ∷ 3 ∷ []))
    16 ≡ true
unfolding all_below
four = refl

pub quarters_are : (width : ℕ) (d : List ℕ) → width ≤ 4
    → AreQuarters width (get_or {A = List ℕ} ((0 ∷ 0 ∷ 0 ∷ 0 ∷ 0 ∷ 0 ∷ 0 ∷ 0 ∷ 0 ∷ 0 ∷ 0 ∷ 0 ∷ 0 ∷ 0
    ∷ 0 ∷ 0 ∷ []) ∷ (0 ∷ 0 ∷ 2 ∷ 2 ∷ 0 ∷ 0 ∷ 2 ∷ 2 ∷ 0 ∷ 0 ∷ 2 ∷ 2 ∷ 0 ∷ 0 ∷ 2 ∷ 2 ∷ [])
    ∷ (0 ∷ 0 ∷ 0 ∷ 0 ∷ 2 ∷ 2 ∷ 2 ∷ 2 ∷ 0 ∷ 0 ∷ 0 ∷ 0 ∷ 2 ∷ 2 ∷ 2 ∷ 2 ∷ [])
    ∷ (0 ∷ 0 ∷ 1 ∷ 0 ∷ 0 ∷ 1 ∷ 2 ∷ 2 ∷ 3 ∷ 2 ∷ 2 ∷ 3 ∷ 0 ∷ 0 ∷ 1 ∷ 0 ∷ [])
    ∷ (0 ∷ 0 ∷ 1 ∷ 1 ∷ 0 ∷ 0 ∷ 1 ∷ 1 ∷ 2 ∷ 2 ∷ 3 ∷ 3 ∷ 2 ∷ 2 ∷ 3 ∷ 3 ∷ []) ∷ []) width d)
quarters_are zero d w = record {
  node = λ place l. absurd (omega arith);
  below =
      λ place l. absurd (omega arith);
}
quarters_are (suc zero) d w = row_of 1 (0 ∷ 0 ∷ 2 ∷ 2 ∷ 0 ∷ 0 ∷ 2 ∷ 2 ∷ 0 ∷ 0 ∷ 2 ∷ 2 ∷ 0 ∷ 0 ∷ 2
    ∷ 2 ∷ []) one
quarters_are (suc (suc zero)) d w = row_of 2 (0 ∷ 0 ∷ 0 ∷ 0 ∷ 2 ∷ 2 ∷ 2 ∷ 2 ∷ 0 ∷ 0 ∷ 0 ∷ 0 ∷ 2 ∷ 2
    ∷ 2 ∷ 2 ∷ []) two
quarters_are (suc (suc (suc zero))) d w =
    row_of 3 (0 ∷ 0 ∷ 1 ∷ 0 ∷ 0 ∷ 1 ∷ 2 ∷ 2 ∷ 3 ∷ 2 ∷ 2 ∷ 3 ∷ 0 ∷ 0 ∷ 1 ∷ 0 ∷ []) three
quarters_are (suc (suc (suc (suc zero)))) d w =
    row_of 4 (0 ∷ 0 ∷ 1 ∷ 1 ∷ 0 ∷ 0 ∷ 1 ∷ 1 ∷ 2 ∷ 2 ∷ 3 ∷ 3 ∷ 2 ∷ 2 ∷ 3 ∷ 3 ∷ []) four
quarters_are (suc (suc (suc (suc (suc width))))) d w = absurd (omega arith)

-- a place lies in four rows at most
pub place_below : (width height place : ℕ) → height ≤ 4 → place < width * height → place < 4 * width
place_below width height place h l = let m : width * height ≤ width * 4 = mul-le-mul_left width h in
    omega arith
