-- Names that follow each other.
use Rattle.std.proofs.Common.{ℕ, Bool, true, false, ◌≡◌, ◌<◌, ◌+◌, ◌-◌, ◌^◌, ◌↔◌, List, [], ◌∷◌}
use Rattle.std.proofs.Common.{length, map, slice_index_or, IsTrue, subst, sym, arith, suc, zero}
use Rattle.std.proofs.Common.{refl}
use Rattle.std.specs.declared.cmp.Ordering.{Ordering}
use Rattle.std.specs.declared.cmp.Ordering.TheVariants.{Less, Equal, Greater}
use Rattle.std.specs.Cmp.Lexicographic.{slice_cmp}
use Rattle.std.specs.List.{AllAdjacentBelow, IsAllAdjacentAnswer}
use Rattle.std.specs.Ordering.{nat_cmp, is_lt}
use Rattle.std.proofs.lemmas.Cmp.{nat_list_cmp_total}
use Rattle.std.proofs.lemmas.List.{get_or-map, length-map}
use Rattle.cine_ports.specs.Names.{IsNameList}

-- a name comes before another
abbrev Before : List ℕ → List ℕ → Type 0
Before a b = slice_cmp nat_cmp a b ≡ Less

less : (o : Ordering) → true ≡ is_lt o → o ≡ Less
less Less lt = refl
less Equal lt = cc
less Greater lt = cc

-- the things whose names these are follow each other: so does the one at i, with n and one more
-- behind it
far : {X : Type 0} (name : X → List ℕ) (xs : List X)
    (all : AllAdjacentBelow (λ x y. Before (name x) (name y)) xs (length xs)) (n i : ℕ) (d : X) →
    i + n + 1 < length xs → Before (name (slice_index_or xs i d))
    (name (slice_index_or xs (i + n + 1) d))
far name xs all zero i d within =
    let same : i + 0 + 1 ≡ i + 1 = omega arith in
    let next : i + 1 < length xs = omega arith in
    subst (λ j. Before (name (slice_index_or xs i d)) (name (slice_index_or xs j d))) (sym same)
    (all i d next)
far name xs all (suc n) i d within =
    let same : i + suc n + 1 ≡ i + n + 1 + 1 = omega arith in
    let next : i + n + 1 + 1 < length xs = omega arith in
    let near : i + n + 1 < length xs = omega arith in
    subst (λ j. Before (name (slice_index_or xs i d)) (name (slice_index_or xs j d))) (sym same)
    (nat_list_cmp_total.trans (name (slice_index_or xs i d))
    (name (slice_index_or xs (i + n + 1) d))
    (name (slice_index_or xs (i + n + 1 + 1) d)) (far name xs all n i d near)
    (all (i + n + 1) d next))

sorted : {X : Type 0} (name : X → List ℕ) (xs : List X) →
    AllAdjacentBelow (λ x y. Before (name x) (name y)) xs (length xs) →
    (i j : ℕ) (d : X) (e : List ℕ) → i < j → j < length xs →
    Before (slice_index_or (map name xs) i e) (slice_index_or (map name xs) j e)
sorted name xs all i j d e lt within =
    let between : j ≡ i + (j - i - 1) + 1 = omega arith in
    let there : i + (j - i - 1) + 1 < length xs = omega arith in
    let lower : i < length xs = omega arith in
    subst (λ a. Before a (slice_index_or (map name xs) j e)) (sym (get_or-map name xs i d e lower))
    (subst (λ b. Before (name (slice_index_or xs i d)) b) (sym (get_or-map name xs j d e within))
    (subst (λ j. Before (name (slice_index_or xs i d)) (name (slice_index_or xs j d))) (sym between)
    (far name xs all (j - i - 1) i d there)))

-- things whose names follow each other have a list of names
in_order : {X : Type 0} (name : X → List ℕ) (xs : List X) → length xs < 2 ^ 32 →
    AllAdjacentBelow (λ x y. Before (name x) (name y)) xs (length xs) → IsNameList (map name xs)
in_order name [] few all = record {
  few = omega arith;
  sorted =
      λ i j e lt within. let never : suc i ≡ zero = omega arith in cc;
}
in_order name (x ∷ xs) few all =
    let len = length-map (x ∷ xs) name in record {
      few = omega (arith, len);
      sorted = λ i j e lt within.
          let there : j < length (x ∷ xs) =
          omega (arith, len) in sorted name (x ∷ xs) all i j x e lt there;
    }

-- and of a list of names no name may be before the next one
broken : {X : Type 0} (name : X → List ℕ) (xs : List X) (k : ℕ) (d : X) → k + 1 < length xs →
    IsNameList (map name xs) → Before (name (slice_index_or xs k d))
    (name (slice_index_or xs (k + 1) d))
broken name xs k d within lawful =
    let len = length-map xs name in
    let up : k < k + 1 = omega arith in
    let lower : k < length xs = omega arith in
    let there : k + 1 < length (map name xs) = omega (arith, len) in
    subst (λ a. Before a (name (slice_index_or xs (k + 1) d))) (get_or-map name xs k d [] lower)
    (subst (λ b. Before (slice_index_or (map name xs) k []) b)
    (get_or-map name xs (k + 1) d [] within)
    (lawful.sorted k (k + 1) [] up there))

-- a test of each thing and the next one tells whether their names are a list of names
pub list_test : {X : Type 0} (name : X → List ℕ) (xs : List X) (answer : Bool) →
    length xs < 2 ^ 32 →
    IsAllAdjacentAnswer (λ x y b. b ≡ is_lt (slice_cmp nat_cmp (name x) (name y))) xs answer →
    IsTrue answer ↔ IsNameList (map name xs)
list_test name xs true few all = (
  λ yes. in_order name xs few (λ k d within. less
      (slice_cmp nat_cmp (name (slice_index_or xs k d)) (name (slice_index_or xs (k + 1) d)))
      (all k d within)),
  λ lawful. refl,
)
list_test name [] false few (k, within, not_before) = let never : suc k ≡ zero = omega arith in cc
list_test name (x ∷ xs) false few (k, within, not_before) = (
  λ never. cc,
  λ lawful.
      let before = broken name (x ∷ xs) k x within lawful in
      let after = not_before x in
      cc,
)
