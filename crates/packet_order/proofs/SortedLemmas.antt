-- Insertion keeps the elements, and the order of packets is transitive.
use Rattle.std.proofs.Common.{◌≡◌, ℕ, suc, Bool, true, false, cond, List, [], ◌∷◌, ◌++◌, arith, sym}
use Rattle.std.proofs.Common.{ap, refl, subst, append_assoc}
use Rattle.std.specs.List.{insert}
use Rattle.std.specs.List.Sorted.{IsPermutation}
use Rattle.std.proofs.lemmas.List.{append-nil}
use Rattle.std.proofs.lemmas.List.Sorted.{IsPermutation-insert, IsPermutation-append_left}
use Rattle.std.proofs.lemmas.List.Sorted.{IsPermutation-to_front, IsPermutation-trans}
use Rattle.std.proofs.lemmas.List.Sorted.{IsPermutation-refl}
use Rattle.std.proofs.lemmas.Bool.Decides.{nat_tests}
use Rattle.band_geometry.specs.declared.geometry.Geometry.{Geometry}
use Rattle.packet_order.specs.Order.{comes_before, packets_of_part, ordered_packets}
use Rattle.packet_order.specs.Sorting.{insert_by, insert_all}

-- an order, given as a test
abbrev pub IsTransitive : {A : Type 0} → (A → A → Bool) → Type 0
IsTransitive {A} before = (x y z : A) → before x y ≡ true → before y z ≡ true → before x z ≡ true

-- an element is inserted somewhere
insert_by_at : {A : Type 0} (before : A → A → Bool) (a : A) (xs : List A) →
    (i : ℕ) × (insert xs i a ≡ insert_by before a xs)
insert_by_at before a [] = (0, refl)
insert_by_at {A} before a (x ∷ xs) =
    let there = insert_by_at before a xs in
    let go : (t : Bool) → (i : ℕ) ×
    (insert (x ∷ xs) i a ≡ cond t (a ∷ (x ∷ xs)) (x ∷ insert_by before a xs)) =
    λ t. elim t as (λ v. (i : ℕ) ×
    (insert (x ∷ xs) i a ≡ cond v (a ∷ (x ∷ xs)) (x ∷ insert_by before a xs))) [
      | true ↦ (0, refl)
      | false ↦ (suc there.0, ap (λ t. x ∷ t) there.1)
    ] in
    go (before a x)

pub inserted_permuted : {A : Type 0} (before : A → A → Bool) (x : A) (xs : List A) →
    IsPermutation (x ∷ xs) (insert_by before x xs)
inserted_permuted before x xs =
    let there = insert_by_at before x xs in
    subst (λ t. IsPermutation (x ∷ xs) t) there.1 (IsPermutation-insert xs there.0 x)

permuted : {A : Type 0} (before : A → A → Bool) (sorted xs : List A) →
    IsPermutation (sorted ++ xs) (insert_all before sorted xs)
permuted before sorted [] =
    subst (λ t. IsPermutation t sorted) (sym (append-nil sorted)) (IsPermutation-refl sorted)
permuted before sorted (x ∷ xs) =
    let prefix : IsPermutation (sorted ++ x ∷ []) (insert_by before x sorted) =
    IsPermutation-trans _ _ _ (IsPermutation-to_front sorted x)
    (inserted_permuted before x sorted) in
    let more : IsPermutation ((sorted ++ x ∷ []) ++ xs) (insert_by before x sorted ++ xs) =
    IsPermutation-append_left xs _ _ prefix in
    let same : (sorted ++ x ∷ []) ++ xs ≡ sorted ++ (x ∷ xs) = append_assoc sorted (x ∷ []) xs in
    IsPermutation-trans _ _ _ (subst
    (λ t. IsPermutation t (insert_by before x sorted ++ xs)) same more)
    (permuted before (insert_by before x sorted) xs)

-- rows first, then columns, then resolutions
pub packets_transitive : (g : Geometry) → IsTransitive (comes_before g)
packets_transitive g x y z is then_is = grind (arith, nat_tests)

pub packets_permuted : (g : Geometry) (part : ℕ) →
    IsPermutation (packets_of_part g part) (ordered_packets g part)
unfolding ordered_packets
packets_permuted g part = permuted (comes_before g) [] (packets_of_part g part)
