-- Lists that are appended piece by piece.
use Rattle.std.proofs.Common.{◌≡◌, ℕ, ◌+◌, List, [], ◌∷◌, ◌++◌, map, refl, sym, ap, ◌∙◌}
use Rattle.std.proofs.Common.{append_assoc, add-one}
use Rattle.std.specs.List.{flat_map, range_with_len}
use Rattle.std.proofs.lemmas.Grind.{flat_map-append}
use Rattle.packet_order.proofs.MemberLemmas.{pieces_more}

-- one piece after others
pub step : (old before new xs ys : List ℕ) → before ≡ old ++ xs → new ≡ before ++ ys →
    new ≡ old ++ (xs ++ ys)
step old before new xs ys p q =
    q ∙ ap (λ (bytes : List ℕ). bytes ++ ys) p ∙ append_assoc old xs ys

-- the same where the pieces are those of a range
pub step_range : (f : ℕ → List ℕ) (n : ℕ) (old before new : List ℕ) →
    before ≡ old ++ flat_map f (range_with_len 0 n) → new ≡ before ++ f n →
    new ≡ old ++ flat_map f (range_with_len 0 (n + 1))
step_range f n old before new p q =
    step old before new (flat_map f (range_with_len 0 n)) (f n) p q
    ∙ ap (λ (bytes : List ℕ). old ++ bytes) (sym (pieces_more f n))
    ∙ ap (λ (k : ℕ). old ++ flat_map f (range_with_len 0 k)) (sym (add-one n))

pub pieces_map : {A B : Type 0} (f : B → List ℕ) (h : A → B) (xs : List A) →
    flat_map (λ x. f (h x)) xs ≡ flat_map f (map h xs)
pieces_map f h [] = refl
pieces_map f h (x ∷ xs) = ap (λ (bytes : List ℕ). f (h x) ++ bytes) (pieces_map f h xs)

pub pieces_pieces : {A B : Type 0} (f : B → List ℕ) (h : A → List B) (xs : List A) →
    flat_map (λ x. flat_map f (h x)) xs ≡ flat_map f (flat_map h xs)
pieces_pieces f h [] = refl
pieces_pieces f h (x ∷ xs) =
    ap (λ (bytes : List ℕ). flat_map f (h x) ++ bytes) (pieces_pieces f h xs)
    ∙ sym (flat_map-append f (h x) (flat_map h xs))
