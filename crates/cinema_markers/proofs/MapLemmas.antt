-- A list that is filled with the values of a function, one after the other.
use Rattle.std.proofs.Common.{◌≡◌, ℕ, ◌+◌, List, [], ◌∷◌, ◌++◌, map, arith, ap, sym, ◌∙◌}
use Rattle.std.specs.List.{range_with_len}
use Rattle.std.proofs.lemmas.List.FromFn.{map-range_with_len_more}

pub mapped_more : {A : Type 0} (f : ℕ → A) (n : ℕ) (x : A) (xs ys : List A) →
    xs ≡ map f (range_with_len 0 n) → ys ≡ xs ++ x ∷ [] → x ≡ f n →
    ys ≡ map f (range_with_len 0 (n + 1))
mapped_more f n x xs ys is pushed last =
    pushed ∙ ap (λ l. l ++ x ∷ []) is ∙ ap (λ a. map f (range_with_len 0 n) ++ a ∷ []) last
    ∙ sym (map-range_with_len_more f 0 n n (omega arith))
