-- Elements of lists that are joined of pieces.
use Rattle.std.proofs.Common.{◌≡◌, ℕ, zero, suc, ◌+◌, ◌<◌, List, [], ◌∷◌, ◌++◌, length, Some, arith}
use Rattle.std.proofs.Common.{◌∙◌, ap, slice_get, get_or, zero-add}
use Rattle.std.specs.List.{flat_map, range_with_len}
use Rattle.std.proofs.lemmas.List.FromFn.{length-range_with_len, get_or-range_with_len}
use Rattle.std.proofs.lemmas.Option.{slice_get-get_or}

-- a is an element of xs
abbrev pub Lists : {A : Type 0} → List A → A → Type 0
Lists xs a = (k : ℕ) × (slice_get xs k ≡ Some a)

slice_get-append_left : {A : Type 0} (xs ys : List A) (k : ℕ) (a : A) →
    slice_get xs k ≡ Some a → slice_get (xs ++ ys) k ≡ Some a
slice_get-append_left [] ys k a here = cc
slice_get-append_left (x ∷ xs) ys zero a here = here
slice_get-append_left (x ∷ xs) ys (suc k) a here = slice_get-append_left xs ys k a here

slice_get-append_right : {A : Type 0} (xs ys : List A) (k : ℕ) →
    slice_get (xs ++ ys) (length xs + k) ≡ slice_get ys k
slice_get-append_right [] ys k = ap (slice_get ys) (zero-add k)
slice_get-append_right (x ∷ xs) ys k =
    let e : suc (length xs) + k ≡ suc (length xs + k) = omega arith in
    ap (slice_get (x ∷ (xs ++ ys))) e ∙ slice_get-append_right xs ys k

-- an element of a piece is an element of the whole
pub lists-flat_map : {A B : Type 0} (f : A → List B) (xs : List A) (k : ℕ) (x : A) (b : B) →
    slice_get xs k ≡ Some x → Lists (f x) b → Lists (flat_map f xs) b
lists-flat_map f [] k x b here there = cc
lists-flat_map f (y ∷ ys) zero x b here (j, there) =
    let same : y ≡ x = cc in
    let moved : slice_get (f y) j ≡ Some b = ap (λ z. slice_get (f z) j) same ∙ there in
    (j, slice_get-append_left (f y) (flat_map f ys) j b moved)
lists-flat_map f (y ∷ ys) (suc k) x b here there =
    let rest = lists-flat_map f ys k x b here there in
    (length (f y) + rest.0, slice_get-append_right (f y) (flat_map f ys) rest.0 ∙ rest.1)

pub slice_get-range : (n i : ℕ) → i < n → slice_get (range_with_len 0 n) i ≡ Some i
slice_get-range n i below =
    let get = slice_get-get_or (range_with_len 0 n) i 0
    (omega (arith, length-range_with_len 0 n)) in
    let is : get_or (range_with_len 0 n) i 0 ≡ i = get_or-range_with_len 0 n i 0 below
    ∙ zero-add i in
    get ∙ ap (λ j. Some j) is
