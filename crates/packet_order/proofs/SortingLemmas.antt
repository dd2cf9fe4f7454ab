-- Lists that grow in their order.
use Rattle.std.proofs.Common.{◌≡◌, ℕ, ◌+◌, Bool, List, [], ◌∷◌, ◌++◌, map, take, drop, ◌∙◌, sym, ap}
use Rattle.std.proofs.Common.{refl, zero-add}
use Rattle.std.specs.List.{flat_map, range_with_len, insert}
use Rattle.std.proofs.lemmas.List.{flat_map_more, map-id}
use Rattle.std.proofs.lemmas.List.FromFn.{map-range_with_len_more}
use Rattle.packet_order.specs.Sorting.{insert_by, insert_all}

-- the first i elements come before a, so that a has its place after them
pub record IsPassed {A : Type 0} (before : A → A → Bool) (a : A) (xs : List A)
    (i : ℕ) : Type 0 where
  pub is : insert_by before a xs ≡ take i xs ++ insert_by before a (drop i xs)

pub insert_all-append : {A : Type 0} (before : A → A → Bool) (sorted xs ys : List A) →
    insert_all before sorted (xs ++ ys) ≡ insert_all before (insert_all before sorted xs) ys
insert_all-append before sorted [] ys = refl
insert_all-append before sorted (x ∷ xs) ys =
    insert_all-append before (insert_by before x sorted) xs ys

-- one element more, of a list that is made by a function of the index
pub one_more : {A : Type 0} (before : A → A → Bool) (sorted : List A) (f : ℕ → A) (n : ℕ) →
    insert_all before sorted (map f (range_with_len 0 (n + 1))) ≡
    insert_by before (f n) (insert_all before sorted (map f (range_with_len 0 n)))
one_more before sorted f n =
    ap (insert_all before sorted) (map-range_with_len_more f 0 n n (zero-add n)) ∙
    insert_all-append before sorted (map f (range_with_len 0 n)) (f n ∷ [])

pub range_more : (n : ℕ) → range_with_len 0 (n + 1) ≡ range_with_len 0 n ++ n ∷ []
range_more n =
    sym (map-id (range_with_len 0 (n + 1))) ∙ map-range_with_len_more (λ x. x) 0 n n (zero-add n) ∙
    ap (λ t. t ++ n ∷ []) (map-id (range_with_len 0 n))

-- one piece more, of a list that is joined of pieces
pub piece_more : {A : Type 0} (before : A → A → Bool) (sorted : List A) (f : ℕ → List A) (n : ℕ) →
    insert_all before sorted (flat_map f (range_with_len 0 (n + 1))) ≡
    insert_all before (insert_all before sorted (flat_map f (range_with_len 0 n))) (f n)
piece_more before sorted f n =
    ap (λ r. insert_all before sorted (flat_map f r)) (range_more n) ∙
    ap (insert_all before sorted) (sym (flat_map_more f [] (range_with_len 0 n) n)) ∙
    insert_all-append before sorted (flat_map f (range_with_len 0 n)) (f n)

-- a loop's step that inserts one element
pub row_step : {A : Type 0} (before : A → A → Bool) (sorted : List A) (f : ℕ → A) (n : ℕ)
    (items slice new : List A) (at : ℕ) →
    items ≡ insert_all before sorted (map f (range_with_len 0 n)) → slice ≡ items →
    insert slice at (f n) ≡ insert_by before (f n) slice → new ≡ insert items at (f n) →
    new ≡ insert_all before sorted (map f (range_with_len 0 (n + 1)))
row_step before sorted f n items slice new at so_far same placed added =
    added ∙ ap (λ t. insert t at (f n)) (sym same) ∙ placed
    ∙ ap (insert_by before (f n)) (same ∙ so_far) ∙
    sym (one_more before sorted f n)

-- a loop's step that inserts a piece
pub piece_step : {A : Type 0} (before : A → A → Bool) (sorted : List A) (f : ℕ → List A) (n : ℕ)
    (items new : List A) →
    items ≡ insert_all before sorted (flat_map f (range_with_len 0 n)) →
    new ≡ insert_all before items (f n) →
    new ≡ insert_all before sorted (flat_map f (range_with_len 0 (n + 1)))
piece_step before sorted f n items new so_far added =
    added ∙ ap (λ t. insert_all before t (f n)) so_far ∙ sym (piece_more before sorted f n)
