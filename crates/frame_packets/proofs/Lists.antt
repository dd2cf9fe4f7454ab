-- Lists of which one element changes.
use Rattle.std.proofs.Common.{◌≡◌, ℕ, zero, suc, ◌+◌, ◌*◌, ◌<◌, ◌≤◌, List, [], ◌∷◌, ◌++◌, length}
use Rattle.std.proofs.Common.{map, get_or, set, refl, sym, ap, ◌∙◌, arith, length-append}
use Rattle.std.proofs.Common.{take, drop}
use Rattle.std.proofs.Math.Seq.{take-length}
use Rattle.std.proofs.lemmas.List.{take-append-le}
use Rattle.std.specs.List.{flat_map, refill, All, AllPairs}
use Rattle.std.proofs.lemmas.Bool.{cases_lt}
use Rattle.std.proofs.Common.{inl, inr}

-- h is f on each element
abbrev pub Agree : {A B : Type 0} → (A → B) → (A → B) → List A → Type 0
Agree f h xs = All (λ x. h x ≡ f x) xs

-- h is f on each element but the one at place n
abbrev pub AgreeBeside : {A B : Type 0} → (A → B) → (A → B) → List A → ℕ → Type 0
AgreeBeside {A} f h xs n =
    (k : ℕ) (d : A) → k < length xs → (k ≡ n → ⊥) → h (get_or xs k d) ≡ f (get_or xs k d)

later : {A : Type 0} (P : A → Type 0) (x : A) (xs : List A) → All P (x ∷ xs) → All P xs
later P x xs all k d below = all (suc k) d (omega (arith, below))

later_beside : {A B : Type 0} (f h : A → B) (x : A) (xs : List A) (n : ℕ) →
    AgreeBeside f h (x ∷ xs) (suc n) → AgreeBeside f h xs n
later_beside f h x xs n agree k d below other =
    agree (suc k) d (omega (arith, below)) (λ same. other (omega (arith, same)))

all_beside : {A B : Type 0} (f h : A → B) (x : A) (xs : List A) →
    AgreeBeside f h (x ∷ xs) zero → Agree f h xs
all_beside f h x xs agree k d below =
    agree (suc k) d (omega (arith, below)) (λ same. absurd (omega (arith, same)))

pub map_agree : {A B : Type 0} (f h : A → B) (xs : List A) → Agree f h xs → map h xs ≡ map f xs
map_agree f h [] agree = refl
map_agree {A} {B} f h (x ∷ xs) agree =
    let here : h x ≡ f x = agree zero x (omega arith) in
    let rest : map h xs ≡ map f xs = map_agree f h xs (later (λ y. h y ≡ f y) x xs agree) in
    ap (λ y. y ∷ map h xs) here ∙ ap (λ (ys : List B). f x ∷ ys) rest

pub flat_agree : {A B : Type 0} (f h : A → List B) (xs : List A) → Agree f h xs →
    flat_map h xs ≡ flat_map f xs
flat_agree f h [] agree = refl
flat_agree {A} {B} f h (x ∷ xs) agree =
    let here : h x ≡ f x = agree zero x (omega arith) in
    let rest : flat_map h xs ≡ flat_map f xs =
    flat_agree f h xs (later (λ y. h y ≡ f y) x xs agree) in
    ap (λ y. y ++ flat_map h xs) here ∙ ap (λ (ys : List B). f x ++ ys) rest

pub map_changed : {A B : Type 0} (f h : A → B) (xs : List A) (n : ℕ) (d : A) → n < length xs →
    AgreeBeside f h xs n → map h xs ≡ set (map f xs) n (h (get_or xs n d))
map_changed f h [] n d below agree = absurd (omega (arith, below))
map_changed {A} {B} f h (x ∷ xs) zero d below agree =
    ap (λ (ys : List B). h x ∷ ys) (map_agree f h xs (all_beside f h x xs agree))
map_changed {A} {B} f h (x ∷ xs) (suc n) d below agree =
    let here : h x ≡ f x = agree zero x (omega arith) (λ same. absurd (omega (arith, same))) in
    let rest = map_changed f h xs n d (omega (arith, below)) (later_beside f h x xs n agree) in
    ap (λ y. y ∷ map h xs) here ∙ ap (λ (ys : List B). f x ∷ ys) rest

pub flat_changed : {A B : Type 0} (f h : A → List B) (xs : List A) (n : ℕ) (d : A) →
    n < length xs → AgreeBeside f h xs n →
    length (flat_map h xs) + length (f (get_or xs n d))
    ≡ length (flat_map f xs) + length (h (get_or xs n d))
flat_changed f h [] n d below agree = absurd (omega (arith, below))
flat_changed f h (x ∷ xs) zero d below agree =
    let rest = ap length (flat_agree f h xs (all_beside f h x xs agree)) in
    let new = length-append (h x) (flat_map h xs) in
    let old = length-append (f x) (flat_map f xs) in
    omega (arith, rest, new, old)
flat_changed f h (x ∷ xs) (suc n) d below agree =
    let here : h x ≡ f x = agree zero x (omega arith) (λ same. absurd (omega (arith, same))) in
    let same = ap length here in
    let rest = flat_changed f h xs n d (omega (arith, below)) (later_beside f h x xs n agree) in
    let new = length-append (h x) (flat_map h xs) in
    let old = length-append (f x) (flat_map f xs) in
    omega (arith, same, rest, new, old)

-- a piece is no longer than the whole
pub piece_within : {A B : Type 0} (f : A → List B) (xs : List A) (n : ℕ) (d : A) →
    n < length xs → length (f (get_or xs n d)) ≤ length (flat_map f xs)
piece_within f [] n d below = absurd (omega (arith, below))
piece_within f (x ∷ xs) zero d below =
    let whole = length-append (f x) (flat_map f xs) in omega (arith, whole)
piece_within f (x ∷ xs) (suc n) d below =
    let whole = length-append (f x) (flat_map f xs) in
    let rest = piece_within f xs n d (omega (arith, below)) in
    omega (arith, whole, rest)

-- pieces of at most m elements
pub pieces_few : {A B : Type 0} (f : A → List B) (m : ℕ) (xs : List A) →
    All (λ x. length (f x) ≤ m) xs → length (flat_map f xs) ≤ length xs * m
pieces_few f m [] each = omega arith
pieces_few f m (x ∷ xs) each =
    let here : length (f x) ≤ m = each zero x (omega arith) in
    let rest = pieces_few f m xs (later (λ y. length (f y) ≤ m) x xs each) in
    let whole = length-append (f x) (flat_map f xs) in
    one_more (length (flat_map f (x ∷ xs))) (length (f x)) (length (flat_map f xs)) (length xs) m
    whole here rest
  where
    one_more : (w a b n m : ℕ) → w ≡ a + b → a ≤ m → b ≤ n * m → w ≤ suc n * m
    one_more w a b n m e h k = grind arith

-- in a list without equal elements, the one at place n stands at no other
pub stands_once : {A : Type 0} (xs : List A) (x : A) (n : ℕ) →
    AllPairs (λ a b. a ≡ b → ⊥) xs → n < length xs → ((d : A) → get_or xs n d ≡ x) →
    (k : ℕ) (d : A) → k < length xs → (k ≡ n → ⊥) → get_or xs k d ≡ x → ⊥
stands_once xs x n apart inside at k d below other same =
    elim (cases_lt k n) [
      | inl less ↦ apart k n d less inside (same ∙ sym (at d))
      | inr more ↦ apart n k d (omega (arith, more, other)) below (at d ∙ sym same)
    ]

-- a list that is as long takes the whole place
pub refill_is : {A : Type 0} (xs ws : List A) → length ws ≡ length xs →
    refill (length xs) xs ws ≡ ws
refill_is xs ws same =
    ap (λ n. take n (ws ++ drop (length ws) xs)) (sym same)
    ∙ take-append-le (length ws) ws (drop (length ws) xs) (omega arith) ∙ take-length ws
