-- A function of three lists, place by place: its length, its places, and what holds of each.
use Rattle.std.proofs.Common.{◌≡◌, ℕ, zero, suc, ◌<◌, List, [], ◌∷◌, length, get_or, refl, ap}
use Rattle.std.proofs.Common.{arith, sym, ◌∙◌}
use Rattle.std.specs.List.{All}
use Rattle.std.proofs.lemmas.List.{ext_get_or}
use Rattle.std.proofs.lemmas.List.Elements.{All-nil, All-cons, All-head, All-tail}
use Rattle.colour_ict.specs.Pointwise.{pointwise}

pub length-pointwise : {A B : Type 0} (f : A → A → A → B) (xs ys zs : List A) →
    length ys ≡ length xs → length zs ≡ length xs → length (pointwise f xs ys zs) ≡ length xs
length-pointwise f [] ys zs e1 e2 = refl
length-pointwise f (x ∷ xs) [] zs e1 e2 = absurd (omega (arith, e1))
length-pointwise f (x ∷ xs) (y ∷ ys) [] e1 e2 = absurd (omega (arith, e2))
length-pointwise f (x ∷ xs) (y ∷ ys) (z ∷ zs) e1 e2 =
    ap (λ n. suc n) (length-pointwise f xs ys zs (omega (arith, e1)) (omega (arith, e2)))

pub get_or-pointwise : {A B : Type 0} (f : A → A → A → B) (xs ys zs : List A) (k : ℕ) (d : A)
    (e : B) →
    length ys ≡ length xs → length zs ≡ length xs → k < length xs →
    get_or (pointwise f xs ys zs) k e ≡ f (get_or xs k d) (get_or ys k d) (get_or zs k d)
get_or-pointwise f [] ys zs k d e e1 e2 lt = absurd (omega (arith, lt))
get_or-pointwise f (x ∷ xs) [] zs k d e e1 e2 lt = absurd (omega (arith, e1))
get_or-pointwise f (x ∷ xs) (y ∷ ys) [] k d e e1 e2 lt = absurd (omega (arith, e2))
get_or-pointwise f (x ∷ xs) (y ∷ ys) (z ∷ zs) zero d e e1 e2 lt = refl
get_or-pointwise f (x ∷ xs) (y ∷ ys) (z ∷ zs) (suc k) d e e1 e2 lt =
    get_or-pointwise f xs ys zs k d e (omega (arith, e1)) (omega (arith, e2)) (omega (arith, lt))

-- a list that has the function's value at each place is the pointwise list
pub pointwise-from_places : {A B : Type 0} (f : A → A → A → B) (xs ys zs : List A) (out : List B)
    (d : A) (e : B) →
    length ys ≡ length xs → length zs ≡ length xs → length out ≡ length xs →
    ((k : ℕ) → k < length xs → get_or out k e ≡ f (get_or xs k d) (get_or ys k d) (get_or zs k d)) →
    out ≡ pointwise f xs ys zs
pointwise-from_places f xs ys zs out d e e1 e2 e3 at =
    ext_get_or e out (pointwise f xs ys zs) (e3 ∙ sym (length-pointwise f xs ys zs e1 e2))
    (λ k lt. at k (omega (arith, lt, e3))
    ∙ sym (get_or-pointwise f xs ys zs k d e e1 e2 (omega (arith, lt, e3))))

-- what the function does to arguments with P holds of the whole list
pub All-pointwise : {A B : Type 0} (P : A → Type 0) (Q : B → Type 0) (f : A → A → A → B) →
    ((x y z : A) → P x → P y → P z → Q (f x y z)) →
    (xs ys zs : List A) → All P xs → All P ys → All P zs → All Q (pointwise f xs ys zs)
All-pointwise P Q f each [] ys zs px py pz = All-nil Q
All-pointwise P Q f each (x ∷ xs) [] zs px py pz = All-nil Q
All-pointwise P Q f each (x ∷ xs) (y ∷ ys) [] px py pz = All-nil Q
All-pointwise P Q f each (x ∷ xs) (y ∷ ys) (z ∷ zs) px py pz =
    All-cons Q (f x y z) (pointwise f xs ys zs)
    (each x y z (All-head P x xs px) (All-head P y ys py) (All-head P z zs pz))
    (All-pointwise P Q f each xs ys zs (All-tail P x xs px) (All-tail P y ys py)
    (All-tail P z zs pz))
