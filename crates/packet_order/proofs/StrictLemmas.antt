-- The packets of a tile-part stand in a strict order: none of them stands there twice.
use Rattle.std.proofs.Common.{◌≡◌, ℕ, zero, suc, ◌+◌, ◌-◌, ◌*◌, ◌^◌, ◌<◌, ◌==◌, nat_lt, ◌⊎◌, inl}
use Rattle.std.proofs.Common.{inr, Bool, true, false, cond, List, [], ◌∷◌, ◌++◌, map, get_or, arith}
use Rattle.std.proofs.Common.{◌∙◌, sym, ap, refl, subst, zero-add}
use Rattle.std.specs.List.{flat_map, range_with_len, All, AllPairs}
use Rattle.std.proofs.Math.Nat.{eq_of_mul-eq-mul_right}
use Rattle.std.proofs.lemmas.Nat.{pow_pos}
use Rattle.std.proofs.lemmas.Bool.{cases_lt}
use Rattle.std.proofs.lemmas.Bool.Decides.{nat_tests}
use Rattle.std.proofs.lemmas.List.Elements.{All-nil, All-cons, All-append, All-head, All-tail}
use Rattle.std.proofs.lemmas.List.Kept.{AllPairs-cons}
use Rattle.std.proofs.lemmas.List.FromFn.{get_or-map-range_with_len, length-map-range_with_len}
use Rattle.std.proofs.lemmas.List.Sorted.{All-permutation}
use Rattle.cine_nums.specs.declared.profile.Profile.{Profile}
use Rattle.cine_nums.specs.declared.profile.Profile.TheVariants.{TwoK, FourK}
use Rattle.cine_nums.specs.Coding.{precinct_side}
use Rattle.band_geometry.specs.Sizes.{precinct_count}
use Rattle.band_geometry.specs.TileParts.{part_of_res}
use Rattle.band_geometry.specs.declared.geometry.Geometry.{Geometry}
use Rattle.packet_order.specs.Order.{place_of, comes_before, IsPacketOf, packet_at, packets_of_row}
use Rattle.packet_order.specs.Order.{packets_of_res, packets_of_res_in, packets_of_component}
use Rattle.packet_order.specs.Order.{packets_of_part, ordered_packets}
use Rattle.packet_order.specs.Sorting.{insert_by, insert_all}
use Rattle.packet_order.specs.declared.packet.PacketId.{PacketId}
use Rattle.packet_order.proofs.MemberLemmas.{pieces_more, all_pieces, all_mapped, some_side}
use Rattle.packet_order.proofs.MemberLemmas.{packet_within}
use Rattle.packet_order.proofs.SortedLemmas.{IsTransitive, packets_transitive, inserted_permuted}

-- one of the two comes before the other
abbrev Differs : {A : Type 0} → (A → A → Bool) → A → A → Type 0
Differs before x y = (before x y ≡ true) ⊎ (before y x ≡ true)

abbrev Before : {A : Type 0} → (A → A → Bool) → A → A → Type 0
Before before x y = before x y ≡ true

first_of_pairs : {A : Type 0} (R : A → A → Type 0) (x : A) (xs : List A) → AllPairs R (x ∷ xs) →
    All (R x) xs
first_of_pairs R x xs pairs k d below = pairs 0 (suc k) d (omega arith) (omega (arith, below))

other_pairs : {A : Type 0} (R : A → A → Type 0) (x : A) (xs : List A) → AllPairs R (x ∷ xs) →
    AllPairs R xs
other_pairs R x xs pairs i j d less below =
    pairs (suc i) (suc j) d (omega (arith, less)) (omega (arith, below))

pub no_pairs : {A : Type 0} (R : A → A → Type 0) → AllPairs R []
no_pairs R i j d less below = absurd (omega (arith, below))

-- Insertion.

strict_insert : {A : Type 0} (before : A → A → Bool) → IsTransitive before → (a : A) (xs : List A) →
    AllPairs (Before before) xs →
    All (λ x. Differs before x a) xs → AllPairs (Before before) (insert_by before a xs)
strict_insert before order a [] pairs differ =
    AllPairs-cons (Before before) a [] (All-nil (Before before a)) (no_pairs (Before before))
strict_insert {A} before order a (x ∷ xs) pairs differ =
    let rest = first_of_pairs (Before before) x xs pairs in
    let go : (t : Bool) → before a x ≡ t →
    AllPairs (Before before) (cond t (a ∷ (x ∷ xs)) (x ∷ insert_by before a xs)) =
    λ t. elim t as (λ v. before a x ≡ v →
    AllPairs (Before before) (cond v (a ∷ (x ∷ xs)) (x ∷ insert_by before a xs))) [
      | true ↦ λ is. AllPairs-cons (Before before) a (x ∷ xs)
          (All-cons (Before before a) x xs is
          (λ k d below. order a x (get_or xs k d) is (rest k d below))) pairs
      | false ↦ λ is.
          let less : before x a ≡ true = elim (All-head (λ y. Differs before y a) x xs differ) [
            | inl there ↦ there
            | inr back ↦ let other : before a x ≡ true = back in cc
          ] in
          AllPairs-cons (Before before) x (insert_by before a xs)
          (All-permutation (Before before x) (a ∷ xs) (insert_by before a xs)
          (inserted_permuted before a xs)
          (All-cons (Before before x) a xs less rest))
          (strict_insert before order a xs (other_pairs (Before before) x xs pairs)
          (All-tail (λ y. Differs before y a) x xs differ))
    ] in
    go (before a x) refl

strict_all : {A : Type 0} (before : A → A → Bool) → IsTransitive before → (sorted xs : List A) →
    AllPairs (Before before) sorted →
    AllPairs (Differs before) xs → All (λ s. All (Differs before s) xs) sorted →
    AllPairs (Before before) (insert_all before sorted xs)
strict_all before order sorted [] pairs differ across = pairs
strict_all {A} before order sorted (x ∷ xs) pairs differ across =
    strict_all before order (insert_by before x sorted) xs
    (strict_insert before order x sorted pairs
    (λ k d below. All-head (Differs before (get_or sorted k d)) x xs (across k d below)))
    (other_pairs (Differs before) x xs differ)
    (All-permutation (λ s. All (Differs before s) xs) (x ∷ sorted) (insert_by before x sorted)
    (inserted_permuted before x sorted)
    (All-cons (λ s. All (Differs before s) xs) x sorted
    (first_of_pairs (Differs before) x xs differ)
    (λ k d below. All-tail (Differs before (get_or sorted k d)) x xs (across k d below))))

-- Lists that are joined of pieces.

pub pairs_append : {A : Type 0} (R : A → A → Type 0) (xs ys : List A) → AllPairs R xs →
    AllPairs R ys →
    All (λ x. All (R x) ys) xs → AllPairs R (xs ++ ys)
pairs_append R [] ys left right across = right
pairs_append R (x ∷ xs) ys left right across =
    AllPairs-cons R x (xs ++ ys)
    (All-append (R x) xs ys (first_of_pairs R x xs left) (All-head (λ z. All (R z) ys) x xs across))
    (pairs_append R xs ys (other_pairs R x xs left) right
    (All-tail (λ z. All (R z) ys) x xs across))

pub pairs_pieces : {A : Type 0} (R : A → A → Type 0) (P : ℕ → A → Type 0) (f : ℕ → List A) (n : ℕ) →
    ((i : ℕ) → i < n → AllPairs R (f i)) → ((i : ℕ) → i < n → All (P i) (f i)) →
    ((i j : ℕ) (a b : A) → i < j → P i a → P j b → R a b) →
    AllPairs R (flat_map f (range_with_len 0 n))
pairs_pieces R P f zero inner each across = no_pairs R
pairs_pieces {A} R P f (suc n) inner each across =
    subst (λ (l : List A). AllPairs R l) (sym (pieces_more f n))
    (pairs_append R (flat_map f (range_with_len 0 n)) (f n)
    (pairs_pieces R P f n (λ i below. inner i (omega (arith, below)))
    (λ i below. each i (omega (arith, below))) across)
    (inner n (omega arith))
    (all_pieces (λ a. All (R a) (f n)) f n (λ i below k d inside m e within.
    across i n (get_or (f i) k d) (get_or (f n) m e) below
    (each i (omega (arith, below)) k d inside) (each n (omega arith) m e within))))

pub pairs_mapped : {A : Type 0} (R : A → A → Type 0) (f : ℕ → A) (n : ℕ) →
    ((i j : ℕ) → i < j → j < n → R (f i) (f j)) → AllPairs R (map f (range_with_len 0 n))
pairs_mapped R f n each i j d less below =
    let inside : j < n = omega (arith, below, length-map-range_with_len f 0 n) in
    let left = get_or-map-range_with_len f 0 n i i d (omega (arith, less, inside)) (zero-add i) in
    let right = get_or-map-range_with_len f 0 n j j d inside (zero-add j) in
    subst (λ x. R x (get_or (map f (range_with_len 0 n)) j d)) (sym left)
    (subst (λ y. R (f i) y) (sym right) (each i j less inside))

-- Two packets of a tile-part.

same_component : (t u : Bool) (c d part : ℕ) → c < 3 → d < 3 → cond t c (3 + c) ≡ part →
    cond u d (3 + d) ≡ part → c ≡ d
same_component true true c d part here there is also = omega arith
same_component true false c d part here there is also = omega arith
same_component false true c d part here there is also = omega arith
same_component false false c d part here there is also = omega arith

part_once : (profile : Profile) (levels c d r s part : ℕ) → c < 3 → d < 3 →
    part_of_res profile levels c r ≡ part →
    part_of_res profile levels d s ≡ part → c ≡ d
part_once TwoK levels c d r s part here there is also = is ∙ sym also
part_once FourK levels c d r s part here there is also =
    same_component (nat_lt r levels) (nat_lt s levels) c d part here there is also

same_place : (levels r p q : ℕ) → place_of levels r p ≡ place_of levels r q → p ≡ q
same_place levels r p q same =
    eq_of_mul-eq-mul_right (precinct_side r) (some_side r) p q
    (eq_of_mul-eq-mul_right (2 ^ (levels - r)) (pow_pos (levels - r)) (p * precinct_side r)
    (q * precinct_side r) same)

-- they differ in the order unless they are one
differ : (g : Geometry) (a b : PacketId) →
    (a.res ≡ b.res → a.py ≡ b.py → a.px ≡ b.px → ⊥) → Differs (comes_before g) a b
differ g a b other =
    let ax = place_of g.levels a.res a.px in
    let ay = place_of g.levels a.res a.py in
    let bx = place_of g.levels b.res b.px in
    let below = place_of g.levels b.res b.py in
    elim (cases_lt ay below) [
      | inl less ↦ inl (grind (arith, nat_tests))
      | inr least ↦ elim (cases_lt below ay) [
        | inl less ↦ inr (grind (arith, nat_tests))
        | inr most ↦
            let row : ay ≡ below = omega arith in
            elim (cases_lt ax bx) [
              | inl less ↦ inl (grind (arith, nat_tests))
              | inr left ↦ elim (cases_lt bx ax) [
                | inl less ↦ inr (grind (arith, nat_tests))
                | inr right ↦
                    let column : ax ≡ bx = omega arith in
                    elim (cases_lt a.res b.res) [
                      | inl less ↦ inl (grind (arith, nat_tests))
                      | inr low ↦ elim (cases_lt b.res a.res) [
                        | inl less ↦ inr (grind (arith, nat_tests))
                        | inr high ↦
                            let res : a.res ≡ b.res = omega arith in
                            let py : a.py ≡ b.py = same_place g.levels a.res a.py b.py
                            (row ∙ ap (λ r. place_of g.levels r b.py) (sym res)) in
                            let px : a.px ≡ b.px = same_place g.levels a.res a.px b.px
                            (column ∙ ap (λ r. place_of g.levels r b.px) (sym res)) in
                            absurd (other res py px)
                      ]
                    ]
              ]
            ]
      ]
    ]

row_differs : (g : Geometry) (c r py : ℕ) →
    AllPairs (Differs (comes_before g)) (packets_of_row g c r py)
unfolding packets_of_row
row_differs g c r py =
    pairs_mapped (Differs (comes_before g)) (packet_at c r py) (precinct_count g.levels g.width r)
    (λ i j less inside. differ g (packet_at c r py i) (packet_at c r py j)
    (λ res row column. omega (arith, less, column)))

res_differs : (g : Geometry) (c r : ℕ) → AllPairs (Differs (comes_before g)) (packets_of_res g c r)
unfolding packets_of_res packets_of_row
res_differs g c r =
    pairs_pieces (Differs (comes_before g)) (λ py p. p.py ≡ py) (packets_of_row g c r)
    (precinct_count g.levels g.height r)
    (λ py below. row_differs g c r py)
    (λ py below. all_mapped (λ p. p.py ≡ py) (packet_at c r py) (precinct_count g.levels g.width r)
    (λ px inside. refl))
    (λ i j a b less here there. differ g a b
    (λ res row column. omega (arith, less, here, there, row)))

res_in_differs : (g : Geometry) (part c r : ℕ) →
    AllPairs (Differs (comes_before g)) (packets_of_res_in g part c r)
res_in_differs g part c r =
    let go : (t : Bool) → AllPairs (Differs (comes_before g)) (cond t (packets_of_res g c r) []) =
    λ t. elim t as (λ v. AllPairs (Differs (comes_before g)) (cond v (packets_of_res g c r) [])) [
      | true ↦ res_differs g c r
      | false ↦ no_pairs (Differs (comes_before g))
    ] in
    go (part_of_res g.profile g.levels c r == part)

component_differs : (g : Geometry) (part c : ℕ) → c < 3 →
    AllPairs (Differs (comes_before g)) (packets_of_component g part c)
unfolding packets_of_component
component_differs g part c component =
    pairs_pieces (Differs (comes_before g)) (λ r p. p.res ≡ r) (packets_of_res_in g part c)
    (g.levels + 1)
    (λ r below. res_in_differs g part c r)
    (λ r below k d inside. (packet_within g part c r component (omega (arith, below)) k d inside).2)
    (λ i j a b less here there. differ g a b
    (λ res row column. omega (arith, less, here, there, res)))

part_differs : (g : Geometry) (part : ℕ) →
    AllPairs (Differs (comes_before g)) (packets_of_part g part)
unfolding packets_of_part packets_of_component
part_differs g part =
    pairs_pieces (Differs (comes_before g)) (λ c p. IsPacketOf g part p × (p.component ≡ c))
    (packets_of_component g part) 3
    (λ c below. component_differs g part c below)
    (λ c below. all_pieces (λ p. IsPacketOf g part p × (p.component ≡ c))
    (packets_of_res_in g part c) (g.levels + 1)
    (λ r inside k d within.
    let all = packet_within g part c r below (omega (arith, inside)) k d within in (all.0, all.1)))
    (λ i j a b less here there.
    let same : a.component ≡ b.component =
    part_once g.profile g.levels a.component b.component a.res b.res part here.0.component there.0.component here.0.held there.0.held in
    absurd (omega (arith, less, here.1, there.1, same)))

pub packets_strict : (g : Geometry) (part : ℕ) →
    AllPairs (λ a b. comes_before g a b ≡ true) (ordered_packets g part)
unfolding ordered_packets
packets_strict g part =
    strict_all (comes_before g) (packets_transitive g) [] (packets_of_part g part)
    (no_pairs (Before (comes_before g))) (part_differs g part)
    (All-nil (λ s. All (Differs (comes_before g) s) (packets_of_part g part)))
