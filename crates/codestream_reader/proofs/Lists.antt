-- Lists: ranges that grow, pieces that are joined, and the end of a list that is read.
use Rattle.std.proofs.Common.{◌≡◌, ℕ, suc, ◌+◌, ◌-◌, ◌*◌, ◌^◌}
use Rattle.std.proofs.Common.{◌<◌, ◌≤◌, List, [], ◌∷◌, ◌++◌, map, ap}
use Rattle.std.proofs.Common.{◌∙◌, sym, arith, append_assoc, Ok, Err, Result, subst}
use Rattle.std.specs.Prelude.{MatchResult}
use Rattle.std.specs.List.{flat_map, range_with_len}
use Rattle.std.proofs.Math.Nat.{le-div_iff_mul-le}
use Rattle.std.proofs.lemmas.List.{map_push, map-append}
use Rattle.std.proofs.lemmas.Nat.{pow_pos}
use Rattle.band_geometry.specs.Sizes.{res_side, precinct_count}
use Rattle.cine_nums.specs.Coding.{precinct_side}
use Rattle.cine_nums.specs.Division.{div_up}
use Rattle.packet_order.proofs.MemberLemmas.{pieces_more, some_side}
use Rattle.packet_order.proofs.SortingLemmas.{range_more}
use Rattle.packet_order.specs.Order.{place_of}

-- a value is no fault
pub ok_no_err : {T E : Type 0} (r : Result T E) (x : T) (e : E) → r ≡ Ok x → r ≡ Err e → ⊥
ok_no_err {T} {E} r x e ok err =
    subst (λ (k : Result T E). MatchResult k (λ _. Unit {0}) (λ _. ⊥)) (sym ok ∙ err) tt

-- a list of values of a range, with one value more
mapped_more : {A : Type 0} (f : ℕ → A) (n : ℕ) →
    map f (range_with_len 0 (n + 1)) ≡ map f (range_with_len 0 n) ++ f n ∷ []
mapped_more f n = ap (map f) (range_more n) ∙ map_push f (range_with_len 0 n) n

-- values of values, one more after those before
pub row_more : {A B : Type 0} (h : A → B) (f : ℕ → A) (before items more : List B) (b : B) (n : ℕ)
    → items ≡ before ++ map h (map f (range_with_len 0 n)) → more ≡ items ++ b ∷ [] → b ≡ h (f n) →
    more ≡ before ++ map h (map f (range_with_len 0 (n + 1)))
row_more h f before items more b n is pushed value =
    let done = map h (map f (range_with_len 0 n)) in
    pushed ∙ ap (λ t. t ++ b ∷ []) is ∙ append_assoc before done (b ∷ [])
    ∙ ap (λ x. before ++ (done ++ x ∷ [])) value
    ∙ ap (λ t. before ++ t) (sym (ap (map h) (mapped_more f n)
    ∙ map_push h (map f (range_with_len 0 n)) (f n)))

-- and one more piece after those before
pub pieces_step : {A B : Type 0} (h : A → B) (f : ℕ → List A) (before items more : List B) (n : ℕ)
    → items ≡ before ++ map h (flat_map f (range_with_len 0 n)) → more ≡ items ++ map h (f n) →
    more ≡ before ++ map h (flat_map f (range_with_len 0 (n + 1)))
pieces_step h f before items more n is added =
    let done = flat_map f (range_with_len 0 n) in
    let next : n + 1 ≡ suc n = omega arith in
    added ∙ ap (λ t. t ++ map h (f n)) is ∙ append_assoc before (map h done) (map h (f n))
    ∙ ap (λ t. before ++ t) (sym (ap (λ m. map h (flat_map f (range_with_len 0 m))) next
    ∙ ap (map h) (pieces_more f n) ∙ map-append h done (f n)))

-- precincts that begin within a side
begun : (p n d : ℕ) → 0 < d → p * d < n → p < div_up n d
begun p n d some below =
    let whole : suc p * d ≤ n + (d - 1) = omega arith in
    (le-div_iff_mul-le {x = suc p} {y = n + (d - 1)} some).1 whole

pub within_begun : (levels side r p : ℕ) → place_of levels r p < side →
    p < precinct_count levels side r
within_begun levels side r p within =
    begun p (res_side levels side r) (precinct_side r) (some_side r)
    (begun (p * precinct_side r) side (2 ^ (levels - r)) (pow_pos (levels - r)) within)
