-- Each place of the transformed plane is in one band, and in one block of each component.
use Rattle.std.proofs.Common.{◌≡◌, ℕ, ◌-◌, ◌/◌, ◌<◌, ◌≤◌, max, arith, refl, sym, ap}
use Rattle.std.proofs.Common.{subst, ◌∙◌}
use Rattle.std.proofs.lemmas.Bool.Decides.{nat_tests}
use Rattle.cine_nums.specs.declared.orient.Orient.{Orient}
use Rattle.cine_nums.specs.declared.orient.Orient.TheVariants.{LL, HL, LH, HH}
use Rattle.band_geometry.specs.Bands.{band_of, block_of, HasBand, IsBlock, IsPlaceIn}
use Rattle.band_geometry.specs.Places.{res_at, orient_of, res_at_place, orient_at_place}
use Rattle.band_geometry.specs.Places.{block_at_place, IsBandAt, IsBlockAt}
use Rattle.band_geometry.specs.declared.geometry.Geometry.{Geometry}
use Rattle.band_geometry.specs.declared.places.BlockId.{BlockId}
use Rattle.band_geometry.proofs.PlaneLemmas.{in_band}
use Rattle.band_geometry.proofs.ResolutionLemmas.{res_low, res_high}
use Rattle.band_geometry.proofs.TilingLemmas.{has_place}

-- the band in a column of resolution c and a row of resolution d
record IsBandOf (c d r : ℕ) (o : Orient) : Type 0 where
  res : max c d ≡ r
  orient : orient_of c d ≡ o

ll : (c d : ℕ) → c ≤ 0 → d ≤ 0 → IsBandOf c d 0 LL
ll c d column row =
    let no_column : c ≡ 0 = omega arith in
    let no_row : d ≡ 0 = omega arith in
    record { res = omega arith; orient = rw (no_column, no_row) refl }

hl : (c d r : ℕ) → 1 ≤ r → c ≡ r → d ≤ r - 1 → IsBandOf c d r HL
hl c d r some column row =
    let lt : d < c = omega arith in
    record { res = omega arith; orient = grind (arith, nat_tests) }

lh : (c d r : ℕ) → 1 ≤ r → c ≤ r - 1 → d ≡ r → IsBandOf c d r LH
lh c d r some column row =
    let lt : c < d = omega arith in
    record { res = omega arith; orient = grind (arith, nat_tests) }

hh : (c d r : ℕ) → 1 ≤ r → c ≡ r → d ≡ r → IsBandOf c d r HH
hh c d r some column row =
    let same : c ≡ d = omega arith in
    let more : 0 < c = omega arith in
    record { res = omega arith; orient = grind (arith, nat_tests) }

of_band : (g : Geometry) (r : ℕ) (o : Orient) (x y : ℕ) → HasBand g r o →
    IsPlaceIn (band_of g r o) x y →
    IsBandOf (res_at g.levels g.width x) (res_at g.levels g.height y) r o
of_band g r LL x y has place =
    let column = res_at g.levels g.width x in
    let row = res_at g.levels g.height y in
    subst (λ r. IsBandOf column row r LL) (sym has.orient)
    (ll column row
    (res_low g.levels g.width 0 x (omega arith) (omega (arith, place.right)))
    (res_low g.levels g.height 0 y (omega arith) (omega (arith, place.bottom))))
of_band g r HL x y has place =
    hl (res_at g.levels g.width x) (res_at g.levels g.height y) r has.orient
    (res_high g.levels g.width r x has.orient has.res place.left place.right)
    (res_low g.levels g.height (r - 1) y (omega (arith, has.res)) (omega (arith, place.bottom)))
of_band g r LH x y has place =
    lh (res_at g.levels g.width x) (res_at g.levels g.height y) r has.orient
    (res_low g.levels g.width (r - 1) x (omega (arith, has.res)) (omega (arith, place.right)))
    (res_high g.levels g.height r y has.orient has.res place.top place.bottom)
of_band g r HH x y has place =
    hh (res_at g.levels g.width x) (res_at g.levels g.height y) r has.orient
    (res_high g.levels g.width r x has.orient has.res place.left place.right)
    (res_high g.levels g.height r y has.orient has.res place.top place.bottom)

-- a place of a band fixes the band
pub band_at_place : (g : Geometry) (r : ℕ) (o : Orient) (x y : ℕ) → HasBand g r o →
    IsPlaceIn (band_of g r o) x y → IsBandAt g x y r o
band_at_place g r o x y has place =
    let is = of_band g r o x y has place in
    record { res = is.res; orient = is.orient }

-- the block at a place has it
block_there : (g : Geometry) (c x y r : ℕ) (o : Orient) → c < 3 → HasBand g r o →
    IsPlaceIn (band_of g r o) x y → res_at_place g x y ≡ r → orient_at_place g x y ≡ o →
    IsBlockAt g c x y (block_at_place g c x y)
block_there g c x y r o component has place res orient =
    let at_res : HasBand g (res_at_place g x y) o × IsPlaceIn
    (band_of g (res_at_place g x y) o) x y =
    subst (λ s. HasBand g s o × IsPlaceIn (band_of g s o) x y) (sym res) (has, place) in
    let at_both : HasBand g (res_at_place g x y) (orient_at_place g x y)
    × IsPlaceIn (band_of g (res_at_place g x y) (orient_at_place g x y)) x y =
    subst (λ p. HasBand g (res_at_place g x y) p × IsPlaceIn (band_of g (res_at_place g x y) p) x y)
    (sym orient) at_res in
    let there = has_place g (res_at_place g x y)
    (orient_at_place g x y) at_both.0 c x y component at_both.1 in
    record { exists = there.exists; component = refl; place = there.place }

pub somewhere : (g : Geometry) (c x y : ℕ) → c < 3 → x < g.width → y < g.height →
    IsBlockAt g c x y (block_at_place g c x y)
somewhere g c x y component across down =
    let in_plane = in_band g x y across down in
    let is = band_at_place g in_plane.res in_plane.orient x y in_plane.band in_plane.place in
    block_there g c x y in_plane.res in_plane.orient component in_plane.band in_plane.place is.res is.orient

-- and no other block has
in_its_band : (g : Geometry) (id : BlockId) (x y : ℕ) → IsBlock g id →
    IsPlaceIn (block_of g id) x y →
    IsPlaceIn (band_of g id.res id.orient) x y
in_its_band g id x y is place = record {
  left = omega (arith, place.left);
  right = omega (arith, place.left, place.right);
  top = omega (arith, place.top);
  bottom = omega (arith, place.top, place.bottom);
}

same_id : (a b : BlockId) → a.component ≡ b.component → a.res ≡ b.res → a.orient ≡ b.orient →
    a.x ≡ b.x → a.y ≡ b.y → a ≡ b
same_id a b component res orient x y =
    let id : ℕ → ℕ → Orient → ℕ → ℕ → BlockId =
    λ c r o i j. record { component = c; res = r; orient = o; x = i; y = j } in
    ap (λ c. id c a.res a.orient a.x a.y) component
    ∙ ap (λ r. id b.component r a.orient a.x a.y) res
    ∙ ap (λ o. id b.component b.res o a.x a.y) orient
    ∙ ap (λ i. id b.component b.res b.orient i a.y) x
    ∙ ap (λ j. id b.component b.res b.orient b.x j) y

pub once : (g : Geometry) (c x y : ℕ) (id : BlockId) → IsBlockAt g c x y id →
    id ≡ block_at_place g c x y
once g c x y id is =
    let inside = in_its_band g id x y is.exists is.place in
    let band = band_at_place g id.res id.orient x y is.exists.band inside in
    let column : id.x ≡ (x - (band_of g id.res id.orient).x) / 32 =
    omega (arith, is.place.left, is.place.right) in
    let row : id.y ≡ (y - (band_of g id.res id.orient).y) / 32 =
    omega (arith, is.place.top, is.place.bottom) in
    let corner : band_of g id.res id.orient
    ≡ band_of g (res_at_place g x y) (orient_at_place g x y) =
    ap (λ r. band_of g r id.orient) (sym band.res)
    ∙ ap (λ o. band_of g (res_at_place g x y) o) (sym band.orient) in
    same_id id (block_at_place g c x y) is.component (sym band.res) (sym band.orient)
    (column ∙ ap (λ b. (x - b.x) / 32) corner) (row ∙ ap (λ b. (y - b.y) / 32) corner)
