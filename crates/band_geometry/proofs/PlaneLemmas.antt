-- The bands lie in the transformed plane and cover it.
use Rattle.std.proofs.Common.{◌≡◌, ℕ, zero, suc, ◌+◌, ◌-◌, ◌<◌, ◌≤◌, arith, sym, inl, inr}
use Rattle.std.proofs.lemmas.Bool.{cases_lt, cases_order}
use Rattle.cine_nums.specs.declared.orient.Orient.{Orient}
use Rattle.cine_nums.specs.declared.orient.Orient.TheVariants.{LL, HL, LH, HH}
use Rattle.band_geometry.specs.Sizes.{res_side}
use Rattle.band_geometry.specs.Bands.{HasBand, band_of, IsPlaceIn, IsInBand}
use Rattle.band_geometry.specs.declared.geometry.Geometry.{Geometry}
use Rattle.band_geometry.proofs.BandLemmas.{res_side_le}
use Rattle.band_geometry.proofs.SideLemmas.{res_side_below_le, res_side-monotone, res_side-top}

-- The bands lie in the plane.

in_detail : (levels side r i : ℕ) → 1 ≤ side → 1 ≤ r → r ≤ levels →
    i < res_side levels side (r - 1) + (res_side levels side r - res_side levels side (r - 1)) →
    i < side
in_detail levels side r i side_some some within lt =
    omega (arith, lt, res_side_below_le levels side r some within, res_side_le levels side r side_some)

pub column_in_plane : (g : Geometry) (r : ℕ) (o : Orient) (x y : ℕ) → HasBand g r o →
    IsPlaceIn (band_of g r o) x y → x < g.width
column_in_plane g r LL x y has place =
    omega (arith, place.right, res_side_le g.levels g.width 0 g.some_width)
column_in_plane g r HL x y has place =
    in_detail g.levels g.width r x g.some_width has.orient has.res place.right
column_in_plane g r LH x y has place =
    omega (arith, place.right, res_side_le g.levels g.width (r - 1) g.some_width)
column_in_plane g r HH x y has place =
    in_detail g.levels g.width r x g.some_width has.orient has.res place.right

pub row_in_plane : (g : Geometry) (r : ℕ) (o : Orient) (x y : ℕ) → HasBand g r o →
    IsPlaceIn (band_of g r o) x y → y < g.height
row_in_plane g r LL x y has place =
    omega (arith, place.bottom, res_side_le g.levels g.height 0 g.some_height)
row_in_plane g r HL x y has place =
    omega (arith, place.bottom, res_side_le g.levels g.height (r - 1) g.some_height)
row_in_plane g r LH x y has place =
    in_detail g.levels g.height r y g.some_height has.orient has.res place.bottom
row_in_plane g r HH x y has place =
    in_detail g.levels g.height r y g.some_height has.orient has.res place.bottom

-- Every place of the plane is one of a band.

-- a column or a row is of resolution k: inside it, and outside the one below
record IsAt (levels side k i : ℕ) : Type 0 where
  within : k ≤ levels
  inside : i < res_side levels side k
  outside : 1 ≤ k → res_side levels side (k - 1) ≤ i

-- one that is inside resolution top is of this one or of one below
at_most : (levels side top i : ℕ) → top ≤ levels → i < res_side levels side top →
    (k : ℕ) × IsAt levels side k i
at_most levels side zero i within inside =
    (0, record { within = within; inside = inside; outside = λ some. absurd (omega (arith, some)) })
at_most levels side (suc t) i within inside =
    elim (cases_lt i (res_side levels side t)) [
      | inl less ↦ at_most levels side t i (omega (arith, within)) less
      | inr low ↦
          let below : suc t - 1 ≡ t = omega arith in
          (suc t, record { within = within; inside = inside; outside = λ some. rw below low })
    ]

at : (levels side i : ℕ) → i < side → (k : ℕ) × IsAt levels side k i
at levels side i lt = at_most levels side levels i (omega arith)
    (omega (arith, res_side-top levels side))

-- so it is inside each resolution above
below : (levels side k m i : ℕ) → IsAt levels side k i → k < m → m ≤ levels →
    i < res_side levels side (m - 1)
below levels side k m i is lt within =
    let le : res_side levels side k ≤ res_side levels side (m - 1) =
    res_side-monotone levels side k (m - 1) (omega arith) (omega arith) in
    omega (arith, is.inside)

-- in the part that resolution k has and the one below has not
part : (levels side k i : ℕ) → IsAt levels side k i → 1 ≤ k →
    i < res_side levels side (k - 1) + (res_side levels side k - res_side levels side (k - 1))
part levels side k i is some = omega (arith, is.inside, is.outside some)

by_res : (g : Geometry) (c r x y : ℕ) → IsAt g.levels g.width c x → IsAt g.levels g.height r y →
    IsInBand g x y
by_res g c r x y across down =
    elim (cases_order c r) [
      | inl same ↦ equal c across (rw (sym same) at down)
      | inr (inl lt) ↦
          let some : 1 ≤ r = omega arith in
          record {
            res = r;
            orient = LH;
            band = record { res = down.within; orient = some };
            place =
                record {
                  left = omega arith;
                  right = omega (arith, below g.levels g.width c r x across lt down.within);
                  top = down.outside some;
                  bottom = part g.levels g.height r y down some;
                };
          }
      | inr (inr lt) ↦
          let some : 1 ≤ c = omega arith in
          record {
            res = c;
            orient = HL;
            band = record { res = across.within; orient = some };
            place =
                record {
                  left = across.outside some;
                  right = part g.levels g.width c x across some;
                  top = omega arith;
                  bottom = omega (arith, below g.levels g.height r c y down lt across.within);
                };
          }
    ]
  where
    equal : (k : ℕ) → IsAt g.levels g.width k x → IsAt g.levels g.height k y → IsInBand g x y
    equal zero across down = record {
      res = 0;
      orient = LL;
      band = record { res = across.within; orient = omega arith };
      place =
          record {
            left = omega arith;
            right = omega (arith, across.inside);
            top = omega arith;
            bottom = omega (arith, down.inside);
          };
    }
    equal (suc k) across down = let some : 1 ≤ suc k = omega arith in record {
      res = suc k;
      orient = HH;
      band = record { res = across.within; orient = some };
      place =
          record {
            left = across.outside some;
            right = part g.levels g.width (suc k) x across some;
            top = down.outside some;
            bottom = part g.levels g.height (suc k) y down some;
          };
    }

pub in_band : (g : Geometry) (x y : ℕ) → x < g.width → y < g.height → IsInBand g x y
in_band g x y across down =
    let column = at g.levels g.width x across in
    let row = at g.levels g.height y down in
    by_res g column.0 row.0 x y column.1 row.1
