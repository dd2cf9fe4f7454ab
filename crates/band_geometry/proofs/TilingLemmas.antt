-- The blocks of a band cover it.
use Rattle.std.proofs.Common.{◌≡◌, ℕ, ◌-◌, ◌/◌, ◌<◌, arith, refl, subst}
use Rattle.cine_nums.specs.Coding.{block_side}
use Rattle.cine_nums.specs.declared.orient.Orient.{Orient}
use Rattle.band_geometry.specs.Bands.{HasBand, band_of, IsPlaceIn, HoldsPlace}
use Rattle.band_geometry.specs.declared.geometry.Geometry.{Geometry}
use Rattle.band_geometry.specs.declared.places.Rect.{Rect}
use Rattle.band_geometry.specs.declared.places.BlockId.{BlockId}

-- the block of a band at a place
abbrev pub block_in_band : Geometry → ℕ → Orient → ℕ → ℕ → ℕ → BlockId
block_in_band g r o c x y = record {
  component = c;
  res = r;
  orient = o;
  x = (x - (band_of g r o).x) / block_side;
  y = (y - (band_of g r o).y) / block_side;
}

pub has_place : (g : Geometry) (r : ℕ) (o : Orient) → HasBand g r o → (c x y : ℕ) → c < 3 →
    IsPlaceIn (band_of g r o) x y → HoldsPlace g c r o x y (block_in_band g r o c x y)
has_place g r o has c x y component place =
    record {
      exists = record {
        component = component;
        band = has;
        column = omega arith;
        row = omega arith;
      };
      component = refl;
      res = refl;
      orient = refl;
      place = record {
        left = omega arith;
        right = omega arith;
        top = omega arith;
        bottom = omega arith;
      };
    }

pub band_is_covered : (g : Geometry) (r : ℕ) (o : Orient) (band : Rect) → HasBand g r o →
    band ≡ band_of g r o → (c x y : ℕ) → c < 3 → IsPlaceIn band x y →
    (id : BlockId) × HoldsPlace g c r o x y id
band_is_covered g r o band has is c x y component place = (
  block_in_band g r o c x y,
  has_place g r o has c x y component
      (subst (λ b. IsPlaceIn b x y) is place),
)
