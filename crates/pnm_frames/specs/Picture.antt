-- A picture of three planes, and its raster in a file (ppm(5), magic P6, maxval 4095).
use Rattle.std.specs.Prelude.{ℕ, ◌≡◌, ◌≤◌, ◌*◌, ◌/◌, ◌%◌, List, [], ◌∷◌, length, All}
use Rattle.std.specs.List.{flat_map}
use Rattle.pnm_frames.specs.declared.limits.SizeLimits.{SizeLimits}

-- a width, a height, and the samples of each plane row by row
pub record Picture : Type 0 where
  pub width : ℕ
  pub height : ℕ
  pub x : List ℕ
  pub y : List ℕ
  pub z : List ℕ

-- a sample has 12 bits
abbrev pub IsSample : ℕ → Type 0
IsSample s = s ≤ 4095

-- a plane of so many samples
pub record IsPlane (count : ℕ) (samples : List ℕ) : Type 0 where
  pub size : length samples ≡ count
  pub range : All IsSample samples

-- a size in samples within limits, of at least 1 each way
pub record IsWithin (limits : SizeLimits) (width height : ℕ) : Type 0 where
  pub some_width : 1 ≤ width
  pub width_in_limits : width ≤ limits.width
  pub some_height : 1 ≤ height
  pub height_in_limits : height ≤ limits.height

-- each side is at least 1 and at most its limit, and each plane has a sample for each pixel
pub record Fits (limits : SizeLimits) (p : Picture) : Type 0 where
  pub has_width : 1 ≤ p.width
  pub width : p.width ≤ limits.width
  pub has_height : 1 ≤ p.height
  pub height : p.height ≤ limits.height
  pub x : IsPlane (p.width * p.height) p.x
  pub y : IsPlane (p.width * p.height) p.y
  pub z : IsPlane (p.width * p.height) p.z

-- a sample in a file: two bytes, the high byte first
abbrev pub sample : ℕ → List ℕ
sample s = (s / 256) ∷ (s % 256) ∷ []

-- three samples a pixel, one of each plane
abbrev pub interleaved : List ℕ → List ℕ → List ℕ → List ℕ
interleaved [] ys zs = []
interleaved (x ∷ xs) [] zs = []
interleaved (x ∷ xs) (y ∷ ys) [] = []
interleaved (x ∷ xs) (y ∷ ys) (z ∷ zs) = x ∷ y ∷ z ∷ interleaved xs ys zs

-- the samples of all pixels, row by row
abbrev pub raster : Picture → List ℕ
raster p = flat_map sample (interleaved p.x p.y p.z)
