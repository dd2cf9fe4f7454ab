-- The distortion of a code-block, place by place.
use Rattle.std.specs.Prelude.{ℕ, suc, ◌-◌, ◌%◌, ◌^◌, ◌<◌, ◌≡◌, Bool, List, length, take}
use Rattle.std.specs.Prelude.{replicate, if◌then◌else◌}
use Rattle.ebcot_contexts.specs.Cells.{Cell, fresh, cell_at, bit_of}
use Rattle.distortion_sums.specs.Distortion.{error_sum}

-- Place i of a block is to be coded in plane p: its bits down to the plane above are known.
pub record IsNext (coefs : List (ℕ × Bool)) (cells : List Cell) (p i : ℕ) : Type 0 where
  pub inside : i < length cells
  pub there : i < length coefs
  pub untouched : (cell_at cells i).unknown ≡ suc p

-- a number of 64 bits holds the distortion of a block of which these cells are known
abbrev pub IsHeld : ℕ → List (ℕ × Bool) → List Cell → Type 0
IsHeld held coefs cells = held ≡ error_sum coefs cells % 2 ^ 64

-- how far a magnitude is from the middle of those with its bits above plane p, in whole steps
abbrev pub offset : ℕ → ℕ → ℕ
offset p m = if bit_of m p then m % 2 ^ p else 2 ^ p - 1 - m % 2 ^ p

-- the distortion of the first k places of a block of which nothing is known, of n bit-planes
abbrev pub start_sum : ℕ → ℕ → List (ℕ × Bool) → ℕ
start_sum n k coefs = error_sum (take k coefs) (replicate k (fresh n))
