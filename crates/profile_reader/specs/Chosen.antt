-- The choice of coding passes of a frame, and what is written of its code-blocks by it (ISO/IEC
-- 15444-1, B.10 and Annex D).
use Rattle.std.specs.Prelude.{ℕ, zero, suc, ◌-◌, Bool, true, List, length, get_or, map, sum}
use Rattle.band_geometry.specs.Bands.{block_of}
use Rattle.band_geometry.specs.Counts.{number_of}
use Rattle.band_geometry.specs.declared.geometry.Geometry.{Geometry}
use Rattle.band_geometry.specs.declared.places.BlockId.{BlockId}
use Rattle.codeblock_views.specs.Magnitudes.{block_planes}
use Rattle.codeblock_views.specs.Rectangles.{cells_in}
use Rattle.band_geometry.specs.Numbering.{all_blocks}
use Rattle.distortion_sums.specs.Coefs.{coefs_of}
use Rattle.distortion_sums.specs.Distortion.{distortion}
use Rattle.dz_quantiser.specs.Bands.{band_planes}
use Rattle.dz_quantiser.specs.Coefficient.{Coefficient, zero_coefficient}
use Rattle.dz_quantiser.specs.declared.steps.StepSizes.{StepSizes}
use Rattle.ebcot_contexts.specs.Contexts.{Shape}
use Rattle.ebcot_contexts.specs.Meaning.{symbols_of}
use Rattle.mq_coder.specs.Code.{code}
use Rattle.profile_reader.specs.Packets.{BlockBytes, left_out}

-- The coefficients of a frame: of each component, in raster order of its transformed plane.
abbrev pub Planes : Type 0
Planes = ℕ → List Coefficient

-- the coefficients of a code-block, in raster order
unfoldable pub block_cells : Geometry → Planes → BlockId → List Coefficient
block_cells g planes b = cells_in zero_coefficient g.width (block_of g b) (planes b.component)

-- its magnitudes and signs
abbrev pub block_coefs : Geometry → Planes → BlockId → List (ℕ × Bool)
block_coefs g planes b = coefs_of (block_cells g planes b)

-- its sides, and the bit-planes of its largest magnitude
abbrev pub block_shape : Geometry → Planes → BlockId → Shape
block_shape g planes b = record {
  orient = b.orient;
  width = (block_of g b).width;
  height = (block_of g b).height;
  planes = block_planes (block_cells g planes b);
}

-- what is written of a block of which the first k passes are included, one or more: with the code
-- of their symbols, and as zero bit-planes those of the band above the block's
abbrev pub included_with : ℕ → List (ℕ × Bool) → Shape → ℕ → BlockBytes
included_with band_planes coefs s k =
    let bytes = code (symbols_of coefs s k) in
    record {
      entry = record {
        included = true;
        zero_planes = band_planes - s.planes;
        passes = k;
        len = length bytes;
      };
      code = bytes;
    }

-- of a block without passes nothing is written
abbrev pub written_of : ℕ → List (ℕ × Bool) → Shape → ℕ → BlockBytes
written_of band_planes coefs s zero = left_out
written_of band_planes coefs s (suc k) = included_with band_planes coefs s (suc k)

-- A choice is the number of passes of each block, by block number.
abbrev pub chosen_passes : Geometry → List ℕ → BlockId → ℕ
chosen_passes g choice b = get_or choice (number_of g b) 0

-- what is written of each block by a choice
unfoldable pub chosen : Geometry → StepSizes → Planes → List ℕ → BlockId → BlockBytes
chosen g steps planes choice b = written_of (band_planes steps b.res b.orient)
    (block_coefs g planes b) (block_shape g planes b) (chosen_passes g choice b)

-- the distortion of a choice: the sum of what its passes leave of each block, in units of half a
-- step squared
unfoldable pub choice_distortion : Geometry → Planes → List ℕ → ℕ
choice_distortion g planes choice =
    sum (map (λ b. distortion (block_coefs g planes b) (block_shape g planes b)
    (chosen_passes g choice b)) (all_blocks g))
