-- The bytes of the chosen coding passes of a frame's code-blocks (ISO/IEC 15444-1, B.10 and
-- Annex C).
use Rattle.std.specs.Prelude.{ℕ, ◌<◌, ◌≡◌, List, length}
use Rattle.band_geometry.specs.Bands.{IsBlock}
use Rattle.band_geometry.specs.Counts.{number_of}
use Rattle.band_geometry.specs.Numbering.{all_blocks}
use Rattle.band_geometry.specs.declared.geometry.Geometry.{Geometry}
use Rattle.band_geometry.specs.declared.places.BlockId.{BlockId}
use Rattle.dz_quantiser.specs.declared.steps.StepSizes.{StepSizes}
use Rattle.profile_reader.specs.Chosen.{Planes, chosen}
use Rattle.coded_blocks.specs.Ends.{code_in}
use Rattle.coded_blocks.specs.declared.codes.ChosenCodes.{ChosenCodes}

-- how many blocks have codes
abbrev pub code_count : ChosenCodes → ℕ
code_count codes = length codes.ends.items

-- the bytes of the block with this number
abbrev pub code_at : ChosenCodes → ℕ → List ℕ
code_at codes n = code_in codes.bytes.items codes.ends.items n

-- the bytes that are written of a block by a choice of passes, one number for each block
abbrev pub written_code : Geometry → StepSizes → Planes → List ℕ → BlockId → List ℕ
written_code g steps planes counts b = (chosen g steps planes counts b).code

-- of each block whose number is below n, the bytes that are written of it
abbrev pub AreCodesBelow : Geometry → (BlockId → List ℕ) → ℕ → ChosenCodes → Type 0
AreCodesBelow g written n codes = (b : BlockId) → IsBlock g b → number_of g b < n →
    code_at codes (number_of g b) ≡ written b

-- The codes are those of a choice of passes of a frame with these coefficients, whose bands have
-- these steps: of each block, by its number, the bytes that are written of it.
pub record AreChosenCodes (g : Geometry) (steps : StepSizes) (planes : Planes) (counts : List ℕ)
    (codes : ChosenCodes) : Type 0 where
  pub count : code_count codes ≡ length (all_blocks g)
  pub each : (b : BlockId) → IsBlock g b →
      code_at codes (number_of g b) ≡ written_code g steps planes counts b
