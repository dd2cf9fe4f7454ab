use Rattle.std.proofs.Common.{ℕ, ◌≡◌, List}
use Rattle.band_geometry.specs.declared.geometry.Geometry.{Geometry}
use Rattle.dz_quantiser.specs.declared.steps.StepSizes.{StepSizes}
use Rattle.profile_reader.specs.Chosen.{Planes}
use Rattle.coded_blocks.specs.Coded.{AreCoded}
use Rattle.coded_blocks.specs.Codes.{AreCodesBelow, code_count, written_code}
use Rattle.coded_blocks.specs.declared.blocks.CodedBlocks.{CodedBlocks}
use Rattle.coded_blocks.specs.declared.codes.ChosenCodes.{ChosenCodes}
use Rattle.coded_blocks.proofs.blocks.CodedBlocks.chosen.Given as goal

-- the bytes of the first n blocks
pub record AreSoFar (s : CodedBlocks) (counts : List ℕ) (n : ℕ) (codes : ChosenCodes) : Type 0 where
  pub count : code_count codes ≡ n
  pub below : (g : Geometry) (steps : StepSizes) (planes : Planes) → AreCoded g steps planes s →
      AreCodesBelow g (written_code g steps planes counts) n codes

abbrev pub invariant-loop-n : goal.invariant-loop-n
invariant-loop-n l = AreSoFar l.self l.counts l.n l.codes
