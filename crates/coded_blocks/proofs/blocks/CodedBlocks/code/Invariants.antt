use Rattle.std.proofs.Common.{ℕ, ◌≡◌, List, length}
use Rattle.dz_quantiser.specs.Coefficient.{Coefficient}
use Rattle.dz_quantiser.specs.declared.steps.StepSizes.{StepSizes}
use Rattle.band_geometry.specs.declared.geometry.Geometry.{Geometry}
use Rattle.profile_reader.specs.Chosen.{Planes}
use Rattle.coded_blocks.specs.Coded.{AreCodedBelow, count_of}
use Rattle.coded_blocks.specs.declared.blocks.CodedBlocks.{CodedBlocks}
use Rattle.coded_blocks.proofs.blocks.CodedBlocks.code.Given as goal

-- the first n blocks are coded, and the buffer is as long as it was
pub record AreSoFar (g : Geometry) (steps : StepSizes) (c0 c1 c2 : List Coefficient) (n : ℕ)
    (buffer : List ℕ) (s : CodedBlocks) : Type 0 where
  pub room : length buffer ≡ 77312
  pub count : count_of s ≡ n
  pub coded : (planes : Planes) → planes 0 ≡ c0 → planes 1 ≡ c1 → planes 2 ≡ c2 →
      AreCodedBelow g steps planes n s

abbrev pub invariant-loop-n : goal.invariant-loop-n
invariant-loop-n l = AreSoFar l.geometry l.steps l.c0.cells.items l.c1.cells.items l.c2.cells.items
    l.n l.bytes l.blocks
