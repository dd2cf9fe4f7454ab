-- The steps of the hulls of a frame's code-blocks, over all numbers of passes of each.
use Rattle.std.specs.Prelude.{ℕ, ◌<◌, List, length}
use Rattle.band_geometry.specs.Numbering.{all_blocks}
use Rattle.band_geometry.specs.declared.geometry.Geometry.{Geometry}
use Rattle.dz_quantiser.specs.declared.steps.StepSizes.{StepSizes}
use Rattle.profile_reader.specs.Chosen.{Planes}
use Rattle.rd_hulls.specs.Hull.{IsHull}
use Rattle.rd_hulls.specs.Points.{ArePoints}
use Rattle.rd_hulls.specs.declared.step.Step.{Step}
use Rattle.frame_choice.specs.Blocks.{block_numbered, points_of}

-- the steps of each block, by its number, are the hull of its points
pub record AreHulls (g : Geometry) (steps : StepSizes) (planes : Planes) (all : ℕ → List Step)
    : Type 0 where
  pub points : (b : ℕ) → b < length (all_blocks g) →
      ArePoints (points_of g steps planes (block_numbered g b))
  pub hulls : (b : ℕ) → b < length (all_blocks g) →
      IsHull b (points_of g steps planes (block_numbered g b)) (all b)
