use Rattle.std.proofs.Common.{refl, ◌∙◌}
use Rattle.demand_blocks.proofs.Points.{point_made}
use Rattle.demand_blocks.proofs.block.DemandBlock.point.Goals as goal

pub returns : goal.returns
returns c = point_made _ _ _ _ c.code_len.ensures (c.from.ensures ∙ c.distortion.ensures) refl
