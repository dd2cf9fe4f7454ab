-- What blocks have whose passes are coded on demand, by their numbers.
use Rattle.std.specs.Prelude.{ℕ, ◌==◌, Bool, true, List, [], ◌∷◌, length, Option, Some, None}
use Rattle.cine_nums.specs.declared.orient.Orient.{Orient}
use Rattle.codeblock_views.specs.declared.view.BlockView.{BlockView}
use Rattle.ebcot_contexts.specs.Contexts.{Shape}
use Rattle.ebcot_passes.specs.Code.{passes_of}
use Rattle.rd_hulls.specs.Points.{origin}
use Rattle.rd_hulls.specs.declared.point.Point.{Point}
use Rattle.demand_blocks.specs.Points.{points_upto, points_of, least_after}
use Rattle.demand_blocks.specs.Views.{coefs_in, shape_in}
use Rattle.demand_blocks.specs.declared.block.DemandBlock.{DemandBlock}

-- the coefficients and the shape of a block
abbrev pub block_coefs : DemandBlock → List (ℕ × Bool)
block_coefs b = coefs_in b.view

abbrev pub block_shape : DemandBlock → Shape
block_shape b = shape_in b.view b.orient b.planes

-- where it stands, and the orientation of its band
abbrev pub identity_in : Option DemandBlock → Option (BlockView × Orient)
identity_in None = None
identity_in (Some b) = Some (b.view, b.orient)

-- the points of all passes; of no block the one of no passes
abbrev pub all_in : Option DemandBlock → List Point
all_in None = origin ∷ []
all_in (Some b) = points_of (block_coefs b) (block_shape b)

-- those that are known
abbrev pub known_in : Option DemandBlock → List Point
known_in None = origin ∷ []
known_in (Some b) = points_upto (block_coefs b) (block_shape b) (length b.passes.items)

-- a lower bound on the bytes of more passes
abbrev pub least_in : Option DemandBlock → ℕ
least_in None = 1
least_in (Some b) = least_after (block_coefs b) (block_shape b) (length b.passes.items)

-- whether all passes are coded
abbrev pub whole_in : Option DemandBlock → Bool
whole_in None = true
whole_in (Some b) = length b.passes.items == passes_of b.planes
