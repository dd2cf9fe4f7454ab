-- The laws of blocks whose passes are coded on demand.
use Rattle.std.proofs.Common.{ℕ, zero, suc, ◌-◌, ◌*◌, ◌<◌, ◌≤◌, ◌≡◌, true, []}
use Rattle.std.proofs.Common.{◌∷◌}
use Rattle.std.proofs.Common.{length, Option, Some, None, refl, arith}
use Rattle.codeblock_views.specs.RectangleLaws.{cells_in-length, cells_in-small}
use Rattle.codeblock_views.specs.Views.{view_cells}
use Rattle.codeblock_views.specs.declared.view.BlockView.{BlockView}
use Rattle.cine_nums.specs.declared.orient.Orient.{Orient}
use Rattle.codeblock_views.specs.Magnitudes.{AreSmall, block_planes}
use Rattle.dz_quantiser.specs.Coefficient.{zero_coefficient}
use Rattle.ebcot_passes.proofs.Loading.{block_fits, planes_few}
use Rattle.rd_hulls.specs.Points.{origin, point_at, IsPoint}
use Rattle.partial_hulls.specs.Known.{IsCompletion}
use Rattle.demand_blocks.specs.Blocks.{all_in, known_in, least_in, whole_in, block_coefs}
use Rattle.demand_blocks.specs.Blocks.{block_shape}
use Rattle.demand_blocks.specs.PointLaws.{IsSmallBlock, completed, upto_long, least_some}
use Rattle.demand_blocks.specs.PointLaws.{least_short}
use Rattle.demand_blocks.specs.Views.{coefs_in, shape_in}
use Rattle.demand_blocks.specs.declared.block.DemandBlock.{DemandBlock}

-- ---- no block

origin_at : (k : ℕ) → k < 1 → IsPoint k (point_at (origin ∷ []) k)
origin_at zero below = record {
  passes = refl;
  none = λ h. refl;
  some = λ h. absurd (omega arith);
  short = omega arith;
  wide = omega arith;
}
origin_at (suc k) below = absurd (omega arith)

origin_ends : (k : ℕ) → suc k ≡ 1 → (point_at (origin ∷ []) k).dist ≡ 0
origin_ends zero last = refl
origin_ends (suc k) last = absurd (omega arith)

of_none : IsCompletion (origin ∷ []) 1 true (origin ∷ [])
of_none = record {
  are = record { first = omega arith; each = origin_at };
  within = omega arith;
  first = λ k below. refl;
  longer = λ k past below. absurd (omega arith);
  none_more = λ w. refl;
  ends = origin_ends;
}

-- ---- a block that is seen in a plane

pub small_in : (view : BlockView) (orient : Orient) (planes : ℕ) →
    planes ≡ block_planes (view_cells view) →
    IsSmallBlock (coefs_in view) (shape_in view orient planes)
unfolding coefs_in
small_in view orient planes are =
    let long = cells_in-length zero_coefficient view.plane.now.width view.rect
    view.plane.now.cells.items in
    let small : AreSmall (view_cells view) = cells_in-small view.plane.now.width view.rect
    view.plane.now.cells.items view.small in
    record {
      fits = block_fits (view_cells view) (shape_in view orient planes) view.rect.height
          view.rect.width are long refl refl;
      wide = view.block.width;
      high = view.block.height;
      few = planes_few (view_cells view) planes are small;
    }

small_of : (b : DemandBlock) → IsSmallBlock (block_coefs b) (block_shape b)
small_of b = small_in b.view b.orient b.planes b.planes_are

-- ---- a block, or none

pub completes_in : (b : Option DemandBlock) →
    IsCompletion (known_in b) (least_in b) (whole_in b) (all_in b)
completes_in None = of_none
completes_in (Some b) = completed (block_coefs b) (block_shape b) (length b.passes.items)
    (small_of b) b.within

pub begun_in : (b : Option DemandBlock) → 0 < length (known_in b)
begun_in None = omega arith
begun_in (Some b) =
    let long = upto_long (block_coefs b) (block_shape b) (length b.passes.items) in
    omega (arith, long)

pub few_in : (b : Option DemandBlock) → length (all_in b) ≤ 59
few_in None = omega arith
few_in (Some b) =
    let long = upto_long (block_coefs b) (block_shape b) (3 * b.planes - 2) in
    let few = (small_of b).few in
    omega (arith, long, few)

pub least_some_in : (b : Option DemandBlock) → 1 ≤ least_in b
least_some_in None = omega arith
least_some_in (Some b) = least_some (block_coefs b) (block_shape b) (length b.passes.items)

pub least_short_in : (b : Option DemandBlock) → least_in b ≤ 131072
least_short_in None = omega arith
least_short_in (Some b) = least_short (block_coefs b) (block_shape b) (length b.passes.items)
    (small_of b) b.within
