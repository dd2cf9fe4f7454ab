-- A code block of a frame lies in its plane.
use Rattle.std.proofs.Common.{ℕ, ◌+◌, ◌-◌, ◌*◌, ◌<◌, arith}
use Rattle.band_geometry.proofs.PlaneLemmas.{column_in_plane, row_in_plane}
use Rattle.band_geometry.specs.Bands.{IsBlock, IsPlaceIn, band_of, block_of}
use Rattle.band_geometry.specs.declared.geometry.Geometry.{Geometry}
use Rattle.band_geometry.specs.declared.places.BlockId.{BlockId}
use Rattle.band_geometry.specs.declared.places.Rect.{Rect}
use Rattle.codeblock_views.specs.Rectangles.{IsBlockIn}
use Rattle.codeblock_views.proofs.Together.{in_its_band}

pub block_fits : (g : Geometry) (id : BlockId) → IsBlock g id →
    IsBlockIn g.width g.height (block_of g id)
block_fits g id is =
    let band : Rect = band_of g id.res id.orient in
    let r : Rect = block_of g id in
    let columns : 32 * id.x < band.width = omega (arith, is.column) in
    let rows : 32 * id.y < band.height = omega (arith, is.row) in
    let x : ℕ = r.x + (r.width - 1) in
    let y : ℕ = r.y + (r.height - 1) in
    let last : IsPlaceIn r x y = record {
      left = omega arith;
      right = omega (arith, columns);
      top = omega arith;
      bottom = omega (arith, rows);
    } in
    let inside = in_its_band g id x y is last in
    let across : x < g.width = column_in_plane g id.res id.orient x y is.band inside in
    let down : y < g.height = row_in_plane g id.res id.orient x y is.band inside in
    record {
      some_width = omega (arith, columns);
      width = omega arith;
      some_height = omega (arith, rows);
      height = omega arith;
      right = omega (arith, columns, across);
      bottom = omega (arith, rows, down);
    }
