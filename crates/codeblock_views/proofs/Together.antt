-- In a plane that is put together from the cells of its blocks, each block has its cells.
use Rattle.std.proofs.Common.{◌≡◌, ℕ, ◌+◌, ◌-◌, ◌*◌, ◌/◌, ◌%◌, ◌<◌, List, length, get_or, refl}
use Rattle.std.proofs.Common.{arith, ap, sym, ◌∙◌}
use Rattle.std.proofs.lemmas.List.FromFn.{fill_by_all, get_or-map-range_with_len}
use Rattle.std.proofs.lemmas.Nat.{div-mul-add, mod-mul-add}
use Rattle.band_geometry.proofs.BlockPlaces.{once}
use Rattle.band_geometry.proofs.PlaneLemmas.{column_in_plane, row_in_plane}
use Rattle.band_geometry.specs.Bands.{IsBlock, IsPlaceIn, band_of, block_of}
use Rattle.band_geometry.specs.Places.{block_at_place}
use Rattle.band_geometry.specs.declared.geometry.Geometry.{Geometry}
use Rattle.band_geometry.specs.declared.places.BlockId.{BlockId}
use Rattle.band_geometry.specs.declared.places.Rect.{Rect}
use Rattle.codeblock_views.specs.Blocks.{cell_at_place, plane_of}
use Rattle.codeblock_views.specs.Rectangles.{cells_in, place_in}
use Rattle.codeblock_views.proofs.Cells.{row_within, place_of}

-- the cell at a place of the plane
plane-at : {A : Type 0} (d e : A) (g : Geometry) (c : ℕ) (cells : BlockId → List A) (x y : ℕ) →
    x < g.width → y < g.height →
    get_or (plane_of d g c cells) (y * g.width + x) e ≡ cell_at_place d g c cells x y
unfolding plane_of
plane-at d e g c cells x y across down =
    let inside = row_within y g.height g.width down in
    let column : (y * g.width + x) % g.width ≡ x = mod-mul-add y g.width x across in
    let row : (y * g.width + x) / g.width ≡ y = div-mul-add y g.width x across in
    get_or-map-range_with_len (λ n. cell_at_place d g c cells (n % g.width) (n / g.width)) 0
    (g.height * g.width)
    (y * g.width + x) (y * g.width + x) e (omega (arith, inside, across)) (omega arith)
    ∙ rw (column, row) refl

pub in_its_band : (g : Geometry) (id : BlockId) (x y : ℕ) → IsBlock g id →
    IsPlaceIn (block_of g id) x y →
    IsPlaceIn (band_of g id.res id.orient) x y
in_its_band g id x y is place = record {
  left = omega (arith, place.left);
  right = omega (arith, place.left, place.right);
  top = omega (arith, place.top);
  bottom = omega (arith, place.top, place.bottom);
}

-- the cell of a block in one of its columns and rows
block-at : {A : Type 0} (d e : A) (g : Geometry) (cells : BlockId → List A) (id : BlockId)
    (x y : ℕ) → IsBlock g id →
    x < (block_of g id).width → y < (block_of g id).height →
    get_or (plane_of d g id.component cells) (place_in g.width (block_of g id) x y) e
    ≡ get_or (cells id) (y * (block_of g id).width + x) d
block-at d e g cells id x y is column row =
    let r : Rect = block_of g id in
    let place : IsPlaceIn r (r.x + x) (r.y + y) =
    record {
      left = omega arith;
      right = omega (arith, column);
      top = omega arith;
      bottom =
          omega (arith, row);
    } in
    let band = in_its_band g id (r.x + x) (r.y + y) is place in
    let across = column_in_plane g id.res id.orient (r.x + x) (r.y + y) is.band band in
    let down = row_in_plane g id.res id.orient (r.x + x) (r.y + y) is.band band in
    let here : id ≡ block_at_place g id.component (r.x + x) (r.y + y) =
    once g id.component (r.x + x) (r.y + y) id
    (record { exists = is; component = refl; place = place }) in
    let column_is : r.x + x - r.x ≡ x = omega arith in
    let row_is : r.y + y - r.y ≡ y = omega arith in
    plane-at d e g id.component cells (r.x + x) (r.y + y) across down
    ∙ ap (λ b. get_or (cells b) ((r.y + y - (block_of g b).y) * (block_of g b).width +
    (r.x + x - (block_of g b).x)) d) (sym here)
    ∙ ap (λ n. get_or (cells id) (n * r.width + (r.x + x - r.x)) d) row_is
    ∙ ap (λ n. get_or (cells id) (y * r.width + n) d) column_is

pub block_again : {A : Type 0} (g : Geometry) (d : A) (cells : BlockId → List A) (id : BlockId) →
    IsBlock g id →
    length (cells id) ≡ (block_of g id).height * (block_of g id).width →
    cells_in d g.width (block_of g id) (plane_of d g id.component cells) ≡ cells id
unfolding cells_in
block_again g d cells id is len =
    let r : Rect = block_of g id in
    sym (fill_by_all (λ i. get_or (plane_of d g id.component cells)
    (place_in g.width r (i % r.width) (i / r.width)) d)
    (cells id) (r.height * r.width) d len
    (λ k lt. let at = place_of r.width r.height k lt in
    ap (λ n. get_or (cells id) n d) (sym at.is)
    ∙ sym (block-at d d g cells id (k % r.width) (k / r.width) is at.column at.row)))
