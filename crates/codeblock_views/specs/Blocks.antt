-- A plane that is put together from the cells of its code blocks (ISO/IEC 15444-1, B.7).
use Rattle.std.specs.Prelude.{ℕ, ◌+◌, ◌-◌, ◌*◌, ◌/◌, ◌%◌, List, map, get_or}
use Rattle.std.specs.List.{range_with_len}
use Rattle.band_geometry.specs.Bands.{block_of}
use Rattle.band_geometry.specs.Places.{block_at_place}
use Rattle.band_geometry.specs.declared.geometry.Geometry.{Geometry}
use Rattle.band_geometry.specs.declared.places.BlockId.{BlockId}

-- the cell at a place of component c: that of the block which has the place
abbrev pub cell_at_place : {A : Type 0} → A → Geometry → ℕ → (BlockId → List A) → ℕ → ℕ → A
cell_at_place d g c cells x y =
    let id = block_at_place g c x y in
    let r = block_of g id in
    get_or (cells id) ((y - r.y) * r.width + (x - r.x)) d

-- the plane of component c of a frame whose blocks have these cells
unfoldable pub plane_of : {A : Type 0} → A → Geometry → ℕ → (BlockId → List A) → List A
plane_of d g c cells =
    map (λ n. cell_at_place d g c cells (n % g.width) (n / g.width))
    (range_with_len 0 (g.height * g.width))
