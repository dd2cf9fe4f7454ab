-- The cells of a block stay where another block of its component is set.
use Rattle.std.proofs.Common.{◌≡◌, ℕ, ◌+◌, ◌*◌, ◌/◌, ◌%◌, ◌<◌, List, get_or}
use Rattle.std.proofs.Common.{refl, sym, ap, subst, ◌∙◌, arith}
use Rattle.std.proofs.lemmas.List.{ext_get_or}
use Rattle.std.proofs.lemmas.Nat.{div-mul-add, mod-mul-add}
use Rattle.band_geometry.proofs.BlockPlaces.{once}
use Rattle.band_geometry.specs.Bands.{IsBlock, IsPlaceIn, block_of}
use Rattle.band_geometry.specs.Places.{IsBlockAt}
use Rattle.band_geometry.specs.declared.geometry.Geometry.{Geometry}
use Rattle.band_geometry.specs.declared.places.BlockId.{BlockId}
use Rattle.band_geometry.specs.declared.places.Rect.{Rect}
use Rattle.codeblock_views.specs.KnownCells.{zero_known}
use Rattle.codeblock_views.specs.RectangleLaws.{cells_in-length}
use Rattle.codeblock_views.specs.Rectangles.{cells_in, place_in, IsOutside}
use Rattle.codeblock_views.specs.declared.known.Known.{Known}
use Rattle.codeblock_views.proofs.Cells.{cells_in-at, place_of}
use Rattle.codeblock_views.proofs.Fits.{block_fits}

-- the place of a rectangle's column and row
place_at : (r : Rect) (x y : ℕ) → x < r.width → y < r.height → IsPlaceIn r (r.x + x) (r.y + y)
place_at r x y column row = record {
  left = omega arith;
  right = omega (arith, column);
  top = omega arith;
  bottom = omega (arith, row);
}

-- a place of one block is none of another
outside : (g : Geometry) (a b : BlockId) → IsBlock g a → IsBlock g b →
    a.component ≡ b.component → (a ≡ b → ⊥) → (x y : ℕ) → x < (block_of g a).width →
    y < (block_of g a).height →
    IsOutside g.width (block_of g b) (place_in g.width (block_of g a) x y)
outside g a b is also component other x y column row x' y' column' row' same =
    let r : Rect = block_of g a in
    let s : Rect = block_of g b in
    let fits = block_fits g a is in
    let fits' = block_fits g b also in
    let across : r.x + x < g.width = omega (arith, column, fits.right) in
    let across' : s.x + x' < g.width = omega (arith, column', fits'.right) in
    let columns : r.x + x ≡ s.x + x' =
    sym (mod-mul-add (r.y + y) g.width (r.x + x) across) ∙ ap (λ n. n % g.width) same
    ∙ mod-mul-add (s.y + y') g.width (s.x + x') across' in
    let rows : r.y + y ≡ s.y + y' =
    sym (div-mul-add (r.y + y) g.width (r.x + x) across) ∙ ap (λ n. n / g.width) same
    ∙ div-mul-add (s.y + y') g.width (s.x + x') across' in
    let here : IsBlockAt g a.component (r.x + x) (r.y + y) a =
    record { exists = is; component = refl; place = place_at r x y column row } in
    let there : IsBlockAt g a.component (r.x + x) (r.y + y) b =
    record {
      exists = also;
      component = sym component;
      place = subst (λ n. IsPlaceIn s (r.x + x) n) (sym rows)
          (subst (λ n. IsPlaceIn s n (s.y + y')) (sym columns) (place_at s x' y' column' row'));
    } in
    other (once g a.component (r.x + x) (r.y + y) a here
    ∙ sym (once g a.component (r.x + x) (r.y + y) b there))

pub cells_kept : (g : Geometry) (a b : BlockId) (old new : List Known) → IsBlock g a →
    IsBlock g b → a.component ≡ b.component → (a ≡ b → ⊥) →
    ((k : ℕ) (d : Known) → IsOutside g.width (block_of g b) k → get_or new k d ≡ get_or old k d) →
    cells_in zero_known g.width (block_of g a) new ≡ cells_in zero_known g.width (block_of g a) old
cells_kept g a b old new is also component other stay =
    let r : Rect = block_of g a in
    ext_get_or zero_known (cells_in zero_known g.width r new) (cells_in zero_known g.width r old)
    (cells_in-length zero_known g.width r new ∙ sym (cells_in-length zero_known g.width r old))
    (λ k within.
    let inside : k < r.height * r.width =
    subst (λ n. k < n) (cells_in-length zero_known g.width r new) within in
    let at = place_of r.width r.height k inside in
    let x = k % r.width in
    let y = k / r.width in
    ap (λ n. get_or (cells_in zero_known g.width r new) n zero_known) (sym at.is)
    ∙ cells_in-at zero_known zero_known g.width r new x y at.column at.row
    ∙ stay (place_in g.width r x y) zero_known
    (outside g a b is also component other x y at.column at.row)
    ∙ sym (cells_in-at zero_known zero_known g.width r old x y at.column at.row)
    ∙ ap (λ n. get_or (cells_in zero_known g.width r old) n zero_known) at.is)

-- a place is outside of a rectangle that is the same
pub outside_again : (w v : ℕ) (r s : Rect) (k : ℕ) → w ≡ v → r ≡ s → IsOutside v s k →
    IsOutside w r k
outside_again w v r s k same is out =
    subst (λ n. IsOutside n r k) (sym same) (subst (λ t. IsOutside v t k) (sym is) out)
