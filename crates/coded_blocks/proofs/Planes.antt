-- The cells of a block, and how many bit-planes they have.
use Rattle.std.proofs.Common.{◌≡◌, ℕ, zero, suc, ◌+◌, ◌*◌, ◌/◌, ◌%◌, ◌^◌, ◌<◌, ◌≤◌, List, [], ◌∷◌}
use Rattle.std.proofs.Common.{get_or, map, arith, sym, subst, ap, refl, ◌∙◌, inl, inr}
use Rattle.std.specs.List.{All, range_with_len}
use Rattle.std.proofs.lemmas.Bool.{cases_lt}
use Rattle.std.proofs.lemmas.List.Elements.{All-from_get_or, All-head, All-tail}
use Rattle.std.proofs.lemmas.List.FromFn.{get_or-map-range_with_len, length-map-range_with_len}
use Rattle.std.proofs.lemmas.Nat.{div_below, mod_below, pow_pos}
use Rattle.band_geometry.specs.Bands.{IsBlock, IsPlaceIn, block_of, band_of}
use Rattle.band_geometry.specs.declared.geometry.Geometry.{Geometry}
use Rattle.band_geometry.specs.declared.places.BlockId.{BlockId}
use Rattle.band_geometry.specs.declared.places.Rect.{Rect}
use Rattle.cine_nums.proofs.BitLength.{bit_len-within}
use Rattle.codeblock_views.specs.Magnitudes.{largest, block_planes}
use Rattle.codeblock_views.specs.Rectangles.{cells_in, place_in}
use Rattle.codeblock_views.specs.Views.{view_cells}
use Rattle.codeblock_views.specs.declared.plane.CoefPlane.{CoefPlane}
use Rattle.codeblock_views.specs.declared.view.BlockView.{BlockView}
use Rattle.dz_quantiser.specs.Bands.{band_planes}
use Rattle.dz_quantiser.specs.Coefficient.{Coefficient, zero_coefficient}
use Rattle.dz_quantiser.specs.declared.steps.StepSizes.{StepSizes}
use Rattle.profile_reader.specs.Chosen.{Planes, block_cells}
use Rattle.coded_blocks.specs.Frame.{CanBeCoded}

-- the cells of a view of a block are the block's
pub seen : (g : Geometry) (planes : Planes) (id : BlockId) (plane : CoefPlane) (view : BlockView) →
    view.plane.now ≡ plane → view.rect ≡ block_of g id → plane.width ≡ g.width →
    planes id.component ≡ plane.cells.items → view_cells view ≡ block_cells g planes id
unfolding block_cells
seen g planes id plane view viewed rect width cells =
    ap (λ p. cells_in zero_coefficient p.width view.rect p.cells.items) viewed
    ∙ ap (λ r. cells_in zero_coefficient plane.width r plane.cells.items) rect
    ∙ ap (λ w. cells_in zero_coefficient w (block_of g id) plane.cells.items) width
    ∙ ap (cells_in zero_coefficient g.width (block_of g id)) (sym cells)

largest-below : (qs : List Coefficient) (n : ℕ) → 0 < n → All (λ q. q.magnitude < n) qs →
    largest qs < n
largest-below [] n some each = some
largest-below (q ∷ qs) n some each =
    let is_below : Coefficient → Type 0 = λ p. p.magnitude < n in
    let first : q.magnitude < n = All-head is_below q qs each in
    let rest = largest-below qs n some (All-tail is_below q qs each) in
    omega (arith, first, rest)

-- a place of a rectangle
some-width : (w h i : ℕ) → i < h * w → 0 < w
some-width zero h i lt = absurd (omega (arith, lt))
some-width (suc w) h i lt = omega arith

place-in : (r : Rect) (i : ℕ) → i < r.height * r.width →
    IsPlaceIn r (r.x + i % r.width) (r.y + i / r.width)
place-in r i lt =
    let some = some-width r.width r.height i lt in
    let column = mod_below i r.width some in
    let row = div_below i r.width r.height some lt in
    record {
      left = omega arith;
      right = omega (arith, column);
      top = omega arith;
      bottom = omega (arith, row);
    }

in-its-band : (g : Geometry) (id : BlockId) (x y : ℕ) → IsBlock g id →
    IsPlaceIn (block_of g id) x y → IsPlaceIn (band_of g id.res id.orient) x y
in-its-band g id x y is place = record {
  left = omega (arith, place.left);
  right = omega (arith, place.left, place.right);
  top = omega (arith, place.top);
  bottom = omega (arith, place.top, place.bottom);
}

-- a block has at most the bit-planes of its band
pub few_planes : (g : Geometry) (steps : StepSizes) (planes : Planes) (id : BlockId)
    (plane : CoefPlane) → IsBlock g id → CanBeCoded g steps plane →
    planes id.component ≡ plane.cells.items →
    block_planes (block_cells g planes id) ≤ band_planes steps id.res id.orient
unfolding block_cells cells_in
few_planes g steps planes id plane is can cells =
    let r = block_of g id in
    let most = 2 ^ band_planes steps id.res id.orient in
    let at : ℕ → Coefficient =
    λ i. get_or plane.cells.items (place_in g.width r (i % r.width) (i / r.width)) zero_coefficient
    in
    let own = map at (range_with_len 0 (r.height * r.width)) in
    let each : All (λ q. q.magnitude < most) own =
    All-from_get_or (λ q. q.magnitude < most) own zero_coefficient
    (λ i lt.
    let inside : i < r.height * r.width =
    subst (λ n. i < n) (length-map-range_with_len at 0 (r.height * r.width)) lt in
    let place = in-its-band g id _ _ is (place-in r i inside) in
    subst (λ q. q.magnitude < most)
    (sym (get_or-map-range_with_len at 0 (r.height * r.width) i i zero_coefficient inside
    (omega arith)))
    (can.below id.res id.orient _ _ is.band place)) in
    let largest_is : largest own < most = largest-below own most (pow_pos _) each in
    let bits = bit_len-within (largest own) (band_planes steps id.res id.orient) largest_is in
    subst (λ cs. block_planes (map (λ i. get_or cs (place_in g.width r (i % r.width) (i / r.width))
    zero_coefficient) (range_with_len 0 (r.height * r.width))) ≤ band_planes steps id.res id.orient)
    (sym cells) bits

-- what is true of each of three planes is true of the plane of a component
pub of_three : (P : ℕ → CoefPlane → Type 0) (c : ℕ) (plane c0 c1 c2 : CoefPlane) → c < 3 →
    (c ≡ 0 → plane ≡ c0) → (c ≡ 1 → plane ≡ c1) → (c ≡ 2 → plane ≡ c2) →
    P 0 c0 → P 1 c1 → P 2 c2 → P c plane
of_three P zero plane c0 c1 c2 lt is0 is1 is2 p0 p1 p2 = subst (P 0) (sym (is0 refl)) p0
of_three P (suc zero) plane c0 c1 c2 lt is0 is1 is2 p0 p1 p2 = subst (P 1) (sym (is1 refl)) p1
of_three P (suc (suc zero)) plane c0 c1 c2 lt is0 is1 is2 p0 p1 p2 = subst (P 2) (sym (is2 refl)) p2
of_three P (suc (suc (suc c))) plane c0 c1 c2 lt is0 is1 is2 p0 p1 p2 = absurd (omega (arith, lt))

-- the block of any component
pub few_planes_of : (g : Geometry) (steps : StepSizes) (planes : Planes) (c0 c1 c2 : CoefPlane) →
    CanBeCoded g steps c0 → CanBeCoded g steps c1 → CanBeCoded g steps c2 →
    planes 0 ≡ c0.cells.items → planes 1 ≡ c1.cells.items → planes 2 ≡ c2.cells.items →
    (b : BlockId) → IsBlock g b →
    block_planes (block_cells g planes b) ≤ band_planes steps b.res b.orient
few_planes_of g steps planes c0 c1 c2 can0 can1 can2 cells0 cells1 cells2 b is =
    elim (cases_lt b.component 1) [
      | inl lt ↦ few_planes g steps planes b c0 is can0 (ap planes (omega (arith, lt)) ∙ cells0)
      | inr le ↦ elim (cases_lt b.component 2) [
        | inl lt' ↦
            few_planes g steps planes b c1 is can1 (ap planes (omega (arith, le, lt')) ∙ cells1)
        | inr le' ↦
            few_planes g steps planes b c2 is can2
            (ap planes (omega (arith, le', is.component)) ∙ cells2)
      ]
    ]
