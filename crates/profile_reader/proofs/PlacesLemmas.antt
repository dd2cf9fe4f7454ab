-- What is read at a place.
use Rattle.std.proofs.Common.{◌≡◌, ℕ, zero, suc, ◌+◌, ◌-◌, ◌*◌, ◌/◌, ◌%◌, ◌<◌, ◌≤◌, Bool, false}
use Rattle.std.proofs.Common.{List, [], ◌∷◌, map, length, get_or, refl, sym, ap, subst, ◌∙◌, arith}
use Rattle.std.proofs.lemmas.List.{length-map, get_or-map}
use Rattle.std.proofs.lemmas.List.FromFn.{get_or-map-range_with_len}
use Rattle.std.proofs.lemmas.Nat.{div-mul-add, mod-mul-add}
use Rattle.band_geometry.specs.Bands.{block_of}
use Rattle.band_geometry.specs.Places.{block_at_place, IsBlockAt}
use Rattle.band_geometry.specs.declared.geometry.Geometry.{Geometry}
use Rattle.band_geometry.specs.declared.places.BlockId.{BlockId}
use Rattle.band_geometry.proofs.BlockPlaces.{somewhere}
use Rattle.codeblock_views.specs.Blocks.{plane_of, cell_at_place}
use Rattle.codeblock_views.specs.KnownCells.{zero_known}
use Rattle.codeblock_views.specs.Rectangles.{place_in}
use Rattle.codeblock_views.specs.RectangleLaws.{cells_in-length}
use Rattle.codeblock_views.specs.declared.known.Known.{Known}
use Rattle.codeblock_views.proofs.Cells.{row_within, cells_in-at}
use Rattle.dz_quantiser.specs.Bands.{band_planes}
use Rattle.dz_quantiser.specs.Coefficient.{Coefficient, zero_coefficient}
use Rattle.dz_quantiser.specs.declared.steps.StepSizes.{StepSizes}
use Rattle.ebcot_contexts.specs.Cells.{Cell, fresh, coef_at, cell_of, view}
use Rattle.profile_reader.specs.Chosen.{Planes, block_cells, block_coefs, chosen}
use Rattle.profile_reader.specs.Reads.{known_of}
use Rattle.profile_reader.specs.Shown.{chosen_read, chosen_unknown, chosen_cells, IsCut}
use Rattle.profile_reader.specs.Shown.{chosen_decoding, unknown_at, DecodesTo}
use Rattle.profile_reader.proofs.ChosenLemmas.{CodeLaws, chosen_means}
use Rattle.profile_reader.proofs.PlaneLemmas.{plane_again, meaning_length}

-- the cell at a place of a plane that is put together
plane-at : (g : Geometry) (c : ℕ) (cells : BlockId → List Known) (x y : ℕ) → x < g.width →
    y < g.height →
    get_or (plane_of zero_known g c cells) (y * g.width + x) zero_known
    ≡ cell_at_place zero_known g c cells x y
unfolding plane_of
plane-at g c cells x y across down =
    let inside = row_within y g.height g.width down in
    let column : (y * g.width + x) % g.width ≡ x = mod-mul-add y g.width x across in
    let row : (y * g.width + x) / g.width ≡ y = div-mul-add y g.width x across in
    get_or-map-range_with_len
    (λ n. cell_at_place zero_known g c cells (n % g.width) (n / g.width)) 0 (g.height * g.width)
    (y * g.width + x) (y * g.width + x) zero_known (omega (arith, inside, across)) (omega arith)
    ∙ ap (λ n. cell_at_place zero_known g c cells n ((y * g.width + x) / g.width)) column
    ∙ ap (cell_at_place zero_known g c cells x) row

-- a cell of a view
view-at : (coefs : List (ℕ × Bool)) (us : List ℕ) (i : ℕ) (d : Cell) → i < length (view coefs us) →
    get_or (view coefs us) i d ≡ cell_of (coef_at coefs i) (get_or us i 0)
view-at [] us i d within = absurd (omega (arith, within))
view-at (m ∷ ms) [] i d within = absurd (omega (arith, within))
view-at (m ∷ ms) (u ∷ us) zero d within = refl
view-at (m ∷ ms) (u ∷ us) (suc i) d within = view-at ms us i d (omega (arith, within))

known-at : (coefs : List (ℕ × Bool)) (us : List ℕ) (i : ℕ) →
    i < length (map known_of (view coefs us)) →
    get_or (map known_of (view coefs us)) i zero_known
    ≡ known_of (cell_of (coef_at coefs i) (get_or us i 0))
known-at coefs us i within =
    let inside : i < length (view coefs us) = omega
    (arith, within, length-map (view coefs us) known_of) in
    get_or-map known_of (view coefs us) i (fresh 0) zero_known inside
    ∙ ap known_of (view-at coefs us i (fresh 0) inside)

-- a coefficient of a block
coef-at : (g : Geometry) (planes : Planes) (b : BlockId) (x y : ℕ) → x < (block_of g b).width →
    y < (block_of g b).height →
    coef_at (block_coefs g planes b) (y * (block_of g b).width + x)
    ≡ (let q = get_or (planes b.component) (place_in g.width (block_of g b) x y) zero_coefficient in
    (q.magnitude, q.negative))
unfolding block_cells
coef-at g planes b x y column row =
    let r = block_of g b in
    let inside = row_within y r.height r.width row in
    get_or-map (λ (q : Coefficient). (q.magnitude, q.negative)) (block_cells g planes b)
    (y * r.width + x) zero_coefficient (0, false)
    (omega (
      arith,
      inside,
      column,
      cells_in-length zero_coefficient g.width r (planes b.component),
    ))
    ∙ ap (λ (q : Coefficient). (q.magnitude, q.negative))
    (cells_in-at zero_coefficient zero_coefficient g.width r (planes b.component) x y column row)

cut : (q : Coefficient) (u : ℕ) → IsCut q u (known_of (cell_of (q.magnitude, q.negative) u))
cut q u = record { magnitude = refl; sign = refl; unknown_is = refl }

-- the cell at a place of a block
block-at : (g : Geometry) (steps : StepSizes) (planes : Planes) (choice : List ℕ) (b : BlockId)
    (x y : ℕ) →
    length (chosen_cells g steps planes choice b)
    ≡ (block_of g b).height * (block_of g b).width →
    x < (block_of g b).width → y < (block_of g b).height →
    IsCut (get_or (planes b.component) (place_in g.width (block_of g b) x y) zero_coefficient)
    (get_or (chosen_unknown g steps planes choice b) (y * (block_of g b).width + x) 0)
    (get_or (chosen_cells g steps planes choice b) (y * (block_of g b).width + x) zero_known)
unfolding chosen_cells
block-at g steps planes choice b x y long column row =
    let r = block_of g b in
    let i = y * r.width + x in
    let us = chosen_unknown g steps planes choice b in
    let q = get_or (planes b.component) (place_in g.width r x y) zero_coefficient in
    let inside = row_within y r.height r.width row in
    let same : get_or (map known_of (view (block_coefs g planes b) us)) i zero_known
    ≡ known_of (cell_of (q.magnitude, q.negative) (get_or us i 0)) =
    known-at (block_coefs g planes b) us i (omega (arith, inside, column, long))
    ∙ ap (λ m. known_of (cell_of m (get_or us i 0))) (coef-at g planes b x y column row) in
    subst (IsCut q (get_or us i 0)) (sym same) (cut q (get_or us i 0))

pub decodes_to : CodeLaws → DecodesTo
decodes_to laws g steps planes choice can c x y component across down =
    let b = block_at_place g c x y in
    let r = block_of g b in
    let at : IsBlockAt g c x y b = somewhere g c x y component across down in
    let place = at.place in
    let means = chosen_means laws g steps planes choice can b at.exists in
    let cells = chosen_cells g steps planes choice in
    let long = meaning_length g (band_planes steps b.res b.orient) b
    (chosen g steps planes choice b) (chosen_read g steps planes choice b) (cells b) means in
    let there : (r.y + (y - r.y)) * g.width + (r.x + (x - r.x)) ≡ y * g.width + x =
    ap (λ n. n * g.width + (r.x + (x - r.x))) (back r.y y place.top)
    ∙ ap (λ n. y * g.width + n) (back r.x x place.left) in
    let is : get_or (get_or (chosen_decoding g steps planes choice).planes c []) (y * g.width + x)
    zero_known ≡ cell_at_place zero_known g c cells x y =
    ap (λ p. get_or p (y * g.width + x) zero_known)
    (plane_again g steps (chosen g steps planes choice) (chosen_read g steps planes choice)
    cells c component)
    ∙ plane-at g c cells x y across down in
    subst (IsCut (get_or (planes c) (y * g.width + x) zero_coefficient)
    (unknown_at g steps planes choice c x y)) (sym is)
    (subst (λ n. IsCut (get_or (planes c) n zero_coefficient)
    (unknown_at g steps planes choice c x y) (cell_at_place zero_known g c cells x y)) there
    (block-at g steps planes choice b (x - r.x) (y - r.y) long
    (omega (arith, place.left, place.right)) (omega (arith, place.top, place.bottom))))
  where
    back : (a n : ℕ) → a ≤ n → a + (n - a) ≡ n
    back a n le = omega (arith, le)
