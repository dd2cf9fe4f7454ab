use Rattle.std.proofs.Common.{ℕ, ◌≡◌, ◌<◌, ◌∙◌, ap, refl}
use Rattle.codeblock_views.specs.Views.{view_cells}
use Rattle.codeblock_views.specs.declared.plane.CoefPlane.{CoefPlane}
use Rattle.codeblock_views.specs.declared.view.BlockView.{BlockView}
use Rattle.coded_blocks.specs.Frame.{CanBeCoded}
use Rattle.coded_blocks.proofs.Planes.{of_three, seen}
use Rattle.frame_choice.specs.PriceLaws.{planes_in}
use Rattle.frame_choice.specs.declared.quantised.QuantisedFrame.{QuantisedFrame}
use Rattle.frame_choice.proofs.Demanding.{fits_in}
use Rattle.frame_choice.proofs.blocks.frame_block.Goals as goal

-- what is so of each plane is so of that of a component
of_plane : (P : ℕ → CoefPlane → Type 0) (f : QuantisedFrame) (c : ℕ) (plane : CoefPlane) →
    c < 3 → (c ≡ 0 → plane ≡ f.c0.now) → (c ≡ 1 → plane ≡ f.c1.now) →
    (c ≡ 2 → plane ≡ f.c2.now) → P 0 f.c0.now → P 1 f.c1.now → P 2 f.c2.now → P c plane
of_plane P f c plane below first second third =
    of_three P c plane f.c0.now f.c1.now f.c2.now below first second third

pub of-view-requires-clause-block : goal.of-view-requires-clause-block
of-view-requires-clause-block c =
    let f = c.args.frame.now in
    let g = f.geometry.now in
    let id = c.args.id in
    let plane = c.plane-plane in
    let can = of_plane (λ k p. CanBeCoded g f.steps.now p) f id.component plane.result.now
    c.requires.component plane.ensures.first plane.ensures.second plane.ensures.third f.first
    f.second f.third in
    fits_in g id plane.result.now c.block.result can.size c.block.ensures.value
    (c.assembled.ensures.fits g id c.requires)

pub of-view-requires-clause-small : goal.of-view-requires-clause-small
of-view-requires-clause-small c =
    let f = c.args.frame.now in
    let plane = c.plane-plane in
    let can = of_plane (λ k p. CanBeCoded f.geometry.now f.steps.now p) f c.args.id.component
    plane.result.now c.requires.component plane.ensures.first plane.ensures.second
    plane.ensures.third f.first f.second f.third in
    can.small

pub returns : goal.returns
returns c =
    let f = c.args.frame.now in
    let g = f.geometry.now in
    let id = c.args.id in
    let plane = c.plane-plane in
    let can = of_plane (λ k p. CanBeCoded g f.steps.now p) f id.component plane.result.now
    c.requires.component plane.ensures.first plane.ensures.second plane.ensures.third f.first
    f.second f.third in
    let cells = of_plane (λ k p. planes_in f k ≡ p.cells.items) f id.component plane.result.now
    c.requires.component plane.ensures.first plane.ensures.second plane.ensures.third refl refl
    refl in
    let rect = c.of-view.ensures.rect ∙ c.block.ensures.value in
    let same = c.in_ok-block.ensures.view in
    record {
      rect = ap (λ (v : BlockView). v.rect) same ∙ rect;
      cells = ap view_cells same ∙ seen g (planes_in f) id plane.result.now c.of-view.result
          c.of-view.ensures.plane rect can.size.width cells;
      band = c.in_ok-block.ensures.orient;
    }
