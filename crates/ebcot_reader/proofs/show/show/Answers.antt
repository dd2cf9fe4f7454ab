use Rattle.std.proofs.Common.{ℕ, ◌≡◌, ◌+◌, ◌*◌, ◌/◌, ◌%◌, ◌<◌, List, length, get_or, refl, sym}
use Rattle.std.proofs.Common.{ap, ◌∙◌, subst, arith}
use Rattle.std.proofs.lemmas.Nat.{div-add-mod', mod_below}
use Rattle.band_geometry.specs.declared.places.Rect.{Rect}
use Rattle.codeblock_views.specs.KnownCells.{zero_known, known_cells}
use Rattle.codeblock_views.specs.RectangleLaws.{cells_in-length}
use Rattle.codeblock_views.specs.Rectangles.{IsOutside}
use Rattle.codeblock_views.specs.declared.known.Known.{Known}
use Rattle.codeblock_views.specs.declared.view_mut.BlockViewMut.{BlockViewMut}
use Rattle.ebcot_contexts.specs.Cells.{cell_at}
use Rattle.ebcot_reader.specs.Results.{cell_of_known}
use Rattle.ebcot_reader.proofs.Showing.{cells_more, cells_all}
use Rattle.ebcot_reader.proofs.show.show.Goals as goal

-- how many cells a view has
view_length : (view : BlockViewMut) → length (known_cells view) ≡ view.rect.height * view.rect.width
view_length view = cells_in-length zero_known view.plane.now.width view.rect
    view.plane.now.cells.items

pub loop-i-init : goal.loop-i-init
loop-i-init g = record {
  done = λ cells long known tops small k few. absurd (omega arith);
  outside = λ k d out. refl;
  size = (refl, refl);
  rect = refl;
  same_reference = refl;
}

pub loop-i-preserved : goal.loop-i-preserved
loop-i-preserved g =
    let inv = g.loop-i.invariant in
    let out : BlockViewMut = g.loop-i.out in
    let i : ℕ = g.loop-i.i in
    let wide : g.width-width.result ≡ g.args.out.now.rect.width = g.width-width.ensures in
    let high : g.height-height.result ≡ g.args.out.now.rect.height = g.height-height.ensures in
    let x : ℕ = i % g.width-width.result in
    let y : ℕ = i / g.width-width.result in
    record {
      done = λ cells long known tops small k few.
          let w : ℕ = g.args.out.now.rect.width in
          let rect_wide : out.rect.width ≡ w = ap (λ (r : Rect). r.width) inv.rect in
          let rect_high : out.rect.height ≡ g.args.out.now.rect.height =
          ap (λ (r : Rect). r.height) inv.rect in
          let now : y * w + x ≡ i =
          ap (λ (v : ℕ). y * v + x) (sym wide) ∙ div-add-mod' i g.width-width.result in
          let at : y * out.rect.width + x ≡ i = ap (λ (v : ℕ). y * v + x) rect_wide ∙ now in
          let total : out.rect.height * out.rect.width
          ≡ g.height-height.result * g.width-width.result =
          (λ j. (rect_high ∙ sym high) j * (rect_wide ∙ sym wide) j) in
          let count = view_length out in
          let room = g.loop-i-test.true in
          let within : i < length (known_cells out) = omega arith in
          let all : w * g.args.out.now.rect.height ≡ g.width-width.result * g.height-height.result =
          (λ j. sym wide j * sym high j) in
          let column : x < w = subst (λ (v : ℕ). x < v) wide
          (mod_below i g.width-width.result (omega arith)) in
          let cell = g.known_at-cell.ensures w cells column (omega arith) known tops small in
          subst (λ (ks : List Known). cell_of_known (get_or ks k zero_known) ≡ cell_at cells k)
          (sym g.set.ensures.cells)
          (cells_more (known_cells out) cells i (y * out.rect.width + x) g.known_at-cell.result at
          within (cell ∙ ap (cell_at cells) (now ∙ sym at))
          (inv.done cells long known tops small) k few);
      outside = λ k d out_of.
          g.set.ensures.outside k d
          (subst (λ (v : ℕ). IsOutside v out.rect k) (sym inv.size.0)
          (subst (λ (r : Rect). IsOutside g.args.out.now.plane.now.width r k) (sym inv.rect)
          out_of))
          ∙ inv.outside k d out_of;
      size = (g.set.ensures.size.0 ∙ inv.size.0, g.set.ensures.size.1 ∙ inv.size.1);
      rect = g.set.ensures.rect ∙ inv.rect;
      same_reference = g.set.ensures.same_reference ∙ inv.same_reference;
    }

pub returns-clause-cells : goal.returns-clause-cells
returns-clause-cells g = λ cells long known tops small.
    let inv = g.loop-i.invariant in
    let out : BlockViewMut = g.loop-i.out in
    let wide : g.width-width.result ≡ g.args.out.now.rect.width = g.width-width.ensures in
    let high : g.height-height.result ≡ g.args.out.now.rect.height = g.height-height.ensures in
    let total : out.rect.height * out.rect.width
    ≡ g.args.out.now.rect.height * g.args.out.now.rect.width =
    ap (λ (r : Rect). r.height * r.width) inv.rect in
    let all : g.args.out.now.rect.width * g.args.out.now.rect.height
    ≡ g.width-width.result * g.height-height.result = (λ j. sym wide j * sym high j) in
    let count = view_length out in
    let past = g.loop-i-test.false in
    let end = g.loop-i.auto.i-end in
    cells_all (known_cells out) cells (omega arith)
    (λ k within. inv.done cells long known tops small k (omega arith))
