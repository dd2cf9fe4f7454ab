use Rattle.std.proofs.Common.{ℕ, ◌*◌, ◌<◌, ◌≡◌, List, length, get_or}
use Rattle.codeblock_views.specs.KnownCells.{zero_known, known_cells}
use Rattle.codeblock_views.specs.Rectangles.{IsOutside}
use Rattle.codeblock_views.specs.declared.known.Known.{Known}
use Rattle.ebcot_contexts.specs.Cells.{Cell, cell_at}
use Rattle.ebcot_reader.specs.Reading.{AreKnown}
use Rattle.ebcot_reader.specs.Results.{cell_of_known, AreTops, AreSmall}
use Rattle.ebcot_reader.proofs.show.show.Given as goal

abbrev pub invariant-loop-i : goal.invariant-loop-i
invariant-loop-i l = record {
  done : (cells : List Cell)
      → length cells ≡ l.initial.out.rect.width * l.initial.out.rect.height
      → AreKnown l.initial.out.rect.width cells l.grid
      → AreTops l.initial.out.rect.width l.top cells l.words → AreSmall cells
      → (k : ℕ) → k < l.i
      → cell_of_known (get_or (known_cells l.out) k zero_known) ≡ cell_at cells k;
  outside : (k : ℕ) (d : Known) → IsOutside l.initial.out.plane.now.width l.initial.out.rect k
      → get_or l.out.plane.now.cells.items k d ≡ get_or l.initial.out.plane.now.cells.items k d;
  size : (l.out.plane.now.width ≡ l.initial.out.plane.now.width)
      × (l.out.plane.now.height ≡ l.initial.out.plane.now.height);
  rect : l.out.rect ≡ l.initial.out.rect;
  same_reference : l.out.plane.ghost_name ≡ l.initial.out.plane.ghost_name;
}
