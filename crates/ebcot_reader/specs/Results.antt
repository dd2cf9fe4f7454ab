-- What a reader's cells say, in the words of what is known.
use Rattle.std.specs.Prelude.{ℕ, ◌+◌, ◌-◌, ◌*◌, ◌^◌, ◌<◌, ◌≡◌, List, length, get_or, map}
use Rattle.std.specs.Int.{bit_at}
use Rattle.cine_nums.specs.declared.orient.Orient.{Orient}
use Rattle.codeblock_views.specs.declared.known.Known.{Known}
use Rattle.codeblock_views.specs.declared.view_mut.BlockViewMut.{BlockViewMut}
use Rattle.codeblock_views.specs.KnownCells.{known_cells}
use Rattle.ebcot_contexts.specs.Cells.{Cell, cell_at, coef_of}
use Rattle.ebcot_contexts.specs.Contexts.{Shape}
use Rattle.flag_words.specs.Words.{IsIn}

abbrev pub cell_of_known : Known → Cell
cell_of_known k = record { magnitude = k.magnitude; negative = k.negative; unknown = k.unknown }

-- the cells of a view
abbrev pub cells_of : BlockViewMut → List Cell
cells_of view = map cell_of_known (known_cells view)

-- the shape of a code-block, by its view
abbrev pub shape_of : Orient → ℕ → BlockViewMut → Shape
shape_of orient planes view =
    record { orient = orient; width = view.rect.width; height = view.rect.height; planes = planes }

-- Of each place `top` bit-planes are unknown, or one fewer where its word says that it is touched.
abbrev pub AreTops : ℕ → ℕ → List Cell → List ℕ → Type 0
AreTops w top cells words =
    (i column stripe r : ℕ) → IsIn w i column stripe r → 0 < w → i < length cells → r < 4
    → (cell_at cells i).unknown
    ≡ top - bit_at (get_or words (34 * stripe + column) 0) (21 + 3 * r)

-- each magnitude is below 2 ^ 31, with 0 for each unknown bit
abbrev pub AreSmall : List Cell → Type 0
AreSmall cells = (i : ℕ) → (coef_of (cell_at cells i)).0 < 2 ^ 31
