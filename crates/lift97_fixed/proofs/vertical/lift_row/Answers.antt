use Rattle.std.proofs.Common.{◌≡◌, ◌+◌, ◌*◌, ◌<◌, ◌++◌, ℕ, ℤ, pos, List, length, take}
use Rattle.std.proofs.Common.{drop, arith, ap, sym, subst, ◌∙◌, inl, inr}
use Rattle.std.proofs.lemmas.Bool.{cases_eq}
use Rattle.std.proofs.lemmas.List.{length-take}
use Rattle.std.proofs.lemmas.List.Elements.{All-append, All-drop, All-take, All-from_get_or}
use Rattle.std.specs.List.{All}
use Rattle.cine_nums.specs.Fixed.{Within30}
use Rattle.lift97_fixed.specs.Line.{at, lifted}
use Rattle.lift97_fixed.specs.Plane.{cell}
use Rattle.lift97_fixed.proofs.Casts.{passed_fits}
use Rattle.lift97_fixed.proofs.RowParts.{parts_are, rows_after, mid_at, other_row, new_at, rest_at}
use Rattle.lift97_fixed.proofs.RowParts.{new_count, first_at}
use Rattle.lift97_fixed.proofs.vertical.lift_row.Goals as goal

pub row_beside-above-requires-clause-there : goal.row_beside-above-requires-clause-there
row_beside-above-requires-clause-there c = λ lt.
    omega (arith, rows_after c.args.above c.args.y c.args.stride lt, c.requires.above.0)

pub row_beside-below-requires-clause-there : goal.row_beside-below-requires-clause-there
row_beside-below-requires-clause-there c = λ lt.
    omega (arith, rows_after c.args.below c.args.y c.args.stride lt, c.requires.below.0)

pub lift_line-requires-clause-above : goal.lift_line-requires-clause-above
lift_line-requires-clause-above c =
    let first = c.split_at_mut-before.ensures in
    let second = c.split_at_mut-here.ensures in
    let before : List ℤ = c.split_at_mut-before.result.0.now in
    let here : List ℤ = c.split_at_mut-here.result.0.now in
    let after : List ℤ = c.split_at_mut-here.result.1.now in
    let whole : before ++ (here ++ after) ≡ c.args.cells.now =
    parts_are c.args.cells.now before c.split_at_mut-before.result.1.now here after
    (c.args.y * c.args.stride) c.args.stride
    first.front first.back second.front second.back in
    let here_count : length here ≡ c.args.stride = omega arith in
    All-from_get_or Within30 c.row_beside-above.result.now (pos 0) (λ k lt.
    let inside : k < c.args.width = omega (arith, lt, c.row_beside-above.ensures.count) in
    let is : at c.row_beside-above.result.now k
    ≡ cell c.args.stride c.args.cells.now k c.args.above =
    c.row_beside-above.ensures.cells here k here_count inside
    ∙ ap (λ l. cell c.args.stride l k c.args.above) whole in
    subst Within30 (sym is)
    (c.requires.cells (c.args.above * c.args.stride + k) (pos 0)
    (omega (arith, inside, c.requires.width, c.requires.above.0))))

pub lift_line-requires-clause-below : goal.lift_line-requires-clause-below
lift_line-requires-clause-below c =
    let first = c.split_at_mut-before.ensures in
    let second = c.split_at_mut-here.ensures in
    let before : List ℤ = c.split_at_mut-before.result.0.now in
    let here : List ℤ = c.split_at_mut-here.result.0.now in
    let after : List ℤ = c.split_at_mut-here.result.1.now in
    let whole : before ++ (here ++ after) ≡ c.args.cells.now =
    parts_are c.args.cells.now before c.split_at_mut-before.result.1.now here after
    (c.args.y * c.args.stride) c.args.stride
    first.front first.back second.front second.back in
    let here_count : length here ≡ c.args.stride = omega arith in
    All-from_get_or Within30 c.row_beside-below.result.now (pos 0) (λ k lt.
    let inside : k < c.args.width = omega (arith, lt, c.row_beside-below.ensures.count) in
    let is : at c.row_beside-below.result.now k
    ≡ cell c.args.stride c.args.cells.now k c.args.below =
    c.row_beside-below.ensures.cells here k here_count inside
    ∙ ap (λ l. cell c.args.stride l k c.args.below) whole in
    subst Within30 (sym is)
    (c.requires.cells (c.args.below * c.args.stride + k) (pos 0)
    (omega (arith, inside, c.requires.width, c.requires.below.0))))

pub returns-clause-done : goal.returns-clause-done
returns-clause-done c = λ x lt.
    let first = c.split_at_mut-before.ensures in
    let second = c.split_at_mut-here.ensures in
    let before : List ℤ = c.split_at_mut-before.result.0.now in
    let here : List ℤ = c.split_at_mut-here.result.0.now in
    let after : List ℤ = c.split_at_mut-here.result.1.now in
    let whole : before ++ (here ++ after) ≡ c.args.cells.now =
    parts_are c.args.cells.now before c.split_at_mut-before.result.1.now here after
    (c.args.y * c.args.stride) c.args.stride
    first.front first.back second.front second.back in
    let here_count : length here ≡ c.args.stride = omega arith in
    let new : List ℤ = c.lift_line.new.line in
    let count : length new ≡ c.args.width =
    omega (arith, length-take c.args.width here, c.lift_line.auto.line, here_count, c.requires.width) in
    let line : List ℤ = new ++ drop c.args.width here in
    let line_count : length line ≡ c.args.stride =
    new_count c.args.width c.args.stride new here c.requires.width count here_count in
    let left : ℤ = cell c.args.stride c.args.cells.now x c.args.above in
    let right : ℤ = cell c.args.stride c.args.cells.now x c.args.below in
    let above_at : at c.row_beside-above.result.now x ≡ left =
    c.row_beside-above.ensures.cells here x here_count lt
    ∙ ap (λ l. cell c.args.stride l x c.args.above) whole in
    let below_at : at c.row_beside-below.result.now x ≡ right =
    c.row_beside-below.ensures.cells here x here_count lt
    ∙ ap (λ l. cell c.args.stride l x c.args.below) whole in
    let centre : at (take c.args.width here) x ≡ cell c.args.stride c.args.cells.now x c.args.y =
    first_at c.args.width x here lt
    ∙ sym (mid_at c.args.stride c.args.y x before here after
    (omega (arith, lt, c.requires.width, here_count)) (omega arith))
    ∙ ap (λ l. cell c.args.stride l x c.args.y) whole in
    let inside : x < length (take c.args.width here) =
    omega (arith, lt, length-take c.args.width here, here_count, c.requires.width) in
    mid_at c.args.stride c.args.y x before line after
    (omega (arith, lt, line_count, c.requires.width)) (omega arith)
    ∙ new_at c.args.width x new here lt count
    ∙ c.lift_line.ensures.value x inside
    ∙ rw (centre, above_at, below_at)
    (ap (λ z. lifted z (cell c.args.stride c.args.cells.now x c.args.y) left right)
    (passed_fits c.args.c c.ranges.c))

pub returns-clause-kept : goal.returns-clause-kept
returns-clause-kept c = λ x row column other.
    let first = c.split_at_mut-before.ensures in
    let second = c.split_at_mut-here.ensures in
    let before : List ℤ = c.split_at_mut-before.result.0.now in
    let here : List ℤ = c.split_at_mut-here.result.0.now in
    let after : List ℤ = c.split_at_mut-here.result.1.now in
    let whole : before ++ (here ++ after) ≡ c.args.cells.now =
    parts_are c.args.cells.now before c.split_at_mut-before.result.1.now here after
    (c.args.y * c.args.stride) c.args.stride
    first.front first.back second.front second.back in
    let here_count : length here ≡ c.args.stride = omega arith in
    let new : List ℤ = c.lift_line.new.line in
    let count : length new ≡ c.args.width =
    omega (arith, length-take c.args.width here, c.lift_line.auto.line, here_count, c.requires.width) in
    let line : List ℤ = new ++ drop c.args.width here in
    let line_count : length line ≡ c.args.stride =
    new_count c.args.width c.args.stride new here c.requires.width count here_count in
    elim (cases_eq row c.args.y) [
      | inl same ↦
          ap (λ r. cell c.args.stride (before ++ (line ++ after)) x r) same
          ∙ mid_at c.args.stride c.args.y x before line after (omega (arith, column, line_count))
          (omega arith)
          ∙ rest_at c.args.width x new here (other same) count
          ∙ sym (mid_at c.args.stride c.args.y x before here after
          (omega (arith, column, here_count)) (omega arith))
          ∙ ap (λ r. cell c.args.stride (before ++ (here ++ after)) x r) (sym same)
      | inr ne ↦ other_row c.args.stride c.args.y row x before here line after ne column
          (omega arith) here_count line_count
    ]
    ∙ ap (λ l. cell c.args.stride l x row) whole

pub returns-clause-within : goal.returns-clause-within
returns-clause-within c =
    let first = c.split_at_mut-before.ensures in
    let second = c.split_at_mut-here.ensures in
    let before : List ℤ = c.split_at_mut-before.result.0.now in
    let rest : List ℤ = c.split_at_mut-before.result.1.now in
    let here : List ℤ = c.split_at_mut-here.result.0.now in
    let after : List ℤ = c.split_at_mut-here.result.1.now in
    let new : List ℤ = c.lift_line.new.line in
    let start : ℕ = c.args.y * c.args.stride in
    let before_within : All Within30 before =
    subst (All Within30) (sym first.front)
    (All-take Within30 start c.args.cells.now c.requires.cells) in
    let rest_within : All Within30 rest =
    subst (All Within30) (sym first.back)
    (All-drop Within30 start c.args.cells.now c.requires.cells) in
    let here_within : All Within30 here =
    subst (All Within30) (sym second.front)
    (All-take Within30 c.args.stride rest rest_within) in
    let after_within : All Within30 after =
    subst (All Within30) (sym second.back) (All-drop Within30 c.args.stride rest rest_within) in
    All-append Within30 before ((new ++ drop c.args.width here) ++ after) before_within
    (All-append Within30 (new ++ drop c.args.width here) after
    (All-append Within30 new (drop c.args.width here) c.lift_line.ensures.within
    (All-drop Within30 c.args.width here here_within))
    after_within)
