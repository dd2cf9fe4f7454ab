use Rattle.std.proofs.Common.{◌+◌, ◌-◌, ◌*◌, ◌<◌, ℕ, ℤ, pos, List, drop, arith, sym, ◌∙◌}
use Rattle.std.proofs.lemmas.List.{get_or-drop, get_or-take}
use Rattle.lift97_fixed.proofs.RowParts.{after_at}
use Rattle.lift97_fixed.proofs.vertical.row_beside.Goals as goal

pub returns-else-row-y-clause-cells : goal.returns-else-row-y-clause-cells
returns-else-row-y-clause-cells c = λ line x len lt.
    let from : ℕ = (c.args.row - c.args.y - 1) * c.args.stride in
    let after : List ℤ = c.args.after.now in
    let later : c.args.y < c.args.row = omega (arith, c.if-row-y.false, c.requires.other) in
    get_or-take (from + c.args.width - from) (drop from after) x (pos 0) (omega (arith, lt))
    ∙ get_or-drop from after x (pos 0)
    ∙ sym (after_at c.args.stride c.args.y c.args.row x c.args.before.now line after later c.requires.count len)
