use Rattle.std.proofs.Common.{◌++◌, ◌∷◌, [], ◌∙◌, ap, arith}
use Rattle.cinema_markers.proofs.Precincts.{then_sizes}
use Rattle.cinema_markers.proofs.segments.push_precinct_sizes.Goals as goal

pub returns-clause-items : goal.returns-clause-items
returns-clause-items c =
    then_sizes c.loop-level._level c.args.levels 0x88 c.args.out.now.items (0x77 ∷ [])
    c.push_fields.new.out.items c.loop-level.out.items
    (c.push_fields.ensures ∙ ap (λ b. c.args.out.now.items ++ b ∷ []) c.precinct_byte.ensures.value)
    c.loop-level.invariant (omega arith)
