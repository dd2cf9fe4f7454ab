use Rattle.std.proofs.Common.{◌++◌, ◌+◌, ◌∙◌, ap, append_assoc}
use Rattle.cinema_markers.specs.Fields.{segment}
use Rattle.cinema_markers.specs.MainHeader.{precinct_sizes, cod_head}
use Rattle.cinema_markers.proofs.segments.push_cod.Goals as goal

pub returns-clause-items : goal.returns-clause-items
returns-clause-items c =
    let out = c.args.out.now.items in
    let levels = c.args.levels in
    let sizes = segment (precinct_sizes levels) in
    let head = segment (cod_head (13 + levels) levels c.args.flag) in
    c.push_precinct_sizes.ensures.items
    ∙ ap (λ t. t ++ sizes) (c.push_fields.ensures
    ∙ ap (λ n. out ++ segment (cod_head (13 + n) levels c.args.flag)) c.from.ensures)
    ∙ append_assoc out head sizes
