use Rattle.std.proofs.Common.{◌∙◌, ap}
use Rattle.cine_nums.specs.Division.{div_up}
use Rattle.cine_nums.specs.Coding.{precinct_side}
use Rattle.band_geometry.proofs.PrecinctLemmas.{blocks_in_precincts}
use Rattle.band_geometry.proofs.geometry.Geometry.precincts.Goals as goal

pub returns-clause-enough : goal.returns-clause-enough
returns-clause-enough c = λ o x y has column row.
    let lies = blocks_in_precincts c.args.self.now c.args.res o x y has column row in
    let across = c.precincts_along.ensures ∙
    ap (λ n. div_up n (precinct_side c.args.res)) c.res_size-width.ensures.width in
    let down = c.precincts_along-2.ensures ∙
    ap (λ n. div_up n (precinct_side c.args.res)) c.res_size-width.ensures.height in
    (rw across lies.0, rw down lies.1)
