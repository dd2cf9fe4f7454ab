use Rattle.std.proofs.Common.{◌∙◌, ap}
use Rattle.lift97_fixed.specs.Line.{scaled, delta, inverse_scaling}
use Rattle.lift97_fixed.proofs.Casts.{passed_within}
use Rattle.lift97_fixed.proofs.ApartLemmas.{stripped, stripped_scale}
use Rattle.lift97_fixed.proofs.line.low_sample.Goals as goal

pub returns-clause-value : goal.returns-clause-value
returns-clause-value c =
    passed_within c.scaled.result c.scaled.ensures.within
    ∙ (stripped_scale inverse_scaling c.scaled.result c.lifted.result c.lifted.ensures.within
    c.scaled.ensures.value
    ∙ ap (scaled inverse_scaling)
    (stripped delta c.lifted.result c.args.cell c.args.left c.args.right c.requires.cell c.requires.left
    c.requires.right c.lifted.ensures.value))
