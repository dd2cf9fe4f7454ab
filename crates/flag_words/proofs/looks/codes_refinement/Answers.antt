use Rattle.std.proofs.Common.{not, ◌&&◌, ◌∙◌}
use Rattle.flag_words.proofs.Quiet.{refinement_test}
use Rattle.flag_words.proofs.looks.codes_refinement.Goals as goal

pub returns : goal.returns
returns c = λ s p i column stripe cells at some is.
    (λ j. not (c.has.ensures j) && c.has-2.ensures j)
    ∙ refinement_test s p i column stripe c.args.r cells c.args.word c.requires at some is
