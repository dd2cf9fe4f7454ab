use Rattle.std.proofs.Common.{not, ◌&&◌, eqb, ◌∙◌}
use Rattle.flag_words.proofs.Quiet.{significance_test}
use Rattle.flag_words.proofs.looks.codes_significance.Goals as goal

pub returns : goal.returns
returns c = λ s p i column stripe cells at some is.
    (λ j. (not (c.has.ensures j) && not (c.has-2.ensures j)) && not
    (eqb (c.neighbours-quiet.ensures j) 0))
    ∙ significance_test s p i column stripe c.args.r cells c.args.word c.requires at some is
