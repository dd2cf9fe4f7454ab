use Rattle.std.proofs.Common.{not, ap, ◌∙◌}
use Rattle.flag_words.proofs.Quiet.{cleanup_test}
use Rattle.flag_words.proofs.looks.codes_cleanup.Goals as goal

pub returns : goal.returns
returns c = λ s p i column stripe cells at some is.
    ap not c.has.ensures
    ∙ cleanup_test s p i column stripe c.args.r cells c.args.word c.requires at some is
