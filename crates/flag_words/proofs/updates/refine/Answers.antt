use Rattle.flag_words.proofs.OneWord.{refine_kept}
use Rattle.flag_words.proofs.updates.refine.Goals as goal

pub returns : goal.returns
returns c = λ w p i column stripe n cells words b o some a.
    refine_kept w p i column stripe c.args.r n cells words c.args.word b c.requires o some a
