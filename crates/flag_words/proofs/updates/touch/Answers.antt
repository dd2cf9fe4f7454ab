use Rattle.flag_words.proofs.OneWord.{touch_kept}
use Rattle.flag_words.proofs.updates.touch.Goals as goal

pub returns : goal.returns
returns c = λ w p i column stripe n cells words o none a.
    touch_kept w p i column stripe c.args.r n cells words c.args.word c.requires o none a
