use Rattle.std.proofs.Common.{arith}
use Rattle.lift97_fixed.proofs.ApartLemmas.{finished_all}
use Rattle.lift97_fixed.proofs.line.finish.Goals as goal

pub returns-clause-value : goal.returns-clause-value
returns-clause-value c = λ xs apart.
    finished_all xs c.args.lows.now c.args.highs.now c.finish_lows.new.line c.finish_highs.new.line
    c.requires.some (omega arith) (omega arith) c.finish_lows.ensures.value c.finish_highs.ensures.value
    apart
