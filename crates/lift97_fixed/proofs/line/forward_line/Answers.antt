use Rattle.std.proofs.Common.{◌∙◌, arith}
use Rattle.lift97_fixed.proofs.ApartLemmas.{lows_within, highs_within}
use Rattle.lift97_fixed.proofs.Lines.{short_line, long_line}
use Rattle.lift97_fixed.proofs.line.forward_line.Goals as goal

pub returns-then-line-lt2-clause-value : goal.returns-then-line-lt2-clause-value
returns-then-line-lt2-clause-value c = short_line c.args.line.now (omega arith)

pub lift_highs-requires-clause-lows : goal.lift_highs-requires-clause-lows
lift_highs-requires-clause-lows c =
    lows_within c.args.line.now c.take_apart.new.lows c.take_apart.new.highs c.take_apart.ensures c.requires.cells

pub lift_highs-requires-clause-highs : goal.lift_highs-requires-clause-highs
lift_highs-requires-clause-highs c =
    highs_within c.args.line.now c.take_apart.new.lows c.take_apart.new.highs c.take_apart.ensures c.requires.cells

pub lift_lows-requires-clause-lows : goal.lift_lows-requires-clause-lows
lift_lows-requires-clause-lows c =
    lows_within c.args.line.now c.take_apart.new.lows c.take_apart.new.highs c.take_apart.ensures c.requires.cells

pub returns-clause-value : goal.returns-clause-value
returns-clause-value c =
    c.finish.ensures.value _
    (c.lift_highs-2.ensures.value _
    (c.lift_lows.ensures.value _ (c.lift_highs.ensures.value _ c.take_apart.ensures)))
    ∙ long_line c.args.line.now (omega arith)
