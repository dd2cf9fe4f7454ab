use Rattle.std.proofs.Common.{take}
use Rattle.std.specs.List.{All}
use Rattle.cert_text.specs.Reading.{IsSmall}
use Rattle.cinema_run.proofs.widths.steps_widths.Given as goal

-- the steps so far
abbrev pub invariant-loop-step : goal.invariant-loop-step
invariant-loop-step l = All IsSmall (take l.step-index l.refused)
