-- The whole is what the tile-parts before hold, with main header and EOC.
use Rattle.std.proofs.Common.{◌≡◌, ◌+◌, sum, take}
use Rattle.budget_duals.proofs.held.Held.of.Given as goal

abbrev pub invariant-loop-part : goal.invariant-loop-part
invariant-loop-part l = l.whole ≡ l.main + sum (take l.part-index l.parts) + 2
