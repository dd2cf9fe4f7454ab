use Rattle.std.proofs.Common.{◌+◌, ◌*◌, ◌≤◌}
use Rattle.ebcot_passes.proofs.tests.code_in_turns.Given as goal

abbrev pub invariant-loop : goal.invariant-loop
invariant-loop g l = record { few : l.left.passes + 2 ≤ 3 * l.planes }
