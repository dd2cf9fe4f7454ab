use Rattle.std.proofs.Common.{◌≤◌, ◌-◌}
use Rattle.tile_parts.specs.Refusals.{StandUpTo}
use Rattle.tile_parts.proofs.part.find_sod.Given as goal

abbrev pub invariant-loop-next : goal.invariant-loop-next
invariant-loop-next l = record {
  stand : StandUpTo l.bytes l.from l.at;
  inside : l.at ≤ l.stop;
}

abbrev pub decreases-loop-next : goal.decreases-loop-next
decreases-loop-next l = l.stop - l.at
