use Rattle.std.proofs.Common.{◌≤◌, ◌≡◌}
use Rattle.ebcot_contexts.specs.Contexts.{Shape}
use Rattle.ebcot_reader.specs.Reading.{AreKnown, Holds, state_after}
use Rattle.ebcot_reader.specs.Runs.{plane_before}
use Rattle.ebcot_reader.proofs.block.read_passes.Given as goal

abbrev pub invariant-loop-k : goal.invariant-loop-k
invariant-loop-k l = record {
  known : (s : Shape) → s.orient ≡ l.fn.orient → s.width ≡ l.width → s.height ≡ l.height
      → s.planes ≡ l.planes → AreKnown s.width (state_after l.bytes s l.k).0 l.grid;
  held : (s : Shape) → s.orient ≡ l.fn.orient → s.width ≡ l.width → s.height ≡ l.height
      → s.planes ≡ l.planes → 1 ≤ s.planes
      → Holds l.bytes s (plane_before s l.k) (state_after l.bytes s l.k) l.words l.grid l.decoder;
}
