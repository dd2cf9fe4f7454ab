use Rattle.std.proofs.Common.{◌≡◌, false, ◌-◌, ◌≤◌, length, take, option_map, IsTrue}
use Rattle.cine_ports.specs.Outputs.{with_more}
use Rattle.cine_ports.proofs.whole_pieces.write_all.Given as goal

-- the first bytes of the piece are appended
abbrev pub invariant-loop-done : goal.invariant-loop-done
invariant-loop-done g l =
    (l.done ≤ length l.piece)
    × (g.O.Outputs.kept l.outputs ≡ option_map (with_more (take l.done l.piece))
    (g.O.Outputs.kept l.fn.outputs))
    × IsTrue (g.O.Outputs.is_open l.outputs)
    × (g.O.Outputs.has_failed l.outputs ≡ false)

abbrev pub decreases-loop-done : goal.decreases-loop-done
decreases-loop-done g l = length l.piece - l.done
