use Rattle.std.proofs.Common.{◌≡◌, false, ◌-◌, ◌≤◌, length, take, option_map}
use Rattle.cine_ports.specs.WholePieces.{said_with}
use Rattle.cine_ports.proofs.whole_pieces.say.Given as goal

-- the first bytes of the piece are appended
abbrev pub invariant-loop-done : goal.invariant-loop-done
invariant-loop-done g l =
    (l.done ≤ length l.piece)
    × (g.S.Report.said l.report ≡ option_map (said_with (take l.done l.piece))
    (g.S.Report.said l.fn.report))
    × (g.S.Report.has_failed l.report ≡ false)

abbrev pub decreases-loop-done : goal.decreases-loop-done
decreases-loop-done g l = length l.piece - l.done
