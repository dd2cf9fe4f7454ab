use Rattle.std.proofs.Common.{◌≡◌, false, ◌-◌, ◌≤◌, ◌++◌, length, take, IsTrue, IsSome}
use Rattle.cine_ports.proofs.whole_pieces.read_fully.Given as goal

-- the first bytes of the buffer are those that left the frame
abbrev pub invariant-loop-done : goal.invariant-loop-done
invariant-loop-done g l =
    (l.done ≤ length l.buf)
    × (IsSome (g.F.Frames.source l.fn.frames).files →
    (g.F.Frames.reading l.fn.frames).left ≡ take l.done l.buf ++ (g.F.Frames.reading l.frames).left)
    × IsTrue (g.F.Frames.reading l.frames).is_begun
    × ((g.F.Frames.reading l.frames).asked ≡ (g.F.Frames.reading l.fn.frames).asked)
    × (g.F.Frames.source l.frames ≡ g.F.Frames.source l.fn.frames)
    × (g.F.Frames.has_failed l.frames ≡ false)

abbrev pub decreases-loop-done : goal.decreases-loop-done
decreases-loop-done g l = length l.initial.buf - l.done
