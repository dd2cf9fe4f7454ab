use Rattle.std.proofs.Common.{◌≡◌, ℕ, ◌+◌, ◌-◌, ◌*◌, ◌<◌, length, drop, Err}
use Rattle.pnm_frames.specs.declared.fault.FrameFault.{FrameFault}
use Rattle.pnm_frames.specs.Reading.{samples_at}
use Rattle.pnm_frames.proofs.raster.row_fault.Given as goal

-- A fault from sample i on is the first one.
abbrev pub invariant-loop-i : goal.invariant-loop-i
invariant-loop-i l = (count : ℕ) (fault : FrameFault) → length l.bytes < 2 * count
    → samples_at (count - l.i) (l.at + 2 * l.i) (drop (2 * l.i) l.bytes) ≡ Err fault →
    samples_at count l.at l.bytes ≡ Err fault
