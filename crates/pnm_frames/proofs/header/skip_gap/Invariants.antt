use Rattle.std.proofs.Common.{◌≡◌, false, ◌≤◌, ◌-◌, IsSome}
use Rattle.pnm_frames.specs.Keeps.{ReadsOn}
use Rattle.pnm_frames.specs.Reading.{gap_at}
use Rattle.pnm_frames.proofs.header.skip_gap.Given as goal

-- the gap goes on from here
abbrev pub invariant-loop-b : goal.invariant-loop-b
invariant-loop-b g l = record {
  reads : IsSome (g.F.Frames.source l.fn.f).files →
      gap_at l.fn.commented l.fn.at (g.F.Frames.reading l.fn.f).left
      ≡ gap_at l.commented l.at (g.F.Frames.reading l.f).left;
  place : l.at ≤ 4096;
  keeps : ReadsOn (g.F.Frames.source l.fn.f) (g.F.Frames.source l.f) (g.F.Frames.reading l.fn.f)
      (g.F.Frames.reading l.f);
  working : g.F.Frames.has_failed l.f ≡ false;
}

abbrev pub decreases-loop-b : goal.decreases-loop-b
decreases-loop-b g l = 4096 - l.at
