use Rattle.std.proofs.Common.{◌≡◌, false, ◌≤◌, ◌-◌, ◌^◌, IsSome}
use Rattle.pnm_frames.specs.Keeps.{ReadsOn}
use Rattle.pnm_frames.specs.Reading.{capped, digits_at}
use Rattle.pnm_frames.proofs.header.read_digits.Given as goal

-- the number goes on from the digits so far
abbrev pub invariant-loop-b : goal.invariant-loop-b
invariant-loop-b g l = record {
  reads : IsSome (g.F.Frames.source l.fn.f).files →
      capped (digits_at l.fn.last l.fn.n l.fn.at (g.F.Frames.reading l.fn.f).left)
      ≡ capped (digits_at l.fn.last l.n l.at (g.F.Frames.reading l.f).left);
  place : l.at ≤ 4096;
  worth : l.n ≤ 2 ^ 32;
  keeps : ReadsOn (g.F.Frames.source l.fn.f) (g.F.Frames.source l.f) (g.F.Frames.reading l.fn.f)
      (g.F.Frames.reading l.f);
  working : g.F.Frames.has_failed l.f ≡ false;
}

abbrev pub decreases-loop-b : goal.decreases-loop-b
decreases-loop-b g l = 4096 - l.at
