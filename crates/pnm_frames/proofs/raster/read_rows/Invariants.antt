use Rattle.std.proofs.Common.{◌≡◌, false, ◌*◌, ◌+◌, ◌++◌, IsSome, All, take}
use Rattle.std.specs.List.{flat_map}
use Rattle.pnm_frames.specs.Keeps.{ReadsOn}
use Rattle.pnm_frames.specs.Picture.{IsSample, interleaved, sample}
use Rattle.pnm_frames.proofs.raster.read_rows.Given as goal

-- the rows so far are spelled by the bytes that left the frame
abbrev pub invariant-loop : goal.invariant-loop
invariant-loop g l = record {
  spelled : IsSome (g.F.Frames.source l.fn.f).files → (g.F.Frames.reading l.fn.f).left
      ≡ flat_map sample (interleaved (take l.start l.x) (take l.start l.y) (take l.start l.z))
      ++ (g.F.Frames.reading l.f).left;
  range : All IsSample (interleaved (take l.start l.x) (take l.start l.y) (take l.start l.z));
  place : l.start ≡ l.width * l.counter;
  here : l.at ≡ l.fn.header.bytes + 6 * l.start;
  keeps : ReadsOn (g.F.Frames.source l.fn.f) (g.F.Frames.source l.f) (g.F.Frames.reading l.fn.f)
      (g.F.Frames.reading l.f);
  working : g.F.Frames.has_failed l.f ≡ false;
}
