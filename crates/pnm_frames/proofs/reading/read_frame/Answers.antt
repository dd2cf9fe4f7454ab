use Rattle.std.proofs.Common.{◌≡◌, Result, Ok, subst}
use Rattle.pnm_frames.specs.declared.fault.FrameFault.{FrameFault}
use Rattle.pnm_frames.specs.Fault.{Gives}
use Rattle.pnm_frames.specs.Picture.{Picture}
use Rattle.pnm_frames.specs.Reading.{frame_of}
use Rattle.pnm_frames.specs.View.{picture_of}
use Rattle.pnm_frames.proofs.Again.{frame-again}
use Rattle.pnm_frames.proofs.reading.read_frame.Goals as goal

pub returns-clause-only : goal.returns-clause-only
returns-clause-only g c = λ told p fits spelled.
    let read : frame_of c.args.limits (g.F.Frames.reading c.args.f.now).left ≡ Ok p =
    frame-again c.args.limits p (g.F.Frames.reading c.args.f.now).left fits spelled in
    subst (λ (r : Result Picture FrameFault). Gives picture_of c.read_all.result r) read
    (c.read_all.ensures.exact told)
