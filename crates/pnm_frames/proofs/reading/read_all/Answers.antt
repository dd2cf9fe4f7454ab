use Rattle.std.proofs.Common.{◌*◌, ◌∙◌, sym, arith}
use Rattle.std.proofs.lemmas.Result.{err_from_is_err_and}
use Rattle.pnm_frames.specs.Picture.{Fits, interleaved}
use Rattle.pnm_frames.specs.Reading.{ended, frame_of, header_at, samples_at}
use Rattle.pnm_frames.specs.View.{picture_of}
use Rattle.pnm_frames.proofs.Files.{end-fault, frame-read, header-fault, raster-fault}
use Rattle.pnm_frames.proofs.Grammar.{file-found}
use Rattle.pnm_frames.proofs.Headers.{fails-on}
use Rattle.pnm_frames.proofs.Keeping.{keeps-then, told-on}
use Rattle.pnm_frames.proofs.reading.read_all.Goals as goal

pub returns-in_err-header-clause-exact : goal.returns-in_err-header-clause-exact
returns-in_err-header-clause-exact g c =
    let p = err_from_is_err_and c.from_residual.result c.from_residual.ensures.1 in
    let left = (g.F.Frames.reading c.args.f.now).left in
    rw (p.1, p.2) (λ told. fails-on c.in_err-header.field-0.0 (header_at c.args.limits left)
    (frame_of c.args.limits left)
    (header-fault c.args.limits left) (c.in_err-header.ensures.reads told))

pub returns-in_err-frame-clause-keeps : goal.returns-in_err-frame-clause-keeps
returns-in_err-frame-clause-keeps g c =
    keeps-then _ _ _ _ _ _ c.read_header.ensures.keeps c.read_raster.ensures.keeps

pub returns-in_err-frame-clause-exact : goal.returns-in_err-frame-clause-exact
returns-in_err-frame-clause-exact g c =
    let p = err_from_is_err_and c.from_residual-in_err-frame.result
    c.from_residual-in_err-frame.ensures.1 in
    let left = (g.F.Frames.reading c.args.f.now).left in
    let prefix = (g.F.Frames.reading c.read_header.new.f).left in
    let header = c.in_ok-header.header in
    rw (p.1, p.2) (λ told. fails-on c.in_err-frame.field-0.0
    (samples_at (3 * (header.width * header.height)) header.bytes prefix)
    (frame_of c.args.limits left)
    (λ fault e. raster-fault c.args.limits left header.width header.height header.bytes prefix fault
    (c.in_ok-header.ensures.reads told) e)
    (c.in_err-frame.ensures.reads (told-on _ _ c.read_header.ensures.keeps.source told)))

pub returns-in_err-expect_end-clause-keeps : goal.returns-in_err-expect_end-clause-keeps
returns-in_err-expect_end-clause-keeps g c =
    keeps-then _ _ _ _ _ _
    (keeps-then _ _ _ _ _ _ c.read_header.ensures.keeps c.read_raster.ensures.keeps)
    c.expect_end.ensures.keeps

pub returns-in_err-expect_end-clause-exact : goal.returns-in_err-expect_end-clause-exact
returns-in_err-expect_end-clause-exact g c =
    let p = err_from_is_err_and c.from_residual-in_err-expect_end.result
    c.from_residual-in_err-expect_end.ensures.1 in
    let left = (g.F.Frames.reading c.args.f.now).left in
    let prefix = (g.F.Frames.reading c.read_header.new.f).left in
    let rest = (g.F.Frames.reading c.read_raster.new.f).left in
    let header = c.in_ok-header.header in
    let frame = c.in_ok-frame.frame in
    rw (p.1, p.2) (λ told.
    let told1 = told-on _ _ c.read_header.ensures.keeps.source told in
    fails-on c.in_err-expect_end.field-0.0 (ended {A = Unit {0}} tt rest)
    (frame_of c.args.limits left)
    (λ fault e. end-fault c.args.limits left header.width header.height header.bytes prefix
    (interleaved frame.x.items frame.y.items frame.z.items) rest fault
    (c.in_ok-header.ensures.reads told) (c.in_ok-frame.ensures.reads told1) e)
    (c.in_err-expect_end.ensures.reads (told-on _ _ c.read_raster.ensures.keeps.source told1)))

pub returns-clause-keeps : goal.returns-clause-keeps
returns-clause-keeps g c =
    keeps-then _ _ _ _ _ _
    (keeps-then _ _ _ _ _ _ c.read_header.ensures.keeps c.read_raster.ensures.keeps)
    c.expect_end.ensures.keeps

pub returns-clause-exact : goal.returns-clause-exact
returns-clause-exact g c = λ told.
    let header = c.in_ok-header.header in
    let frame = c.in_ok-frame.frame in
    let told1 = told-on _ _ c.read_header.ensures.keeps.source told in
    frame-read c.args.limits (g.F.Frames.reading c.args.f.now).left
    (picture_of frame) header.width header.height header.bytes
    (g.F.Frames.reading c.read_header.new.f).left (g.F.Frames.reading c.read_raster.new.f).left
    c.in_ok-frame.ensures.width c.in_ok-frame.ensures.height (c.in_ok-header.ensures.reads told)
    (c.in_ok-frame.ensures.reads told1)
    (c.in_ok-expect_end.ensures.reads (told-on _ _ c.read_raster.ensures.keeps.source told1))
    (frame.y_size ∙ sym frame.x_size) (frame.z_size ∙ sym frame.x_size)

pub returns-clause-found : goal.returns-clause-found
returns-clause-found g c = λ told.
    let header = c.in_ok-header.header in
    let frame = c.in_ok-frame.frame in
    let told1 = told-on _ _ c.read_header.ensures.keeps.source told in
    let fits : Fits c.args.limits (picture_of frame) = record {
      has_width = omega (arith, c.in_ok-frame.ensures.width, c.in_ok-header.ensures.width_low);
      width = omega (arith, c.in_ok-frame.ensures.width, c.in_ok-header.ensures.width_high);
      has_height = omega (arith, c.in_ok-frame.ensures.height, c.in_ok-header.ensures.height_low);
      height = omega (arith, c.in_ok-frame.ensures.height, c.in_ok-header.ensures.height_high);
      x = record { size = frame.x_size; range = frame.x_range };
      y = record { size = frame.y_size; range = frame.y_range };
      z = record { size = frame.z_size; range = frame.z_range };
    } in (
      fits,
      file-found c.args.limits (picture_of frame)
          (g.F.Frames.reading c.args.f.now).left header.width header.height header.bytes
          (g.F.Frames.reading c.read_header.new.f).left
          (g.F.Frames.reading c.read_raster.new.f).left
          (c.in_ok-header.ensures.reads told) c.in_ok-frame.ensures.width
          c.in_ok-frame.ensures.height (c.in_ok-frame.ensures.spelled told1)
          (c.in_ok-expect_end.ensures.reads (told-on _ _ c.read_raster.ensures.keeps.source told1)),
    )
