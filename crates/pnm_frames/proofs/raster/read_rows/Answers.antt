use Rattle.std.proofs.Common.{◌≡◌, ◌+◌, ◌*◌, ◌≤◌, length, take, take_all, arith}
use Rattle.std.proofs.lemmas.List.{length-take}
use Rattle.std.proofs.lemmas.Result.{err_from_is_err_and}
use Rattle.pnm_frames.specs.Picture.{interleaved}
use Rattle.pnm_frames.specs.Reading.{samples_at}
use Rattle.pnm_frames.proofs.Headers.{fails-on}
use Rattle.pnm_frames.proofs.Keeping.{keeps-then, told-on}
use Rattle.pnm_frames.proofs.Planes.{length-interleaved, All-x, All-y, All-z}
use Rattle.pnm_frames.proofs.Samples.{room, all-there, rows-refused, rows-step, range-step}
use Rattle.pnm_frames.proofs.Samples.{length-read, row-read}
use Rattle.pnm_frames.proofs.raster.read_rows.Goals as goal

pub returns-in_err-read_row-clause-keeps : goal.returns-in_err-read_row-clause-keeps
returns-in_err-read_row-clause-keeps g c =
    keeps-then _ _ _ _ _ _ c.loop.invariant.keeps c.read_row.ensures.keeps

pub returns-in_err-read_row-clause-reads : goal.returns-in_err-read_row-clause-reads
returns-in_err-read_row-clause-reads g c =
    let p = err_from_is_err_and c.from_residual.result c.from_residual.ensures.1 in
    let w = c.args.header.width in
    let h = c.args.header.height in
    let start = c.loop.start in
    let fits : start + w ≤ w * h =
    room w h c.loop.counter start c.loop-test.true c.loop.invariant.place in
    let before : length (interleaved (take start c.loop.x) (take start c.loop.y)
    (take start c.loop.z)) + length c.loop.row ≤ 3 * (w * h)
    = omega (
      arith,
      length-read start c.loop.x c.loop.y c.loop.z (omega arith) (omega arith)
          (omega arith),
    ) in
    let s = interleaved (take start c.loop.x) (take start c.loop.y) (take start c.loop.z) in
    let here : c.loop.at ≡ c.args.header.bytes + 2 * length s =
    omega (
      arith,
      c.loop.invariant.here,
      length-read start c.loop.x c.loop.y c.loop.z (omega arith)
          (omega arith) (omega arith),
    ) in
    let left = (g.F.Frames.reading c.loop.f).left in
    let all = (g.F.Frames.reading c.args.f.now).left in
    rw (p.1, p.2) (λ told. fails-on c.in_err-read_row.field-0.0
    (samples_at (length c.loop.row) c.loop.at left)
    (samples_at (3 * (w * h)) c.args.header.bytes all)
    (λ fault e. rows-refused (3 * (w * h))
    (length c.loop.row) c.args.header.bytes c.loop.at s all left fault
    (c.loop.invariant.spelled told) c.loop.invariant.range before here e)
    (c.in_err-read_row.ensures.reads (told-on _ _ c.loop.invariant.keeps.source told)))

pub read_row-requires-clause-at : goal.read_row-requires-clause-at
read_row-requires-clause-at g c =
    let fits = room c.args.header.width c.args.header.height c.loop.counter c.loop.start c.loop-test.true c.loop.invariant.place in
    omega (arith, c.loop.invariant.here)

pub loop-preserved : goal.loop-preserved
loop-preserved g c =
    let w = c.args.header.width in
    let h = c.args.header.height in
    let start = c.loop.start in
    let kept = c.loop.invariant in
    let fits : start + w ≤ w * h = room w h c.loop.counter start c.loop-test.true kept.place in
    let lx : length c.split_row.new.x ≡ w =
    omega (arith, c.split_row.auto.x, length-take w c.loop.x) in
    let ly : length c.split_row.new.y ≡ w =
    omega (arith, c.split_row.auto.y, length-take w c.loop.y) in
    let lz : length c.split_row.new.z ≡ w =
    omega (arith, c.split_row.auto.z, length-take w c.loop.z) in
    let sx : start ≤ length c.loop.x = omega arith in
    let sy : start ≤ length c.loop.y = omega arith in
    let sz : start ≤ length c.loop.z = omega arith in
    record {
      spelled = λ told. rows-step w start c.loop.x c.loop.y c.loop.z c.split_row.new.x c.split_row.new.y c.split_row.new.z c.read_row.new.row
          (g.F.Frames.reading c.args.f.now).left (g.F.Frames.reading c.loop.f).left
          (g.F.Frames.reading c.read_row.new.f).left
          lx ly lz sx sy sz (kept.spelled told)
          (c.in_ok-read_row.ensures.spelled
          (told-on _ _ kept.keeps.source told)) c.split_row.ensures;
      range = range-step w start c.loop.x c.loop.y c.loop.z c.split_row.new.x c.split_row.new.y c.split_row.new.z c.read_row.new.row
          lx ly lz sx sy sz kept.range c.in_ok-read_row.ensures.range c.split_row.ensures;
      place = omega (arith, kept.place);
      here = omega (arith, kept.here, c.in_ok-read_row.ensures.at);
      keeps = keeps-then _ _ _ _ _ _ kept.keeps c.read_row.ensures.keeps;
      working = c.in_ok-read_row.ensures.failed;
    }

pub returns-clause-x_range : goal.returns-clause-x_range
returns-clause-x_range g c =
    let done = all-there c.args.header.width c.args.header.height c.loop.counter c.loop.start c.loop-test.false (omega arith) c.loop.invariant.place in
    let tx = take_all c.loop.start c.loop.x (omega arith) in
    let ty = take_all c.loop.start c.loop.y (omega arith) in
    let tz = take_all c.loop.start c.loop.z (omega arith) in
    All-x c.loop.x c.loop.y c.loop.z (omega arith) (omega arith)
    (rw (tx, ty, tz) at c.loop.invariant.range)

pub returns-clause-y_range : goal.returns-clause-y_range
returns-clause-y_range g c =
    let done = all-there c.args.header.width c.args.header.height c.loop.counter c.loop.start c.loop-test.false (omega arith) c.loop.invariant.place in
    let tx = take_all c.loop.start c.loop.x (omega arith) in
    let ty = take_all c.loop.start c.loop.y (omega arith) in
    let tz = take_all c.loop.start c.loop.z (omega arith) in
    All-y c.loop.x c.loop.y c.loop.z (omega arith) (omega arith)
    (rw (tx, ty, tz) at c.loop.invariant.range)

pub returns-clause-z_range : goal.returns-clause-z_range
returns-clause-z_range g c =
    let done = all-there c.args.header.width c.args.header.height c.loop.counter c.loop.start c.loop-test.false (omega arith) c.loop.invariant.place in
    let tx = take_all c.loop.start c.loop.x (omega arith) in
    let ty = take_all c.loop.start c.loop.y (omega arith) in
    let tz = take_all c.loop.start c.loop.z (omega arith) in
    All-z c.loop.x c.loop.y c.loop.z (omega arith) (omega arith)
    (rw (tx, ty, tz) at c.loop.invariant.range)

pub returns-clause-reads : goal.returns-clause-reads
returns-clause-reads g c =
    let done = all-there c.args.header.width c.args.header.height c.loop.counter c.loop.start c.loop-test.false (omega arith) c.loop.invariant.place in
    let tx = take_all c.loop.start c.loop.x (omega arith) in
    let ty = take_all c.loop.start c.loop.y (omega arith) in
    let tz = take_all c.loop.start c.loop.z (omega arith) in
    λ told. row-read (3 * (c.args.header.width * c.args.header.height)) c.args.header.bytes _ _
    (interleaved c.loop.x c.loop.y c.loop.z)
    (omega (arith, length-interleaved c.loop.x c.loop.y c.loop.z (omega arith) (omega arith)))
    (rw (tx, ty, tz) at (c.loop.invariant.spelled told)) (rw (tx, ty, tz) at c.loop.invariant.range)
