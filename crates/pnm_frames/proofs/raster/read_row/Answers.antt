use Rattle.std.proofs.Common.{◌+◌, length, arith}
use Rattle.pnm_frames.proofs.Samples.{row-spelled, row-read, row-large, differ}
use Rattle.pnm_frames.proofs.raster.read_row.Goals as goal

pub returns-then-not-all_fit-clause-reads : goal.returns-then-not-all_fit-clause-reads
returns-then-not-all_fit-clause-reads g c = λ told.
    let spelled = row-spelled c.in_ok-seen.seen _ _ _ c.decode_row.new.row
    (c.in_ok-seen.ensures.moved told) c.if-seen-scratch.false c.decode_row.ensures in
    row-large c.row_fault-then-not-all_fit.result
    (length c.args.row.now) c.args.at.now _ c.read_fully.new.buf _ c.decode_row.new.row
    (omega arith)
    spelled c.decode_row.ensures (λ all. differ (c.all_fit.ensures.1 all) c.if-not-all_fit.true)
    (c.row_fault-then-not-all_fit.ensures.fault (length c.args.row.now + 1) (omega arith))

pub returns-clause-reads : goal.returns-clause-reads
returns-clause-reads g c = λ told.
    let spelled = row-spelled c.in_ok-seen.seen _ _ _ c.decode_row.new.row
    (c.in_ok-seen.ensures.moved told) c.if-seen-scratch.false c.decode_row.ensures in
    row-read (length c.args.row.now) c.args.at.now _ _ c.decode_row.new.row (omega arith) spelled
    (c.all_fit.ensures.0 c.if-not-all_fit.false)
