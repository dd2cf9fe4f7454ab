use Rattle.std.proofs.Common.{◌<◌, ◌≤◌, Err, ap, arith, refl, inl, inr}
use Rattle.std.proofs.Common.{length, subst}
use Rattle.cine_nums.specs.Limits.{frame_limit}
use Rattle.cinema_markers.specs.declared.header.MainRead.{MainRead}
use Rattle.cinema_markers.specs.declared.refusal.MarkerRefusal.{MarkerRefusal}
use Rattle.codestream_reader.specs.Faults.EarlyFault.{of_frame, of_main}
use Rattle.codestream_reader.specs.Faults.HasFault.{of_early}
use Rattle.codestream_reader.proofs.Lists.{ok_no_err}
use Rattle.codestream_reader.proofs.OnePacket.{ok_once, err_once}
use Rattle.codestream_reader.proofs.Streams.{has_main, main_read}
use Rattle.codestream_reader.proofs.AfterMain.{long_early, long_only, main_early, main_only}
use Rattle.codestream_reader.proofs.AfterMain.{stream_short}
use Rattle.codestream_reader.proofs.whole.spans.Goals as goal

long : (c : goal.Then-bytes-limit) → frame_limit < length c.args.bytes.now
long c = subst (λ n. n < length c.args.bytes.now) c.limit-limit.ensures c.if-bytes-limit.true

short : (c : goal.In-Err) → length c.args.bytes.now ≤ frame_limit
short c = subst (λ n. length c.args.bytes.now ≤ n) c.limit-limit.ensures c.if-bytes-limit.false

-- more bytes than a frame may have

pub returns-then-bytes-limit-clause-reads : goal.returns-then-bytes-limit-clause-reads
returns-then-bytes-limit-clause-reads c s is =
    let few = stream_short c.args.bytes.now s is in
    let many = long c in
    absurd (omega (arith, few, many))

pub returns-then-bytes-limit-clause-refused : goal.returns-then-bytes-limit-clause-refused
returns-then-bytes-limit-clause-refused c = inr (of_early (of_frame (long c) refl))

pub returns-then-bytes-limit-clause-early : goal.returns-then-bytes-limit-clause-early
returns-then-bytes-limit-clause-early c refusal f =
    ap (λ k. Err k) (long_early c.args.bytes.now refusal (long c) f)

pub returns-then-bytes-limit-clause-faults : goal.returns-then-bytes-limit-clause-faults
returns-then-bytes-limit-clause-faults c refusal f =
    inl (ap (λ k. Err k) (long_only c.args.bytes.now refusal (long c) f))

-- a fault of the main header

pub returns-in-Err-clause-reads : goal.returns-in-Err-clause-reads
returns-in-Err-clause-reads c s is =
    absurd (ok_no_err c.read_main.result (main_read s) c.in-Err.fault
    (c.read_main.ensures.reads (main_read s)
    (has_main c.args.bytes.now s is.fits is.spelled)) c.in-Err.is)

pub returns-in-Err-clause-refused : goal.returns-in-Err-clause-refused
returns-in-Err-clause-refused c =
    inr (of_early (of_main (short c) c.in-Err.fault c.in-Err.ensures.refused refl))

pub returns-in-Err-clause-early : goal.returns-in-Err-clause-early
returns-in-Err-clause-early c refusal f =
    ap (λ k. Err k) (main_early c.args.bytes.now c.in-Err.fault refusal (short c)
    (λ other has. ok_no_err c.read_main.result other c.in-Err.fault
    (c.read_main.ensures.reads other has) c.in-Err.is)
    (λ g has. err_once {T = MainRead} {E = MarkerRefusal} c.in-Err.fault g
    (c.in-Err.ensures.faults g has)) f)

pub returns-in-Err-clause-faults : goal.returns-in-Err-clause-faults
returns-in-Err-clause-faults c refusal f =
    inl (ap (λ k. Err k) (main_only c.args.bytes.now c.in-Err.fault refusal (short c)
    (λ other has. ok_no_err c.read_main.result other c.in-Err.fault
    (c.read_main.ensures.reads other has) c.in-Err.is)
    (λ g has. err_once {T = MainRead} {E = MarkerRefusal} c.in-Err.fault g
    (c.in-Err.ensures.faults g has)) f))

-- a main header

pub after_main-requires-clause-only : goal.after_main-requires-clause-only
after_main-requires-clause-only c other has =
    ok_once {T = MainRead} {E = MarkerRefusal} c.in-Ok.read other (c.in-Ok.ensures.reads other has)

pub after_main-requires-clause-whole : goal.after_main-requires-clause-whole
after_main-requires-clause-whole c fault has =
    ok_no_err c.read_main.result c.in-Ok.read fault c.in-Ok.is
    (c.read_main.ensures.faults fault has)
