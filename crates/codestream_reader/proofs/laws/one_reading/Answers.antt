use Rattle.cinema_markers.specs.declared.header.MainRead.{MainRead}
use Rattle.cinema_markers.specs.declared.refusal.MarkerRefusal.{MarkerRefusal}
use Rattle.codestream_reader.proofs.Lists.{ok_no_err}
use Rattle.codestream_reader.proofs.OnePacket.{ok_once}
use Rattle.codestream_reader.proofs.Streams.{has_main, main_read}
use Rattle.codestream_reader.proofs.laws.one_reading.Goals as goal

pub returns-in-Err : goal.returns-in-Err
returns-in-Err c = record {
  one = λ d e r q.
      absurd (ok_no_err c.read_main.result (main_read r.stream) c.in-Err.fault
      (c.read_main.ensures.reads (main_read r.stream)
      (has_main c.args.bytes.now r.stream r.fits r.spelled)) c.in-Err.is);
}

pub one_after-requires-clause-only : goal.one_after-requires-clause-only
one_after-requires-clause-only c other has =
    ok_once {T = MainRead} {E = MarkerRefusal} c.in-Ok.read other
    (c.in-Ok.ensures.reads other has)
