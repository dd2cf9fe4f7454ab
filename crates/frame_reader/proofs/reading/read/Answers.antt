use Rattle.std.proofs.Common.{ℕ, ◌≡◌, ◌⊎◌, List, Err, ap, sym, subst, inl}
use Rattle.std.proofs.lemmas.Result.{IfErr-weaker}
use Rattle.codestream_reader.specs.Faults.{HasFault}
use Rattle.codestream_reader.specs.declared.refusal.ReadRefusal.{ReadRefusal}
use Rattle.codestream_reader.specs.declared.refusal.ReadRefusal.TheVariants.{Memory}
use Rattle.codestream_reader.specs.declared.stream.StreamSpans.{StreamSpans}
use Rattle.codestream_reader.proofs.Ending.{either, neither}
use Rattle.codestream_reader.proofs.Lists.{ok_no_err}
use Rattle.codestream_reader.proofs.OnePacket.{err_once}
use Rattle.profile_reader.specs.Reads.{Reads}
use Rattle.profile_reader.specs.Shown.{chosen_decoding}
use Rattle.frame_reader.specs.Decoded.{HaveSides, IsDecodedOf, IsMeaning, decoding_of, held_from}
use Rattle.frame_reader.proofs.Meaning.{can_decode, either_way, have_sides, held_there, meaning}
use Rattle.frame_reader.proofs.Meaning.{ok_weaker, only_meaning, stream_of}
use Rattle.frame_reader.proofs.reading.read.Goals as goal

-- a codestream that is refused

pub returns-in-Err-clause-reads : goal.returns-in-Err-clause-reads
returns-in-Err-clause-reads c d m =
    c.in-Err.ensures.reads m.reads.stream (stream_of c.args.bytes.now d m)

pub returns-in-Err-clause-early : goal.returns-in-Err-clause-early
returns-in-Err-clause-early c refusal f =
    ap (λ k. Err k) (err_once {T = StreamSpans} {E = ReadRefusal} c.in-Err.refusal refusal
    (c.in-Err.ensures.early refusal f))

pub returns-in-Err-clause-faults : goal.returns-in-Err-clause-faults
returns-in-Err-clause-faults c refusal f =
    either (λ e. ap (λ k. Err k)
    (err_once {T = StreamSpans} {E = ReadRefusal} c.in-Err.refusal refusal e))
    (λ e. ap (λ k. Err k)
    (err_once {T = StreamSpans} {E = ReadRefusal} c.in-Err.refusal Memory e))
    (c.in-Err.ensures.faults refusal f)

pub returns-in-Err-clause-written : goal.returns-in-Err-clause-written
returns-in-Err-clause-written c g steps planes choice can is within =
    let d = chosen_decoding g steps planes choice in
    let m : IsMeaning c.args.bytes.now d =
    record {
      reads = subst (λ (bytes : List ℕ). Reads bytes d) (sym is)
          (c.chosen_reads.ensures.reads g steps planes choice can);
      within = within;
    } in
    c.in-Err.ensures.reads m.reads.stream (stream_of c.args.bytes.now d m)

-- and one that is found

pub decode-requires : goal.decode-requires
decode-requires c =
    let s = c.in-Ok.ensures.found in
    record { can = can_decode c.args.bytes.now s.0 c.in-Ok.found s.1.0 s.1.1 }

pub returns-in-Ok-clause-found : goal.returns-in-Ok-clause-found
returns-in-Ok-clause-found c =
    let s = c.in-Ok.ensures.found in
    ok_weaker c.decode.result (IsDecodedOf c.args.bytes.now c.in-Ok.found)
    (λ d. IsMeaning c.args.bytes.now (decoding_of d))
    (λ d decoded. meaning c.args.bytes.now s.0 c.in-Ok.found d s.1.0 s.1.1 decoded)
    c.decode.ensures.decoded

pub returns-in-Ok-clause-held : goal.returns-in-Ok-clause-held
returns-in-Ok-clause-held c =
    let s = c.in-Ok.ensures.found in
    ok_weaker c.decode.result (IsDecodedOf c.args.bytes.now c.in-Ok.found)
    (λ d. d.held ≡ held_from c.args.bytes.now d.main)
    (λ d decoded. held_there c.args.bytes.now s.0 c.in-Ok.found d s.1.0 s.1.1 decoded)
    c.decode.ensures.decoded

pub returns-in-Ok-clause-sides : goal.returns-in-Ok-clause-sides
returns-in-Ok-clause-sides c =
    let s = c.in-Ok.ensures.found in
    ok_weaker c.decode.result (IsDecodedOf c.args.bytes.now c.in-Ok.found) HaveSides
    (λ d decoded. have_sides c.args.bytes.now s.0 c.in-Ok.found d s.1.0 s.1.1 decoded)
    c.decode.ensures.decoded

pub returns-in-Ok-clause-reads : goal.returns-in-Ok-clause-reads
returns-in-Ok-clause-reads c e m =
    let s = c.in-Ok.ensures.found in
    either_way c.decode.result (λ d. decoding_of d ≡ e) (λ refusal. refusal ≡ Memory)
    (ok_weaker c.decode.result (IsDecodedOf c.args.bytes.now c.in-Ok.found)
    (λ d. decoding_of d ≡ e)
    (λ d decoded. only_meaning c.args.bytes.now s.0 c.in-Ok.found d e
    c.said_once.ensures.said c.said_once.ensures.decoding s.1.0 s.1.1 decoded m
    (c.in-Ok.ensures.reads m.reads.stream (stream_of c.args.bytes.now e m)))
    c.decode.ensures.decoded)
    c.decode.ensures.memory

pub returns-in-Ok-clause-written : goal.returns-in-Ok-clause-written
returns-in-Ok-clause-written c g steps planes choice can is within =
    let d = chosen_decoding g steps planes choice in
    returns-in-Ok-clause-reads c d
    (record {
      reads = subst (λ (bytes : List ℕ). Reads bytes d) (sym is)
          (c.chosen_reads.ensures.reads g steps planes choice can);
      within = within;
    })

pub returns-in-Ok-clause-refused : goal.returns-in-Ok-clause-refused
returns-in-Ok-clause-refused c =
    IfErr-weaker c.decode.result (λ refusal. refusal ≡ Memory)
    (λ refusal. (refusal ≡ Memory) ⊎ HasFault c.args.bytes.now refusal) (λ refusal is. inl is)
    c.decode.ensures.memory

pub returns-in-Ok-clause-early : goal.returns-in-Ok-clause-early
returns-in-Ok-clause-early c refusal f =
    absurd (ok_no_err c.spans.result c.in-Ok.found refusal c.in-Ok.is
    (c.spans.ensures.early refusal f))

pub returns-in-Ok-clause-faults : goal.returns-in-Ok-clause-faults
returns-in-Ok-clause-faults c refusal f =
    absurd (neither (ok_no_err c.spans.result c.in-Ok.found refusal c.in-Ok.is)
    (ok_no_err c.spans.result c.in-Ok.found Memory c.in-Ok.is) (c.spans.ensures.faults refusal f))
