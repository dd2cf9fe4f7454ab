use Rattle.std.proofs.Common.{Err, ap, inl, inr, refl}
use Rattle.codestream_reader.specs.Faults.EarlyFault.{of_planes}
use Rattle.codestream_reader.specs.Faults.HasFault.{of_early}
use Rattle.codestream_reader.proofs.Streams.{exponents_fit}
use Rattle.codestream_reader.proofs.AfterMain.{few_not_many, none_early, planes_early}
use Rattle.codestream_reader.proofs.AfterMain.{planes_only, stream_few}
use Rattle.codestream_reader.proofs.whole.after_main.Goals as goal

pub many_planes-requires-clause-exponents : goal.many_planes-requires-clause-exponents
many_planes-requires-clause-exponents c =
    exponents_fit c.args.bytes.now c.args.read c.requires.main

pub returns-in-Some-clause-reads : goal.returns-in-Some-clause-reads
returns-in-Some-clause-reads c s is =
    absurd (few_not_many c.args.read.main.steps c.in-Some.band
    (stream_few c.args.bytes.now c.args.read s (record {
      main = c.requires.main;
      only = c.requires.only;
    }) is.fits is.spelled) c.in-Some.ensures.some)

pub returns-in-Some-clause-refused : goal.returns-in-Some-clause-refused
returns-in-Some-clause-refused c =
    inr (of_early (of_planes c.requires.short c.args.read c.requires.main c.in-Some.band
    c.in-Some.ensures.some refl))

pub returns-in-Some-clause-early : goal.returns-in-Some-clause-early
returns-in-Some-clause-early c refusal f =
    ap (λ k. Err k) (planes_early c.args.bytes.now c.args.read c.in-Some.band refusal
    c.requires.short (record { main = c.requires.main; only = c.requires.only })
    c.requires.whole c.in-Some.ensures.some f)

pub returns-in-Some-clause-faults : goal.returns-in-Some-clause-faults
returns-in-Some-clause-faults c refusal f =
    inl (ap (λ k. Err k) (planes_only c.args.bytes.now c.args.read c.in-Some.band refusal
    c.requires.short (record { main = c.requires.main; only = c.requires.only })
    c.requires.whole c.in-Some.ensures.some f))

pub returns-in-None-clause-early : goal.returns-in-None-clause-early
returns-in-None-clause-early c refusal f =
    absurd (none_early c.args.bytes.now c.args.read refusal c.requires.short
    (record { main = c.requires.main; only = c.requires.only }) c.requires.whole
    (c.many_planes.ensures.none c.in-None.is) f)
