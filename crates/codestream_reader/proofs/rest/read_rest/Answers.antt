use Rattle.std.proofs.Common.{◌≡◌, Err, Result, ap, sym, subst, ◌∙◌, ◌⊎◌, inl, inr, drop}
use Rattle.std.specs.Prelude.{IfErr, MatchResult}
use Rattle.std.proofs.lemmas.Result.{err_from_is_err_and}
use Rattle.profile_reader.specs.Reads.{PartsSay}
use Rattle.tile_parts.specs.Head.{eoc}
use Rattle.codestream_reader.specs.Faults.{EndFault, RestFault}
use Rattle.codestream_reader.specs.Spans.{said_of}
use Rattle.codestream_reader.specs.Whole.{end_of}
use Rattle.codestream_reader.specs.declared.refusal.ReadRefusal.{ReadRefusal}
use Rattle.codestream_reader.specs.declared.refusal.ReadRefusal.TheVariants.{Memory}
use Rattle.codestream_reader.proofs.Ending.{either, end_once, no_end_fault, no_parts_fault}
use Rattle.codestream_reader.proofs.Ending.{rest_err, rest_ended, rest_fault, rest_refused}
use Rattle.codestream_reader.proofs.Ending.{rest_stands}
use Rattle.codestream_reader.proofs.rest.read_rest.Goals as goal

-- the tile-parts are refused

err_is : (c : goal.After-from_residual) → c.from_residual.result ≡ Err c.in_err-to.field-0.0
err_is c =
    let p = err_from_is_err_and c.from_residual.result c.from_residual.ensures.1 in
    p.1 ∙ ap (λ k. Err k) p.2

pub returns-in_err-to-clause-reads : goal.returns-in_err-to-clause-reads
returns-in_err-to-clause-reads c ws stands =
    subst (λ (r : Result (Unit {0}) ReadRefusal). MatchResult r (λ _. PartsSay
    c.args.geometry.now (said_of c.args.bytes.now c.read_tile_parts.new.spans) 0 ws)
    (λ refusal. refusal ≡ Memory)) (sym (err_is c))
    (c.in_err-to.ensures.reads ws (end_of c.args.read.now) stands.parts)

pub returns-in_err-to-clause-refused : goal.returns-in_err-to-clause-refused
returns-in_err-to-clause-refused c =
    subst (λ (r : Result (Unit {0}) ReadRefusal). IfErr r (λ refusal. (refusal ≡ Memory)
    ⊎ RestFault c.args.bytes.now c.args.read.now c.args.geometry.now refusal)) (sym (err_is c))
    (rest_refused c.args.bytes.now c.args.read.now c.args.geometry.now c.in_err-to.field-0.0
    c.in_err-to.ensures.refused)

pub returns-in_err-to-clause-faults : goal.returns-in_err-to-clause-faults
returns-in_err-to-clause-faults c refusal f =
    either (λ e. err_is c ∙ ap (λ k. Err k) e) (λ e. err_is c ∙ ap (λ k. Err k) e)
    (rest_err c.args.bytes.now c.args.read.now c.args.geometry.now c.in_err-to.field-0.0 refusal
    c.in_err-to.ensures.reads c.in_err-to.ensures.faults f)

-- they are read

pub returns-in-Some-clause-reads : goal.returns-in-Some-clause-reads
returns-in-Some-clause-reads c ws stands =
    let is = (c.in_ok-to.ensures.reads ws (end_of c.args.read.now) stands.parts).0 in
    absurd (no_end_fault c.args.bytes.now c.in_ok-to.to c.in-Some.refusal
    (ap (λ n. drop n c.args.bytes.now) is ∙ stands.end) c.in-Some.ensures.some)

pub returns-in-Some-clause-refused : goal.returns-in-Some-clause-refused
returns-in-Some-clause-refused c =
    let s = c.in_ok-to.ensures.stand in
    inr (rest_fault c.args.bytes.now c.args.read.now c.args.geometry.now c.in_ok-to.to s.0
    c.in-Some.refusal s.1 c.in-Some.ensures.some)

pub returns-in-Some-clause-faults : goal.returns-in-Some-clause-faults
returns-in-Some-clause-faults c refusal f =
    let s = c.in_ok-to.ensures.stand in
    inl (ap (λ k. Err k) (end_once c.args.bytes.now (end_of c.args.read.now) c.in-Some.refusal
    refusal
    (subst (λ n. EndFault c.args.bytes.now n c.in-Some.refusal) s.1.to_is c.in-Some.ensures.some)
    (rest_ended c.args.bytes.now c.args.read.now c.args.geometry.now refusal
    (λ h. no_parts_fault c.in_ok-to.to refusal (c.in_ok-to.ensures.faults refusal h)) f)))

pub returns-in-None-clause-stand : goal.returns-in-None-clause-stand
returns-in-None-clause-stand c =
    let s = c.in_ok-to.ensures.stand in (
      s.0,
      rest_stands c.args.bytes.now c.args.read.now c.args.geometry.now c.in_ok-to.to s.0 s.1
          (c.end_fault.ensures.none c.in-None.is),
    )

pub returns-in-None-clause-reads : goal.returns-in-None-clause-reads
returns-in-None-clause-reads c ws stands =
    (c.in_ok-to.ensures.reads ws (end_of c.args.read.now) stands.parts).1

pub returns-in-None-clause-faults : goal.returns-in-None-clause-faults
returns-in-None-clause-faults c refusal f =
    let s = c.in_ok-to.ensures.stand in
    absurd (no_end_fault c.args.bytes.now (end_of c.args.read.now) refusal
    (subst (λ n. drop n c.args.bytes.now ≡ eoc) s.1.to_is (c.end_fault.ensures.none c.in-None.is))
    (rest_ended c.args.bytes.now c.args.read.now c.args.geometry.now refusal
    (λ h. no_parts_fault c.in_ok-to.to refusal (c.in_ok-to.ensures.faults refusal h)) f))
