use Rattle.std.proofs.Common.{◌∙◌, sym, arith}
use Rattle.std.proofs.lemmas.Result.{err_from_is_err_and}
use Rattle.pnm_frames.specs.Reading.{byte_at, capped, digits_at}
use Rattle.pnm_frames.proofs.Keeping.{keeps-then, told-on}
use Rattle.pnm_frames.proofs.Headers.{fails-on, digits-fault, digits-end, digits-bad, digits-more}
use Rattle.pnm_frames.proofs.header.read_digits.Goals as goal

pub returns-in_err-b-clause-keeps : goal.returns-in_err-b-clause-keeps
returns-in_err-b-clause-keeps g c =
    keeps-then _ _ _ _ _ _ c.loop-b.invariant.keeps c.read_header_byte.ensures.keeps

pub returns-in_err-b-clause-reads : goal.returns-in_err-b-clause-reads
returns-in_err-b-clause-reads g c =
    let p = err_from_is_err_and c.from_residual.result c.from_residual.ensures.1 in
    let left = (g.F.Frames.reading c.loop-b.f).left in
    rw (p.1, p.2) (λ told. rw (c.loop-b.invariant.reads told)
    (fails-on c.in_err-b.field-0.0 (byte_at c.loop-b.at left)
    (capped (digits_at c.args.last c.loop-b.n c.loop-b.at left)) (digits-fault c.args.last c.loop-b.n c.loop-b.at left)
    (c.in_err-b.ensures.reads (told-on _ _ c.loop-b.invariant.keeps.source told))))

pub returns-then-ends_number-clause-keeps : goal.returns-then-ends_number-clause-keeps
returns-then-ends_number-clause-keeps g c =
    keeps-then _ _ _ _ _ _ c.loop-b.invariant.keeps c.read_header_byte.ensures.keeps

pub returns-then-ends_number-clause-reads : goal.returns-then-ends_number-clause-reads
returns-then-ends_number-clause-reads g c = λ told.
    c.loop-b.invariant.reads told
    ∙ digits-end c.args.last c.loop-b.n c.loop-b.at _ _ _ _ c.loop-b.invariant.worth
    (c.in_ok-b.ensures.reads (told-on _ _ c.loop-b.invariant.keeps.source told))
    (sym c.ends_number.ensures ∙ c.if-ends_number.true)

pub returns-then-not-is_ascii_digit-clause-keeps : goal.returns-then-not-is_ascii_digit-clause-keeps
returns-then-not-is_ascii_digit-clause-keeps g c =
    keeps-then _ _ _ _ _ _ c.loop-b.invariant.keeps c.read_header_byte.ensures.keeps

pub returns-then-not-is_ascii_digit-clause-reads : goal.returns-then-not-is_ascii_digit-clause-reads
returns-then-not-is_ascii_digit-clause-reads g c = λ told.
    c.loop-b.invariant.reads told ∙ digits-bad c.args.last c.loop-b.n c.loop-b.at _ _ _ _
    (c.in_ok-b.ensures.reads (told-on _ _ c.loop-b.invariant.keeps.source told))
    (sym c.ends_number.ensures ∙ c.if-ends_number.false)
    (sym c.is_ascii_digit.ensures.value ∙ c.if-not-is_ascii_digit.true)

pub loop-b-preserved : goal.loop-b-preserved
loop-b-preserved g c = record {
  reads = λ told.
      c.loop-b.invariant.reads told ∙ digits-more c.args.last c.loop-b.n c.loop-b.at _ _ _ _ _
      (c.in_ok-b.ensures.reads (told-on _ _ c.loop-b.invariant.keeps.source told))
      (sym c.ends_number.ensures ∙ c.if-ends_number.false)
      (sym c.is_ascii_digit.ensures.value ∙ c.if-not-is_ascii_digit.false) c.with_digit-n.ensures;
  place = omega (arith, c.in_ok-b.ensures.at, c.in_ok-b.ensures.room);
  worth = omega (arith, c.with_digit-n.ensures);
  keeps = keeps-then _ _ _ _ _ _ c.loop-b.invariant.keeps c.read_header_byte.ensures.keeps;
  working = c.in_ok-b.ensures.failed;
}
