use Rattle.std.proofs.Common.{◌∙◌, sym, arith}
use Rattle.std.proofs.lemmas.Result.{err_from_is_err_and}
use Rattle.pnm_frames.specs.Reading.{byte_at, gap_at}
use Rattle.pnm_frames.proofs.Keeping.{keeps-then, told-on}
use Rattle.pnm_frames.proofs.Headers.{fails-on, gap-fault, gap-ends, gap-more}
use Rattle.pnm_frames.proofs.header.skip_gap.Goals as goal

pub returns-in_err-b-clause-keeps : goal.returns-in_err-b-clause-keeps
returns-in_err-b-clause-keeps g c =
    keeps-then _ _ _ _ _ _ c.loop-b.invariant.keeps c.read_header_byte.ensures.keeps

pub returns-in_err-b-clause-reads : goal.returns-in_err-b-clause-reads
returns-in_err-b-clause-reads g c =
    let p = err_from_is_err_and c.from_residual.result c.from_residual.ensures.1 in
    let left = (g.F.Frames.reading c.loop-b.f).left in
    rw (p.1, p.2) (λ told. rw (c.loop-b.invariant.reads told)
    (fails-on c.in_err-b.field-0.0 (byte_at c.loop-b.at left) (gap_at c.loop-b.commented c.loop-b.at left)
    (gap-fault c.loop-b.commented c.loop-b.at left)
    (c.in_err-b.ensures.reads (told-on _ _ c.loop-b.invariant.keeps.source told))))

pub returns-then-not-goes_on-clause-keeps : goal.returns-then-not-goes_on-clause-keeps
returns-then-not-goes_on-clause-keeps g c =
    keeps-then _ _ _ _ _ _ c.loop-b.invariant.keeps c.read_header_byte.ensures.keeps

pub returns-then-not-goes_on-clause-reads : goal.returns-then-not-goes_on-clause-reads
returns-then-not-goes_on-clause-reads g c = λ told.
    c.loop-b.invariant.reads told ∙ gap-ends c.loop-b.commented c.loop-b.at _ _ _ _
    (c.in_ok-b.ensures.reads (told-on _ _ c.loop-b.invariant.keeps.source told))
    (sym c.goes_on.ensures ∙ c.if-not-goes_on.true)

pub loop-b-preserved : goal.loop-b-preserved
loop-b-preserved g c = record {
  reads = λ told.
      c.loop-b.invariant.reads told ∙ gap-more c.loop-b.commented _ c.loop-b.at _ _ _ _
      (c.in_ok-b.ensures.reads (told-on _ _ c.loop-b.invariant.keeps.source told))
      (sym c.goes_on.ensures ∙ c.if-not-goes_on.false) c.stays_open-commented.ensures;
  place = omega (arith, c.in_ok-b.ensures.at, c.in_ok-b.ensures.room);
  keeps = keeps-then _ _ _ _ _ _ c.loop-b.invariant.keeps c.read_header_byte.ensures.keeps;
  working = c.in_ok-b.ensures.failed;
}
