use Rattle.std.proofs.Common.{eqb, ◌-◌, ◌∙◌, sym, arith}
use Rattle.std.proofs.lemmas.Result.{err_from_is_err_and}
use Rattle.pnm_frames.specs.Reading.{gap_at, ranged_at, capped, digits_at}
use Rattle.pnm_frames.proofs.Keeping.{keeps-then, told-on}
use Rattle.pnm_frames.proofs.Headers.{fails-on, ranged-read, ranged-unfit, ranged-fault, ranged-bad}
use Rattle.pnm_frames.proofs.header.read_number.Goals as goal

pub returns-in_err-first-clause-reads : goal.returns-in_err-first-clause-reads
returns-in_err-first-clause-reads g c =
    let p = err_from_is_err_and c.from_residual.result c.from_residual.ensures.1 in
    let left = (g.F.Frames.reading c.args.f.now).left in
    rw (p.1, p.2) (λ told.
    fails-on c.in_err-first.field-0.0 (gap_at (eqb c.args.begun 35) c.args.at.now left)
    (ranged_at c.args.last c.args.low c.args.high c.args.begun c.args.at.now left)
    (ranged-fault c.args.last c.args.low c.args.high c.args.begun c.args.at.now left) (c.in_err-first.ensures.reads told))

pub returns-then-not-is_ascii_digit-clause-reads : goal.returns-then-not-is_ascii_digit-clause-reads
returns-then-not-is_ascii_digit-clause-reads g c = λ told.
    ranged-bad c.args.last c.args.low c.args.high c.args.begun _ _ _ _ _ (c.in_ok-first.ensures.reads told)
    (sym c.is_ascii_digit.ensures.value ∙ c.if-not-is_ascii_digit.true)

pub returns-in_err-n-clause-reads : goal.returns-in_err-n-clause-reads
returns-in_err-n-clause-reads g c =
    let p = err_from_is_err_and c.from_residual-in_err-n.result c.from_residual-in_err-n.ensures.1
    in
    let left = (g.F.Frames.reading c.args.f.now).left in
    rw (p.1, p.2) (λ told.
    fails-on c.in_err-n.field-0.0 (capped
    (digits_at c.args.last (c.in_ok-first.first - 48) c.skip_gap.new.at
    (g.F.Frames.reading c.skip_gap.new.f).left))
    (ranged_at c.args.last c.args.low c.args.high c.args.begun c.args.at.now left)
    (λ fault e. ranged-unfit c.args.last c.args.low c.args.high c.args.begun _ _ _ _ _ fault
    (c.in_ok-first.ensures.reads told)
    (sym c.is_ascii_digit.ensures.value ∙ c.if-not-is_ascii_digit.false) e)
    (c.in_err-n.ensures.reads (told-on _ _ c.skip_gap.ensures.keeps.source told)))

pub returns-in_err-n-clause-keeps : goal.returns-in_err-n-clause-keeps
returns-in_err-n-clause-keeps g c =
    keeps-then _ _ _ _ _ _ c.skip_gap.ensures.keeps c.read_digits.ensures.keeps

pub returns-clause-keeps : goal.returns-clause-keeps
returns-clause-keeps g c =
    keeps-then _ _ _ _ _ _ c.skip_gap.ensures.keeps c.read_digits.ensures.keeps

pub returns-clause-reads : goal.returns-clause-reads
returns-clause-reads g c = λ told.
    let read = ranged-read c.args.last c.args.low c.args.high c.args.begun c.args.at.now
    (g.F.Frames.reading c.args.f.now).left c.in_ok-first.first c.skip_gap.new.at
    (g.F.Frames.reading c.skip_gap.new.f).left
    c.in_ok-n.n c.in_ok-n.end c.read_digits.new.at (g.F.Frames.reading c.read_digits.new.f).left (omega arith)
    (c.in_ok-first.ensures.reads told)
    (sym c.is_ascii_digit.ensures.value ∙ c.if-not-is_ascii_digit.false)
    (c.in_ok-n.ensures.reads (told-on _ _ c.skip_gap.ensures.keeps.source told)) in
    rw c.in_range.ensures.value read
