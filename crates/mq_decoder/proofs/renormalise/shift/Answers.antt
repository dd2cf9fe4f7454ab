use Rattle.std.proofs.Common.{◌≡◌, ◌-◌, ◌*◌, ℕ, suc, arith, ap}
use Rattle.mq_coder.proofs.Holding.{holds_doubled, holds_fed}
use Rattle.mq_decoder.proofs.Feeding.{feeds}
use Rattle.mq_decoder.proofs.renormalise.shift.Goals as goal

pub returns-then-r-gt0-clause-holds : goal.returns-then-r-gt0-clause-holds
returns-then-r-gt0-clause-holds c = λ it h.
    let size = h.size in
    let e : c.args.r.ct ≡ suc (c.args.r.ct - 1) = omega arith in
    record {
      size = ap (λ (a : ℕ). 2 * a) size;
      holds = holds_doubled _ c.args.r.c (c.args.r.ct - 1) _ _ it (rw e at h.holds) (omega arith);
    }

pub returns-clause-holds : goal.returns-clause-holds
returns-clause-holds c = λ it h.
    let size = h.size in
    let none : c.args.r.ct ≡ 0 = omega arith in
    let fed = rw (← c.byte_in-next.ensures.read) at (feeds c.args.bytes.now c.args.r.place) in
    let next = holds_fed _ c.args.r.c c.byte_in-next.result.byte c.byte_in-next.result.bits _ _ _ _ it (rw none at h.holds) fed (omega arith) in
    record {
      size = ap (λ (a : ℕ). 2 * a) size;
      holds = rw (c.fed-c.ensures, size) next;
    }
