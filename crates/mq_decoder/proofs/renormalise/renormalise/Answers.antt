use Rattle.std.proofs.Common.{◌≡◌, ◌*◌, ◌≤◌, ◌<◌, ◌^◌, ℕ, arith, ap}
use Rattle.mq_coder.specs.Decisions.{Interval, doubled}
use Rattle.mq_decoder.specs.Turns.{twices}
use Rattle.mq_decoder.proofs.Turning.{doubled_twices}
use Rattle.mq_decoder.proofs.renormalise.renormalise.Goals as goal

-- the turns that are due
due : (a n : ℕ) (it : Interval) → a ≡ it.size → n ≤ 15 → 2 ^ 15 ≤ a * 2 ^ n → a * 2 ^ n < 2 ^ 16
    → doubled 15 it ≡ twices n it
due a n it size few wide narrow =
    let same : a * 2 ^ n ≡ it.size * 2 ^ n = ap (λ (v : ℕ). v * 2 ^ n) size in
    doubled_twices 15 n it few (omega arith) (omega arith)

pub returns-then-n-r-clause-holds : goal.returns-then-n-r-clause-holds
returns-then-n-r-clause-holds c = λ it h.
    let turns = c.shifts_due-n.ensures in
    rw (due c.args.r.a c.shifts_due-n.result it h.size turns.few turns.wide turns.narrow)
    (c.shifted.ensures.holds _ it h)

pub returns-else-n-r-clause-holds : goal.returns-else-n-r-clause-holds
returns-else-n-r-clause-holds c = λ it h.
    let turns = c.shifts_due-n.ensures in
    rw (due c.args.r.a c.shifts_due-n.result it h.size turns.few turns.wide turns.narrow)
    (c.shifted_in.ensures.holds it h)
