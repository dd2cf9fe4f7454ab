use Rattle.std.proofs.Common.{◌≡◌, ◌-◌, ◌*◌, ◌/◌, ◌%◌, ◌<◌, ◌≤◌, ◌^◌, ℕ, ap, ◌∙◌, arith}
use Rattle.std.proofs.lemmas.Bool.{lt-ltb, le-ltb}
use Rattle.mq_coder.specs.Decisions.{estimate}
use Rattle.mq_coder.proofs.Holding.{holds_lower, holds_upper}
use Rattle.mq_coder.proofs.Stands.{part_lower, part_upper}
use Rattle.mq_decoder.proofs.subintervals.subinterval.Goals as goal

pub returns-then-r-qe-clause-holds : goal.returns-then-r-qe-clause-holds
returns-then-r-qe-clause-holds c = λ bytes it cx e h.
    let size = h.size in
    let low : c.args.r.c / 2 ^ 16 < estimate it.contexts cx = rw (← e) c.if-r-qe.true in
    rw (lt-ltb (c.args.r.c / 65536) c.args.qe c.if-r-qe.true) (record {
      size = rw (part_lower it cx) e;
      holds = holds_lower bytes c.args.r.c c.args.r.ct _ _ it cx h.holds (omega arith) low;
    })

pub returns-clause-holds : goal.returns-clause-holds
returns-clause-holds c = λ bytes it cx e h.
    let size = h.size in
    let high : estimate it.contexts cx ≤ c.args.r.c / 2 ^ 16 = rw (← e) c.if-r-qe.false in
    let shifted : c.args.qe * 65536 % 4294967296 ≡ estimate it.contexts cx * 2 ^ 16 = omega arith in
    rw (le-ltb (c.args.r.c / 65536) c.args.qe c.if-r-qe.false) (record {
      size = rw (part_upper it cx) (ap (λ (q : ℕ). c.args.r.a - q) e
          ∙ ap (λ (a : ℕ). a - estimate it.contexts cx) size);
      holds = rw shifted (holds_upper bytes c.args.r.c c.args.r.ct _ _ it cx h.holds
          (omega arith) high);
    })
