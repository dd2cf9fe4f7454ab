use Rattle.std.proofs.Common.{◌≡◌, ℕ, ◌+◌, ◌-◌, ◌*◌, ◌≤◌, ◌^◌, inl, inr, arith, refl, ap}
use Rattle.std.proofs.Common.{◌∙◌}
use Rattle.std.proofs.Math.Pow.{pow_mono}
use Rattle.std.proofs.Math.Nat.{mul-le-mul_left}
use Rattle.std.proofs.lemmas.Bool.{cases_lt}
use Rattle.std.proofs.lemmas.Nat.{pow-add}
use Rattle.mq_coder.specs.Shifts.{shifts}
use Rattle.mq_coder.specs.Registers.{coding_of}
use Rattle.mq_coder.proofs.Lists.{take_less}
use Rattle.mq_coder.proofs.Shifting.{shifts_add}
use Rattle.mq_coder.proofs.renormalise.shifted_out.Goals.{else-loop-test}
use Rattle.mq_coder.proofs.renormalise.shifted_out.Goals.{then-loop-test+then-due-now}
use Rattle.mq_coder.proofs.renormalise.shifted_out.Goals as goal

pub loop-init : goal.loop-init
loop-init c = record {
  in_step = λ contexts. refl;
  width = refl;
  first = λ none. omega arith;
  pace = omega arith;
  seven = λ some. absurd (omega arith);
  count = omega arith;
  fixed = refl;
}

pub next_byte-now-requires-clause-narrow : goal.next_byte-now-requires-clause-narrow
next_byte-now-requires-clause-narrow c =
    let p : 2 ^ c.loop.now.ct ≤ 2 ^ c.loop.due = pow_mono c.if-due-now.false in
    let q : c.loop.now.a * 2 ^ c.loop.now.ct ≤ c.loop.now.a * 2 ^ c.loop.due =
    mul-le-mul_left c.loop.now.a p in
    let width = c.loop.invariant.width in
    let narrow = c.requires.narrow in
    omega arith

pub next_byte-now-requires-clause-room : goal.next_byte-now-requires-clause-room
next_byte-now-requires-clause-room c =
    let room = c.requires.room in
    let count = c.loop.invariant.count in
    let long = c.loop.auto.bytes in
    let test = c.loop-test.true in
    omega arith

pub loop-preserved : goal.loop-preserved
loop-preserved c =
    let due : ℕ = c.loop.due in
    let ct : ℕ = c.loop.now.ct in
    let less = c.if-due-now.false in
    let e : due ≡ ct + (due - ct) = omega arith in
    let p : 2 ^ due ≡ 2 ^ ct * 2 ^ (due - ct) = ap (λ (n : ℕ). 2 ^ n) e ∙ pow-add 2 ct (due - ct) in
    let inv = c.loop.invariant in
    let some = c.loop.now.shifts_left in
    let pace = inv.pace in
    let count = inv.count in
    let one_more = c.next_byte-now.ensures.count in
    let wider = c.next_byte-now.ensures.wider in
    record {
      in_step = λ contexts. inv.in_step contexts
          ∙ (ap (λ (n : ℕ). shifts n (coding_of c.loop.now c.loop.bytes contexts)) e
          ∙ (shifts_add ct (due - ct) (coding_of c.loop.now c.loop.bytes contexts)
          ∙ ap (shifts (due - ct)) (c.next_byte-now.ensures.exact contexts)));
      width = rw wider (let w : c.loop.now.a * 2 ^ ct * 2 ^ (due - ct) ≡ c.loop.now.a * 2 ^ due =
          rw p (omega arith) in w ∙ inv.width);
      first = λ none. absurd (omega arith);
      pace = elim (cases_lt 0 c.loop.counter) [
        | inl later ↦ let seven = inv.seven later in omega arith
        | inr none ↦ let first = inv.first (omega arith) in omega arith
      ];
      seven = λ some. c.next_byte-now.ensures.seven;
      count = omega arith;
      fixed = take_less _ _ (c.loop.now.count - 1)
          (c.args.r.count - 1) c.next_byte-now.ensures.fixed (omega arith) ∙ inv.fixed;
    }

pub shifted-requires-clause-within : goal.shifted-requires-clause-within
shifted-requires-clause-within c = elim c.loop-test.branch [
  | else-loop-test w ↦
      let pace = c.loop.invariant.pace in
      let few = c.requires.shifts in
      let end = w.loop-test.false in
      let some = c.loop.now.shifts_left in
      omega arith
  | then-loop-test+then-due-now w ↦ w.if-due-now.true
]

pub shifted-requires-clause-narrow : goal.shifted-requires-clause-narrow
shifted-requires-clause-narrow c =
    let width = c.loop.invariant.width in
    let narrow = c.requires.narrow in
    omega arith

pub returns-clause-exact : goal.returns-clause-exact
returns-clause-exact c = λ contexts.
    c.loop.invariant.in_step contexts ∙ c.shifted.ensures.exact c.loop.bytes contexts

pub returns-clause-wider : goal.returns-clause-wider
returns-clause-wider c = c.shifted.ensures.wider ∙ c.loop.invariant.width

pub returns-clause-grows : goal.returns-clause-grows
returns-clause-grows c =
    let same = c.shifted.ensures.count in
    let count = c.loop.invariant.count in
    omega arith

pub returns-clause-three : goal.returns-clause-three
returns-clause-three c =
    let same = c.shifted.ensures.count in
    let count = c.loop.invariant.count in
    let end = c.loop.auto.counter-end in
    omega arith

pub returns-clause-fixed : goal.returns-clause-fixed
returns-clause-fixed c = c.loop.invariant.fixed
