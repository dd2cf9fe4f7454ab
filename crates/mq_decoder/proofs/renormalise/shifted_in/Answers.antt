use Rattle.std.proofs.Common.{◌≡◌, ℕ, suc, ◌+◌, ◌-◌, ◌*◌, ◌<◌, ◌≤◌, ◌^◌, inl, inr, arith, refl, ap}
use Rattle.std.proofs.Common.{◌∙◌}
use Rattle.std.proofs.Math.Pow.{pow_mono}
use Rattle.std.proofs.Math.Nat.{mul-le-mul_left, pow-succ'}
use Rattle.std.proofs.lemmas.Bool.{cases_lt}
use Rattle.std.proofs.lemmas.Nat.{pow-add}
use Rattle.mq_decoder.proofs.Turning.{moved_more}
use Rattle.mq_decoder.proofs.renormalise.shifted_in.Goals.{else-loop-test}
use Rattle.mq_decoder.proofs.renormalise.shifted_in.Goals.{then-loop-test+then-due-now}
use Rattle.mq_decoder.proofs.renormalise.shifted_in.Goals as goal

-- doubled as often as shifts are left, A may be doubled once more
room : (a ct due : ℕ) → ct < due → a * 2 ^ due < 2 ^ 16 → a * 2 ^ ct < 2 ^ 15
room a ct due less narrow =
    let p : 2 ^ suc ct ≤ 2 ^ due = pow_mono less in
    let q : a * 2 ^ suc ct ≤ a * 2 ^ due = mul-le-mul_left a p in
    let e : a * 2 ^ suc ct ≡ 2 * (a * 2 ^ ct) = rw (pow-succ' 2 ct) (omega arith) in
    omega arith

pub loop-init : goal.loop-init
loop-init c = record {
  in_step = λ it h. record { turned = it; holds = h; same_end = refl };
  width = refl;
  first = λ none. omega arith;
  pace = omega arith;
  left = λ some. absurd (omega arith);
  inside = c.requires.inside;
}

pub shifted-empty-requires-clause-narrow : goal.shifted-empty-requires-clause-narrow
shifted-empty-requires-clause-narrow c =
    let width = c.loop.invariant.width in
    let narrow = c.requires.narrow in
    let few = room c.loop.now.a c.loop.now.ct c.loop.due c.if-due-now.false (omega arith) in
    omega arith

pub shift-now-requires-clause-small : goal.shift-now-requires-clause-small
shift-now-requires-clause-small c =
    let width = c.loop.invariant.width in
    let narrow = c.requires.narrow in
    let wider = c.shifted-empty.ensures.wider in
    let few = room c.loop.now.a c.loop.now.ct c.loop.due c.if-due-now.false (omega arith) in
    omega arith

pub loop-preserved : goal.loop-preserved
loop-preserved c =
    let due : ℕ = c.loop.due in
    let ct : ℕ = c.loop.now.ct in
    let less : ℕ = due - (ct + 1) in
    let below = c.if-due-now.false in
    let e : due ≡ ct + (1 + less) = omega arith in
    let f : due ≡ suc ct + less = omega arith in
    let p : 2 ^ due ≡ 2 ^ suc ct * 2 ^ less = ap (λ (n : ℕ). 2 ^ n) f ∙ pow-add 2 (suc ct) less in
    let inv = c.loop.invariant in
    let pace = inv.pace in
    let empty = c.shifted-empty.ensures.left in
    let wider = c.shifted-empty.ensures.wider in
    let twice_is = c.shift-now.ensures.twice in
    record {
      in_step = λ it h. moved_more _ c.loop.now c.shifted-empty.result _ it _ due ct less e
          (c.shifted-empty.ensures.holds _) c.shift-now.ensures.holds (inv.in_step it h);
      width = rw (twice_is, wider) (let w : 2 * (c.loop.now.a * 2 ^ ct) * 2 ^ less
          ≡ c.loop.now.a * 2 ^ due = rw (p, pow-succ' 2 ct) (omega arith) in w ∙ inv.width);
      first = λ none. absurd (omega arith);
      pace = elim (cases_lt 0 c.loop.counter) [
        | inl later ↦ let left = inv.left later in omega arith
        | inr none ↦ let first = inv.first (omega arith) in omega arith
      ];
      left = λ some. c.shift-now.ensures.left (omega arith);
      inside = c.shift-now.ensures.inside;
    }

pub shifted-requires-clause-within : goal.shifted-requires-clause-within
shifted-requires-clause-within c = elim c.loop-test.branch [
  | else-loop-test w ↦
      let pace = c.loop.invariant.pace in
      let few = c.requires.shifts in
      let end = w.loop-test.false in
      omega arith
  | then-loop-test+then-due-now w ↦ w.if-due-now.true
]

pub shifted-requires-clause-narrow : goal.shifted-requires-clause-narrow
shifted-requires-clause-narrow c =
    let width = c.loop.invariant.width in
    let narrow = c.requires.narrow in
    omega arith

pub returns-clause-holds : goal.returns-clause-holds
returns-clause-holds c = λ it h.
    let moved = c.loop.invariant.in_step it h in
    rw moved.same_end (c.shifted.ensures.holds _ moved.turned moved.holds)

pub returns-clause-wider : goal.returns-clause-wider
returns-clause-wider c = c.shifted.ensures.wider ∙ c.loop.invariant.width
