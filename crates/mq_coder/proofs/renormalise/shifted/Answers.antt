use Rattle.std.proofs.Common.{◌≡◌, ℕ, ◌+◌, ◌-◌, ◌*◌, ◌%◌, ◌<◌, ◌≤◌, ◌^◌, arith, refl, sym, ◌∙◌}
use Rattle.std.proofs.Math.Pow.{pow_mono}
use Rattle.std.proofs.Math.Nat.{mul-le-mul_left}
use Rattle.mq_coder.specs.Registers.{coding_of}
use Rattle.mq_coder.specs.declared.registers.Registers.{Registers}
use Rattle.mq_coder.proofs.Widths.{shifted_reach, within_reach}
use Rattle.mq_coder.proofs.Shifting.{shifts_within, same_coding}
use Rattle.mq_coder.proofs.renormalise.shifted.Goals as goal

-- neither shift loses bits
record Whole (r : Registers) (n : ℕ) : Type 0 where
  a_is : r.a * 2 ^ n % 4294967296 ≡ r.a * 2 ^ n
  c_is : r.c * 2 ^ n % 4294967296 ≡ r.c * 2 ^ n
  some : 1 ≤ r.a * 2 ^ n

whole : (r : Registers) (n : ℕ) → n < r.ct → r.a * 2 ^ n < 65536 → Whole r n
whole r n less narrow =
    let reach = shifted_reach r.c r.a r.ct n (omega arith) in
    let within = r.within in
    let top : (r.c * 2 ^ n + r.a * 2 ^ n) * 2 ^ (r.ct - n) ≤ 2 ^ 28 = rw reach within in
    let low = within_reach (r.c * 2 ^ n + r.a * 2 ^ n) (r.ct - n) (2 ^ 28) top in
    let pos : 1 ≤ 2 ^ n = pow_mono {i = 0} (omega arith) in
    let kept : r.a * 1 ≤ r.a * 2 ^ n = mul-le-mul_left r.a pos in
    let some = r.some in
    record { a_is = omega arith; c_is = omega arith; some = omega arith }

pub invariant_of-result : goal.invariant_of-result
invariant_of-result c =
    let r : Registers = c.args.r in
    let n : ℕ = c.args.n in
    let w = whole r n c.requires.within c.requires.narrow in
    let a_is = w.a_is in
    let some = w.some in
    let less = c.requires.within in
    let narrow = c.requires.narrow in
    let ct = r.at_most in
    let reach = shifted_reach r.c r.a r.ct n (omega arith) in
    record {
      few = r.few;
      some = omega arith;
      sixteen_bits = omega arith;
      shifts_left = omega arith;
      at_most = omega arith;
      within = rw (w.c_is, w.a_is, reach) r.within;
      within_first = λ first. rw (w.c_is, w.a_is, reach) (r.within_first first);
    }

pub returns-clause-exact : goal.returns-clause-exact
returns-clause-exact c = λ bytes contexts.
    let w = whole c.args.r c.args.n c.requires.within c.requires.narrow in
    shifts_within c.args.n (coding_of c.args.r bytes contexts) c.requires.within
    ∙ same_coding _ _ _ _ _ _ _ contexts (sym w.a_is) (sym w.c_is) refl
