use Rattle.std.proofs.Common.{◌≡◌, ℕ, ◌*◌, ◌%◌, ◌<◌, ◌≤◌, ◌^◌, arith, sym, ap, ◌∙◌}
use Rattle.std.proofs.Math.Pow.{pow_mono}
use Rattle.std.proofs.Math.Nat.{mul-le-mul_left, mul-le-mul_right}
use Rattle.mq_decoder.specs.declared.registers.Registers.{Registers}
use Rattle.mq_decoder.proofs.Turning.{twices_size, twices_hold}
use Rattle.mq_decoder.proofs.renormalise.shifted.Goals as goal

-- neither shift loses bits
record Whole (r : Registers) (n : ℕ) : Type 0 where
  a_is : r.a * 2 ^ n % 4294967296 ≡ r.a * 2 ^ n
  c_is : r.c * 2 ^ n % 4294967296 ≡ r.c * 2 ^ n
  some : 1 ≤ r.a * 2 ^ n
  cut : r.c * 2 ^ n ≤ r.a * 2 ^ n * 65536

whole : (r : Registers) (n : ℕ) → r.a * 2 ^ n < 65536 → Whole r n
whole r n narrow =
    let pos : 1 ≤ 2 ^ n = pow_mono {i = 0} (omega arith) in
    let kept : r.a * 1 ≤ r.a * 2 ^ n = mul-le-mul_left r.a pos in
    let low : r.c * 2 ^ n ≤ r.a * 65536 * 2 ^ n = mul-le-mul_right (2 ^ n) r.cut in
    let some = r.some in
    record { a_is = omega arith; c_is = omega arith; some = omega arith; cut = omega arith }

pub invariant_of-result : goal.invariant_of-result
invariant_of-result c =
    let r : Registers = c.args.r in
    let w = whole r c.args.n c.requires.narrow in
    let a_is = w.a_is in
    let c_is = w.c_is in
    let some = w.some in
    let cut = w.cut in
    let narrow = c.requires.narrow in
    let ct = r.at_most in
    record {
      some = omega arith;
      sixteen_bits = omega arith;
      cut = omega arith;
      at_most = omega arith;
    }

pub returns-clause-holds : goal.returns-clause-holds
returns-clause-holds c = λ bytes it h.
    let r : Registers = c.args.r in
    let n : ℕ = c.args.n in
    let w = whole r n c.requires.narrow in
    let size = h.size in
    let same : it.size * 2 ^ n ≡ r.a * 2 ^ n = ap (λ (a : ℕ). a * 2 ^ n) (sym size) in
    let narrow = c.requires.narrow in
    record {
      size = w.a_is ∙ (sym same ∙ sym (twices_size n it));
      holds = rw w.c_is (twices_hold bytes _ _ n r.c r.ct it c.requires.within (omega arith)
          h.holds);
    }
