use Rattle.std.proofs.Common.{◌≡◌, ◌*◌, ◌%◌, ◌≤◌, ◌^◌, [], arith, refl, sym, ap}
use Rattle.std.proofs.Common.{◌∙◌}
use Rattle.std.proofs.Math.Pow.{pow_mono}
use Rattle.std.proofs.Math.Nat.{mul-le-mul_left}
use Rattle.mq_coder.specs.Code.{byte_out}
use Rattle.mq_coder.specs.Registers.{coding_of}
use Rattle.mq_coder.specs.declared.registers.Registers.{Registers}
use Rattle.mq_coder.proofs.Widths.{fresh_reach, less_reach}
use Rattle.mq_coder.proofs.Shifting.{shifts_full, same_coding}
use Rattle.mq_coder.proofs.renormalise.next_byte.Goals as goal

pub invariant_of-result : goal.invariant_of-result
invariant_of-result c =
    let r : Registers = c.args.r in
    let narrow = c.requires.narrow in
    let room = c.requires.room in
    let few = c.requires.few in
    let a_is : r.a * 2 ^ r.ct % 4294967296 ≡ r.a * 2 ^ r.ct = omega arith in
    let pos : 1 ≤ 2 ^ r.ct = pow_mono {i = 0} (omega arith) in
    let kept : r.a * 1 ≤ r.a * 2 ^ r.ct = mul-le-mul_left r.a pos in
    let some = r.some in
    let seven = c.byte_out-register.ensures.seven in
    let eight = c.byte_out-register.ensures.eight in
    record {
      few = omega arith;
      some = omega arith;
      sixteen_bits = omega arith;
      shifts_left = omega arith;
      at_most = omega arith;
      within = rw a_is (fresh_reach c.byte_out-register.result.c
          (r.a * 2 ^ r.ct) c.byte_out-register.result.ct
          c.byte_out-register.ensures.below_unit narrow eight);
      within_first = λ first. absurd (omega arith);
    }

pub returns-clause-exact : goal.returns-clause-exact
returns-clause-exact c = λ contexts.
    let r : Registers = c.args.r in
    let narrow = c.requires.narrow in
    let a_is : r.a * 2 ^ r.ct % 4294967296 ≡ r.a * 2 ^ r.ct = omega arith in
    let below = less_reach r.c r.a r.ct (2 ^ 28) r.c r.within (omega (arith, r.some)) in
    let c_is : r.c * 2 ^ r.ct % 4294967296 ≡ r.c * 2 ^ r.ct = omega arith in
    shifts_full (coding_of r c.args.bytes.now contexts) r.shifts_left
    ∙ (ap byte_out (same_coding _ _ _ _ _ _ _ contexts refl (sym c_is) refl)
    ∙ (c.byte_out-register.ensures.put
    (record { a = r.a * 2 ^ r.ct; c = 0; ct = 0; bytes = []; contexts = contexts })
    ∙ same_coding _ _ _ _ _ _ _ contexts (sym a_is) refl refl))
