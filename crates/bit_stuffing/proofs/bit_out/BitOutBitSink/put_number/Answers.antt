use Rattle.std.proofs.Common.{◌≡◌, ◌+◌, List, ℕ, Bool, false, ◌++◌, length, ap, ◌∙◌, arith}
use Rattle.std.proofs.Common.{length-append}
use Rattle.bit_stuffing.specs.Bits.{number, ends_in_ff}
use Rattle.bit_stuffing.proofs.BitLemmas.{number-length, width_le}
use Rattle.bit_stuffing.proofs.RegisterLemmas.{register_more, register_byte, register_keeps}
use Rattle.bit_stuffing.proofs.RegisterLemmas.{keeps_register}
use Rattle.bit_stuffing.proofs.RegisterLemmas.{byte_small, room_for_register}
use Rattle.bit_stuffing.proofs.bit_out.BitOutBitSink.put_number.Goals as goal

pub loop-full-init : goal.loop-full-init
loop-full-init c =
    let room = c.self.invariant.room in
    record {
      holds = rw (c.held_with-held.ensures, c.from.ensures, c.from-2.ensures, c.from-full.ensures)
          (register_more _ _ _ _ _ _ _ (keeps_register _ _ _ _ _ c.self.invariant c.self.view_is)
          c.requires.value c.requires.room);
      few = omega (arith, width_le (ends_in_ff false c.self.inside.bytes.items));
    }

pub high_byte-byte-requires-clause-fits : goal.high_byte-byte-requires-clause-fits
high_byte-byte-requires-clause-fits c = byte_small _ _ _ _ _ _ c.loop-full.invariant.holds
    (omega arith)

pub push-requires : goal.push-requires
push-requires c = (omega arith, room_for_register _ _ _ _ _ c.loop-full.invariant.holds)

pub loop-full-preserved : goal.loop-full-preserved
loop-full-preserved c = record {
  holds = rw c.push.ensures.items (register_byte _ _ _ _ _ _ _ _ _ c.loop-full.invariant.holds
      (omega arith) c.high_byte-byte.ensures c.low_bits-held.ensures
      (c.from-full-in-loop-full.ensures ∙ c.width_after.ensures));
  few = omega arith;
}

pub invariant_of-self : goal.invariant_of-self
invariant_of-self c = register_keeps _ _ _ _ _ c.loop-full.invariant.holds (omega arith)

count_is : (bits all : List Bool) (w n : ℕ) → all ≡ bits ++ number w n
    → length all ≡ length bits + w
count_is bits all w n e = ap length e ∙ simp (length-append, number-length)

pub returns-clause-count : goal.returns-clause-count
returns-clause-count c = count_is _ _ _ _ c.loop-full.invariant.holds.bits_are
