-- An encoder that goes on.
use Rattle.std.proofs.Common.{ℕ, ◌+◌, ◌-◌, ◌≤◌, ◌≡◌, length, take, refl, ◌∙◌, arith}
use Rattle.mq_coder.specs.Encoder.{count_of}
use Rattle.mq_coder.specs.declared.encoder.Encoder.{Encoder}
use Rattle.mq_coder.proofs.Lists.{take_less}
use Rattle.ebcot_passes.specs.Coding.{GoesOn}

-- no step
pub stays : (e : Encoder) (most : ℕ) → GoesOn e e most
stays e most = record {
  grows = omega arith;
  most_more = omega arith;
  fixed = refl;
  room =
      refl;
  same_reference = refl;
}

-- one step after the other
pub then_on : (a b c : Encoder) (m n k : ℕ) → m + n ≤ k → GoesOn a b m → GoesOn b c n → GoesOn a c k
then_on a b c m n k le h i =
    let grows = h.grows in
    let grows' = i.grows in
    let most = h.most_more in
    let most' = i.most_more in
    record {
      grows = omega arith;
      most_more = omega arith;
      fixed = take_less c.bytes.now b.bytes.now (b.registers.count - 1)
          (a.registers.count - 1) i.fixed (omega arith) ∙ h.fixed;
      room = i.room ∙ h.room;
      same_reference = i.same_reference ∙ h.same_reference;
    }

pub at_most : (a b : Encoder) (m k : ℕ) → m ≤ k → GoesOn a b m → GoesOn a b k
at_most a b m k le h =
    let most = h.most_more in
    record {
      grows = h.grows;
      most_more = omega arith;
      fixed = h.fixed;
      room =
          h.room;
      same_reference = h.same_reference;
    }

-- one symbol
pub put_on : (a b : Encoder) → count_of a ≤ count_of b → count_of b ≤ count_of a + 3
    → take (count_of a - 1) b.bytes.now ≡ take (count_of a - 1) a.bytes.now →
    length b.bytes.now ≡ length a.bytes.now → b.bytes.ghost_name ≡ a.bytes.ghost_name →
    GoesOn a b 3
put_on a b grows three fixed room same =
    record { grows = grows; most_more = three; fixed = fixed; room = room; same_reference = same }
