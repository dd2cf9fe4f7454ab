use Rattle.std.proofs.Common.{◌≡◌, List, ℕ, Bool, refl, ap, ◌∙◌, arith}
use Rattle.bit_stuffing.specs.Stuffing.{packed, Stuffs}
use Rattle.bit_stuffing.proofs.PackLemmas.{room_for_byte, finish_part, finish_ff, finish_whole}
use Rattle.bit_stuffing.proofs.StuffsLemmas.{stuffs_packed}
use Rattle.bit_stuffing.proofs.bit_out.BitOut.finish.Goals as goal

-- along the bits that the writer stands for, and the bytes that it holds
packed_is : (items bytes : List ℕ) (bits all : List Bool) → items ≡ bytes → bits ≡ all
    → bytes ≡ packed bits → items ≡ packed all
packed_is items bytes bits all i v h = i ∙ h ∙ ap packed v

-- and the law of packing says the rest
stuffs_is : (items : List ℕ) (all : List Bool) → items ≡ packed all → Stuffs all items
stuffs_is items all h = rw h (stuffs_packed all)

pub push-requires : goal.push-requires
push-requires c = (omega arith, room_for_byte _ _ _ _ c.self.invariant)

pub push-requires-then-self-eq7 : goal.push-requires-then-self-eq7
push-requires-then-self-eq7 c = (omega arith, room_for_byte _ _ _ _ c.self.invariant)

pub returns-then-self-gt0-clause-bytes : goal.returns-then-self-gt0-clause-bytes
returns-then-self-gt0-clause-bytes c =
    packed_is _ _ _ _ c.push.ensures.items c.self.view_is
    (finish_part _ _ _ _ c.self.invariant c.if-self-gt0.true)

pub returns-then-self-gt0-clause-stuffed : goal.returns-then-self-gt0-clause-stuffed
returns-then-self-gt0-clause-stuffed c = stuffs_is _ _ (returns-then-self-gt0-clause-bytes c)

pub returns-then-self-eq7-clause-bytes : goal.returns-then-self-eq7-clause-bytes
returns-then-self-eq7-clause-bytes c =
    packed_is _ _ _ _ c.push-then-self-eq7.ensures.items c.self.view_is
    (finish_ff _ _ _ _ c.self.invariant c.if-self-gt0.false c.if-self-eq7.true)

pub returns-then-self-eq7-clause-stuffed : goal.returns-then-self-eq7-clause-stuffed
returns-then-self-eq7-clause-stuffed c = stuffs_is _ _ (returns-then-self-eq7-clause-bytes c)

pub returns-else-self-eq7-clause-bytes : goal.returns-else-self-eq7-clause-bytes
returns-else-self-eq7-clause-bytes c =
    packed_is _ _ _ _ refl c.self.view_is (finish_whole _ _ _ _ c.self.invariant c.if-self-gt0.false
    c.if-self-eq7.false)

pub returns-else-self-eq7-clause-stuffed : goal.returns-else-self-eq7-clause-stuffed
returns-else-self-eq7-clause-stuffed c = stuffs_is _ _ (returns-else-self-eq7-clause-bytes c)
