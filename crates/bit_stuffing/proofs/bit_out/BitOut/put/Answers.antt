use Rattle.std.proofs.Common.{◌≡◌, ℕ, ◌+◌, ◌*◌, ◌<◌, ◌≤◌, Bool, false, List, [], ◌∷◌, ◌++◌, length}
use Rattle.std.proofs.Common.{sym, ap, ◌∙◌, arith, append_assoc, length-append}
use Rattle.std.proofs.lemmas.List.{append-nil}
use mir.Val.{bool_byte}
use Rattle.bit_stuffing.specs.Bits.{number, useful}
use Rattle.bit_stuffing.specs.Inside.{Keeps}
use Rattle.bit_stuffing.proofs.BitLemmas.{bit_of, bit_le, number-length, number-push, useful-push}
use Rattle.bit_stuffing.proofs.PackLemmas.{keeps_more, keeps_whole, room_for_byte}
use Rattle.bit_stuffing.proofs.bit_out.BitOut.put.Goals as goal

few_before : (bytes : List ℕ) (part filled : ℕ) (bits : List Bool) → useful false bytes
    ++ number filled part ≡ bits → length bits < 7000
    → length (useful false bytes) + filled < 7000
few_before bytes part filled bits v h =
    omega (
      arith,
      length-append (useful false bytes) (number filled part),
      number-length filled part,
      ap length v,
    )

-- the bits with one more
more_bits : (bytes : List ℕ) (part filled n : ℕ) (b : Bool) (bits : List Bool) → n ≡ bool_byte b
    → useful false bytes ++ number filled part ≡ bits
    → useful false bytes ++ number (filled + 1) (part * 2 + n) ≡ bits ++ b ∷ []
more_bits bytes part filled n b bits e v =
    ap (λ k. useful false bytes ++ number (filled + 1) (part * 2 + k)) (bit_of n b e)
    ∙ ap (λ r. useful false bytes ++ r) (number-push filled part b)
    ∙ sym (append_assoc (useful false bytes) (number filled part) (b ∷ []))
    ∙ ap (λ r. r ++ b ∷ []) v

-- the same where the byte is full
whole_bits : (bytes items : List ℕ) (part filled width n : ℕ) (b : Bool) (bits : List Bool)
    → Keeps bytes part filled width → filled + 1 ≡ width
    → items ≡ bytes ++ (part * 2 + n) ∷ [] → n ≡ bool_byte b → useful false bytes
    ++ number filled part ≡ bits
    → useful false items ++ number 0 0 ≡ bits ++ b ∷ []
unfolding number
whole_bits bytes items part filled width n b bits k w i e v =
    append-nil (useful false items)
    ∙ ap (useful false) i
    ∙ useful-push false bytes (part * 2 + n)
    ∙ ap (λ m. useful false bytes ++ number m (part * 2 + n)) (sym (w ∙ k.width_is))
    ∙ more_bits bytes part filled n b bits e v

keeps_items : (items bytes : List ℕ) (w : ℕ) → items ≡ bytes → Keeps bytes 0 0 w → Keeps items 0 0 w
keeps_items items bytes w e k = rw e k

bit_small : (n : ℕ) (b : Bool) → n ≡ bool_byte b → n ≤ 1
bit_small n b e = rw (bit_of n b e) (bit_le b)

pub push-requires : goal.push-requires
push-requires c = (omega arith, room_for_byte _ _ _ _ c.self.invariant)

pub invariant_of-self : goal.invariant_of-self
invariant_of-self c = keeps_more _ _ _ _ _ c.self.invariant (bit_small _ _ c.from.ensures)
    (few_before _ _ _ _ c.self.view_is c.requires) c.if-self.true

pub invariant_of-self-else-self : goal.invariant_of-self-else-self
invariant_of-self-else-self c =
    let room = c.self.invariant.room in
    keeps_items _ _ _ c.push.ensures.items
    (keeps_whole _ _ _ _ _ _ c.self.invariant (bit_small _ _ c.from.ensures)
    (few_before _ _ _ _ c.self.view_is c.requires) (omega arith) c.width_after-self-inside.ensures)

pub returns-then-self : goal.returns-then-self
returns-then-self c = more_bits _ _ _ _ _ _ c.from.ensures c.self.view_is

pub returns-else-self : goal.returns-else-self
returns-else-self c =
    let room = c.self.invariant.room in
    whole_bits _ _ _ _ _ _ _ _ c.self.invariant (omega arith) c.push.ensures.items c.from.ensures
    c.self.view_is
