use Rattle.std.proofs.Common.{◌≡◌, ℕ, ◌<◌, ◌≤◌, ◌+◌, ◌-◌, Bool, false, length, inl, inr, List, []}
use Rattle.std.proofs.Common.{◌∷◌, ◌++◌, refl, sym, ap, ◌∙◌, arith}
use Rattle.std.specs.Prelude.{◌==◌, ◌⊎◌}
use Rattle.std.proofs.lemmas.Bool.{eq-eqb, ne_eqb, lt-leb}
use Rattle.bit_stuffing.specs.Stuffing.{is_broken}
use Rattle.bit_stuffing.specs.Source.{BitSource}
use Rattle.bit_stuffing.proofs.BitLemmas.{seven_le}
use Rattle.bit_stuffing.proofs.TakeLemmas.{less_taken, less_opens, less_ahead, open_taken}
use Rattle.bit_stuffing.proofs.TakeLemmas.{open_opens, open_ahead, end_ahead, end_fault}
use Rattle.bit_stuffing.proofs.TakeLemmas.{broken_ahead, broken_fault, is_broken-true, fault_along}
use Rattle.bit_stuffing.proofs.bit_in.BitIn.take.Goals as goal

is_broken-low : (last byte : ℕ) → last ≡ 255 → byte < 128 → is_broken (last == 255) byte ≡ false
is_broken-low last byte e h = let f = eq-eqb last 255 e in let b = lt-leb 128 byte h in
    rw (f, b) refl

is_broken-other : (last byte : ℕ) → (last ≡ 255 → ⊥) → is_broken (last == 255) byte ≡ false
is_broken-other last byte e = let f = ne_eqb last 255 e in rw f refl

one_less : (w n : ℕ) → n ≡ w → 7 ≤ w → w ≡ n - 1 + 1
one_less w n e h = omega arith

along_ahead : (s t : BitSource) (bits : List Bool) → s ≡ t → s.ahead ≡ bits → t.ahead ≡ bits
along_ahead s t bits e h = ap (λ (r : BitSource). r.ahead) (sym e) ∙ h

along_taken : (s t : BitSource) (bits : List Bool) (bit : Bool) → s ≡ t → bits ≡ s.taken ++ bit ∷ []
    → bits ≡ t.taken ++ bit ∷ []
along_taken s t bits bit e h = h ∙ ap (λ (r : BitSource). r.taken ++ bit ∷ []) e

pub invariant_of-self : goal.invariant_of-self
invariant_of-self c = less_opens _ _ _ _ _ c.self.invariant (omega arith)

pub returns-then-self-gt0-clause-bit : goal.returns-then-self-gt0-clause-bit
returns-then-self-gt0-clause-bit c = along_ahead _ _ _ c.self.view_is
    (less_ahead _ _ _ _ _ c.self.invariant (omega arith))

pub returns-then-self-gt0-clause-taken : goal.returns-then-self-gt0-clause-taken
returns-then-self-gt0-clause-taken c = along_taken _ _ _ _ c.self.view_is
    (less_taken _ _ _ _ _ c.self.invariant (omega arith))

pub returns-then-place-self-clause-none : goal.returns-then-place-self-clause-none
returns-then-place-self-clause-none c = along_ahead _ _ _ c.self.view_is
    (end_ahead _ _ _ _ c.if-place-self.true c.if-self-gt0.false)

pub returns-then-place-self-clause-fault : goal.returns-then-place-self-clause-fault
returns-then-place-self-clause-fault c = fault_along _ _ _ c.self.view_is
    (end_fault _ _ _ _ c.self.invariant c.if-place-self.true)

pub returns-then-byte-ge128-clause-none : goal.returns-then-byte-ge128-clause-none
returns-then-byte-ge128-clause-none c =
    let inside : c.self.inside.opened < length c.self.inside.bytes.now =
    omega (arith, c.self.invariant.within) in
    along_ahead _ _ _ c.self.view_is
    (broken_ahead _ _ _ _ _ inside refl c.if-self-gt0.false
    (is_broken-true _ _ c.if-self.true c.if-byte-ge128.true))

pub returns-then-byte-ge128-clause-fault : goal.returns-then-byte-ge128-clause-fault
returns-then-byte-ge128-clause-fault c =
    let inside : c.self.inside.opened < length c.self.inside.bytes.now =
    omega (arith, c.self.invariant.within) in
    fault_along _ _ _ c.self.view_is
    (broken_fault _ _ _ _ _ c.self.invariant inside refl
    (is_broken-true _ _ c.if-self.true c.if-byte-ge128.true))

-- the byte that is opened can be read
unbroken_by : (last byte : ℕ) → ((last ≡ 255) × (byte < 128)) ⊎ (last ≡ 255 → ⊥)
    → is_broken (last == 255) byte ≡ false
unbroken_by last byte (inl h) = is_broken-low last byte h.0 h.1
unbroken_by last byte (inr h) = is_broken-other last byte h

pub invariant_of-self-2 : goal.invariant_of-self-2
invariant_of-self-2 c =
    open_opens _ _ _ _ _ _ c.self.invariant c.if-self-gt0.false (omega arith) refl (omega arith)
    (unbroken_by _ _ c.else-self.either) (one_less _ _ c.width_after.ensures (seven_le _))

pub returns-clause-bit : goal.returns-clause-bit
returns-clause-bit c = along_ahead _ _ _ c.self.view_is
    (open_ahead _ _ _ _ _ _ c.self.invariant c.if-self-gt0.false (omega arith) refl (omega arith)
    (unbroken_by _ _ c.else-self.either) (one_less _ _ c.width_after.ensures (seven_le _)))

pub returns-clause-taken : goal.returns-clause-taken
returns-clause-taken c = along_taken _ _ _ _ c.self.view_is
    (open_taken _ _ _ _ _ _ c.self.invariant c.if-self-gt0.false (omega arith) refl (omega arith)
    (unbroken_by _ _ c.else-self.either) (one_less _ _ c.width_after.ensures (seven_le _)))
