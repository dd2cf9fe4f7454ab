-- One decision.
use Rattle.std.proofs.Common.{◌≡◌, ℕ, ◌-◌, ◌/◌, ◌^◌, ◌<◌, ◌≤◌, ◌⊎◌, inl, inr, Bool, true, false}
use Rattle.std.proofs.Common.{nat_lt, List, [], ◌∷◌, ◌++◌, length, take, set, refl, sym, ◌∙◌, ap}
use Rattle.std.proofs.Common.{arith}
use Rattle.std.proofs.Math.Bool.{beq}
use Rattle.std.proofs.lemmas.Bool.{le-leb, lt-leb}
use Rattle.mq_coder.specs.States.{context_at, same, after_symbol}
use Rattle.mq_coder.specs.Decisions.{Interval, estimate, part_symbol, part_contexts, part, doubled}
use Rattle.mq_coder.specs.Decisions.{is_lower, next_interval, decisions_from, decisions}
use Rattle.mq_coder.specs.Decisions.{interval_after}
use Rattle.mq_coder.specs.Code.{code}
use Rattle.mq_coder.specs.Laws.{contexts_of, bits_of}
use Rattle.mq_coder.proofs.Inverts.{inverts}
use Rattle.mq_coder.proofs.Stands.{doubled_done}
use Rattle.mq_coder.proofs.Holding.{holds_decides, interval_more, decisions_more}
use Rattle.mq_decoder.specs.declared.registers.Registers.{Registers}
use Rattle.mq_decoder.specs.declared.decoder.Decoder.{Decoder}
use Rattle.mq_decoder.specs.Registers.{HoldsAt}
use Rattle.mq_decoder.specs.Decoder.{Stands}
use Rattle.mq_decoder.proofs.Turning.{doubled_contexts, same-beq}

-- the test of the registers is the definition's
lower_is : (bytes : List ℕ) (r : Registers) (it : Interval) (cx qe : ℕ) → HoldsAt bytes r it →
    2 ^ 15 ≤ r.a
    → qe ≡ estimate it.contexts cx → nat_lt (r.c / 2 ^ 16) qe ≡ is_lower bytes it cx
lower_is bytes r it cx qe h wide e =
    let size = h.size in
    rw e (holds_decides bytes r.c r.ct _ _ it cx h.holds (omega arith))

-- the bit that the code makes of it
abbrev pub bit_of : Bool → ℕ → ℕ → Bool → Bool
bit_of lower a qe mps = beq (beq lower (nat_lt (a - qe) qe)) mps

bit_is : (it : Interval) (cx a qe : ℕ) (lower mps : Bool) → a ≡ it.size →
    qe ≡ estimate it.contexts cx
    → mps ≡ (context_at it.contexts cx).1 →
    bit_of lower a qe mps ≡ part_symbol it.contexts it.size cx lower
unfolding part_symbol
bit_is it cx a qe lower mps size e m =
    rw (size, e, m)
    (sym (ap (λ (b : Bool). same b (context_at it.contexts cx).1)
    (same-beq lower (nat_lt (it.size - estimate it.contexts cx) (estimate it.contexts cx)))
    ∙ same-beq (beq lower (nat_lt (it.size - estimate it.contexts cx) (estimate it.contexts cx)))
    (context_at it.contexts cx).1))

-- what a decoder reads of its contexts, said of the interval
pub record Asks (d : Decoder) (cx qe : ℕ) (mps : Bool) : Type 0 where
  pub wide : 2 ^ 15 ≤ d.registers.a
  pub estimate_is : qe ≡ estimate d.contexts cx
  pub mps_is : mps ≡ (context_at d.contexts cx).1

abbrev pub answer : Decoder → ℕ → Bool → Bool
answer d qe mps = bit_of (nat_lt (d.registers.c / 2 ^ 16) qe) d.registers.a qe mps

answer_is : (d : Decoder) (cx qe : ℕ) (mps : Bool) (cxs : List ℕ) → Asks d cx qe mps → Stands d cxs
    → answer d qe mps ≡ part_symbol (interval_after d.bytes.now cxs).contexts
    (interval_after d.bytes.now cxs).size cx
    (is_lower d.bytes.now (interval_after d.bytes.now cxs) cx)
answer_is d cx qe mps cxs asks h =
    let it : Interval = interval_after d.bytes.now cxs in
    let qe_is : qe ≡ estimate it.contexts cx =
    asks.estimate_is ∙ ap (λ (cs : List (ℕ × Bool)). estimate cs cx) h.contexts in
    let mps_is : mps ≡ (context_at it.contexts cx).1 =
    asks.mps_is ∙ ap (λ (cs : List (ℕ × Bool)). (context_at cs cx).1) h.contexts in
    bit_is it cx d.registers.a qe (nat_lt (d.registers.c / 2 ^ 16) qe) mps h.holds.size qe_is mps_is
    ∙ ap (λ (b : Bool). part_symbol it.contexts it.size cx b)
    (lower_is d.bytes.now d.registers it cx qe h.holds asks.wide qe_is)

pub decides : (d : Decoder) (cx qe : ℕ) (mps : Bool) → Asks d cx qe mps
    → (cxs : List ℕ) → Stands d cxs
    → decisions d.bytes.now (cxs ++ cx ∷ []) ≡ decisions d.bytes.now cxs ++ answer d qe mps ∷ []
decides d cx qe mps asks cxs h =
    decisions_more d.bytes.now cxs cx
    ∙ ap (λ (b : Bool). decisions d.bytes.now cxs ++ b ∷ [])
    (sym (answer_is d cx qe mps cxs asks h))

-- over the code of a list
inverted_at : (bytes : List ℕ) (before later : List (ℕ × Bool)) (cx : ℕ) (bit b : Bool)
    (it : Interval) (further : List ℕ)
    → take (length (before ++ (cx, bit) ∷ later))
    (decisions_from bytes it (contexts_of (before ++ (cx, bit) ∷ later) ++ further))
    ≡ bits_of (before ++ (cx, bit) ∷ later)
    → decisions_from bytes it (contexts_of before ++ cx ∷ [])
    ≡ decisions_from bytes it (contexts_of before) ++ b ∷ []
    → b ≡ bit
unfolding decisions_from
inverted_at bytes [] later cx bit b it further e f = cc
inverted_at bytes (s ∷ before) later cx bit b it further e f =
    let next : Interval = next_interval bytes it s.0 in
    let e' : take (length (before ++ (cx, bit) ∷ later))
    (decisions_from bytes next (contexts_of (before ++ (cx, bit) ∷ later) ++ further))
    ≡ bits_of (before ++ (cx, bit) ∷ later) = cc in
    let f' : decisions_from bytes next (contexts_of before ++ cx ∷ [])
    ≡ decisions_from bytes next (contexts_of before) ++ b ∷ [] = cc in
    inverted_at bytes before later cx bit b next further e' f'

pub inverts_at : (bytes : List ℕ) (cx : ℕ) (b : Bool)
    → (before later : List (ℕ × Bool)) (bit : Bool) → bytes ≡ code (before ++ (cx, bit) ∷ later)
    → decisions bytes (contexts_of before ++ cx ∷ [])
    ≡ decisions bytes (contexts_of before) ++ b ∷ [] → b ≡ bit
unfolding decisions
inverts_at bytes cx b before later bit e f =
    let law = inverts (before ++ (cx, bit) ∷ later) [] in
    inverted_at bytes before later cx bit b _ [] (rw e law) f

-- the state after it
next_holds : (bytes : List ℕ) (r : Registers) (it : Interval) (cx : ℕ) (lower : Bool)
    (contexts : List (ℕ × Bool))
    → lower ≡ is_lower bytes it cx → HoldsAt bytes r (doubled 15 (part it cx lower))
    → contexts ≡ part_contexts it.contexts it.size cx lower
    → HoldsAt bytes r (next_interval bytes it cx) ×
    (contexts ≡ (next_interval bytes it cx).contexts)
unfolding next_interval part
next_holds bytes r it cx lower contexts e h same =
    (rw (← e) h, rw (← e) (same ∙ sym (doubled_contexts 15 (part it cx lower))))

-- the contexts after a part
contexts_stay : (it : Interval) (cx : ℕ) (lower : Bool) → lower ≡ false →
    2 ^ 15 ≤ it.size - estimate it.contexts cx
    → part_contexts it.contexts it.size cx lower ≡ it.contexts
unfolding part_contexts
contexts_stay it cx lower e wide =
    rw (e, le-leb 0x8000 (it.size - estimate it.contexts cx) wide) refl

contexts_learn : (it : Interval) (cx : ℕ) (lower : Bool) →
    (lower ≡ true) ⊎ (it.size - estimate it.contexts cx < 2 ^ 15)
    → part_contexts it.contexts it.size cx lower
    ≡ set it.contexts cx (after_symbol (context_at it.contexts cx)
    (part_symbol it.contexts it.size cx lower))
unfolding part_contexts
contexts_learn it cx true h = refl
contexts_learn it cx false (inl e) = cc
contexts_learn it cx false (inr lt) = rw (lt-leb 0x8000 (it.size - estimate it.contexts cx) lt) refl

-- an upper part of three quarters
pub stays : (d : Decoder) (r : Registers) (cx qe : ℕ) (cxs : List ℕ) (mps : Bool) →
    Asks d cx qe mps → Stands d cxs
    → nat_lt (d.registers.c / 2 ^ 16) qe ≡ false
    → HoldsAt d.bytes.now r (part (interval_after d.bytes.now cxs) cx
    (nat_lt (d.registers.c / 2 ^ 16) qe))
    → r.a ≡ d.registers.a - qe → 2 ^ 15 ≤ r.a
    → HoldsAt d.bytes.now r (interval_after d.bytes.now (cxs ++ cx ∷ []))
    × (d.contexts ≡ (interval_after d.bytes.now (cxs ++ cx ∷ [])).contexts)
stays d r cx qe cxs mps asks h up holds a_is wide =
    let it : Interval = interval_after d.bytes.now cxs in
    let lower : Bool = nat_lt (d.registers.c / 2 ^ 16) qe in
    let qe_is : qe ≡ estimate it.contexts cx =
    asks.estimate_is ∙ ap (λ (cs : List (ℕ × Bool)). estimate cs cx) h.contexts in
    let size = h.holds.size in
    let part_size = holds.size in
    let done : doubled 15 (part it cx lower) ≡ part it cx lower =
    doubled_done 15 (part it cx lower) (omega arith) in
    let kept : part_contexts it.contexts it.size cx lower ≡ it.contexts =
    contexts_stay it cx lower up (omega arith) in
    rw (interval_more d.bytes.now cxs cx)
    (next_holds d.bytes.now r it cx lower d.contexts
    (lower_is d.bytes.now d.registers it cx qe h.holds asks.wide qe_is) (rw done holds)
    (h.contexts ∙ sym kept))

-- any other part
pub moves : (d : Decoder) (r : Registers) (cx qe : ℕ) (cxs : List ℕ) (mps : Bool)
    (contexts : List (ℕ × Bool))
    → Asks d cx qe mps → Stands d cxs
    → (nat_lt (d.registers.c / 2 ^ 16) qe ≡ true) ⊎ (d.registers.a - qe < 2 ^ 15)
    → HoldsAt d.bytes.now r (doubled 15
    (part (interval_after d.bytes.now cxs) cx (nat_lt (d.registers.c / 2 ^ 16) qe)))
    → contexts ≡ set d.contexts cx (after_symbol (context_at d.contexts cx) (answer d qe mps))
    → HoldsAt d.bytes.now r (interval_after d.bytes.now (cxs ++ cx ∷ []))
    × (contexts ≡ (interval_after d.bytes.now (cxs ++ cx ∷ [])).contexts)
moves d r cx qe cxs mps contexts asks h turns holds learnt =
    let it : Interval = interval_after d.bytes.now cxs in
    let lower : Bool = nat_lt (d.registers.c / 2 ^ 16) qe in
    let qe_is : qe ≡ estimate it.contexts cx =
    asks.estimate_is ∙ ap (λ (cs : List (ℕ × Bool)). estimate cs cx) h.contexts in
    let size = h.holds.size in
    let same : lower ≡ is_lower d.bytes.now it cx =
    lower_is d.bytes.now d.registers it cx qe h.holds asks.wide qe_is in
    let bit : answer d qe mps ≡ part_symbol it.contexts it.size cx lower =
    answer_is d cx qe mps cxs asks h
    ∙ ap (λ (b : Bool). part_symbol it.contexts it.size cx b) (sym same) in
    let turns' : (lower ≡ true) ⊎ (it.size - estimate it.contexts cx < 2 ^ 15) =
    elim turns [ inl e ↦ inl e | inr lt ↦ inr (omega arith) ] in
    let kept : contexts ≡ part_contexts it.contexts it.size cx lower =
    learnt
    ∙ (ap (λ (b : Bool). set d.contexts cx (after_symbol (context_at d.contexts cx) b)) bit
    ∙ (ap (λ (cs : List (ℕ × Bool)). set cs cx
    (after_symbol (context_at cs cx) (part_symbol it.contexts it.size cx lower))) h.contexts
    ∙ sym (contexts_learn it cx lower turns'))) in
    rw (interval_more d.bytes.now cxs cx)
    (next_holds d.bytes.now r it cx lower contexts same holds kept)
