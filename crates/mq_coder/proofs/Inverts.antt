-- Decoding inverts coding.
use Rattle.std.proofs.Common.{◌≡◌, ℕ, suc, ◌+◌, ◌^◌, ◌<◌, ◌≤◌, Bool, true, false, List, [], ◌∷◌}
use Rattle.std.proofs.Common.{◌++◌, length, take, fold, refl, ap, ◌∙◌}
use Rattle.std.proofs.lemmas.Bool.{lt-ltb, le-ltb}
use Rattle.mq_coder.specs.Decisions.{digits, Interval, start_interval, estimate, part_symbol, part}
use Rattle.mq_coder.specs.Decisions.{doubled, is_lower, next_interval, decisions_from, decisions}
use Rattle.mq_coder.specs.Code.{Coding, start_coding, code_symbol, coded, flush, code}
use Rattle.mq_coder.specs.Laws.{contexts_of, bits_of, Inverts}
use Rattle.mq_coder.proofs.Estimates.{lower_of, symbol_of_part}
use Rattle.mq_coder.proofs.Stands.{Ready, coded_ready, coded_fresh, start_ready, part_lower}
use Rattle.mq_coder.proofs.Stands.{part_upper}
use Rattle.mq_coder.proofs.Final.{ended_within}

-- an interval's bounds hold for every code that goes on from it
within : (ys : List (ℕ × Bool)) (from to p : ℕ) (x : Coding) (it : Interval) →
    Ready from to p x it → (from ≤ digits (flush (fold code_symbol x ys)) p) ×
    (digits (flush (fold code_symbol x ys)) p < to)
within [] from to p x it h = ended_within from to p x it h
within ((cx, bit) ∷ ys) from to p x it h =
    within ys from to p (code_symbol x (cx, bit))
    (doubled 15 (part it cx (lower_of x.contexts x.a cx bit)))
    (coded_ready from to p x it cx bit h)

lower_decided : (bytes : List ℕ) (it : Interval) (cx : ℕ) →
    digits bytes it.scale < it.low + estimate it.contexts cx → is_lower bytes it cx ≡ true
unfolding is_lower
lower_decided bytes it cx h = lt-ltb _ _ h

upper_decided : (bytes : List ℕ) (it : Interval) (cx : ℕ) →
    it.low + estimate it.contexts cx ≤ digits bytes it.scale → is_lower bytes it cx ≡ false
unfolding is_lower
upper_decided bytes it cx h = le-ltb _ _ h

-- a string whose digits lie in a part decides for that part
decided : (bytes : List ℕ) (it : Interval) (cx : ℕ) (lower : Bool) →
    ((part it cx lower).low ≤ digits bytes (part it cx lower).scale) ×
    (digits bytes (part it cx lower).scale < (part it cx lower).low + (part it cx lower).size) →
    is_lower bytes it cx ≡ lower
decided bytes it cx true h = lower_decided bytes it cx (rw (part_lower it cx) at h).1
decided bytes it cx false h = upper_decided bytes it cx (rw (part_upper it cx) at h).0

decisions_step : (bytes : List ℕ) (it : Interval) (cx : ℕ) (cxs : List ℕ) (lower : Bool) →
    is_lower bytes it cx ≡ lower →
    decisions_from bytes it (cx ∷ cxs)
    ≡ part_symbol it.contexts it.size cx lower
    ∷ decisions_from bytes (doubled 15 (part it cx lower)) cxs
unfolding decisions_from next_interval
decisions_step bytes it cx cxs lower e =
    ap (λ v. part_symbol it.contexts it.size cx v
    ∷ decisions_from bytes (doubled 15 (part it cx v)) cxs) e

inverted : (ys : List (ℕ × Bool)) (further : List ℕ) (from to p : ℕ) (x : Coding) (it : Interval) →
    Ready from to p x it → take (length ys)
    (decisions_from (flush (fold code_symbol x ys)) it (contexts_of ys ++ further)) ≡ bits_of ys
inverted [] further from to p x it h = refl
inverted ((cx, bit) ∷ ys) further from to p x it h =
    let lower : Bool = lower_of x.contexts x.a cx bit in
    let f : List ℕ = flush (fold code_symbol (code_symbol x (cx, bit)) ys) in
    let fresh : Ready (part it cx lower).low ((part it cx lower).low + (part it cx lower).size)
    (part it cx lower).scale (code_symbol x (cx, bit)) (doubled 15 (part it cx lower)) =
    coded_fresh from to p x it cx bit h in
    let same : is_lower f it cx ≡ lower =
    decided f it cx lower (within ys _ _ _ (code_symbol x (cx, bit))
    (doubled 15 (part it cx lower)) fresh) in
    let here : lower ≡ lower_of it.contexts it.size cx bit =
    ap (λ v. lower_of v x.a cx bit) h.stands.contexts_are
    ∙ ap (λ v. lower_of it.contexts v cx bit) h.stands.a_is in
    let symbol : part_symbol it.contexts it.size cx lower ≡ bit =
    ap (λ v. part_symbol it.contexts it.size cx v) here
    ∙ symbol_of_part it.contexts it.size cx bit in
    let rest : take (length ys) (decisions_from f (doubled 15 (part it cx lower))
    (contexts_of ys ++ further)) ≡ bits_of ys =
    inverted ys further _ _ _ (code_symbol x (cx, bit)) (doubled 15 (part it cx lower)) fresh in
    ap (λ v. take (suc (length ys)) v)
    (decisions_step f it cx (contexts_of ys ++ further) lower same)
    ∙ ap (λ v. v ∷ take (length ys)
    (decisions_from f (doubled 15 (part it cx lower)) (contexts_of ys ++ further))) symbol
    ∙ ap (λ v. bit ∷ v) rest

pub inverts : (symbols : List (ℕ × Bool)) (further : List ℕ) → Inverts symbols further
unfolding code coded decisions
inverts symbols further = inverted symbols further 0
    (2 ^ 15) 0 start_coding start_interval start_ready
