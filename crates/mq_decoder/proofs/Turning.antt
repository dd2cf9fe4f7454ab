-- The turns of RENORMD, and the contexts through them.
use Rattle.std.proofs.Common.{◌≡◌, ℕ, zero, suc, ◌+◌, ◌-◌, ◌*◌, ◌^◌, ◌<◌, ◌≤◌, inl, inr, Bool, true}
use Rattle.std.proofs.Common.{false, List, refl, ◌∙◌, ap, arith}
use Rattle.std.proofs.Math.Bool.{beq}
use Rattle.std.proofs.Math.Nat.{pow-succ', mul-le-mul_left}
use Rattle.std.proofs.Math.Pow.{pow_mono}
use Rattle.std.proofs.lemmas.Bool.{cases_lt}
use Rattle.mq_coder.specs.States.{same}
use Rattle.mq_coder.specs.Decisions.{Interval, twice, doubled}
use Rattle.mq_coder.specs.Reading.{Holds}
use Rattle.mq_coder.proofs.Stands.{doubled_turn, doubled_done}
use Rattle.mq_coder.proofs.Holding.{holds_doubled}
use Rattle.mq_decoder.specs.declared.registers.Registers.{Registers}
use Rattle.mq_decoder.specs.Registers.{HoldsAt}
use Rattle.mq_decoder.specs.Turns.{twices}

-- turns after turns
pub twices_add : (m n : ℕ) (it : Interval) → twices (m + n) it ≡ twices n (twices m it)
unfolding twices
twices_add zero n it = let e : 0 + n ≡ n = omega arith in rw e refl
twices_add (suc m) n it =
    let e : suc m + n ≡ suc (m + n) = omega arith in rw e (twices_add m n (twice it))

pub twices_one : (it : Interval) → twices 1 it ≡ twice it
unfolding twices
twices_one it = refl

pub twices_size : (n : ℕ) (it : Interval) → (twices n it).size ≡ it.size * 2 ^ n
unfolding twices
twices_size zero it = omega arith
twices_size (suc n) it = twices_size n (twice it) ∙ rw (pow-succ' 2 n) (omega arith)

-- a size that may be doubled further is below three quarters
pub below : (size n : ℕ) → size * 2 ^ suc n < 2 ^ 16 → size < 2 ^ 15
below size n narrow =
    let pos : 1 ≤ 2 ^ n = pow_mono {i = 0} (omega arith) in
    let some : size * 1 ≤ size * 2 ^ n = mul-le-mul_left size pos in
    let e : size * 2 ^ suc n ≡ 2 * (size * 2 ^ n) = rw (pow-succ' 2 n) (omega arith) in
    omega arith

pub twices_hold : (bytes : List ℕ) (ff : Bool) (rest : List ℕ) (n c ct : ℕ) (it : Interval)
    → n ≤ ct → it.size * 2 ^ n < 2 ^ 16 → Holds bytes c ct ff rest it
    → Holds bytes (c * 2 ^ n) (ct - n) ff rest (twices n it)
unfolding twices
twices_hold bytes ff rest zero c ct it within narrow h =
    let e : c * 2 ^ 0 ≡ c = omega arith in
    let f : ct - 0 ≡ ct = omega arith in
    rw (e, f) h
twices_hold bytes ff rest (suc n) c ct it within narrow h =
    let e : ct ≡ suc (ct - 1) = omega arith in
    let more : 2 * it.size * 2 ^ n ≡ it.size * 2 ^ suc n = rw (pow-succ' 2 n) (omega arith) in
    let once = holds_doubled bytes c (ct - 1) ff rest it (rw e at h) (below it.size n narrow) in
    let all = twices_hold bytes ff rest n (2 * c) (ct - 1) (twice it) (omega arith) (omega arith)
    once in
    let f : c * 2 ^ suc n ≡ 2 * c * 2 ^ n = rw (pow-succ' 2 n) (omega arith) in
    let g : ct - suc n ≡ ct - 1 - n = omega arith in
    rw (f, g) all

-- as many turns as the size needs
pub doubled_twices : (m n : ℕ) (it : Interval) → n ≤ m → 2 ^ 15 ≤ it.size * 2 ^ n
    → it.size * 2 ^ n < 2 ^ 16 → doubled m it ≡ twices n it
unfolding twices
doubled_twices m zero it few wide narrow = doubled_done m it (omega arith)
doubled_twices zero (suc n) it few wide narrow = absurd (omega arith)
doubled_twices (suc m) (suc n) it few wide narrow =
    let more : 2 * it.size * 2 ^ n ≡ it.size * 2 ^ suc n = rw (pow-succ' 2 n) (omega arith) in
    doubled_turn m it (below it.size n narrow)
    ∙ doubled_twices m n (twice it) (omega arith) (omega arith) (omega arith)

-- The registers hold an interval that takes `due` turns more to where n turns of `it` lead.
pub record Moved (bytes : List ℕ) (r : Registers) (it : Interval) (n due : ℕ) : Type 0 where
  pub turned : Interval
  pub holds : HoldsAt bytes r turned
  pub same_end : twices n it ≡ twices due turned

-- so many turns, and one more with a byte
pub moved_more : (bytes : List ℕ) (r empty next : Registers) (it : Interval) (n due ct less : ℕ)
    → due ≡ ct + (1 + less)
    → ((j : Interval) → HoldsAt bytes r j → HoldsAt bytes empty (twices ct j))
    → ((j : Interval) → HoldsAt bytes empty j → HoldsAt bytes next (twice j))
    → Moved bytes r it n due → Moved bytes next it n less
moved_more bytes r empty next it n due ct less e turns turn h =
    record {
      turned = twice (twices ct h.turned);
      holds = turn (twices ct h.turned) (turns h.turned h.holds);
      same_end = h.same_end ∙ (ap (λ (k : ℕ). twices k h.turned) e
          ∙ (twices_add ct (1 + less) h.turned ∙ (twices_add 1 less (twices ct h.turned)
          ∙ ap (twices less) (twices_one (twices ct h.turned)))));
    }

-- doubling leaves the contexts
pub doubled_contexts : (n : ℕ) (it : Interval) → (doubled n it).contexts ≡ it.contexts
unfolding doubled
doubled_contexts zero it = refl
doubled_contexts (suc n) it = elim (cases_lt it.size (2 ^ 15)) [
  | inl lt ↦ rw (doubled_turn n it lt) (doubled_contexts n (twice it))
  | inr ge ↦ rw (doubled_done (suc n) it ge) refl
]

pub same-beq : (a b : Bool) → same a b ≡ beq a b
same-beq true true = refl
same-beq true false = refl
same-beq false true = refl
same-beq false false = refl
