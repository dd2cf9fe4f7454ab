-- A decoder's registers through the steps of the procedures: each keeps what they hold.
use Rattle.std.proofs.Common.{◌≡◌, ℕ, suc, ◌+◌, ◌-◌, ◌*◌, ◌/◌, ◌^◌, ◌<◌, ◌≤◌, min, Bool, true}
use Rattle.std.proofs.Common.{false, ltb, List, [], ◌∷◌, ◌++◌, fold, refl, sym, ap, ◌∙◌, arith, inl}
use Rattle.std.proofs.Common.{inr}
use Rattle.std.proofs.lemmas.Bool.{cases_lt, lt-ltb, le-ltb}
use Rattle.mq_coder.specs.Decisions.{digits, Interval, start_interval, estimate, part_symbol, part}
use Rattle.mq_coder.specs.Decisions.{twice, is_lower, next_interval, decisions_from, decisions}
use Rattle.mq_coder.specs.Decisions.{interval_after}
use Rattle.mq_coder.specs.Reading.{Holds}
use Rattle.mq_coder.proofs.Estimates.{estimate_bounded}
use Rattle.mq_coder.proofs.Fed.{Fed, reads_start, reads_digits, reads_upper, reads_doubled}
use Rattle.mq_coder.proofs.Fed.{reads_fed}
use Rattle.mq_coder.proofs.Stands.{part_lower, part_upper}

-- the interval is wider than Qe between two symbols
below_size : (contexts : List (ℕ × Bool)) (cx size : ℕ) → 2 ^ 15 ≤ size →
    estimate contexts cx < size
below_size contexts cx size wide =
    let few : (1 ≤ estimate contexts cx) × (estimate contexts cx ≤ 22017) =
    estimate_bounded contexts cx in
    omega arith

high_low : (c q : ℕ) → c < q * 2 ^ 16 → c / 2 ^ 16 < q
high_low c q lt = omega arith

high_up : (c q : ℕ) → q * 2 ^ 16 ≤ c → q ≤ c / 2 ^ 16
high_up c q le = omega arith

-- what the register says: its high 16 bits are below Qe where the string decides for the lower part
pub holds_decides : (bytes : List ℕ) (c ct : ℕ) (ff : Bool) (rest : List ℕ) (it : Interval)
    (cx : ℕ) → Holds bytes c ct ff rest it → 2 ^ 15 ≤ it.size →
    ltb (c / 2 ^ 16) (estimate it.contexts cx) ≡ is_lower bytes it cx
unfolding is_lower
holds_decides bytes c ct ff rest it cx h wide =
    let q : estimate it.contexts cx < it.size = below_size it.contexts cx it.size wide in
    let d : digits bytes it.scale ≡ h.whole / 2 ^ 16 + it.low =
    reads_digits bytes h.whole ct ff rest it.low it.scale h.reads in
    let cut : c ≡ min h.whole (it.size * 2 ^ 16) = h.cut in
    elim (cases_lt h.whole (estimate it.contexts cx * 2 ^ 16)) [
      | inl lt ↦
          let same : c ≡ h.whole = omega arith in
          let low : h.whole / 2 ^ 16 < estimate it.contexts cx =
          high_low h.whole (estimate it.contexts cx) lt in
          let low' : c / 2 ^ 16 < estimate it.contexts cx =
          high_low c (estimate it.contexts cx) (omega arith) in
          lt-ltb _ _ low' ∙ sym (lt-ltb _ _
          (let e : digits bytes it.scale < it.low + estimate it.contexts cx = omega arith in e))
      | inr ge ↦
          let up : estimate it.contexts cx ≤ h.whole / 2 ^ 16 =
          high_up h.whole (estimate it.contexts cx) ge in
          let up' : estimate it.contexts cx ≤ c / 2 ^ 16 =
          high_up c (estimate it.contexts cx) (omega arith) in
          le-ltb _ _ up' ∙ sym (le-ltb _ _
          (let e : it.low + estimate it.contexts cx ≤ digits bytes it.scale = omega arith in e))
    ]

-- the lower part: C stays
pub holds_lower : (bytes : List ℕ) (c ct : ℕ) (ff : Bool) (rest : List ℕ) (it : Interval) (cx : ℕ) →
    Holds bytes c ct ff rest it → 2 ^ 15 ≤ it.size → c / 2 ^ 16 < estimate it.contexts cx →
    Holds bytes c ct ff rest (part it cx true)
holds_lower bytes c ct ff rest it cx h wide lt =
    let q : estimate it.contexts cx < it.size = below_size it.contexts cx it.size wide in
    let few : (1 ≤ estimate it.contexts cx) × (estimate it.contexts cx ≤ 22017) =
    estimate_bounded it.contexts cx in
    let cut : c ≡ min h.whole (it.size * 2 ^ 16) = h.cut in
    let below : c < estimate it.contexts cx * 2 ^ 16 = omega arith in
    rw (part_lower it cx) record {
      whole = h.whole;
      reads = h.reads;
      cut = omega arith;
      few = h.few;
      some = few.0;
      narrow = omega arith;
    }

-- the upper part: Qe is taken from the high bits
pub holds_upper : (bytes : List ℕ) (c ct : ℕ) (ff : Bool) (rest : List ℕ) (it : Interval) (cx : ℕ) →
    Holds bytes c ct ff rest it → 2 ^ 15 ≤ it.size → estimate it.contexts cx ≤ c / 2 ^ 16 →
    Holds bytes (c - estimate it.contexts cx * 2 ^ 16) ct ff rest (part it cx false)
holds_upper bytes c ct ff rest it cx h wide ge =
    let q : estimate it.contexts cx < it.size = below_size it.contexts cx it.size wide in
    let top : it.size < 2 ^ 16 = h.narrow in
    let cut : c ≡ min h.whole (it.size * 2 ^ 16) = h.cut in
    let above : estimate it.contexts cx * 2 ^ 16 ≤ c = omega arith in
    let above' : estimate it.contexts cx * 2 ^ 16 ≤ h.whole = omega arith in
    rw (part_upper it cx) record {
      whole = h.whole - estimate it.contexts cx * 2 ^ 16;
      reads = reads_upper bytes h.whole ct ff rest it.low it.scale
          (estimate it.contexts cx) h.reads above';
      cut = omega arith;
      few = h.few;
      some = omega arith;
      narrow = omega arith;
    }

-- a turn of RENORMD with CT above 0
pub holds_doubled : (bytes : List ℕ) (c ct : ℕ) (ff : Bool) (rest : List ℕ) (it : Interval) →
    Holds bytes c (suc ct) ff rest it → it.size < 2 ^ 15 → Holds bytes (2 * c) ct ff rest (twice it)
holds_doubled bytes c ct ff rest it h lt =
    let cut : c ≡ min h.whole (it.size * 2 ^ 16) = h.cut in
    let few : suc ct ≤ 7 = h.few in
    let some : 1 ≤ it.size = h.some in
    record {
      whole = 2 * h.whole;
      reads = reads_doubled bytes h.whole ct ff rest it.low it.scale h.reads;
      cut = omega arith;
      few = omega arith;
      some = omega arith;
      narrow = omega arith;
    }

-- a turn that begins with BYTEIN, after which C is cut
pub holds_fed : (bytes : List ℕ) (c byte w : ℕ) (ff ff' : Bool) (rest rest' : List ℕ)
    (it : Interval) → Holds bytes c 0 ff rest it → Fed ff rest byte w ff' rest' → it.size < 2 ^ 15 →
    Holds bytes (2 * min (c + byte * 2 ^ (16 - w)) (it.size * 2 ^ 16)) (w - 1) ff' rest'
    (twice it)
holds_fed bytes c byte w ff ff' rest rest' it h f lt =
    let cut : c ≡ min h.whole (it.size * 2 ^ 16) = h.cut in
    let eight : w ≤ 8 = f.eight in
    let some : 1 ≤ it.size = h.some in
    record {
      whole = 2 * (h.whole + byte * 2 ^ (16 - w));
      reads = reads_fed bytes h.whole byte w ff ff' rest rest' it.low it.scale h.reads f;
      cut = omega arith;
      few = omega arith;
      some = omega arith;
      narrow = omega arith;
    }

-- INITDEC: two bytes, 7 of whose bits are shifted up
pub holds_start : (bytes : List ℕ) (b0 b1 w : ℕ) (ff1 ff2 : Bool) (r1 r2 : List ℕ) →
    Fed false bytes b0 8 ff1 r1 → Fed ff1 r1 b1 w ff2 r2 →
    Holds bytes (min ((b0 * 2 ^ 16 + b1 * 2 ^ (16 - w)) * 2 ^ 7) (2 ^ 31))
    (w - 7) ff2 r2 start_interval
unfolding start_interval
holds_start bytes b0 b1 w ff1 ff2 r1 r2 f1 f2 =
    let seven : 7 ≤ w = f2.seven in
    let eight : w ≤ 8 = f2.eight in
    record {
      whole = (b0 * 2 ^ 16 + b1 * 2 ^ (16 - w)) * 2 ^ 7;
      reads = reads_start bytes b0 b1 w (w - 7)
          ((b0 * 2 ^ 16 + b1 * 2 ^ (16 - w)) * 2 ^ 7) ff1 ff2 r1 r2 f1 f2 (omega arith)
          (started b0 b1 w seven eight);
      cut = omega arith;
      few = omega arith;
      some = omega arith;
      narrow = omega arith;
    }
  where
    started : (b0 b1 w : ℕ) → 7 ≤ w → w ≤ 8 →
        ((b0 * 2 ^ 16 + b1 * 2 ^ (16 - w)) * 2 ^ 7 + 0 * 2 ^ 16) * 2 ^ (w - 7)
        ≡ (b0 * 2 ^ w + b1) * 2 ^ 16
    started b0 b1 w le le' =
        elim (cases_lt w 8) [
          | inl lt ↦ let e : w ≡ 7 = omega arith in rw e (omega arith)
          | inr ge ↦ let e : w ≡ 8 = omega arith in rw e (omega arith)
        ]

-- one context more
pub interval_more : (bytes : List ℕ) (cxs : List ℕ) (cx : ℕ) →
    interval_after bytes (cxs ++ cx ∷ []) ≡ next_interval bytes (interval_after bytes cxs) cx
unfolding interval_after
interval_more bytes cxs cx = more cxs start_interval
  where
    more : (cxs : List ℕ) (it : Interval) →
        fold (next_interval bytes) it (cxs ++ cx ∷ [])
        ≡ next_interval bytes (fold (next_interval bytes) it cxs) cx
    more [] it = refl
    more (x ∷ xs) it = more xs (next_interval bytes it x)

pub decisions_more : (bytes : List ℕ) (cxs : List ℕ) (cx : ℕ) →
    decisions bytes (cxs ++ cx ∷ [])
    ≡ decisions bytes cxs ++ part_symbol (interval_after bytes cxs).contexts
    (interval_after bytes cxs).size cx (is_lower bytes (interval_after bytes cxs) cx) ∷ []
unfolding decisions interval_after decisions_from
decisions_more bytes cxs cx = more cxs start_interval
  where
    more : (cxs : List ℕ) (it : Interval) →
        decisions_from bytes it (cxs ++ cx ∷ [])
        ≡ decisions_from bytes it cxs ++ part_symbol
        (fold (next_interval bytes) it cxs).contexts
        (fold (next_interval bytes) it cxs).size cx
        (is_lower bytes (fold (next_interval bytes) it cxs) cx) ∷ []
    more [] it = refl
    more (x ∷ xs) it = ap (λ v. part_symbol it.contexts it.size x (is_lower bytes it x) ∷ v)
        (more xs (next_interval bytes it x))
