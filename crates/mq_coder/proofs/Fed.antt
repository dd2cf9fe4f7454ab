-- BYTEIN: one byte more of a string, or of the FF that follow it.
use Rattle.std.proofs.Common.{◌≡◌, ℕ, suc, ◌+◌, ◌-◌, ◌*◌, ◌/◌, ◌%◌, ◌^◌, ◌<◌, ◌≤◌, Bool, true}
use Rattle.std.proofs.Common.{false, eqb, List, [], ◌∷◌, refl, sym, ap, ◌∙◌, arith, inl, inr}
use Rattle.std.proofs.lemmas.Bool.{cases_lt, lt-ltb, le-ltb}
use Rattle.std.proofs.lemmas.Nat.{pow_pos, div-add-mod', mod_below}
use Rattle.std.proofs.Math.Nat.{mul-le-mul_right, pow-succ'}
use Rattle.mq_coder.specs.Decisions.{look, digits}
use Rattle.mq_coder.specs.Reading.{Reads}
use Rattle.mq_coder.proofs.Arithmetic.{quotient}
use Rattle.mq_coder.proofs.Ends.{ones_short, ones_long}
use Rattle.mq_coder.proofs.Held.{digits_look}
use Rattle.mq_coder.proofs.Look.{look_cut, look_short_by, look_long_by, look_end}

-- what BYTEIN adds, how many digits that gives, and where it leaves the string
pub record Fed (after_ff : Bool) (rest : List ℕ) (byte w : ℕ) (after_ff' : Bool)
    (rest' : List ℕ) : Type 0 where
  pub seven : 7 ≤ w
  pub eight : w ≤ 8
  pub short : (acc d k : ℕ) → d + k ≡ w → look acc after_ff rest d ≡ (acc * 2 ^ w + byte) / 2 ^ k
  pub long : (acc d k : ℕ) → 1 ≤ k → d ≡ w + k →
      look acc after_ff rest d ≡ look (acc * 2 ^ w + byte) after_ff' rest' k

-- after the end
pub fed_past : (ff ff' : Bool) → Fed ff [] 255 8 ff' []
fed_past ff ff' = record {
  seven = omega arith;
  eight = omega arith;
  short = λ acc d k e. look_end acc ff d ∙ sym (ones_short acc d k e);
  long = λ acc d k one e. look_end acc ff d ∙ sym (ones_long acc d k e)
      ∙ sym (look_end (acc * 2 ^ 8 + 255) ff' k);
}

-- FF and a byte above 8F: the place stays
pub fed_cut : (b : ℕ) (r : List ℕ) → 143 < b → Fed true (b ∷ r) 255 8 true (b ∷ r)
fed_cut b r lt = record {
  seven = omega arith;
  eight = omega arith;
  short = λ acc d k e. look_cut acc true b r d (lt-ltb 143 b lt) ∙ sym (ones_short acc d k e);
  long = λ acc d k one e. look_cut acc true b r d (lt-ltb 143 b lt) ∙ sym (ones_long acc d k e)
      ∙ sym (look_cut (acc * 2 ^ 8 + 255) true b r k (lt-ltb 143 b lt));
}

-- a byte after one that isn't FF
pub fed_8 : (b : ℕ) (r : List ℕ) → Fed false (b ∷ r) b 8 (eqb b 255) r
fed_8 b r = record {
  seven = omega arith;
  eight = omega arith;
  short = λ acc d k e. look_short_by acc false b r d k refl e;
  long = λ acc d k one e. look_long_by acc false b r d k refl one e;
}

-- a stuffed byte after FF
pub fed_7 : (b : ℕ) (r : List ℕ) → b ≤ 143 → Fed true (b ∷ r) b 7 (eqb b 255) r
fed_7 b r le = record {
  seven = omega arith;
  eight = omega arith;
  short = λ acc d k e. look_short_by acc true b r d k (le-ltb 143 b le) e;
  long = λ acc d k one e. look_long_by acc true b r d k (le-ltb 143 b le) one e;
}

started_c_7 : (b0 b1 : ℕ) → ((b0 * 2 ^ 16 + b1 * 2 ^ 9) * 2 ^ 7 + 0 * 2 ^ 16) * 2 ^ 0
    ≡ (b0 * 2 ^ 7 + b1) * 2 ^ 16
started_c_7 b0 b1 = omega arith

started_c_8 : (b0 b1 : ℕ) → ((b0 * 2 ^ 16 + b1 * 2 ^ 8) * 2 ^ 7 + 0 * 2 ^ 16) * 2 ^ 1
    ≡ (b0 * 2 ^ 8 + b1) * 2 ^ 16
started_c_8 b0 b1 = omega arith

-- INITDEC, before the cut
pub reads_start : (bytes : List ℕ) (b0 b1 w ct c : ℕ) (ff1 ff2 : Bool) (r1 r2 : List ℕ) →
    Fed false bytes b0 8 ff1 r1 → Fed ff1 r1 b1 w ff2 r2 → w ≡ 7 + ct →
    (c + 0 * 2 ^ 16) * 2 ^ ct ≡ (b0 * 2 ^ w + b1) * 2 ^ 16 → Reads bytes c ct ff2 r2 0 0
reads_start bytes b0 b1 w ct c ff1 ff2 r1 r2 f1 f2 e c_is =
    let z : 0 * 2 ^ 8 + b0 ≡ b0 = omega arith in
    record {
      read = b0 * 2 ^ w + b1;
      count = 8 + w;
      count_is = omega arith;
      c_is = c_is;
      prefix = λ r d le h.
          let m : ℕ = d - 8 in
          let seven : 7 ≤ w = f2.seven in
          f1.long 0 d (d - 8) (omega arith) (omega arith) ∙ ap (λ v. look v ff1 r1 (d - 8)) z
          ∙ f2.short b0 (d - 8) r (omega arith);
      back = λ d one.
          f1.long 0 (8 + w + d) (w + d) (omega arith) (omega arith)
          ∙ ap (λ v. look v ff1 r1 (w + d)) z ∙ f2.long b0 (w + d) d one refl;
    }

-- what C and low hold together
held_quotient : (c l t read : ℕ) → 0 < t → (c + l * 2 ^ 16) * t ≡ read * 2 ^ 16 →
    read / t ≡ c / 2 ^ 16 + l
held_quotient c l t read pos e =
    let whole : c / 2 ^ 16 * 2 ^ 16 + c % 2 ^ 16 ≡ c = div-add-mod' c (2 ^ 16) in
    let low : c % 2 ^ 16 < 2 ^ 16 = mod_below c (2 ^ 16) (pow_pos 16) in
    let m1 : c % 2 ^ 16 * t + 1 * t ≤ 2 ^ 16 * t =
    (let h : suc (c % 2 ^ 16) * t ≤ 2 ^ 16 * t = mul-le-mul_right t low in omega arith) in
    let m2 : (c / 2 ^ 16 * 2 ^ 16 + c % 2 ^ 16) * t ≡ c * t = ap (λ x. x * t) whole in
    quotient read t (c / 2 ^ 16 + l) pos (omega arith) (omega arith)

pub reads_digits : (bytes : List ℕ) (c ct : ℕ) (ff : Bool) (rest : List ℕ) (low scale : ℕ) →
    Reads bytes c ct ff rest low scale → digits bytes scale ≡ c / 2 ^ 16 + low
reads_digits bytes c ct ff rest low scale h =
    digits_look bytes scale
    ∙ h.prefix ct (scale + 15) (omega arith) (sym h.count_is)
    ∙ held_quotient c low (2 ^ ct) h.read (pow_pos ct) h.c_is

pub reads_upper : (bytes : List ℕ) (c ct : ℕ) (ff : Bool) (rest : List ℕ) (low scale q : ℕ) →
    Reads bytes c ct ff rest low scale → q * 2 ^ 16 ≤ c →
    Reads bytes (c - q * 2 ^ 16) ct ff rest (low + q) scale
reads_upper bytes c ct ff rest low scale q h le =
    let same : c - q * 2 ^ 16 + (low + q) * 2 ^ 16 ≡ c + low * 2 ^ 16 = omega arith in
    record {
      read = h.read;
      count = h.count;
      count_is = h.count_is;
      c_is = ap (λ v. v * 2 ^ ct) same ∙ h.c_is;
      prefix = h.prefix;
      back = h.back;
    }

doubled_c : (c low t read p : ℕ) → p ≡ 2 * t → (c + low * 2 ^ 16) * p ≡ read * 2 ^ 16 →
    (2 * c + 2 * low * 2 ^ 16) * t ≡ read * 2 ^ 16
doubled_c c low t read p e h =
    let m : (c + low * 2 ^ 16) * p ≡ (c + low * 2 ^ 16) * (2 * t) =
    ap (λ x. (c + low * 2 ^ 16) * x) e in
    omega arith

-- a turn of RENORMD with CT above 0
pub reads_doubled : (bytes : List ℕ) (c ct : ℕ) (ff : Bool) (rest : List ℕ) (low scale : ℕ) →
    Reads bytes c (suc ct) ff rest low scale → Reads bytes (2 * c) ct ff rest (2 * low) (scale + 1)
reads_doubled bytes c ct ff rest low scale h =
    let count_is : h.count ≡ scale + 15 + suc ct = h.count_is in
    record {
      read = h.read;
      count = h.count;
      count_is = omega arith;
      c_is = doubled_c c low (2 ^ ct) h.read (2 ^ suc ct) (pow-succ' 2 ct) h.c_is;
      prefix = λ r d le e. h.prefix r d (omega arith) e;
      back = h.back;
    }

fed_c_7 : (c low read byte : ℕ) → (c + low * 2 ^ 16) * 2 ^ 0 ≡ read * 2 ^ 16 →
    (2 * (c + byte * 2 ^ 9) + 2 * low * 2 ^ 16) * 2 ^ 6 ≡ (read * 2 ^ 7 + byte) * 2 ^ 16
fed_c_7 c low read byte h = omega arith

fed_c_8 : (c low read byte : ℕ) → (c + low * 2 ^ 16) * 2 ^ 0 ≡ read * 2 ^ 16 →
    (2 * (c + byte * 2 ^ 8) + 2 * low * 2 ^ 16) * 2 ^ 7 ≡ (read * 2 ^ 8 + byte) * 2 ^ 16
fed_c_8 c low read byte h = omega arith

fed_c : (c low read byte w : ℕ) → 7 ≤ w → w ≤ 8 → (c + low * 2 ^ 16) * 2 ^ 0 ≡ read * 2 ^ 16 →
    (2 * (c + byte * 2 ^ (16 - w)) + 2 * low * 2 ^ 16) * 2 ^ (w - 1)
    ≡ (read * 2 ^ w + byte) * 2 ^ 16
fed_c c low read byte w le le' h =
    elim (cases_lt w 8) [
      | inl lt ↦ let e : w ≡ 7 = omega arith in rw e (fed_c_7 c low read byte h)
      | inr ge ↦ let e : w ≡ 8 = omega arith in rw e (fed_c_8 c low read byte h)
    ]

-- a turn that begins with BYTEIN
pub reads_fed : (bytes : List ℕ) (c byte w : ℕ) (ff ff' : Bool) (rest rest' : List ℕ)
    (low scale : ℕ) → Reads bytes c 0 ff rest low scale → Fed ff rest byte w ff' rest' →
    Reads bytes (2 * (c + byte * 2 ^ (16 - w))) (w - 1) ff' rest' (2 * low) (scale + 1)
reads_fed bytes c byte w ff ff' rest rest' low scale h f =
    let seven : 7 ≤ w = f.seven in
    let count_is : h.count ≡ scale + 15 + 0 = h.count_is in
    record {
      read = h.read * 2 ^ w + byte;
      count = h.count + w;
      count_is = omega arith;
      c_is = fed_c c low h.read byte w f.seven f.eight h.c_is;
      prefix = λ r d le e.
          let one : 1 ≤ w - r = omega arith in
          let is : d ≡ h.count + (w - r) = omega arith in
          ap (λ v. look 0 false bytes v) is ∙ h.back (w - r) one
          ∙ f.short h.read (w - r) r (omega arith);
      back = λ d one.
          let is : h.count + w + d ≡ h.count + (w + d) = omega arith in
          ap (λ v. look 0 false bytes v) is ∙ h.back (w + d) (omega arith)
          ∙ f.long h.read (w + d) d one refl;
    }
