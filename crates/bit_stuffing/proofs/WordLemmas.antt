-- Four bytes at a time.
use Rattle.std.proofs.Common.{◌≡◌, ℕ, ◌+◌, ◌*◌, ◌/◌, ◌%◌, ◌^◌, ◌<◌, ◌≤◌, Bool, List, inl, inr, refl}
use Rattle.std.proofs.Common.{sym, ap, subst, ◌∙◌, arith}
use Rattle.std.specs.Prelude.{bit_and}
use Rattle.std.proofs.lemmas.Nat.{shr-shr, field_of, and_block, and_le_l, and_le_r, and_mask}
use Rattle.std.proofs.lemmas.Bool.{cases_lt}
use Rattle.std.proofs.Math.Nat.{mod-lt}
use Rattle.bit_stuffing.specs.Inside.{Counts, HasNoFf}
use Rattle.std.proofs.Math.Pow.{mod-mod-pow}
use Rattle.bit_stuffing.proofs.RegisterLemmas.{counts_byte}

-- the test of one digit, and of digits before it
abbrev pub test_of : ℕ → ℕ → ℕ → ℕ → ℕ
test_of x a b c = bit_and (bit_and (bit_and x a + b) x) c

test_digit : (x a b c d : ℕ) → d < 256 → test_of (x * 2 ^ 8 + d) (a * 2 ^ 8 + 127) (b * 2 ^ 8 + 1)
    (c * 2 ^ 8 + 128) ≡ test_of x a b c * 2 ^ 8 + test_of d 127 1 128
test_digit x a b c d h =
    let low = and_le_r d 127 in
    let one : bit_and (x * 2 ^ 8 + d) (a * 2 ^ 8 + 127) ≡ bit_and x a * 2 ^ 8 + bit_and d 127 =
    and_block 8 x a d 127 h (omega arith) in
    let two : bit_and x a * 2 ^ 8 + bit_and d 127 + (b * 2 ^ 8 + 1) ≡ (bit_and x a + b) * 2 ^ 8
    + (bit_and d 127 + 1) = omega arith in
    let three : bit_and ((bit_and x a + b) * 2 ^ 8 + (bit_and d 127 + 1)) (x * 2 ^ 8 + d)
    ≡ bit_and (bit_and x a + b) x * 2 ^ 8 + bit_and (bit_and d 127 + 1) d =
    and_block 8 (bit_and x a + b) x (bit_and d 127 + 1) d (omega arith) h in
    let most = and_le_r (bit_and d 127 + 1) d in
    let four = and_block 8 (bit_and (bit_and x a + b) x) c (bit_and (bit_and d 127 + 1) d) 128
    (omega arith) (omega arith) in
    ap (λ k. bit_and (bit_and (k + (b * 2 ^ 8 + 1)) (x * 2 ^ 8 + d)) (c * 2 ^ 8 + 128)) one
    ∙ ap (λ k. bit_and (bit_and k (x * 2 ^ 8 + d)) (c * 2 ^ 8 + 128)) two
    ∙ ap (λ k. bit_and k (c * 2 ^ 8 + 128)) three
    ∙ four

-- FF is found
told : (d : ℕ) → test_of d 127 1 128 ≡ 0 → d ≡ 255 → ⊥
told d h e = let k : test_of 255 127 1 128 ≡ 0 = ap (λ n. test_of n 127 1 128) (sym e) ∙ h in
    let n : test_of 255 127 1 128 ≡ 128 = refl in omega arith

-- and no other digit is
below_128 : (y : ℕ) → y < 128 → bit_and y 128 ≡ 0
below_128 y h =
    let same : y ≡ 0 * 2 ^ 7 + y = omega arith in
    let low : bit_and y 0 ≤ 0 = and_le_r y 0 in
    let none : bit_and 0 1 * 2 ^ 7 + bit_and y 0 ≡ 0 = omega (arith, low) in
    ap (λ n. bit_and n 128) same ∙ and_block 7 0 1 y 0 h (omega arith) ∙ none

untold : (d : ℕ) → d < 256 → (d ≡ 255 → ⊥) → test_of d 127 1 128 ≡ 0
untold d h other =
    let low : bit_and d 127 ≡ d % 2 ^ 7 = and_mask d 7 in
    elim (cases_lt (d % 2 ^ 7) 127) [
      | inl less ↦
          let most : bit_and (bit_and d 127 + 1) d ≤ bit_and d 127 + 1 =
          and_le_l (bit_and d 127 + 1) d in
          below_128 (bit_and (bit_and d 127 + 1) d) (omega (arith, low))
      | inr all ↦ let is : d ≡ 127 = omega arith in rw is refl
    ]

digits : (x d : ℕ) → x * 2 ^ 8 + d ≡ 0 → (x ≡ 0) × (d ≡ 0)
digits x d h = (omega arith, omega arith)

-- a word's digits
word_parts : (word : ℕ) → word ≡ word / 2 ^ 8 * 2 ^ 8 + word % 2 ^ 8
word_parts word = omega arith

one_digit : (x a b c : ℕ) → test_of x (a * 2 ^ 8 + 127) (b * 2 ^ 8 + 1) (c * 2 ^ 8 + 128) ≡ 0
    → (test_of (x / 2 ^ 8) a b c ≡ 0) × (x % 2 ^ 8 ≡ 255 → ⊥)
one_digit x a b c h =
    let low : x % 2 ^ 8 < 256 = mod-lt x (omega arith) in
    let e = ap (λ n. test_of n (a * 2 ^ 8 + 127) (b * 2 ^ 8 + 1) (c * 2 ^ 8 + 128))
    (sym (word_parts x)) ∙ h in
    let k = digits (test_of (x / 2 ^ 8) a b c) (test_of (x % 2 ^ 8) 127 1 128)
    (sym (test_digit (x / 2 ^ 8) a b c (x % 2 ^ 8) low) ∙ e) in
    (k.0, told (x % 2 ^ 8) k.1)

one_more_digit : (x a b c : ℕ) → test_of (x / 2 ^ 8) a b c ≡ 0 → (x % 2 ^ 8 ≡ 255 → ⊥)
    → test_of x (a * 2 ^ 8 + 127) (b * 2 ^ 8 + 1) (c * 2 ^ 8 + 128) ≡ 0
one_more_digit x a b c h other =
    let low : x % 2 ^ 8 < 256 = mod-lt x (omega arith) in
    let e = ap (λ n. test_of n (a * 2 ^ 8 + 127) (b * 2 ^ 8 + 1) (c * 2 ^ 8 + 128))
    (word_parts x) in
    let k = test_digit (x / 2 ^ 8) a b c (x % 2 ^ 8) low in
    let last = untold (x % 2 ^ 8) low other in
    e ∙ k ∙ (let sum : test_of (x / 2 ^ 8) a b c * 2 ^ 8 + test_of (x % 2 ^ 8) 127 1 128 ≡ 0 =
    omega (arith, h, last) in sum)

pub no_ff : (word : ℕ) → test_of word 2139062143 16843009 2155905152 ≡ 0 → HasNoFf word
no_ff word h =
    let a = one_digit word 8355711 65793 8421504 h in
    let b = one_digit (word / 2 ^ 8) 32639 257 32896 a.0 in
    let c = one_digit (word / 2 ^ 8 / 2 ^ 8) 127 1 128 b.0 in
    let d = one_digit (word / 2 ^ 8 / 2 ^ 8 / 2 ^ 8) 0 0 0 c.0 in
    let two : word / 2 ^ 8 / 2 ^ 8 ≡ word / 2 ^ 16 = shr-shr word 8 8 in
    let three : word / 2 ^ 8 / 2 ^ 8 / 2 ^ 8 ≡ word / 2 ^ 24 = ap (λ n. n / 2 ^ 8) two
    ∙ shr-shr word 16 8 in
    record {
      first = rw three at d.1;
      second = rw two at c.1;
      third = b.1;
      last = λ e. a.1 (let s : word / 2 ^ 0 ≡ word = omega arith in ap (λ n. n % 2 ^ 8) (sym s)
          ∙ e);
    }

pub no_ff_untold : (word : ℕ) → HasNoFf word → test_of word 2139062143 16843009 2155905152 ≡ 0
no_ff_untold word none =
    let two : word / 2 ^ 8 / 2 ^ 8 ≡ word / 2 ^ 16 = shr-shr word 8 8 in
    let three : word / 2 ^ 8 / 2 ^ 8 / 2 ^ 8 ≡ word / 2 ^ 24 = ap (λ n. n / 2 ^ 8) two
    ∙ shr-shr word 16 8 in
    let whole : word / 2 ^ 0 ≡ word = omega arith in
    let above : test_of (word / 2 ^ 8 / 2 ^ 8 / 2 ^ 8 / 2 ^ 8) 0 0 0 ≡ 0 = let most =
    and_le_r (bit_and (bit_and (word / 2 ^ 8 / 2 ^ 8 / 2 ^ 8 / 2 ^ 8) 0 + 0)
    (word / 2 ^ 8 / 2 ^ 8 / 2 ^ 8 / 2 ^ 8)) 0 in omega arith in
    let d = one_more_digit (word / 2 ^ 8 / 2 ^ 8 / 2 ^ 8) 0 0 0 above
    (λ e. none.first (ap (λ n. n % 2 ^ 8) (sym three) ∙ e)) in
    let c = one_more_digit (word / 2 ^ 8 / 2 ^ 8) 127 1 128 d (λ e.
    none.second (ap (λ n. n % 2 ^ 8) (sym two) ∙ e)) in
    let b = one_more_digit (word / 2 ^ 8) 32639 257 32896 c none.third in
    one_more_digit word 8355711 65793 8421504 b (λ e. none.last (ap (λ n. n % 2 ^ 8) whole ∙ e))

-- the bytes of the low four bytes of a number are the number's own
pub word_no_ff : (n : ℕ) → HasNoFf (n % 2 ^ 32) → HasNoFf n
word_no_ff n h = record {
  first = λ e. h.first (ap (λ m. m % 2 ^ 8) (field_of n 8 24) ∙ mod-mod-pow (n / 2 ^ 24) 0 8 ∙ e);
  second = λ e. h.second (ap (λ m. m % 2 ^ 8) (field_of n 16 16) ∙ mod-mod-pow (n / 2 ^ 16) 8 8
      ∙ e);
  third = λ e. h.third (ap (λ m. m % 2 ^ 8) (field_of n 24 8) ∙ mod-mod-pow (n / 2 ^ 8) 16 8 ∙ e);
  last = λ e. h.last (ap (λ m. m % 2 ^ 8) (field_of n 32 0) ∙ mod-mod-pow (n / 2 ^ 0) 24 8 ∙ e);
}

digit_at : (held left n k : ℕ) → left + n ≡ k → (held / 2 ^ left / 2 ^ n % 2 ^ 8 ≡ 255 → ⊥)
    → held / 2 ^ k % 2 ^ 8 ≡ 255 → ⊥
digit_at held left n k e h f = h (ap (λ m. m % 2 ^ 8) (shr-shr held left n
    ∙ ap (λ m. held / 2 ^ m) e) ∙ f)

-- four bytes are counted
pub counts_word : (whole held filled all left : ℕ) (bits : List Bool)
    → Counts whole held filled all bits → left + 32 ≡ filled → HasNoFf (held / 2 ^ left % 2 ^ 32)
    → Counts (whole + 4) held left all bits
counts_word whole held filled all left bits s e none =
    let h = word_no_ff (held / 2 ^ left) none in
    let a = counts_byte whole held filled all (left + 24) bits s (omega arith)
    (digit_at held left 24 (left + 24) refl h.first) in
    let b = counts_byte (whole + 1) held (left + 24) all (left + 16) bits a (omega arith)
    (digit_at held left 16 (left + 16) refl h.second) in
    let c = counts_byte (whole + 1 + 1) held (left + 16) all (left + 8) bits b (omega arith)
    (digit_at held left 8 (left + 8) refl h.third) in
    let d = counts_byte (whole + 1 + 1 + 1) held (left + 8) all left bits c refl
    (digit_at held left 0 left (omega arith) h.last) in
    let four : whole + 1 + 1 + 1 + 1 ≡ whole + 4 = omega arith in
    subst (λ n. Counts n held left all bits) four d
