-- The codewords of a block's numbers, as numbers.
use Rattle.std.proofs.Common.{◌≡◌, ℕ, suc, zero, ◌+◌, ◌-◌, ◌*◌, ◌/◌, ◌%◌, ◌^◌, ◌<◌, ◌≤◌, true}
use Rattle.std.proofs.Common.{false, [], ◌∷◌, ◌++◌, refl, sym, ap, subst, ◌∙◌, inl, inr, arith}
use Rattle.std.proofs.Common.{append_assoc, add-one}
use Rattle.std.specs.Prelude.{◌==◌, replicate, bit_or}
use Rattle.std.specs.Int.Bits.{or_step, or_zero_r}
use Rattle.std.proofs.lemmas.Bool.{cases_lt}
use Rattle.std.proofs.lemmas.List.{replicate_more}
use Rattle.std.proofs.Math.Nat.{pow-suc, one-le-pow, mul-le-mul_right, mod-lt}
use Rattle.std.proofs.lemmas.Nat.{pow-add}
use Rattle.std.proofs.Math.Pow.{pow_mono}
use Rattle.cine_nums.specs.Bits.{bit_len}
use Rattle.cine_nums.proofs.BitLength.{bit_len-above, bit_len-below, bit_len-within}
use Rattle.cine_nums.proofs.BitLength.{bit_len-monotone, bit_len-unique}
use Rattle.bit_stuffing.specs.Bits.{number}
use Rattle.bit_stuffing.proofs.RegisterLemmas.{number-join, join_below, one_fits}
use Rattle.packet_headers.specs.Codewords.{pass_bits, length_bits, length_width, least_raise}

-- ones
pub number-ones : (k : ℕ) → number k (2 ^ k - 1) ≡ replicate k true
unfolding number
number-ones zero = refl
number-ones (suc k) =
    let p : 2 ^ suc k ≡ 2 ^ k * 2 = pow-suc 2 k in
    let q : 1 ≤ 2 ^ k = one-le-pow k 2 (omega arith) in
    let half : (2 ^ suc k - 1) / 2 ≡ 2 ^ k - 1 = omega arith in
    let odd : (2 ^ suc k - 1) % 2 ≡ 1 = omega arith in
    ap (λ m. number k m ++ ((2 ^ suc k - 1) % 2 == 1) ∷ []) half
    ∙ ap (λ m. number k (2 ^ k - 1) ++ (m == 1) ∷ []) odd
    ∙ ap (λ r. r ++ true ∷ []) (number-ones k)
    ∙ rw add-one at (replicate_more k true)

-- raises and the 0 after them
raises : (r : ℕ) → number (r + 1) (2 * 2 ^ r - 2) ≡ replicate r true ++ false ∷ []
unfolding number
raises r = rw add-one (
    let q : 1 ≤ 2 ^ r = one-le-pow r 2 (omega arith) in
    let half : (2 * 2 ^ r - 2) / 2 ≡ 2 ^ r - 1 = omega arith in
    let even : (2 * 2 ^ r - 2) % 2 ≡ 0 = omega arith in
    ap (λ m. number r m ++ ((2 * 2 ^ r - 2) % 2 == 1) ∷ []) half
    ∙ ap (λ m. number r (2 ^ r - 1) ++ (m == 1) ∷ []) even
    ∙ ap (λ r. r ++ false ∷ []) (number-ones r))

least_one : (n : ℕ) → 1 ≤ n → 1 ≤ bit_len n
least_one zero h = h
least_one (suc n) h = omega arith

-- the widths of a length's codeword
pub record LengthWidths (passes len least raise width : ℕ) : Type 0 where
  pub width_is : width ≡ length_width passes raise
  pub raise_is : raise ≡ least_raise passes len
  pub raise_few : raise ≤ 15
  pub few : raise + 1 + width ≤ 34
  pub short : 37 ≤ passes → raise + 1 + width ≤ 29
  pub fits : len < 2 ^ width

pub length_widths : (passes len least raise width : ℕ) → 1 ≤ passes → passes ≤ 164 → len ≤ 131072
    → least ≡ 2 + bit_len passes → raise ≡ bit_len len - least → width ≡ least + raise
    → LengthWidths passes len least raise width
length_widths passes len least raise width some most h a b w =
    let one : 1 ≤ bit_len passes = least_one passes some in
    let eight : bit_len passes ≤ 8 = bit_len-within passes 8 (omega arith) in
    let most : bit_len len ≤ 18 = bit_len-within len 18 (omega arith) in
    let wide : bit_len len ≤ width = omega arith in
    let above : len < 2 ^ bit_len len = bit_len-above len in
    let p : 2 ^ bit_len len ≤ 2 ^ width = pow_mono wide in
    record {
      width_is = omega arith;
      raise_is = omega arith;
      raise_few = omega arith;
      few = omega arith;
      short = λ h. (let six : 6 ≤ bit_len passes = bit_len-monotone 37 passes h in omega arith);
      fits = omega arith;
    }

-- the value of a length's codeword, and its bits
pub length_is : (passes len least raise width : ℕ) → LengthWidths passes len least raise width
    → number (raise + 1 + width) ((2 * 2 ^ raise - 2) * 2 ^ width + len)
    ≡ length_bits passes (least_raise passes len) len
unfolding length_bits
length_is passes len least raise width w =
    number-join (raise + 1) width (2 * 2 ^ raise - 2) len w.fits
    ∙ ap (λ r. r ++ number width len) (raises raise)
    ∙ append_assoc (replicate raise true) (false ∷ []) (number width len)
    ∙ ap (λ k. replicate raise true ++ false ∷ number k len) w.width_is
    ∙ ap (λ k. replicate k true ++ false ∷ number (length_width passes k) len) w.raise_is

pub length_fits : (passes len least raise width : ℕ) → LengthWidths passes len least raise width
    → (2 * 2 ^ raise - 2) * 2 ^ width + len < 2 ^ (raise + 1 + width)
length_fits passes len least raise width w =
    let h : len < 2 ^ width = w.fits in
    let p : 2 ^ (raise + 1 + width) ≡ 2 ^ (raise + 1) * 2 ^ width = pow-add 2 (raise + 1) width in
    let q : 2 ^ (raise + 1) ≡ 2 ^ raise * 2 = rw add-one (pow-suc 2 raise) in
    let one : 1 ≤ 2 ^ raise = one-le-pow raise 2 (omega arith) in
    let m : (2 * 2 ^ raise - 2 + 1) * 2 ^ width ≤ 2 ^ (raise + 1) * 2 ^ width =
    mul-le-mul_right (2 ^ width) (omega arith) in
    omega arith

-- the codeword of the passes, and that of the length after it, by two shifts
double_shift : (v x y len : ℕ) → ((v + 1) * (x + 1) - 1) * (y * 2) + len ≡ v * ((x + 1) * 2 * y)
    + ((2 * (x + 1) - 2) * y + len)
double_shift v x y len =
    let a : (v + 1) * (x + 1) - 1 ≡ v * (x + 1) + x = omega arith in
    let b : 2 * (x + 1) - 2 ≡ 2 * x = omega arith in
    rw (a, b) (grind arith)

numbers_value : (v r w len : ℕ) → ((v + 1) * 2 ^ r - 1) * 2 ^ (w + 1) + len ≡ v * 2 ^ (r + 1 + w)
    + ((2 * 2 ^ r - 2) * 2 ^ w + len)
numbers_value v r w len =
    let one : 1 ≤ 2 ^ r = one-le-pow r 2 (omega arith) in
    let x : 2 ^ r ≡ 2 ^ r - 1 + 1 = omega arith in
    let p : 2 ^ (w + 1) ≡ 2 ^ w * 2 = rw add-one (pow-suc 2 w) in
    let q : 2 ^ (r + 1 + w) ≡ 2 ^ r * 2 * 2 ^ w = pow-add 2 (r + 1) w
    ∙ ap (λ k. k * 2 ^ w) (rw add-one (pow-suc 2 r)) in
    rw (p, q) (subst (λ k. ((v + 1) * k - 1) * (2 ^ w * 2) + len ≡ v * (k * 2 * 2 ^ w)
    + ((2 * k - 2) * 2 ^ w + len)) (sym x) (double_shift v (2 ^ r - 1) (2 ^ w) len))

-- the lowest bit of a number doesn't change its length
or_one : (n : ℕ) → bit_or n 1 ≡ n / 2 * 2 + 1
or_one n =
    let r : n % 2 < 2 = mod-lt n (omega arith) in
    or_step n 1 ∙ (let z : bit_or (n / 2) 0 ≡ n / 2 = or_zero_r (n / 2) in rw z (omega arith))

pub log_is : (n : ℕ) → 1 ≤ n → bit_len (bit_or n 1) ≡ bit_len n
log_is n h =
    let above : n < 2 ^ bit_len n = bit_len-above n in
    let below : 2 ^ (bit_len n - 1) ≤ n = bit_len-below n h in
    let one : 1 ≤ bit_len n = least_one n h in
    let half : 2 ^ bit_len n ≡ 2 ^ (bit_len n - 1) * 2 =
    (let e : bit_len n ≡ suc (bit_len n - 1) = omega arith in ap (λ k. 2 ^ k) e
    ∙ pow-suc 2 (bit_len n - 1)) in
    rw (or_one n) (bit_len-unique (n / 2 * 2 + 1) (bit_len n) (omega arith) (omega arith))

pub log_some : (n : ℕ) → 1 ≤ n → 1 ≤ bit_len (bit_or n 1)
log_some n h = rw (log_is n h) (least_one n h)

-- these are a codeword of the passes, and a length's
pub record NumbersParts (passes len pass_width v least raise width : ℕ) : Type 0 where
  pub bits : number pass_width v ≡ pass_bits passes
  pub v_fits : v < 2 ^ pass_width
  pub v_few : pass_width ≤ 16
  pub v_short : passes ≤ 36 → pass_width ≤ 9
  pub widths : LengthWidths passes len least raise width

pub numbers_few : (passes len pw v least raise width : ℕ)
    → NumbersParts passes len pw v least raise width → pw + raise + 1 + width ≤ 45
numbers_few passes len pw v least raise width n =
    let a = n.widths.few in
    let b = n.widths.raise_is in
    elim (cases_lt 36 passes) [
      | inl many ↦ let k = n.widths.short (omega arith) in let l = n.v_few in omega arith
      | inr few ↦ let k = n.v_short few in omega arith
    ]

numbers_fits_in : (passes len pw v least raise width : ℕ)
    → NumbersParts passes len pw v least raise width
    → v * 2 ^ (raise + 1 + width) + ((2 * 2 ^ raise - 2) * 2 ^ width + len)
    < 2 ^ (pw + (raise + 1 + width))
numbers_fits_in passes len pw v least raise width n =
    join_below v pw ((2 * 2 ^ raise - 2) * 2 ^ width + len) (raise + 1 + width) n.v_fits
    (length_fits passes len least raise width n.widths)

numbers_below : (passes len pw v least raise width : ℕ)
    → NumbersParts passes len pw v least raise width → ((v + 1) * 2 ^ raise - 1) * 2 ^ (width + 1)
    + len < 2 ^ 45
numbers_below passes len pw v least raise width n =
    let f = numbers_fits_in passes len pw v least raise width n in
    let few = numbers_few passes len pw v least raise width n in
    let most : pw + (raise + 1 + width) ≤ 45 = omega arith in
    let p : 2 ^ (pw + (raise + 1 + width)) ≤ 2 ^ 45 = pow_mono most in
    rw (numbers_value v raise width len) (omega arith)

-- nothing of them is lost in 64 bits
raised_small : (passes len pw v least raise width : ℕ)
    → NumbersParts passes len pw v least raise width → (v + 1) * 2 ^ raise ≤ 2 ^ 31
raised_small passes len pw v least raise width n =
    let h = n.v_fits in
    let l = n.v_few in
    let p : 2 ^ pw ≤ 2 ^ 16 = pow_mono n.v_few in
    let q : 2 ^ raise ≤ 2 ^ 15 = pow_mono n.widths.raise_few in
    let m : (v + 1) * 2 ^ raise ≤ 2 ^ 16 * 2 ^ raise = mul-le-mul_right (2 ^ raise) (omega arith) in
    omega arith

pub raised_whole : (passes len pw v least raise width : ℕ)
    → NumbersParts passes len pw v least raise width → (v + 1) * 2 ^ raise % 18446744073709551616
    ≡ (v + 1) * 2 ^ raise
raised_whole passes len pw v least raise width n = let s =
    raised_small passes len pw v least raise width n in omega arith

pub raised_some : (passes len pw v least raise width : ℕ)
    → NumbersParts passes len pw v least raise width → 1 ≤ (v + 1) * 2 ^ raise
raised_some passes len pw v least raise width n =
    let one : 1 ≤ 2 ^ raise = one-le-pow raise 2 (omega arith) in
    let m : 1 * 2 ^ raise ≤ (v + 1) * 2 ^ raise = mul-le-mul_right (2 ^ raise) (omega arith) in
    omega arith

pub numbers_whole : (passes len pw v least raise width : ℕ)
    → NumbersParts passes len pw v least raise width
    → ((v + 1) * 2 ^ raise - 1) * 2 ^ (width + 1) % 18446744073709551616 + len
    ≡ ((v + 1) * 2 ^ raise - 1) * 2 ^ (width + 1) + len
numbers_whole passes len pw v least raise width n =
    let b = numbers_below passes len pw v least raise width n in
    let e : ((v + 1) * 2 ^ raise - 1) * 2 ^ (width + 1) % 18446744073709551616
    ≡ ((v + 1) * 2 ^ raise - 1) * 2 ^ (width + 1) = omega arith in
    ap (λ k. k + len) e

pub numbers_small : (passes len pw v least raise width : ℕ)
    → NumbersParts passes len pw v least raise width → ((v + 1) * 2 ^ raise - 1) * 2 ^ (width + 1)
    + len < 2 ^ 45
numbers_small passes len pw v least raise width n =
    numbers_below passes len pw v least raise width n

pub numbers_fits : (passes len pw v least raise width : ℕ)
    → NumbersParts passes len pw v least raise width
    → ((v + 1) * 2 ^ raise - 1) * 2 ^ (width + 1) + len < 2 ^ (pw + raise + 1 + width)
numbers_fits passes len pw v least raise width n =
    let e : pw + (raise + 1 + width) ≡ pw + raise + 1 + width = omega arith in
    rw (numbers_value v raise width len)
    (rw e at (numbers_fits_in passes len pw v least raise width n))

pub numbers_bits : (passes len pw v least raise width : ℕ)
    → NumbersParts passes len pw v least raise width
    → number (pw + raise + 1 + width) (((v + 1) * 2 ^ raise - 1) * 2 ^ (width + 1) + len)
    ≡ pass_bits passes ++ length_bits passes (least_raise passes len) len
numbers_bits passes len pw v least raise width n =
    let e : pw + raise + 1 + width ≡ pw + (raise + 1 + width) = omega arith in
    let l = (2 * 2 ^ raise - 2) * 2 ^ width + len in
    ap (λ k. number (pw + raise + 1 + width) k) (numbers_value v raise width len)
    ∙ ap (λ k. number k (v * 2 ^ (raise + 1 + width) + ((2 * 2 ^ raise - 2) * 2 ^ width + len))) e
    ∙ number-join pw (raise + 1 + width) v ((2 * 2 ^ raise - 2) * 2 ^ width + len)
    (length_fits passes len least raise width n.widths)
    ∙ ap (λ r. r ++ number (raise + 1 + width) ((2 * 2 ^ raise - 2) * 2 ^ width + len)) n.bits
    ∙ ap (λ r. pass_bits passes ++ r) (length_is passes len least raise width n.widths)

-- two codewords, one after the other
pub joined_whole : (width value last n : ℕ) → width + last ≤ 50 → value < 2 ^ width → n < 2 ^ last
    → value * 2 ^ last % 18446744073709551616 + n ≡ value * 2 ^ last + n
joined_whole width value last n r h k =
    let b = join_below value width n last h k in
    let p : 2 ^ (width + last) ≤ 2 ^ 50 = pow_mono r in
    let s : value * 2 ^ last % 18446744073709551616 ≡ value * 2 ^ last = omega arith in
    ap (λ r. r + n) s

pub joined_small : (width value last n : ℕ) → width + last ≤ 50 → value < 2 ^ width → n < 2 ^ last
    → value * 2 ^ last + n < 2 ^ 50
joined_small width value last n r h k =
    let b = join_below value width n last h k in
    let p : 2 ^ (width + last) ≤ 2 ^ 50 = pow_mono r in
    omega arith

-- ones in 64 bits
pub ones_whole : (k : ℕ) → k ≤ 3 → 1 * 2 ^ k % 18446744073709551616 ≡ 2 ^ k
ones_whole k h = let p : 2 ^ k ≤ 2 ^ 3 = pow_mono h in omega arith

-- zeros and a 1 after bits
pub zeros_whole : (width value k n : ℕ) → value < 2 ^ width → width + (k + 1) ≤ 50 → n ≡ k
    → value * 2 ^ (n + 1) % 18446744073709551616 + 1 ≡ value * 2 ^ (k + 1) + 1
zeros_whole width value k n h few e =
    let b = join_below value width 1 (k + 1) h (one_fits k) in
    let p : 2 ^ (width + (k + 1)) ≤ 2 ^ 50 = pow_mono few in
    let s : value * 2 ^ (k + 1) % 18446744073709551616 ≡ value * 2 ^ (k + 1) = omega arith in
    rw e (ap (λ r. r + 1) s)

pub zeros_small : (width value k : ℕ) → value < 2 ^ width → width + (k + 1) ≤ 50
    → value * 2 ^ (k + 1) + 1 < 2 ^ 50
zeros_small width value k h few =
    let b = join_below value width 1 (k + 1) h (one_fits k) in
    let p : 2 ^ (width + (k + 1)) ≤ 2 ^ 50 = pow_mono few in
    omega arith

-- a 1, zeros and a 1
pub one_whole : (z : ℕ) → z ≤ 23 → 2 * 2 ^ z % 18446744073709551616 + 1 ≡ 1 * 2 ^ (z + 1) + 1
one_whole z h =
    let p : 2 ^ z ≤ 2 ^ 23 = pow_mono h in
    let q : 2 ^ (z + 1) ≡ 2 ^ z * 2 = rw add-one (pow-suc 2 z) in
    omega arith

pub one_small : (z : ℕ) → z ≤ 23 → 1 * 2 ^ (z + 1) + 1 < 2 ^ 25
one_small z h =
    let p : 2 ^ z ≤ 2 ^ 23 = pow_mono h in
    let q : 2 ^ (z + 1) ≡ 2 ^ z * 2 = rw add-one (pow-suc 2 z) in
    omega arith

pub one_fits_in : (z : ℕ) → 1 * 2 ^ (z + 1) + 1 < 2 ^ (z + 2)
one_fits_in z =
    let e : 1 + (z + 1) ≡ z + 2 = omega arith in
    rw e at (join_below 1 1 1 (z + 1) (omega arith) (one_fits z))

one_true : number 1 1 ≡ true ∷ []
unfolding number
one_true = refl

pub one_bits : (z : ℕ) → number (z + 2) (1 * 2 ^ (z + 1) + 1) ≡ true ∷ number (z + 1) 1
one_bits z =
    let e : z + 2 ≡ 1 + (z + 1) = omega arith in
    ap (λ k. number k (1 * 2 ^ (z + 1) + 1)) e ∙ number-join 1 (z + 1) 1 1 (one_fits z)
    ∙ ap (λ r. r ++ number (z + 1) 1) one_true
