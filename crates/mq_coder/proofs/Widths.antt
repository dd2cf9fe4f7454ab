-- How far the interval of the encoder reaches, in units of C at CT = 0.
use Rattle.std.proofs.Common.{ℕ, zero, suc, ◌+◌, ◌-◌, ◌*◌, ◌^◌, ◌<◌, ◌≤◌, ◌≡◌, inl, inr, arith, sym}
use Rattle.std.proofs.Common.{ap, ◌∙◌}
use Rattle.std.proofs.Math.Nat.{mul-le-mul, mul-le-mul_left, mul-le-mul_right}
use Rattle.std.proofs.Math.Nat.{pow-succ'}
use Rattle.std.proofs.lemmas.Bool.{cases_lt}
use Rattle.std.proofs.Math.Pow.{pow_mono}
use Rattle.std.proofs.lemmas.Nat.{pow-add, leading_top}
use lib.Count.{count_leading_zeros}

-- a doubling takes one from CT, and the reach stays
pub doubled_reach : (c a ct : ℕ) → 1 ≤ ct → (2 * c + 2 * a) * 2 ^ (ct - 1) ≡ (c + a) * 2 ^ ct
doubled_reach c a zero some = absurd (omega arith)
doubled_reach c a (suc k) some =
    let e : suc k - 1 ≡ k = omega arith in
    rw (e, pow-succ') (omega arith)

-- after a new byte the interval reaches less than 2^28
pub fresh_reach : (c a ct : ℕ) → c * 2 ^ ct < 2 ^ 27 → a < 2 ^ 16 → ct ≤ 8 →
    (c + a) * 2 ^ ct ≤ 2 ^ 28
fresh_reach c a ct below narrow few =
    let p : 2 ^ ct ≤ 2 ^ 8 = pow_mono few in
    let few_bits : a ≤ 65535 = omega arith in
    let q : a * 2 ^ ct ≤ 65535 * 2 ^ 8 = mul-le-mul few_bits p in
    omega arith

-- the reach bounds C and A themselves
pub within_reach : (m ct n : ℕ) → m * 2 ^ ct ≤ n → m ≤ n
within_reach m ct n h =
    let p : 1 ≤ 2 ^ ct = pow_mono {i = 0} (omega arith) in
    let q : m * 1 ≤ m * 2 ^ ct = mul-le-mul_left m p in
    omega arith

-- C below the reach at the last shift before a byte
pub last_reach : (c a ct n : ℕ) → ct ≡ 1 → 1 ≤ a → (c + a) * 2 ^ ct ≤ n → 2 * c < n
last_reach c a ct n one some h =
    let h' : (c + a) * 2 ^ 1 ≤ n = rw one at h in
    omega arith

-- a part of the interval reaches no further
pub smaller_reach : (c a ct n m : ℕ) → (c + a) * 2 ^ ct ≤ n → m ≤ c + a → m * 2 ^ ct ≤ n
smaller_reach c a ct n m h less =
    let q : m * 2 ^ ct ≤ (c + a) * 2 ^ ct = mul-le-mul_right (2 ^ ct) less in
    omega arith

-- A of three quarters leaves at most 13 shifts
pub few_shifts : (c a ct : ℕ) → 2 ^ 15 ≤ a → (c + a) * 2 ^ ct ≤ 2 ^ 28 → ct ≤ 13
few_shifts c a ct wide h = elim (cases_lt 13 ct) [
  | inl many ↦
      let p : 2 ^ 14 ≤ 2 ^ ct = pow_mono {i = 14} (omega arith) in
      let q : 2 ^ 15 * 2 ^ 14 ≤ (c + a) * 2 ^ ct =
      mul-le-mul {n₁ = 2 ^ 15} {n₂ = c + a} (omega arith) p in
      absurd (omega arith)
  | inr few ↦ few
]

-- a number below the end of the interval, shifted as C
pub less_reach : (c a ct n m : ℕ) → (c + a) * 2 ^ ct ≤ n → m < c + a → m * 2 ^ ct < n
less_reach c a ct n m h less =
    let p : 1 ≤ 2 ^ ct = pow_mono {i = 0} (omega arith) in
    let q : (m + 1) * 2 ^ ct ≤ (c + a) * 2 ^ ct = mul-le-mul_right (2 ^ ct) (omega arith) in
    omega arith

-- doublings take as many from CT, and the reach stays
pub shifted_reach : (c a ct n : ℕ) → n ≤ ct →
    (c * 2 ^ n + a * 2 ^ n) * 2 ^ (ct - n) ≡ (c + a) * 2 ^ ct
shifted_reach c a ct n less =
    let e : n + (ct - n) ≡ ct = omega arith in
    let p : 2 ^ ct ≡ 2 ^ n * 2 ^ (ct - n) = ap (λ (k : ℕ). 2 ^ k) (sym e) ∙ pow-add 2 n (ct - n) in
    rw p (omega arith)

-- the doublings that a width needs to reach three quarters, and no more
pub record Due (a n : ℕ) : Type 0 where
  pub enough : 16 ≤ n
  pub wide : 2 ^ 15 ≤ a * 2 ^ (n - 16)
  pub narrow : a * 2 ^ (n - 16) < 2 ^ 16

pub leading_due : (a : ℕ) → 1 ≤ a → a < 2 ^ 16 → Due a (count_leading_zeros 32 a)
leading_due a some narrow =
    let t = leading_top 32 a (omega arith) (omega arith) in
    let j : ℕ = t.0 in
    let whole : count_leading_zeros 32 a + suc j ≡ 32 = t.1 in
    let least : 2 ^ j ≤ a = t.2 in
    let most : a < 2 ^ suc j = t.3 in
    let few : j ≤ 15 = elim (cases_lt 15 j) [
      | inl many ↦ let p : 2 ^ 16 ≤ 2 ^ j = pow_mono {i = 16} (omega arith) in absurd (omega arith)
      | inr few ↦ few
    ] in
    let n : ℕ = count_leading_zeros 32 a - 16 in
    let fifteen : j + n ≡ 15 = omega arith in
    let sixteen : suc j + n ≡ 16 = omega arith in
    let up : 2 ^ j * 2 ^ n ≡ 2 ^ 15 = sym (pow-add 2 j n) ∙ ap (λ (k : ℕ). 2 ^ k) fifteen in
    let top : 2 ^ suc j * 2 ^ n ≡ 2 ^ 16 = sym (pow-add 2 (suc j) n)
    ∙ ap (λ (k : ℕ). 2 ^ k) sixteen in
    let from : 2 ^ j * 2 ^ n ≤ a * 2 ^ n = mul-le-mul_right (2 ^ n) least in
    let to : (a + 1) * 2 ^ n ≤ 2 ^ suc j * 2 ^ n = mul-le-mul_right (2 ^ n) (omega arith) in
    let pos : 1 ≤ 2 ^ n = pow_mono {i = 0} (omega arith) in
    record { enough = omega arith; wide = omega arith; narrow = omega arith }
