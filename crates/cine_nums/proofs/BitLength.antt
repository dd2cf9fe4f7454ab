-- The laws of the bit length: that of a is the m with 2 ^ (m - 1) ≤ a < 2 ^ m, and 0 where a is 0.
use Rattle.std.proofs.Common.{◌≡◌, ℕ, zero, suc, ◌+◌, ◌-◌, ◌*◌, ◌/◌, ◌^◌, ◌<◌, ◌≤◌, arith}
use Rattle.std.proofs.Math.Nat.{two-pow-succ}
use Rattle.std.proofs.lemmas.Nat.{pow_pos}
use Rattle.cine_nums.specs.Bits.{digits_within, bit_len}

-- 2 ^ m is the least power of two above a
record Reaches (a m : ℕ) : Type 0 where
  above : a < 2 ^ m
  below : 0 < m → 2 ^ m ≤ 2 * a

-- one more binary digit
doubled : (a m : ℕ) → 0 < a → Reaches (a / 2) m → Reaches a (suc m)
doubled a zero positive half =
    record { above = omega (arith, half.above); below = λ _. omega arith }
doubled a (suc m) positive half =
    let low : 2 ^ suc m ≤ 2 * (a / 2) = half.below (omega arith) in
    record {
      above = omega (arith, half.above, two-pow-succ (suc m));
      below = λ _. omega (arith, two-pow-succ (suc m));
    }

digits_within-reaches : (f a : ℕ) → a ≤ f → Reaches a (digits_within f a)
digits_within-reaches zero zero le =
    record { above = omega arith; below = λ h. absurd (omega (arith, h)) }
digits_within-reaches zero (suc a) le = absurd (omega arith)
digits_within-reaches (suc f) zero le =
    record { above = omega arith; below = λ h. absurd (omega (arith, h)) }
digits_within-reaches (suc f) (suc a) le =
    doubled (suc a) (digits_within f (suc a / 2)) (omega arith)
    (digits_within-reaches f (suc a / 2) (omega arith))

bit_len-reaches : (a : ℕ) → Reaches a (bit_len a)
bit_len-reaches a = digits_within-reaches a a (omega arith)

-- a number is below 2 to its bit length
pub bit_len-above : (a : ℕ) → a < 2 ^ bit_len a
bit_len-above a = (bit_len-reaches a).above

-- and, unless it is 0, at least 2 to one less
pub bit_len-below : (a : ℕ) → 0 < a → 2 ^ (bit_len a - 1) ≤ a
bit_len-below a positive = halved (bit_len a) (bit_len-reaches a).below
  where
    halved : (m : ℕ) → (0 < m → 2 ^ m ≤ 2 * a) → 2 ^ (m - 1) ≤ a
    halved zero low = omega arith
    halved (suc m) low =
        let one_less : suc m - 1 ≡ m = omega arith in
        let reached : 2 ^ suc m ≤ 2 * a = low (omega arith) in
        rw one_less (omega (arith, two-pow-succ m))

-- if 2 ^ m is at most 2 a and 2 ^ k is above a, then m is at most k
in_order : (m k a : ℕ) → 2 ^ m ≤ 2 * a → a < 2 ^ k → m ≤ k
in_order zero k a ge lt = omega arith
in_order (suc m) zero a ge lt = absurd (omega (arith, two-pow-succ m, pow_pos m))
in_order (suc zero) (suc k) a ge lt = omega arith
in_order (suc (suc m)) (suc k) a ge lt =
    let halved : suc m ≤ k =
    in_order (suc m) k (a / 2) (omega (arith, two-pow-succ m, two-pow-succ (suc m)))
    (omega (arith, two-pow-succ k)) in
    omega arith

-- a number below 2 ^ k has at most k digits
pub bit_len-within : (a k : ℕ) → a < 2 ^ k → bit_len a ≤ k
bit_len-within a k lt = least (bit_len a) (bit_len-reaches a).below
  where
    least : (m : ℕ) → (0 < m → 2 ^ m ≤ 2 * a) → m ≤ k
    least zero low = omega arith
    least (suc m) low = in_order (suc m) k a (low (omega arith)) lt

-- the bit length of the larger number is the larger
pub bit_len-monotone : (a b : ℕ) → a ≤ b → bit_len a ≤ bit_len b
bit_len-monotone a b le =
    let lt : b < 2 ^ bit_len b = bit_len-above b in
    bit_len-within a (bit_len b) (omega arith)

-- a number between 2 ^ (m - 1) and 2 ^ m has m digits
pub bit_len-unique : (a m : ℕ) → a < 2 ^ m → 2 ^ m ≤ 2 * a + 1 → bit_len a ≡ m
bit_len-unique a zero lt ge =
    let none : bit_len a ≤ 0 = bit_len-within a 0 lt in
    omega arith
bit_len-unique a (suc m) lt ge =
    let least : bit_len a ≤ suc m = bit_len-within a (suc m) lt in
    let most : suc m ≤ bit_len a =
    in_order (suc m) (bit_len a) a (omega (arith, two-pow-succ m)) (bit_len-above a) in
    omega arith
