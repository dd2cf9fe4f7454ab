-- Arithmetic of lines. The line of slope g / n through a corner of a bytes and the distortion e passes
-- under a point of l bytes and the distortion d, or through it, where e * n + g * a ≤ d * n + g * l.
use Rattle.std.proofs.Common.{ℕ, ◌+◌, ◌-◌, ◌*◌, ◌<◌, ◌≤◌, ◌≡◌, ap, arith}
use Rattle.std.proofs.Math.Nat.{mul-le-mul_right, mul-le-mul_left}

-- a factor above 0 cancels
cancel_le : (n a b : ℕ) → 1 ≤ n → a * n ≤ b * n → a ≤ b
cancel_le n a b some h = grind arith

cancel_lt : (n a b : ℕ) → a * n < b * n → a < b
cancel_lt n a b h = grind arith

-- the end of a flatter step lies on the line or above it
pub end_above : (a e l d g n il ig : ℕ) → a + il ≡ l → d + ig ≡ e
    → ig * n ≤ g * il → e * n + g * a ≤ d * n + g * l
end_above a e l d g n il ig len gain flat = omega (arith, ap (λ z. z * n) gain, ap (λ z. g * z) len)

pub end_strictly_above : (a e l d g n il ig : ℕ) → a + il ≡ l → d + ig ≡ e
    → ig * n < g * il → e * n + g * a < d * n + g * l
end_strictly_above a e l d g n il ig len gain flat =
    omega (arith, ap (λ z. z * n) gain, ap (λ z. g * z) len)

-- a point of no fewer bytes and no less distortion lies on the line or above it
pub worse_above : (a e l d g n : ℕ) → a ≤ l → e ≤ d → e * n + g * a ≤ d * n + g * l
worse_above a e l d g n len dist = omega (arith, mul-le-mul_right n dist, mul-le-mul_left g len)

pub worse_strictly_above : (a e l d g n : ℕ) → 1 ≤ g → a < l → e ≤ d
    → e * n + g * a < d * n + g * l
worse_strictly_above a e l d g n some len dist =
    let longer : a + 1 ≤ l = omega arith in
    omega (arith, mul-le-mul_right n dist, mul-le-mul_left g longer)

-- a point of no fewer bytes that lies above a line lies above a steeper one too
pub steeper_above : (a e l d g n h m : ℕ) → 1 ≤ n → a ≤ l → g * m ≤ h * n
    → e * n + g * a ≤ d * n + g * l → e * m + h * a ≤ d * m + h * l
steeper_above a e l d g n h m some len steep line =
    cancel_le n (e * m + h * a) (d * m + h * l) some
    (let r : (x : ℕ) × (l ≡ a + x) = (l - a, omega arith) in
    let line' : e * n ≤ d * n + g * r.0 = omega (arith, ap (λ z. g * z) r.1, line) in
    omega (
      arith,
      mul-le-mul_right m line',
      mul-le-mul_right r.0 steep,
      ap (λ z. h * z * n) r.1,
    ))

pub steeper_strictly_above : (a e l d g n h m : ℕ) → 1 ≤ m → a ≤ l → g * m ≤ h * n
    → e * n + g * a < d * n + g * l → e * m + h * a < d * m + h * l
steeper_strictly_above a e l d g n h m some len steep line =
    cancel_lt n (e * m + h * a) (d * m + h * l)
    (let r : (x : ℕ) × (l ≡ a + x) = (l - a, omega arith) in
    let line' : e * n + 1 ≤ d * n + g * r.0 = omega (arith, ap (λ z. g * z) r.1, line) in
    omega (
      arith,
      mul-le-mul_right m line',
      mul-le-mul_right r.0 steep,
      ap (λ z. h * z * n) r.1,
    ))

pub strictly_steeper_above : (a e l d g n h m : ℕ) → a < l → g * m < h * n
    → e * n + g * a ≤ d * n + g * l → e * m + h * a < d * m + h * l
strictly_steeper_above a e l d g n h m len steep line =
    cancel_lt n (e * m + h * a) (d * m + h * l)
    (let r : (x : ℕ) × (l ≡ a + x + 1) = (l - a - 1, omega arith) in
    let line' : e * n ≤ d * n + g * (r.0 + 1) = omega (arith, ap (λ z. g * z) r.1, line) in
    let steep' : g * m + 1 ≤ h * n = omega arith in
    omega (
      arith,
      mul-le-mul_right m line',
      mul-le-mul_right (r.0 + 1) steep',
      ap (λ z. h * z * n) r.1,
    ))

-- a point of no more bytes that lies above a line lies above a flatter one too
pub flatter_above : (a e l d g n h m : ℕ) → 1 ≤ n → l ≤ a → h * n ≤ g * m
    → e * n + g * a ≤ d * n + g * l → e * m + h * a ≤ d * m + h * l
flatter_above a e l d g n h m some len flat line =
    cancel_le n (e * m + h * a) (d * m + h * l) some
    (let r : (x : ℕ) × (a ≡ l + x) = (a - l, omega arith) in
    let line' : e * n + g * r.0 ≤ d * n = omega (arith, ap (λ z. g * z) r.1, line) in
    omega (
      arith,
      mul-le-mul_right m line',
      mul-le-mul_right r.0 flat,
      ap (λ z. h * z * n) r.1,
    ))

-- a step whose end lies strictly above a line is less steep
pub end_flatter : (a e l d g n il ig : ℕ) → a + il ≡ l → d + ig ≡ e
    → e * n + g * a < d * n + g * l → ig * n < g * il
end_flatter a e l d g n il ig len gain line =
    omega (arith, ap (λ z. z * n) gain, ap (λ z. g * z) len)

-- a point of no more bytes on the line or above it has no less distortion
pub before_worse : (a e l d g n : ℕ) → 1 ≤ n → l ≤ a → e * n + g * a ≤ d * n + g * l → e ≤ d
before_worse a e l d g n some len line = cancel_le n e d some (omega (arith, mul-le-mul_left g len))

-- and where its distortion is the corner's, it has no fewer bytes
pub before_same : (a e l d g n : ℕ) → 1 ≤ g → d ≡ e → e * n + g * a ≤ d * n + g * l → a ≤ l
before_same a e l d g n some same line = cancel_le g a l some (omega (arith, ap (λ z. z * n) same))
