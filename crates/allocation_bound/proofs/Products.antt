-- Products of slopes, levels and lengths: multiply, chain, cancel.
use Rattle.std.proofs.Common.{ℕ, suc, ◌≡◌, ◌+◌, ◌-◌, ◌*◌, ◌/◌, ◌<◌, ◌≤◌, arith, inl, inr}
use Rattle.std.proofs.lemmas.Bool.{cases_lt}
use Rattle.std.proofs.lemmas.Nat.{le-div}
use Rattle.std.proofs.Math.Nat.{mul-le-mul_right, div-mul-le_self}
use Rattle.cine_nums.specs.Division.{div_up}
use Rattle.rd_hulls.specs.declared.step.Step.{Step}
use Rattle.allocation_bound.specs.Steps.{scale, IsAsSteep}

pub cancel_lt : (n a b : ℕ) → a * n < b * n → a < b
cancel_lt n a b h = grind arith

pub cancel_le : (n a b : ℕ) → 1 ≤ n → a * n ≤ b * n → a ≤ b
cancel_le n a b some h = grind arith

-- a level, times the length that it was divided by, is at most the number and less than a length
-- below it
pub level_low : (g l : ℕ) → scale * g / l * l ≤ scale * g
level_low g l = div-mul-le_self (scale * g) l

div_high : (x l : ℕ) → 1 ≤ l → x < (x / l + 1) * l
div_high x l some = elim (cases_lt x ((x / l + 1) * l)) [
  | inl lt ↦ lt
  | inr h ↦ (let m : x / l + 1 ≤ x / l = le-div (x / l + 1) x l some h in absurd (omega arith))
]

pub level_high : (g l : ℕ) → 1 ≤ l → scale * g < (scale * g / l + 1) * l
level_high g l some = div_high (scale * g) l some

-- a quotient that is rounded up reaches the number
pub div_up_covers : (x l : ℕ) → 1 ≤ l → x ≤ div_up x l * l
div_up_covers x l some =
    let h : x + (l - 1) < ((x + (l - 1)) / l + 1) * l = div_high (x + (l - 1)) l some in
    omega arith

-- a step of l bytes and the gain g is above a level that a flatter one, of n and h, reaches
pub below : (m n h l g : ℕ) → 1 ≤ n → h * l ≤ g * n → m * n ≤ scale * h → m * l ≤ scale * g
below m n h l g some steep reach =
    let a : m * n * l ≤ scale * h * l = mul-le-mul_right l reach in
    cancel_le n (m * l) (scale * g) some (omega arith)

-- a step of l bytes and the gain g is below the next level of a steeper one
pub above : (m n h l g : ℕ) → 1 ≤ n → 1 ≤ l → g * n ≤ h * l → scale * h < (m + 1) * n
    → scale * g < (m + 1) * l
above m n h l g some long steep reach =
    let a : suc (scale * h) * l ≤ (m + 1) * n * l = mul-le-mul_right l reach in
    cancel_lt n (scale * g) ((m + 1) * l) (omega arith)

pub flatter : (m n h l g : ℕ) → 1 ≤ n → g * n ≤ h * l → scale * h ≤ m * n → scale * g ≤ m * l
flatter m n h l g some steep reach =
    let a : scale * h * l ≤ m * n * l = mul-le-mul_right l reach in
    cancel_le n (scale * g) (m * l) some (omega arith)

-- a steeper step, of l bytes and the gain g, has no lower level
pub levels_fall : (n h l g : ℕ) → 1 ≤ n → 1 ≤ l → h * l ≤ g * n → scale * h / n ≤ scale * g / l
levels_fall n h l g some long steep =
    le-div (scale * h / n) (scale * g) l long
    (below (scale * h / n) n h l g some steep (level_low h n))

-- the least whole number over the scale that reaches a sum
pub up_reaches : (x g : ℕ) → (x + 4294967295) / scale ≤ g → x ≤ scale * g
up_reaches x g h = omega arith

pub up_least : (x g : ℕ) → x ≤ scale * g → (x + 4294967295) / scale ≤ g
up_least x g h = omega arith

-- what a level is worth over w bytes is at most a price that covers them at the step's slope
pub covers : (m n h w p : ℕ) → 1 ≤ n → m * n ≤ scale * h → h * w ≤ p * n → m * w ≤ scale * p
covers m n h w p some reach cover =
    let a : m * n * w ≤ scale * h * w = mul-le-mul_right w reach in
    cancel_le n (m * w) (scale * p) some (omega arith)

-- slopes are ordered
pub steep_by : (g n h m k l : ℕ) → 1 ≤ m → h * n ≤ g * m → k * m ≤ h * l → k * n ≤ g * l
steep_by g n h m k l some a b =
    let x : h * n * l ≤ g * m * l = mul-le-mul_right l a in
    let y : k * m * n ≤ h * l * n = mul-le-mul_right n b in
    cancel_le m (k * n) (g * l) some (omega arith)

pub steep_through : (s t u : Step) → IsAsSteep s t → IsAsSteep t u → IsAsSteep s u
steep_through s t u a b = steep_by s.gain s.len t.gain t.len u.gain u.len t.longer a b

pub steep_self : (s : Step) → IsAsSteep s s
steep_self s = omega arith

left_by : (m s g r e l d : ℕ) → 1 ≤ s → m * s ≤ scale * g → e * s + g * (l + r) ≤ d * s + g * l
    → scale * e + m * (l + r) ≤ scale * d + m * l
left_by m s g r e l d some low line =
    let a : m * s * r ≤ scale * g * r = mul-le-mul_right r low in
    let b : scale * e + m * r
    ≤ scale * d = cancel_le s (scale * e + m * r) (scale * d) some (omega arith) in
    omega arith

-- The corner of a bytes and the distortion e ends a step of s bytes and the gain g, and the
-- multiplier m is at most its slope: no point of no more bytes costs less.
pub left : (m s g a e l d : ℕ) → 1 ≤ s → m * s ≤ scale * g → e * s + g * a ≤ d * s + g * l → l ≤ a
    → scale * e + m * a ≤ scale * d + m * l
left m s g a e l d some low line short =
    let split : l + (a - l) ≡ a = omega arith in
    rw split at (left_by m s g (a - l) e l d some low (rw split line))

right_by : (m s g r e a d : ℕ) → 1 ≤ s → scale * g ≤ m * s → e * s + g * a ≤ d * s + g * (a + r)
    → scale * e + m * a ≤ scale * d + m * (a + r)
right_by m s g r e a d some high line =
    let a : scale * g * r ≤ m * s * r = mul-le-mul_right r high in
    let b : scale * e ≤ scale * d
    + m * r = cancel_le s (scale * e) (scale * d + m * r) some (omega arith) in
    omega arith

-- The corner begins a step whose slope is at most m: no point of no fewer bytes costs less.
pub right : (m s g a e l d : ℕ) → 1 ≤ s → scale * g ≤ m * s → e * s + g * a ≤ d * s + g * l → a ≤ l
    → scale * e + m * a ≤ scale * d + m * l
right m s g a e l d some high line long =
    let split : a + (l - a) ≡ l = omega arith in
    rw split at (right_by m s g (l - a) e a d some high (rw split line))
