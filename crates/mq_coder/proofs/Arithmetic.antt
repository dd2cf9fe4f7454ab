-- Powers of two and quotients, over free numbers.
use Rattle.std.proofs.Common.{◌≡◌, ℕ, ◌+◌, ◌-◌, ◌*◌, ◌/◌, ◌^◌, ◌<◌, ◌≤◌, ap, ◌∙◌, arith, suc, inl}
use Rattle.std.proofs.Common.{inr}
use Rattle.std.proofs.lemmas.Bool.{cases_lt}
use Rattle.std.proofs.lemmas.Nat.{pow-add, le-div, div_below}
use Rattle.std.proofs.Math.Nat.{mul-le-mul_left, mul-le-mul_right, div-mul-le_self}

pub split_pow : (d k w : ℕ) → d + k ≡ w → 2 ^ w ≡ 2 ^ d * 2 ^ k
split_pow d k w e = rw (← e) (pow-add 2 d k)

pub less_by_factor : (k a b : ℕ) → a * k < b * k → a < b
less_by_factor k a b h =
    elim (cases_lt a b) [
      | inl l ↦ l
      | inr g ↦ let m : b * k ≤ a * k = mul-le-mul_right k g in absurd (omega arith)
    ]

-- a number that lies in one quotient's reach
pub quotient : (n q m : ℕ) → 0 < q → m * q ≤ n → n < (m + 1) * q → n / q ≡ m
quotient n q m pos low high =
    let below : n / q < m + 1 = div_below n q (m + 1) pos high in
    let above : m ≤ n / q = le-div m n q pos low in
    omega arith

-- ones after ones
pub ones_div : (m q : ℕ) → 1 ≤ m → 0 < q → (m * q - 1) / q ≡ m - 1
ones_div m q one pos =
    let more : m - 1 + 1 ≡ m = omega arith in
    let part : (m - 1 + 1) * q ≡ m * q = ap (λ n. n * q) more in
    quotient (m * q - 1) q (m - 1) pos (omega arith) (omega arith)

regroup : (x y p q : ℕ) → y * (p * q) ≤ x → y * p * q ≤ x
regroup x y p q h = omega arith

-- fewer digits, and then zeros, are no more than the digits
pub shift_down : (x p q : ℕ) → 0 < q → x / (p * q) * p ≤ x / q
shift_down x p q pos =
    le-div (x / (p * q) * p) x q pos (regroup x (x / (p * q)) p q (div-mul-le_self x (p * q)))

regroup_up : (x y q j : ℕ) → y * q ≤ x → y * (q * j) ≤ x * j
regroup_up x y q j h = let m : y * q * j ≤ x * j = mul-le-mul_right j h in omega arith

pub shift_up : (x q j : ℕ) → x / q * (q * j) ≤ x * j
shift_up x q j = regroup_up x (x / q) q j (div-mul-le_self x q)

-- a whole number of units that bytes and rest reach is reached by the bytes
pub reach : (b s l p t n r : ℕ) → 0 < p → 0 < r → b * s ≤ l * p → l * t < (n + 1) * 2 ^ 27 →
    s * t ≡ p * r * 2 ^ 27 → b ≤ n / r
reach b s l p t n r pos pos' low high scale =
    let h1 : b * s * t ≤ l * p * t = mul-le-mul_right t low in
    let h2 : suc (l * t) * p ≤ (n + 1) * 2 ^ 27 * p = mul-le-mul_right p high in
    let h3 : b * (s * t) ≡ b * (p * r * 2 ^ 27) = ap (λ x. b * x) scale in
    let h4 : (b * r) * p < (n + 1) * p = omega arith in
    let h5 : b * r < n + 1 = less_by_factor p (b * r) (n + 1) h4 in
    le-div b n r pos' (omega arith)

-- what the last bytes of an ending are
pub last_units : (f t n rest m g : ℕ) → 0 < t → 0 < g → f * t ≡ n * 2 ^ 27 + rest → rest < 2 ^ 27 →
    t * g ≡ 2 ^ 27 → f + 1 ≡ m * g → f + 1 ≡ (n + 1) * g
last_units f t n rest m g pos pos' whole small scale units =
    let h1 : (f + 1) * t ≡ m * g * t = ap (λ x. x * t) units in
    let h2 : m * (t * g) ≡ m * 2 ^ 27 = ap (λ x. m * x) scale in
    let h3 : t * 1 ≤ t * g = mul-le-mul_left t pos' in
    let h4 : m ≡ n + 1 = omega arith in
    units ∙ ap (λ x. x * g) h4

pub above_ones : (b s f p n g h : ℕ) → 0 < p → b * s ≤ f * p → f + 1 ≡ (n + 1) * g → h * s ≡ p * g →
    b + 1 ≤ (n + 1) * h
above_ones b s f p n g h pos low units scale =
    let h1 : (f + 1) * p ≡ (n + 1) * g * p = ap (λ x. x * p) units in
    let h2 : (n + 1) * (h * s) ≡ (n + 1) * (p * g) = ap (λ x. (n + 1) * x) scale in
    let h3 : b * s < ((n + 1) * h) * s = omega arith in
    let h4 : b < (n + 1) * h = less_by_factor s b ((n + 1) * h) h3 in
    omega arith

pub below_top : (d j f v p u s : ℕ) → 0 < p → d * j ≤ f → f < v → v * p ≤ u * s → s ≡ p * j → d < u
below_top d j f v p u s pos low less top scale =
    let h1 : d * j * p ≤ f * p = mul-le-mul_right p low in
    let h2 : suc f * p ≤ v * p = mul-le-mul_right p less in
    let h3 : u * s ≡ u * (p * j) = ap (λ x. u * x) scale in
    let h4 : d * (p * j) < u * (p * j) = omega arith in
    less_by_factor (p * j) d u h4
