-- The order of steps is total, and only equal steps are level in it.
use Rattle.std.proofs.Common.{ℕ, ◌+◌, ◌*◌, ◌<◌, ◌≤◌, ◌≡◌, ◌⊎◌, inl, inr, Bool, ◌==◌, ◌&&◌, arith, rules, refl, sym, subst, ap, ◌∙◌}
use Rattle.std.proofs.Math.Nat.{mul-le-mul_right}
use Rattle.std.proofs.lemmas.Bool.Decides.{nat_tests}
use Rattle.std.proofs.lemmas.Cmp.{ranked}
use Rattle.std.specs.Cmp.{IsTotalOrder, then_total}
use Rattle.std.specs.Cmp.Rules.{comparing}
use Rattle.std.specs.Ordering.{nat_cmp, MatchOrdering, is_eq, ordering_then, ordering_reverse}
use Rattle.std.specs.declared.cmp.Ordering.{Ordering}
use Rattle.std.specs.declared.cmp.Ordering.TheVariants.{Less, Equal, Greater}
use Rattle.rd_hulls.specs.declared.step.Step.{Step}
use Rattle.rd_hulls.specs.Order.{slope_cmp, field_cmp, step_cmp}

-- a comparison of numbers, and what it says
pub less_is : (a b : ℕ) → nat_cmp a b ≡ Less → a < b
less_is a b h = subst (λ (o : Ordering). MatchOrdering o (a < b) (a ≡ b) (b < a)) h (ranked a b (nat_cmp a b) refl)

pub equal_is : (a b : ℕ) → nat_cmp a b ≡ Equal → a ≡ b
equal_is a b h = subst (λ (o : Ordering). MatchOrdering o (a < b) (a ≡ b) (b < a)) h (ranked a b (nat_cmp a b) refl)

pub is_less : (a b : ℕ) → a < b → nat_cmp a b ≡ Less
is_less a b h = grind (arith, nat_tests)

pub is_equal : (a b : ℕ) → a ≡ b → nat_cmp a b ≡ Equal
is_equal a b h = grind (arith, nat_tests)

pub is_greater : (a b : ℕ) → b < a → nat_cmp a b ≡ Greater
is_greater a b h = grind (arith, nat_tests)

cancel_lt : (n a b : ℕ) → a * n < b * n → a < b
cancel_lt n a b h = grind arith

three : (a b : ℕ) → (a < b) ⊎ (a ≡ b) ⊎ (b < a)
three a b = grind arith

scaled_lt : (k a b : ℕ) → 1 ≤ k → a < b → a * k < b * k
scaled_lt k a b some h = let next : a + 1 ≤ b = omega arith in omega (arith, mul-le-mul_right k next)

scaled : (k a b : ℕ) → 1 ≤ k → nat_cmp (a * k) (b * k) ≡ nat_cmp a b
scaled k a b some = elim (three a b) [
  | inl h ↦ is_less _ _ (scaled_lt k a b some h) ∙ sym (is_less a b h)
  | inr h ↦ elim h [
    | inl e ↦ is_equal _ _ (ap (λ z. z * k) e) ∙ sym (is_equal a b e)
    | inr g ↦ is_greater _ _ (scaled_lt k b a some g) ∙ sym (is_greater a b g)
  ]
]

-- slopes, each as gain and bytes: g / n, h / m and i / l
steep_trans : (g n h m i l : ℕ) → 1 ≤ l → h * n < g * m → i * m < h * l → i * n < g * l
steep_trans g n h m i l some first second = cancel_lt m (i * n) (g * l)
    (let strictly : h * n + 1 ≤ g * m = omega arith in
    let weakly : i * m ≤ h * l = omega arith in
    omega (arith, mul-le-mul_right l strictly, mul-le-mul_right n weakly))

level_congr : (g n h m i l : ℕ) → 1 ≤ n → 1 ≤ m → h * n ≡ g * m → nat_cmp (i * n) (g * l) ≡ nat_cmp (i * m) (h * l)
level_congr g n h m i l n1 m1 same =
    let left : i * n * m ≡ i * m * n = omega arith in
    let right : g * l * m ≡ h * l * n = omega (arith, ap (λ z. z * l) same) in
    sym (scaled m (i * n) (g * l) m1)
    ∙ (ap (λ z. nat_cmp z (g * l * m)) left ∙ (ap (λ z. nat_cmp (i * m * n) z) right ∙ scaled n (i * m) (h * l) n1))

reversed : (a b : ℕ) → nat_cmp a b ≡ ordering_reverse (nat_cmp b a)
reversed a b = elim (three a b) [
  | inl h ↦ is_less a b h ∙ sym (ap ordering_reverse (is_greater b a h))
  | inr h ↦ elim h [
    | inl e ↦ is_equal a b e ∙ sym (ap ordering_reverse (is_equal b a (sym e)))
    | inr g ↦ is_greater a b g ∙ sym (ap ordering_reverse (is_less b a g))
  ]
]

-- whatever has a gain for some bytes is ordered by it, the steeper one first
pub slopes_total : {X : Type 0} (gain len : X → ℕ) → ((x : X) → 1 ≤ len x)
    → IsTotalOrder (λ (x y : X). nat_cmp (gain y * len x) (gain x * len y))
slopes_total gain len some = record {
  antisymm = λ s t. reversed (gain t * len s) (gain s * len t);
  trans = λ s t u first second. is_less _ _
      (steep_trans (gain s) (len s) (gain t) (len t) (gain u) (len u) (some u)
      (less_is _ _ first) (less_is _ _ second));
  congr = λ s t u same. level_congr (gain s) (len s) (gain t) (len t) (gain u) (len u) (some s) (some t)
      (equal_is _ _ same);
}

slope_total : IsTotalOrder slope_cmp
slope_total = slopes_total (λ (s : Step). s.gain) (λ (s : Step). s.len) (λ s. s.longer)

field_total : IsTotalOrder field_cmp
field_total = search (comparing, rules) depth 12

pub step_total : IsTotalOrder step_cmp
step_total = then_total slope_total field_total

-- the equality of all fields, and being level in the order
abbrev pub field_eq : Step → Step → Bool
field_eq x y = (x.block == y.block) && ((x.from == y.from) && ((x.to == y.to) && ((x.len == y.len) && (x.gain == y.gain))))

and_then : (a b : Bool) (o p : Ordering) → a ≡ is_eq o → b ≡ is_eq p → (a && b) ≡ is_eq (ordering_then o p)
and_then a b Less p ea eb = rw ea refl
and_then a b Equal p ea eb = rw ea eb
and_then a b Greater p ea eb = rw ea refl

num_eq : (a b : ℕ) → (a == b) ≡ is_eq (nat_cmp a b)
num_eq a b = grind (arith, nat_tests)

pub field_ties : (x y : Step) → field_eq x y ≡ is_eq (field_cmp x y)
field_ties x y =
    and_then _ _ _ _ (num_eq x.block y.block) (and_then _ _ _ _ (num_eq x.from y.from) (and_then _ _ _ _ (num_eq x.to y.to)
    (and_then _ _ _ _ (num_eq x.len y.len) (num_eq x.gain y.gain))))

then_equal : (o p : Ordering) → ordering_then o p ≡ Equal → p ≡ Equal
then_equal Less p h = cc
then_equal Equal p h = h
then_equal Greater p h = cc

then_first : (o p : Ordering) → ordering_then o p ≡ Equal → o ≡ Equal
then_first Less p h = h
then_first Equal p h = refl
then_first Greater p h = h

tie_then : (o p : Ordering) → (p ≡ Equal → o ≡ Equal) → is_eq p ≡ is_eq (ordering_then o p)
tie_then Equal p h = refl
tie_then Less Less h = refl
tie_then Less Greater h = refl
tie_then Less Equal h = let bad = h refl in cc
tie_then Greater Less h = refl
tie_then Greater Greater h = refl
tie_then Greater Equal h = let bad = h refl in cc

level_fields : (x y : Step) → field_cmp x y ≡ Equal → slope_cmp x y ≡ Equal
level_fields x y h =
    let rest = then_equal (nat_cmp x.to y.to) _ (then_equal (nat_cmp x.from y.from) _ (then_equal (nat_cmp x.block y.block) _ h)) in
    let len = equal_is x.len y.len (then_first (nat_cmp x.len y.len) (nat_cmp x.gain y.gain) rest) in
    let gain = equal_is x.gain y.gain (then_equal (nat_cmp x.len y.len) (nat_cmp x.gain y.gain) rest) in
    is_equal _ _ (ap (λ z. y.gain * z) len ∙ ap (λ z. z * y.len) (sym gain))

pub step_ties : (x y : Step) → field_eq x y ≡ is_eq (step_cmp x y)
step_ties x y = field_ties x y ∙ tie_then (slope_cmp x y) (field_cmp x y) (level_fields x y)
