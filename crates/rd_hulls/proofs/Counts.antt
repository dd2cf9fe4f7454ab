-- How many points have at most so many bytes. A hull has fewer steps than points that are no longer
-- than its last corner, so 58 places are enough for it.
use Rattle.std.proofs.Common.{ℕ, zero, suc, ◌+◌, ◌<◌, ◌≤◌, ◌≡◌, ◌⊎◌, inl, inr, List, nat_le, if◌then◌else◌, arith, subst}
use Rattle.std.proofs.lemmas.Bool.Decides.{nat_tests}
use Rattle.rd_hulls.specs.declared.point.Point.{Point}
use Rattle.rd_hulls.specs.Points.{point_at}

-- 1 for l bytes that are at most a, and 0 for more
tally : ℕ → ℕ → ℕ
tally l a = if nat_le l a then 1 else 0

tally_most : (l a : ℕ) → tally l a ≤ 1
unfolding tally
tally_most l a = grind (arith, nat_tests)

tally_more : (l a b : ℕ) → a ≤ b → tally l a ≤ tally l b
unfolding tally
tally_more l a b more = grind (arith, nat_tests)

tally_new : (l a b : ℕ) → a < l → l ≤ b → tally l a + 1 ≤ tally l b
unfolding tally
tally_new l a b above below = grind (arith, nat_tests)

tally_one : (l a : ℕ) → l ≤ a → 1 ≤ tally l a
unfolding tally
tally_one l a below = grind (arith, nat_tests)

-- how many of the first n points have at most a bytes
pub count_upto : List Point → ℕ → ℕ → ℕ
count_upto points a zero = 0
count_upto points a (suc n) = tally (point_at points n).len a + count_upto points a n

pub count_most : (points : List Point) (a n : ℕ) → count_upto points a n ≤ n
unfolding count_upto
count_most points a zero = omega arith
count_most points a (suc n) =
    omega (arith, tally_most (point_at points n).len a, count_most points a n)

count_more : (points : List Point) (a b n : ℕ) → a ≤ b
    → count_upto points a n ≤ count_upto points b n
unfolding count_upto
count_more points a b zero more = omega arith
count_more points a b (suc n) more =
    omega (arith, tally_more (point_at points n).len a b more, count_more points a b n more)

last_or_before : (k n : ℕ) → k < suc n → (k < n) ⊎ (k ≡ n)
last_or_before k n h = grind arith

-- a point of more than a and at most b bytes makes the count for b larger
pub count_new : (points : List Point) (a b n k : ℕ) → k < n → a < (point_at points k).len
    → (point_at points k).len ≤ b → count_upto points a n + 1 ≤ count_upto points b n
unfolding count_upto
count_new points a b zero k below above upto = absurd (omega arith)
count_new points a b (suc n) k below above upto =
    let more : a ≤ b = omega arith in
    elim (last_or_before k n below) [
      | inl h ↦ omega (
        arith,
        tally_more (point_at points n).len a b more,
        count_new points a b n k h above upto,
      )
      | inr h ↦ (let here : tally (point_at points n).len a + 1 ≤ tally (point_at points n).len b =
          subst (λ (j : ℕ). tally (point_at points j).len a + 1 ≤ tally (point_at points j).len b) h
          (tally_new _ a b above upto) in
          omega (arith, here, count_more points a b n more))
    ]

pub count_some : (points : List Point) (a n k : ℕ) → k < n → (point_at points k).len ≤ a
    → 1 ≤ count_upto points a n
unfolding count_upto
count_some points a zero k below upto = absurd (omega arith)
count_some points a (suc n) k below upto = elim (last_or_before k n below) [
  | inl h ↦ omega (arith, count_some points a n k h upto)
  | inr h ↦ (let here : 1 ≤ tally (point_at points n).len a =
      subst (λ (j : ℕ). 1 ≤ tally (point_at points j).len a) h (tally_one _ a upto) in
      omega (arith, here))
]
