-- What the steps taken and left of a block cost against the least cost, at one multiplier.
use Rattle.std.proofs.Common.{ℕ, ◌≡◌, ◌+◌, ◌*◌, ◌<◌, ◌≤◌, min, List, [], ◌∷◌, ◌++◌, length, refl}
use Rattle.std.proofs.Common.{arith, inl, inr}
use Rattle.std.proofs.lemmas.Bool.{cases_lt}
use Rattle.std.proofs.Math.Nat.{min-le_left, min-le_right, min-eq_left, min-eq_right}
use Rattle.std.specs.List.{AllByRecursion}
use Rattle.rd_hulls.specs.declared.step.Step.{Step}
use Rattle.rd_hulls.specs.Steps.{FallFrom, IsFalling}
use Rattle.allocation_bound.specs.Steps.{scale, lens, gains, cost, best, Agrees, excess}
use Rattle.allocation_bound.proofs.Products.{flatter}

pub best_at_none : (m : ℕ) (steps : List Step) → best m steps ≤ scale * gains steps
best_at_none m [] = omega arith
best_at_none m (s ∷ r) = min-le_left (scale * gains (s ∷ r)) (m * s.len + best m r)

pub best_after : (m : ℕ) (s : Step) (r : List Step) → best m (s ∷ r) ≤ m * s.len + best m r
best_after m s r = min-le_right (scale * gains (s ∷ r)) (m * s.len + best m r)

-- no split costs less than the least
pub best_is_least : (m : ℕ) (done left : List Step) → best m (done ++ left) ≤ cost m done left
best_is_least m [] left = let h : best m left
    ≤ scale * gains left = best_at_none m left in omega arith
best_is_least m (s ∷ d) left =
    let h : best m (d ++ left) ≤ cost m d left = best_is_least m d left in
    let g : best m (s ∷ d ++ left) ≤ m * s.len + best m (d ++ left) = best_after m s (d ++ left) in
    omega arith

-- taking some steps first, and then the best of the rest, is a split
best_first : (m : ℕ) (done left : List Step) → best m (done ++ left) ≤ m * lens done + best m left
best_first m [] left = omega arith
best_first m (s ∷ d) left =
    let h : best m (d ++ left) ≤ m * lens d + best m left = best_first m d left in
    let g : best m (s ∷ d ++ left) ≤ m * s.len + best m (d ++ left) = best_after m s (d ++ left) in
    omega arith

-- nothing is lost by steps that are at least as steep as the multiplier
taken_loses_nothing : (m : ℕ) (done left : List Step)
    → AllByRecursion (λ (s : Step). m * s.len ≤ scale * s.gain) done
    → m * lens done + best m left ≤ best m (done ++ left)
taken_loses_nothing m [] left steep = omega arith
taken_loses_nothing m (s ∷ d) left steep =
    let h : m * lens d + best m left ≤ best m (d ++ left) = taken_loses_nothing m d left steep.1 in
    let e : best m (d ++ left) ≤ scale * gains (d ++ left) = best_at_none m (d ++ left) in
    let first : m * s.len ≤ scale * s.gain = steep.0 in
    let a : m * lens (s ∷ d) + best m left ≤ scale * gains (s ∷ d ++ left) = omega arith in
    let b : m * lens (s ∷ d) + best m left ≤ m * s.len + best m (d ++ left) = omega arith in
    omega arith

next : (m n g : ℕ) → scale * g < (m + 1) * n → scale * g + 1 ≤ m * n + n
next m n g h = omega arith

-- of the steps left, each of which is below the next multiplier, each loses less than its bytes
left_loses_little : (m : ℕ) (left : List Step)
    → AllByRecursion (λ (s : Step). scale * s.gain < (m + 1) * s.len) left
    → scale * gains left + length left ≤ best m left + lens left
left_loses_little m [] flat = omega arith
left_loses_little m (s ∷ r) flat =
    let h : scale * gains r + length r ≤ best m r + lens r = left_loses_little m r flat.1 in
    let first : scale * s.gain + 1 ≤ m * s.len + s.len = next m s.len s.gain flat.0 in
    let some : 1 ≤ s.len = s.longer in
    let b : best m r ≤ scale * gains r = best_at_none m r in
    omega arith

-- so a split that the multiplier agrees with costs less than the least cost and all bytes left
pub excess_over_prefixes : (m : ℕ) (done left : List Step) → Agrees m done left
    → cost m done left + length left ≤ best m (done ++ left) + lens left
excess_over_prefixes m done left a =
    let h : m * lens done + best m left
    ≤ best m (done ++ left) = taken_loses_nothing m done left a.taken in
    let g : scale * gains left + length left ≤ best m left
    + lens left = left_loses_little m left a.untaken in
    omega arith

-- no step after one that is not above the multiplier is above it
excess_none : (m g n : ℕ) (r : List Step) → 1 ≤ n → scale * g ≤ m * n → FallFrom g n r
    → (excess m r ≡ 0) × (scale * gains r ≤ m * lens r)
excess_none m g n [] some low fall = (refl, omega arith)
excess_none m g n (t ∷ r) some low fall =
    let f : scale * t.gain
    ≤ m * t.len = flatter m n g t.len t.gain some (omega (arith, fall.0)) low in
    let h : (excess m r ≡ 0)
    × (scale * gains r ≤ m * lens r) = excess_none m t.gain t.len r t.longer f fall.1 in
    let e : excess m r ≡ 0 = h.0 in
    let l : scale * gains r ≤ m * lens r = h.1 in
    (omega arith, omega arith)

falls_on : (g n : ℕ) (r : List Step) → FallFrom g n r → IsFalling r
falls_on g n [] fall = tt
falls_on g n (t ∷ r) fall = fall.1

left_parts : (m : ℕ) (left : List Step) → IsFalling left → scale * gains left ≡ best m left
    + excess m left
left_parts m [] falls = omega arith
left_parts m (s ∷ r) falls =
    let h : scale * gains r ≡ best m r
    + excess m r = left_parts m r (falls_on s.gain s.len r falls) in
    let split : best m (s ∷ r) ≡ min (scale * gains (s ∷ r)) (m * s.len + best m r) = refl in
    elim (cases_lt (m * s.len) (scale * s.gain)) [
      | inl l ↦ (let b : best m (s ∷ r) ≡ m * s.len
          + best m r = min-eq_right (omega arith) in omega arith)
      | inr g ↦ (let n : (excess m r ≡ 0) × (scale * gains r ≤ m * lens r) =
          excess_none m s.gain s.len r s.longer g falls in
          let e : excess m r ≡ 0 = n.0 in
          let b : best m (s ∷ r) ≡ scale * gains (s ∷ r) = min-eq_left (omega arith) in
          omega arith)
    ]

-- the same exactly, where the slopes fall: what is left costs as much more as it is steeper
pub positive_parts : (m : ℕ) (done left : List Step) → Agrees m done left → IsFalling left
    → cost m done left ≡ best m (done ++ left) + excess m left
positive_parts m done left a falls =
    let h : m * lens done + best m left
    ≤ best m (done ++ left) = taken_loses_nothing m done left a.taken in
    let g : scale * gains left ≡ best m left + excess m left = left_parts m left falls in
    let i : best m (done ++ left) ≤ m * lens done + best m left = best_first m done left in
    omega arith
