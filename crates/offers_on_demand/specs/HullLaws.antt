-- The steps of a hull are its steps.
use Rattle.std.proofs.Common.{ℕ, zero, suc, ◌≡◌, ◌≢◌, ◌+◌, ◌-◌, ◌*◌, ◌<◌, ◌≤◌, ◌^◌, ◌⊎◌, inl, inr}
use Rattle.std.proofs.Common.{arith}
use Rattle.std.proofs.Common.{List, [], ◌∷◌, ◌++◌, length, Option, Some, None, refl, sym, subst, ap}
use Rattle.std.proofs.Common.{◌∙◌}
use Rattle.std.proofs.lemmas.Bool.{cases_lt, cases_eq}
use Rattle.std.proofs.lemmas.List.{length-append}
use Rattle.rd_hulls.specs.declared.point.Point.{Point}
use Rattle.rd_hulls.specs.declared.step.Step.{Step}
use Rattle.rd_hulls.specs.Hull.{FollowFrom, IsHull, end_of}
use Rattle.rd_hulls.specs.Points.{point_at, ArePoints, IsPointOf}
use Rattle.rd_hulls.specs.Search.{IsBest}
use Rattle.rd_hulls.specs.Steps.{KeepsBetter}
use Rattle.rd_hulls.proofs.Corners.{IsCorner, start, found, ended}
use Rattle.rd_hulls.proofs.Counts.{count_most}
use Rattle.rd_hulls.proofs.Scan.{IsKept, IsFound, scan_one}
use Rattle.budget_duals.specs.Offers.{HasBlock}
use Rattle.offers_on_demand.specs.Hulls.{step_if, step_between, steeper_if, steeper_of, better_of}
use Rattle.offers_on_demand.specs.Hulls.{best_upto, and_on, steps_from, hull_steps}

-- ---- one point

found_if : (b : ℕ) (c p : Point) → p.len ≤ 131072 → c.dist < 2 ^ 64
    → (c.passes ≡ p.passes → p.len ≤ c.len)
    → (longer : (c.len < p.len) ⊎ (p.len ≤ c.len)) (less : (p.dist < c.dist) ⊎ (c.dist ≤ p.dist))
    (short : (p.len - c.len < 131073) ⊎ (131073 ≤ p.len - c.len))
    (wide : (c.dist - p.dist < 2 ^ 64) ⊎ (2 ^ 64 ≤ c.dist - p.dist))
    (moves : (c.passes ≡ p.passes) ⊎ (c.passes ≢ p.passes))
    → IsFound b c p (step_if b c p longer less short wide moves)
found_if b c p few low same (inl longer) (inl less) (inl short) (inl wide) (inr moves) = record {
  block = refl;
  from = refl;
  to = refl;
  len = omega arith;
  gain = omega arith;
}
found_if b c p few low same (inl longer) (inl less) (inl short) (inl wide) (inl equal) =
    absurd (omega (arith, same equal))
found_if b c p few low same (inl longer) (inl less) (inl short) (inr wide) moves =
    absurd (omega arith)
found_if b c p few low same (inl longer) (inl less) (inr short) wide moves =
    absurd (omega arith)
found_if b c p few low same (inl longer) (inr more) short wide moves = λ h. more
found_if b c p few low same (inr shorter) less short wide moves = λ h. absurd (omega arith)

found_between : (b : ℕ) (c p : Point) → p.len ≤ 131072 → c.dist < 2 ^ 64
    → (c.passes ≡ p.passes → p.len ≤ c.len) → IsFound b c p (step_between b c p)
unfolding step_between
found_between b c p few low same =
    found_if b c p few low same (cases_lt c.len p.len) (cases_lt p.dist c.dist)
    (cases_lt (p.len - c.len) 131073) (cases_lt (c.dist - p.dist) (2 ^ 64))
    (cases_eq c.passes p.passes)

-- ---- the better one of two steps

flat_beats : (x y m n : ℕ) → y < x → (x < y) ⊎ ((x ≡ y) × (m < n)) → ⊥
flat_beats x y m n flat (inl h) = omega arith
flat_beats x y m n flat (inr h) = omega (arith, h.0)

short_beats : (x y m n : ℕ) → y ≤ x → n ≤ m → (x < y) ⊎ ((x ≡ y) × (m < n)) → ⊥
short_beats x y m n flat short (inl h) = omega arith
short_beats x y m n flat short (inr h) = omega (arith, h.1)

keeps_if : (s t : Step)
    (steep : (s.gain * t.len < t.gain * s.len) ⊎ (t.gain * s.len ≤ s.gain * t.len))
    (flat : (t.gain * s.len < s.gain * t.len) ⊎ (s.gain * t.len ≤ t.gain * s.len))
    (longer : (s.len < t.len) ⊎ (t.len ≤ s.len))
    → KeepsBetter (Some s) (Some t) (Some (steeper_if s t steep flat longer))
keeps_if s t (inl steep) flat longer = inl (inl steep, refl)
keeps_if s t (inr same) (inl flat) longer =
    inr (flat_beats (s.gain * t.len) (t.gain * s.len) s.len t.len flat, refl)
keeps_if s t (inr same) (inr level) (inl longer) =
    inl (inr ((let e : s.gain * t.len ≡ t.gain * s.len = omega arith in e), longer), refl)
keeps_if s t (inr same) (inr level) (inr shorter) =
    inr (short_beats (s.gain * t.len) (t.gain * s.len) s.len t.len same shorter, refl)

keeps_steeper : (s t : Step) → KeepsBetter (Some s) (Some t) (Some (steeper_of s t))
unfolding steeper_of
keeps_steeper s t =
    keeps_if s t (cases_lt (s.gain * t.len) (t.gain * s.len))
    (cases_lt (t.gain * s.len) (s.gain * t.len)) (cases_lt s.len t.len)

keeps_better : (kept more : Option Step) → KeepsBetter kept more (better_of kept more)
keeps_better None None = refl
keeps_better (Some s) None = refl
keeps_better None (Some t) = refl
keeps_better (Some s) (Some t) = keeps_steeper s t

-- ---- the best step

moves_on : (points : List Point) → ArePoints points → (c : Point) → IsPointOf points c → (n : ℕ)
    → n < length points → c.passes ≡ (point_at points n).passes
    → (point_at points n).len ≤ c.len
moves_on points are c of n below same =
    let at : c.passes ≡ n = same ∙ (are.each n below).passes in
    let equal : c ≡ point_at points n = of ∙ ap (point_at points) at in
    omega (arith, ap (λ (p : Point). p.len) equal)

low_corner : (points : List Point) → ArePoints points → (c : Point) → IsPointOf points c
    → c.passes < length points → c.dist < 2 ^ 64
low_corner points are c of inside =
    omega (arith, (are.each c.passes inside).wide, ap (λ (p : Point). p.dist) of)

best_kept : (b : ℕ) (points : List Point) → ArePoints points → (c : Point) → IsPointOf points c
    → c.passes < length points → (n : ℕ) → n ≤ length points
    → IsKept b points c n (best_upto b points c n)
best_kept b points are c of inside zero within = λ k below longer. absurd (omega arith)
best_kept b points are c of inside (suc n) within =
    let below : n < length points = omega arith in
    let point = point_at points n in
    let next : n + 1 ≡ suc n = omega arith in
    subst (λ (k : ℕ). IsKept b points c k (best_upto b points c (suc n))) next
    (scan_one b points c n (best_upto b points c n) (step_between b c point)
    (best_upto b points c (suc n)) ((are.each n below).passes)
    (best_kept b points are c of inside n (omega arith))
    (found_between b c point ((are.each n below).short) (low_corner points are c of inside)
    (moves_on points are c of n below))
    (keeps_better (best_upto b points c n) (step_between b c point)))

-- ---- from corner to corner

joined : (done : List Step) (s : Step) (rest : List Step) →
    (done ++ s ∷ []) ++ rest ≡ done ++ s ∷ rest
joined [] s rest = refl
joined (t ∷ done) s rest = ap (λ l. t ∷ l) (joined done s rest)

none_on : (done : List Step) → done ++ [] ≡ done
none_on [] = refl
none_on (t ∷ done) = ap (λ l. t ∷ l) (none_on done)

pub end_at : (c : ℕ) (done : List Step) (s : Step) → end_of c (done ++ s ∷ []) ≡ s.to
end_at c [] s = refl
end_at c (t ∷ done) s = end_at t.to done s

-- what is so from each further corner on is so from here on
go_on : (b : ℕ) (points : List Point) (c : Point) (done : List Step) (on : ℕ → List Step)
    (next : Option Step) → IsCorner b points c done → IsKept b points c (length points) next
    → ((s : Step) → IsBest b points c (length points) s
    → IsHull b points ((done ++ s ∷ []) ++ on s.to))
    → IsHull b points (done ++ and_on on next)
go_on b points c done on None corner none further =
    subst (IsHull b points) (sym (none_on done)) (ended b points c done corner none)
go_on b points c done on (Some s) corner best further =
    subst (IsHull b points) (joined done s (on s.to)) (further s best)

hull_from : (n b : ℕ) (points : List Point) → ArePoints points → (c : ℕ) (done : List Step)
    → length points ≤ n + length done → end_of 0 done ≡ c
    → IsCorner b points (point_at points c) done
    → IsHull b points (done ++ steps_from n b points c)
hull_from zero b points are c done enough at corner = absurd (omega (
  arith,
  corner.room,
  count_most points (point_at points c).len (length points),
  enough,
))
hull_from (suc n) b points are c done enough at corner =
    let inside : c < length points = subst (λ (k : ℕ). k < length points) at corner.within in
    let passes : (point_at points c).passes ≡ c = (are.each c inside).passes in
    go_on b points (point_at points c) done (steps_from n b points)
    (best_upto b points (point_at points c) (length points)) corner
    (best_kept b points are (point_at points c) (ap (point_at points) (sym passes))
    (subst (λ (k : ℕ). k < length points) (sym passes) inside) (length points) (omega arith))
    (λ s best. hull_from n b points are s.to (done ++ s ∷ [])
    (omega (arith, length-append done (s ∷ []), enough)) (end_at 0 done s)
    (found b points (point_at points c) done s corner best))

pub hull_is : (b : ℕ) (points : List Point) → ArePoints points →
    IsHull b points (hull_steps b points)
unfolding hull_steps
hull_is b points are =
    hull_from (length points) b points are 0 [] (omega arith) refl (start b points are)

-- ---- what else is so of them

few_on : (n b : ℕ) (points : List Point) (next : Option Step) (on : ℕ → List Step)
    → ((c : ℕ) → length (on c) ≤ n) → length (and_on on next) ≤ suc n
few_on n b points None on few = omega arith
few_on n b points (Some s) on few = omega (arith, few s.to)

few_from : (n b : ℕ) (points : List Point) (c : ℕ) → length (steps_from n b points c) ≤ n
few_from zero b points c = omega arith
few_from (suc n) b points c =
    few_on n b points (best_upto b points (point_at points c) (length points))
    (steps_from n b points) (few_from n b points)

pub few_steps : (b : ℕ) (points : List Point) → length (hull_steps b points) ≤ length points
unfolding hull_steps
few_steps b points = few_from (length points) b points 0

own_from : (b : ℕ) (points : List Point) (c : ℕ) (steps : List Step)
    → FollowFrom b points c steps → HasBlock b steps
own_from b points c [] follow = tt
own_from b points c (s ∷ rest) follow =
    (follow.0.step.block, own_from b points s.to rest follow.1)

pub own_steps : (b : ℕ) (points : List Point) → ArePoints points → HasBlock b (hull_steps b points)
own_steps b points are = own_from b points 0 (hull_steps b points) (hull_is b points are).follow
