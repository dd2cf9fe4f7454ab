-- The corners of a hull: what stands when so many steps are found.
use Rattle.std.proofs.Common.{ℕ, zero, suc, ◌+◌, ◌*◌, ◌<◌, ◌≤◌, ◌^◌, ◌≡◌, ◌⊎◌, inl, inr, List, [], ◌∷◌, ◌++◌, length, arith, refl, sym, subst, ap}
use Rattle.std.proofs.lemmas.List.{length-append}
use Rattle.rd_hulls.specs.declared.point.Point.{Point}
use Rattle.rd_hulls.specs.declared.step.Step.{Step}
use Rattle.rd_hulls.specs.Points.{point_at, ArePoints}
use Rattle.rd_hulls.specs.Steps.{IsStepTo, FallFrom, IsFalling}
use Rattle.rd_hulls.specs.Search.{height, HasNone, IsBest}
use Rattle.rd_hulls.specs.Hull.{IsFirst, IsHullStep, FollowFrom, end_of, IsHull}
use Rattle.rd_hulls.proofs.Counts.{count_upto, count_most, count_new, count_some}
use Rattle.rd_hulls.proofs.Lines.{flatter_above, end_flatter, before_worse, before_same}

-- gain and bytes of the last step, or of a slope that stands before the first
abbrev pub last_gain : ℕ → List Step → ℕ
last_gain g [] = g
last_gain g (s ∷ rest) = last_gain s.gain rest

abbrev pub last_len : ℕ → List Step → ℕ
last_len n [] = n
last_len n (s ∷ rest) = last_len s.len rest

last_gain_push : (g : ℕ) (steps : List Step) (s : Step) → last_gain g (steps ++ s ∷ []) ≡ s.gain
last_gain_push g [] s = refl
last_gain_push g (t ∷ rest) s = last_gain_push t.gain rest s

last_len_push : (n : ℕ) (steps : List Step) (s : Step) → last_len n (steps ++ s ∷ []) ≡ s.len
last_len_push n [] s = refl
last_len_push n (t ∷ rest) s = last_len_push t.len rest s

end_push : (c : ℕ) (steps : List Step) (s : Step) → end_of c (steps ++ s ∷ []) ≡ s.to
end_push c [] s = refl
end_push c (t ∷ rest) s = end_push t.to rest s

follow_push : (b : ℕ) (points : List Point) (c : ℕ) (steps : List Step) (s : Step)
    → FollowFrom b points c steps → IsHullStep b points (end_of c steps) s
    → FollowFrom b points c (steps ++ s ∷ [])
follow_push b points c [] s before next = (next, tt)
follow_push b points c (t ∷ rest) s before next =
    (before.0, follow_push b points t.to rest s before.1 next)

fall_push : (g n : ℕ) (steps : List Step) (s : Step) → FallFrom g n steps
    → s.gain * last_len n steps < last_gain g steps * s.len → FallFrom g n (steps ++ s ∷ [])
fall_push g n [] s before next = (next, tt)
fall_push g n (t ∷ rest) s before next = (before.0, fall_push t.gain t.len rest s before.1 next)

falling : (g n : ℕ) (steps : List Step) → FallFrom g n steps → IsFalling steps
falling g n [] fall = tt
falling g n (s ∷ rest) fall = fall.1

-- a slope through a corner: no point lies under its line, and none of more bytes on it
pub record IsSupport (points : List Point) (c : Point) (g n : ℕ) : Type 0 where
  pub gains : 1 ≤ g
  pub longer : 1 ≤ n
  pub line : (k : ℕ) → k < length points
      → c.dist * n + g * c.len ≤ (point_at points k).dist * n + g * (point_at points k).len
  pub strict : (k : ℕ) → k < length points → c.len < (point_at points k).len
      → c.dist * n + g * c.len < (point_at points k).dist * n + g * (point_at points k).len

-- What stands at a corner to which steps lead. Before the first step stands the slope of 2^64 for
-- one byte, which every point is above.
pub record IsCorner (b : ℕ) (points : List Point) (c : Point) (steps : List Step) : Type 0 where
  pub corner : c ≡ point_at points (end_of 0 steps)
  pub within : end_of 0 steps < length points
  pub follow : FollowFrom b points 0 steps
  pub fall : FallFrom (2 ^ 64) 1 steps
  pub support : IsSupport points c (last_gain (2 ^ 64) steps) (last_len 1 steps)
  pub first : IsFirst points (end_of 0 steps)
  pub room : length steps < count_upto points c.len (length points)

two_ways : (m n : ℕ) → (m ≤ n) ⊎ (n < m)
two_ways m n = grind arith

start_line : (points : List Point) → ArePoints points → (k : ℕ) → k < length points
    → (point_at points 0).dist * 1 + 2 ^ 64 * (point_at points 0).len
    ≤ (point_at points k).dist * 1 + 2 ^ 64 * (point_at points k).len
start_line points are zero below = omega arith
start_line points are (suc k) below =
    let no_bytes = (are.each 0 are.first).none refl in
    let some_bytes = (are.each (suc k) below).some (omega arith) in
    omega (arith, no_bytes, some_bytes, (are.each 0 are.first).wide)

pub start : (b : ℕ) (points : List Point) → ArePoints points
    → IsCorner b points (point_at points 0) []
start b points are =
    let no_bytes = (are.each 0 are.first).none refl in
    record {
      corner = refl;
      within = are.first;
      follow = tt;
      fall = tt;
      support = record {
        gains = omega arith;
        longer = omega arith;
        line = start_line points are;
        strict = λ k below longer. omega (arith, no_bytes, (are.each 0 are.first).wide);
      };
      first = λ k below len dist. omega arith;
      room = count_some points (point_at points 0).len (length points) 0 are.first (omega arith);
    }

-- a found step is less steep than the slope that supports its corner
found_flatter : (b : ℕ) (points : List Point) (c : Point) (g n : ℕ) (s : Step)
    → IsSupport points c g n → IsBest b points c (length points) s → s.gain * n < g * s.len
found_flatter b points c g n s support best =
    end_flatter _ _ _ _ g n s.len s.gain best.step.len best.step.gain
    (support.strict s.to best.within (omega (arith, best.step.len, s.longer)))

-- no point lies under its line
found_line : (b : ℕ) (points : List Point) (c : Point) (g n : ℕ) (s : Step)
    → IsSupport points c g n → IsBest b points c (length points) s
    → (k : ℕ) → k < length points → height s c ≤ height s (point_at points k)
found_line b points c g n s support best k below = elim (two_ways (point_at points k).len c.len) [
  | inl h ↦ (let flat = found_flatter b points c g n s support best in
      flatter_above c.len c.dist (point_at points k).len (point_at points k).dist g n s.gain s.len
      support.longer h (omega arith) (support.line k below))
  | inr h ↦ best.line k below h
]

-- its two ends are on one line
same_height : (c p : Point) (b : ℕ) (s : Step) → IsStepTo b c p s → height s p ≡ height s c
same_height c p b s step =
    omega (arith, ap (λ z. z * s.len) step.gain, ap (λ z. s.gain * z) step.len)

next_support : (b : ℕ) (points : List Point) (c : Point) (g n : ℕ) (s : Step)
    → IsSupport points c g n → IsBest b points c (length points) s
    → IsSupport points (point_at points s.to) s.gain s.len
next_support b points c g n s support best =
    let level = same_height c (point_at points s.to) b s best.step in
    record {
      gains = s.gains;
      longer = s.longer;
      line = λ k below. omega (arith, level, found_line b points c g n s support best k below);
      strict = λ k below longer. omega (
        arith,
        level,
        best.strict k below (omega (arith, best.step.len)),
      );
    }

found_first : (b : ℕ) (points : List Point) (c : Point) (s : Step)
    → IsBest b points c (length points) s → IsFirst points s.to
found_first b points c s best k below len dist =
    best.first k below (omega (arith, best.step.len)) (omega (arith, best.step.gain))

found_new : (b : ℕ) (points : List Point) (c : Point) (s : Step)
    → IsBest b points c (length points) s
    → count_upto points c.len (length points) + 1
    ≤ count_upto points (point_at points s.to).len (length points)
found_new b points c s best =
    count_new points c.len (point_at points s.to).len (length points) s.to best.within
    (omega (arith, best.step.len, s.longer)) (omega arith)

-- the best step leads from one corner to the next
pub found : (b : ℕ) (points : List Point) (c : Point) (steps : List Step) (s : Step)
    → IsCorner b points c steps → IsBest b points c (length points) s
    → IsCorner b points (point_at points s.to) (steps ++ s ∷ [])
found b points c steps s corner best =
    let ended = end_push 0 steps s in
    let hull_step : IsHullStep b points (end_of 0 steps) s = record {
      within = best.within;
      step = subst (λ (q : Point). IsStepTo b q (point_at points s.to) s) corner.corner best.step;
      first = found_first b points c s best;
      line = λ k below. subst (λ (q : Point). height s q ≤ height s (point_at points k)) corner.corner
          (found_line b points c _ _ s corner.support best k below);
    } in
    record {
      corner = ap (point_at points) (sym ended);
      within = rw ended best.within;
      follow = follow_push b points 0 steps s corner.follow hull_step;
      fall = fall_push _ _ steps s corner.fall (found_flatter b points c _ _ s corner.support best);
      support = rw (last_gain_push (2 ^ 64) steps s, last_len_push 1 steps s)
          (next_support b points c _ _ s corner.support best);
      first = rw ended (found_first b points c s best);
      room = omega (
        arith,
        length-append steps (s ∷ []),
        corner.room,
        found_new b points c s best,
      );
    }

-- there is a place for it
pub found_room : (b : ℕ) (points : List Point) (c : Point) (steps : List Step) (s : Step)
    → length points ≤ 59 → IsCorner b points c steps → IsBest b points c (length points) s
    → length steps < 58
found_room b points c steps s few corner best = omega (
  arith,
  corner.room,
  count_most points (point_at points s.to).len (length points),
  found_new b points c s best,
)

-- where no step is found the corner is the lowest point
none_worse : (points : List Point) (c : Point) (g n : ℕ) → IsSupport points c g n
    → HasNone points c (length points) → (k : ℕ) → k < length points
    → c.dist ≤ (point_at points k).dist
none_worse points c g n support none k below = elim (two_ways (point_at points k).len c.len) [
  | inl h ↦ before_worse c.len c.dist (point_at points k).len (point_at points k).dist g n
      support.longer h (support.line k below)
  | inr h ↦ none k below h
]

none_shorter : (points : List Point) (c : Point) (g n : ℕ) → IsSupport points c g n
    → (k : ℕ) → k < length points → (point_at points k).dist ≡ c.dist
    → c.len ≤ (point_at points k).len
none_shorter points c g n support k below same =
    before_same c.len c.dist (point_at points k).len (point_at points k).dist g n
    support.gains same (support.line k below)

pub ended : (b : ℕ) (points : List Point) (c : Point) (steps : List Step)
    → IsCorner b points c steps → HasNone points c (length points) → IsHull b points steps
ended b points c steps corner none = record {
  follow = corner.follow;
  fall = falling _ _ steps corner.fall;
  lowest = record {
    within = corner.within;
    least = λ k below. subst (λ (q : Point). q.dist ≤ (point_at points k).dist) corner.corner
        (none_worse points c _ _ corner.support none k below);
    shortest = λ k below. subst
        (λ (q : Point). (point_at points k).dist ≡ q.dist → q.len ≤ (point_at points k).len)
        corner.corner (none_shorter points c _ _ corner.support k below);
    first = corner.first;
  };
}
