-- The best step from a corner, when one point more is looked at.
use Rattle.std.proofs.Common.{ℕ, ◌+◌, ◌*◌, ◌<◌, ◌≤◌, ◌≡◌, ◌⊎◌, inl, inr, List, arith, sym, subst, ap, ◌∙◌, below_more, Option, Some, None, MatchOption}
use Rattle.rd_hulls.specs.declared.point.Point.{Point}
use Rattle.rd_hulls.specs.declared.step.Step.{Step}
use Rattle.rd_hulls.specs.Points.{point_at}
use Rattle.rd_hulls.specs.Steps.{IsStepTo, Beats, KeepsBetter}
use Rattle.rd_hulls.specs.Search.{height, HasNone, IsBest}
use Rattle.rd_hulls.proofs.Lines.{end_above, end_strictly_above, worse_above, worse_strictly_above}
use Rattle.rd_hulls.proofs.Lines.{steeper_above, steeper_strictly_above, strictly_steeper_above}

-- a point to which no step leads
abbrev pub IsOff : Point → Point → Type 0
IsOff c p = c.len < p.len → c.dist ≤ p.dist

-- the claims of IsBest on one point
abbrev OnLine : List Point → Point → Step → ℕ → Type 0
OnLine points c s k = c.len < (point_at points k).len → height s c ≤ height s (point_at points k)

abbrev OffLine : List Point → Point → Step → ℕ → Type 0
OffLine points c s k = c.len + s.len < (point_at points k).len
    → height s c < height s (point_at points k)

below_or_at : (k i : ℕ) → k < i + 1 → (k < i) ⊎ (k ≡ i)
below_or_at k i h = grind arith

two_ways : (m n : ℕ) → (m ≤ n) ⊎ (n < m)
two_ways m n = grind arith

-- the new point is off, and there was no step before
none_more : (points : List Point) (c : Point) (i : ℕ) → HasNone points c i
    → IsOff c (point_at points i) → HasNone points c (i + 1)
none_more points c i before here =
    below_more (λ k. c.len < (point_at points k).len → c.dist ≤ (point_at points k).dist) i before here

-- the new point is off, and the kept step stays
passed : (b : ℕ) (points : List Point) (c : Point) (i : ℕ) (s : Step)
    → IsBest b points c i s → IsOff c (point_at points i) → IsBest b points c (i + 1) s
passed b points c i s best off = record {
  step = best.step;
  within = omega (arith, best.within);
  line = below_more (OnLine points c s) i best.line
      (λ longer. worse_above _ _ _ _ s.gain s.len (omega arith) (off longer));
  strict = below_more (OffLine points c s) i best.strict
      (λ longer. worse_strictly_above _ _ _ _ s.gain s.len s.gains (omega arith) (off (omega arith)));
  first = λ k below len dist. elim (below_or_at k i below) [
    | inl h ↦ best.first k h len dist
    | inr h ↦ omega (arith, best.within)
  ];
}

-- the step to the new point doesn't beat the kept one
kept : (b : ℕ) (points : List Point) (c : Point) (i : ℕ) (s t : Step)
    → IsBest b points c i s → IsStepTo b c (point_at points i) t
    → t.gain * s.len ≤ s.gain * t.len → (s.len < t.len → t.gain * s.len < s.gain * t.len)
    → IsBest b points c (i + 1) s
kept b points c i s t best step flat strictly = record {
  step = best.step;
  within = omega (arith, best.within);
  line = below_more (OnLine points c s) i best.line
      (λ longer. end_above _ _ _ _ s.gain s.len t.len t.gain step.len step.gain flat);
  strict = below_more (OffLine points c s) i best.strict
      (λ longer. end_strictly_above _ _ _ _ s.gain s.len t.len t.gain step.len step.gain
      (strictly (omega (arith, step.len))));
  first = λ k below len dist. elim (below_or_at k i below) [
    | inl h ↦ best.first k h len dist
    | inr h ↦ omega (arith, best.within)
  ];
}

-- the step to the new point is the first one
begun : (b : ℕ) (points : List Point) (c : Point) (i : ℕ) (t : Step)
    → HasNone points c i → t.to ≡ i → IsStepTo b c (point_at points i) t → IsBest b points c (i + 1) t
begun b points c i t none to step = record {
  step = subst (λ (k : ℕ). IsStepTo b c (point_at points k) t) (sym to) step;
  within = omega arith;
  line = below_more (OnLine points c t) i
      (λ k below longer. worse_above _ _ _ _ t.gain t.len (omega arith) (none k below longer))
      (λ longer. end_above _ _ _ _ t.gain t.len t.len t.gain step.len step.gain (omega arith));
  strict = below_more (OffLine points c t) i
      (λ k below longer. worse_strictly_above _ _ _ _ t.gain t.len t.gains (omega arith)
      (none k below (omega arith)))
      (λ longer. absurd (omega (arith, step.len)));
  first = λ k below len dist. elim (below_or_at k i below) [
    | inl h ↦ absurd (omega (arith, none k h (omega (arith, t.longer)), t.gains))
    | inr h ↦ omega arith
  ];
}

-- a point beyond the new end lies strictly above the new line
beyond : (a e l d g n h m : ℕ) → 1 ≤ n → 1 ≤ m
    → (g * m < h * n) ⊎ ((g * m ≡ h * n) × (n < m)) → a + m < l → e * n + g * a ≤ d * n + g * l
    → (a + n < l → e * n + g * a < d * n + g * l) → e * m + h * a < d * m + h * l
beyond a e l d g n h m n1 m1 (inl steep) len line strict =
    strictly_steeper_above a e l d g n h m (omega arith) steep line
beyond a e l d g n h m n1 m1 (inr same) len line strict =
    steeper_strictly_above a e l d g n h m m1 (omega arith) (omega (arith, same.0))
    (strict (omega (arith, same.1)))

-- an earlier point that equals the new one would have beaten the kept step
no_equal : (a e l d g n h m : ℕ) → (g * m < h * n) ⊎ ((g * m ≡ h * n) × (n < m))
    → l ≡ a + m → d + h ≡ e → 1 ≤ m → (a < l → e * n + g * a ≤ d * n + g * l)
    → (a + n < l → e * n + g * a < d * n + g * l) → ⊥
no_equal a e l d g n h m (inl steep) len gain m1 line strict =
    let above = line (omega arith) in
    omega (arith, above, ap (λ z. z * n) gain, ap (λ z. g * z) len)
no_equal a e l d g n h m (inr same) len gain m1 line strict =
    let above = strict (omega (arith, same.1)) in
    omega (arith, above, same.0, ap (λ z. z * n) gain, ap (λ z. g * z) len)

not_flatter : (x y : ℕ) (p : Type 0) → (x < y) ⊎ ((x ≡ y) × p) → x ≤ y
not_flatter x y p (inl h) = omega arith
not_flatter x y p (inr h) = omega (arith, h.0)

-- the step to the new point beats the kept one
replaced : (b : ℕ) (points : List Point) (c : Point) (i : ℕ) (s t : Step)
    → IsBest b points c i s → t.to ≡ i → IsStepTo b c (point_at points i) t → Beats t s
    → IsBest b points c (i + 1) t
replaced b points c i s t best to step beats = record {
  step = subst (λ (k : ℕ). IsStepTo b c (point_at points k) t) (sym to) step;
  within = omega arith;
  line = below_more (OnLine points c t) i
      (λ k below longer. steeper_above _ _ _ _ s.gain s.len t.gain t.len s.longer (omega arith)
      (not_flatter _ _ _ beats) (best.line k below longer))
      (λ longer. end_above _ _ _ _ t.gain t.len t.len t.gain step.len step.gain (omega arith));
  strict = below_more (OffLine points c t) i
      (λ k below longer. beyond _ _ _ _ s.gain s.len t.gain t.len s.longer t.longer beats longer
      (best.line k below (omega arith)) (best.strict k below))
      (λ longer. absurd (omega (arith, step.len)));
  first = λ k below len dist. elim (below_or_at k i below) [
    | inl h ↦ absurd (no_equal c.len c.dist (point_at points k).len (point_at points k).dist
        s.gain s.len t.gain t.len beats len dist t.longer (best.line k h) (best.strict k h))
    | inr h ↦ omega arith
  ];
}

unbeaten_flat : (s t : Step) → ¬ Beats t s → t.gain * s.len ≤ s.gain * t.len
unbeaten_flat s t unbeaten = elim (two_ways (t.gain * s.len) (s.gain * t.len)) [
  | inl h ↦ h
  | inr h ↦ absurd (unbeaten (inl h))
]

unbeaten_strictly : (s t : Step) → ¬ Beats t s → s.len < t.len → t.gain * s.len < s.gain * t.len
unbeaten_strictly s t unbeaten longer = elim (two_ways (s.gain * t.len) (t.gain * s.len)) [
  | inr h ↦ h
  | inl h ↦ absurd (unbeaten (inr ((let flat = unbeaten_flat s t unbeaten in omega arith), longer)))
]

-- what is kept of the first i points, and what is found at the next one
abbrev pub IsKept : ℕ → List Point → Point → ℕ → Option Step → Type 0
IsKept b points c i kept = MatchOption kept (HasNone points c i) (λ s. IsBest b points c i s)

abbrev pub IsFound : ℕ → Point → Point → Option Step → Type 0
IsFound b c p found = MatchOption found (IsOff c p) (λ s. IsStepTo b c p s)

pub scan_one : (b : ℕ) (points : List Point) (c : Point) (i : ℕ) (old found new : Option Step)
    → (point_at points i).passes ≡ i → IsKept b points c i old
    → IsFound b c (point_at points i) found → KeepsBetter old found new
    → IsKept b points c (i + 1) new
scan_one b points c i None None new at was is keeps =
    subst (IsKept b points c (i + 1)) (sym keeps) (none_more points c i was is)
scan_one b points c i (Some s) None new at was is keeps =
    subst (IsKept b points c (i + 1)) (sym keeps) (passed b points c i s was is)
scan_one b points c i None (Some t) new at was is keeps =
    subst (IsKept b points c (i + 1)) (sym keeps) (begun b points c i t was (is.to ∙ at) is)
scan_one b points c i (Some s) (Some t) new at was is (inl keeps) =
    subst (IsKept b points c (i + 1)) (sym keeps.1)
    (replaced b points c i s t was (is.to ∙ at) is keeps.0)
scan_one b points c i (Some s) (Some t) new at was is (inr keeps) =
    subst (IsKept b points c (i + 1)) (sym keeps.1)
    (kept b points c i s t was is (unbeaten_flat s t keeps.0) (unbeaten_strictly s t keeps.0))
