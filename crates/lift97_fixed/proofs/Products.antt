-- Products with a parameter over 65,536, rounded, and limited sums, in 32 bits.
use Rattle.std.proofs.Common.{◌≡◌, ◌⊎◌, ℕ, zero, suc, ◌+◌, ◌*◌, ◌≤◌, ℤ, neg_ℤ}
use Rattle.std.proofs.Common.{pos, negsuc, ◌+ℤ◌, ◌-ℤ◌, ◌*ℤ◌, ◌≤ℤ◌, ◌<ℤ◌, w32, w64, to_z}
use Rattle.std.proofs.Common.{of_z, FitsSigned, arith, refl, sym, ◌∙◌, ap, subst, inl, inr}
use Rattle.std.specs.Int.{int_min, int_max}
use Rattle.std.specs.Int.Signed.{shr_z}
use Rattle.std.specs.Int.RustNames.{unsigned_abs}
use Rattle.std.proofs.lemmas.Int.{ints, clamps, unsigned_abs-mul, by_lt_z}
use Rattle.lift97_fixed.proofs.Casts.{passed, passed_within}
use Rattle.std.proofs.Math.IntN.{*ℤ_comm, negsuc-*ℤ-pos, negsuc-*ℤ-negsuc}
use Rattle.std.proofs.Math.Nat.{mul-le-mul}
use Rattle.cine_nums.specs.Fixed.{mul16, limit30, Within30}
use Rattle.lift97_fixed.specs.Line.{alpha, beta, gamma, delta, scaling, inverse_scaling}
use Rattle.lift97_fixed.specs.Line.{IsParameter, IsScaling}

-- m is c x / 65,536, rounded to the nearest whole number, upwards where two are as near
pub record IsRounded (c x m : ℤ) : Type 0 where
  pub low : (pos 65536 *ℤ m) ≤ℤ ((c *ℤ x) +ℤ pos 32768)
  pub high : ((c *ℤ x) +ℤ pos 32768) <ℤ ((pos 65536 *ℤ m) +ℤ pos 65536)

shift_low : (z : ℤ) → (pos 65536 *ℤ shr_z z 65536) ≤ℤ z
shift_low (pos n) = omega (arith, ints)
shift_low (negsuc n) = omega (arith, ints)

shift_high : (z : ℤ) → z <ℤ ((pos 65536 *ℤ shr_z z 65536) +ℤ pos 65536)
shift_high (pos n) = omega (arith, ints)
shift_high (negsuc n) = omega (arith, ints)

pub rounded : (c x : ℤ) → IsRounded c x (mul16 c x)
unfolding mul16
rounded c x = record {
  low = shift_low ((c *ℤ x) +ℤ pos 32768);
  high = shift_high ((c *ℤ x) +ℤ pos 32768);
}

pub rounded_once : (c x m : ℤ) → IsRounded c x m → m ≡ mul16 c x
rounded_once c x m r =
    let s = rounded c x in
    let a = r.low in
    let b = r.high in
    let d = s.low in
    let e = s.high in
    omega (arith, ints, a, b, d, e)

-- ---- the upper half of a product

times : (a : ℕ) → pos 65536 *ℤ negsuc a ≡ negsuc (65536 * a + 65535)
times a = omega (arith, ints)

high_half : (z : ℤ) → shr_z (pos 65536 *ℤ z) 4294967296 ≡ shr_z z 65536
high_half (pos a) = omega (arith, ints)
high_half (negsuc a) = rw (times a) (omega (arith, ints))

half_fits : (z : ℤ) → negsuc 4611686018427387903 ≤ℤ z → z ≤ℤ pos 4611686020574871552 →
    FitsSigned w32 (shr_z z 4294967296)
half_fits (pos a) low high = omega (arith, ints)
half_fits (negsuc a) low high = omega (arith, ints)

abs_of_32 : (z : ℤ) → FitsSigned w32 z → unsigned_abs z ≤ 2147483648
abs_of_32 z h = omega (arith, ints)

-- a 64-bit product that is 65,536 d x, and the half that rounds it
pub record IsHalved (d x z : ℤ) : Type 0 where
  pub part : FitsSigned w64 z
  pub whole : FitsSigned w64 (z +ℤ pos 2147483648)
  pub fits : FitsSigned w32 (shr_z (z +ℤ pos 2147483648) 4294967296)
  pub kept : to_z w64 (of_z w64 (shr_z (z +ℤ pos 2147483648) 4294967296))
      ≡ shr_z (z +ℤ pos 2147483648) 4294967296
  pub value : shr_z (z +ℤ pos 2147483648) 4294967296 ≡ mul16 d x

widened : (z : ℤ) → FitsSigned w32 z → to_z w64 (of_z w64 (to_z w32 (of_z w32 z))) ≡ z
widened z h = omega (arith, ints)

wider : (z : ℤ) → FitsSigned w32 z → to_z w64 (of_z w64 z) ≡ z
wider z h = omega (arith, ints)

bounded : (d x z : ℤ) → unsigned_abs z ≤ 4611686018427387904 →
    z +ℤ pos 2147483648 ≡ pos 65536 *ℤ ((d *ℤ x) +ℤ pos 32768) → IsHalved d x z
unfolding mul16
bounded d x z small e = record {
  part = omega (arith, ints, small);
  whole = omega (arith, ints, small);
  fits = half_fits (z +ℤ pos 2147483648) (omega (arith, ints, small))
      (omega (arith, ints, small));
  kept = wider (shr_z (z +ℤ pos 2147483648) 4294967296)
      (half_fits (z +ℤ pos 2147483648) (omega (arith, ints, small)) (omega (arith, ints, small)));
  value = ap (λ (y : ℤ). shr_z y 4294967296) e ∙ high_half ((d *ℤ x) +ℤ pos 32768);
}

times_negative : (n : ℕ) → pos 65536 *ℤ neg_ℤ (pos n) ≡ neg_ℤ (pos (65536 * n))
times_negative zero = refl
times_negative (suc n) = omega (arith, ints)

turned : (d : ℤ) (b : ℕ) → (pos 65536 *ℤ d) *ℤ pos b ≡ pos 65536 *ℤ (d *ℤ pos b)
turned (pos a) b = omega (arith, ints)
turned (negsuc a) b =
    let e : suc (65536 * a + 65535) * b ≡ 65536 * (suc a * b) = omega arith in
    ap (λ (y : ℤ). y *ℤ pos b) (times a)
    ∙ (negsuc-*ℤ-pos (65536 * a + 65535) b
    ∙ (ap (λ (n : ℕ). neg_ℤ (pos n)) e
    ∙ (sym (times_negative (suc a * b))
    ∙ ap (λ (y : ℤ). pos 65536 *ℤ y) (sym (negsuc-*ℤ-pos a b)))))

turned_back : (d : ℤ) (b : ℕ) → (pos 65536 *ℤ d) *ℤ negsuc b ≡ pos 65536 *ℤ (d *ℤ negsuc b)
turned_back (pos a) b = omega (arith, ints)
turned_back (negsuc a) b =
    let e : suc (65536 * a + 65535) * suc b ≡ 65536 * (suc a * suc b) = omega arith in
    ap (λ (y : ℤ). y *ℤ negsuc b) (times a)
    ∙ (negsuc-*ℤ-negsuc (65536 * a + 65535) b
    ∙ (ap pos e ∙ ap (λ (y : ℤ). pos 65536 *ℤ y) (sym (negsuc-*ℤ-negsuc a b))))

moved : (d x : ℤ) → (d *ℤ pos 65536) *ℤ x ≡ pos 65536 *ℤ (d *ℤ x)
moved d (pos b) = ap (λ (y : ℤ). y *ℤ pos b) (*ℤ_comm d (pos 65536)) ∙ turned d b
moved d (negsuc b) = ap (λ (y : ℤ). y *ℤ negsuc b) (*ℤ_comm d (pos 65536)) ∙ turned_back d b

-- what the code computes, with its casts
pub halved : (d x : ℤ) → negsuc 32767 ≤ℤ d → d ≤ℤ pos 32767 → FitsSigned w32 x →
    IsHalved d x (to_z w64 (of_z w64 (passed (passed d *ℤ pos 65536)))
    *ℤ to_z w64 (of_z w64 (passed x)))
halved d x low high f =
    let g : FitsSigned w32 (d *ℤ pos 65536) = omega (arith, ints, low, high) in
    let kept : passed d ≡ d = omega (arith, ints, low, high) in
    rw (kept, widened (d *ℤ pos 65536) g, widened x f)
    (bounded d x ((d *ℤ pos 65536) *ℤ x)
    (rw (unsigned_abs-mul (d *ℤ pos 65536) x) (mul-le-mul (abs_of_32 _ g) (abs_of_32 x f)))
    (let e = moved d x in omega (arith, ints, e)))

-- ---- products with the parameters

pub gamma_split : (x f : ℤ) → IsRounded (negsuc 7673) x f → f +ℤ x ≡ mul16 gamma x
gamma_split x f r =
    let a = r.low in
    let b = r.high in
    rounded_once gamma x (f +ℤ x)
    (record { low = omega (arith, ints, a, b); high = omega (arith, ints, a, b) })

alpha_split : (x f : ℤ) → IsRounded (pos 27123) x f → f -ℤ x -ℤ x ≡ mul16 alpha x
alpha_split x f r =
    let a = r.low in
    let b = r.high in
    rounded_once alpha x (f -ℤ x -ℤ x)
    (record { low = omega (arith, ints, a, b); high = omega (arith, ints, a, b) })

-- ---- limits

pub limit30_is : (z : ℤ) → limit30 z ≡ int_min (int_max z (negsuc 1073741823)) (pos 1073741823)
unfolding limit30
limit30_is (pos n) = omega (arith, ints, clamps)
limit30_is (negsuc n) = omega (arith, ints, clamps)

limit_low : (z : ℤ) → z ≤ℤ negsuc 1073741823 → limit30 z ≡ negsuc 1073741823
limit_low z h = limit30_is z ∙ omega (arith, ints, clamps, h)

limit_high : (z : ℤ) → pos 1073741823 ≤ℤ z → limit30 z ≡ pos 1073741823
limit_high z h = limit30_is z ∙ omega (arith, ints, clamps, h)

pub limited : (cell m : ℤ) → Within30 cell →
    cell +ℤ int_min (int_max m (negsuc 1073741823 -ℤ cell)) (pos 1073741823 -ℤ cell)
    ≡ limit30 (cell +ℤ m)
limited cell m w = omega (arith, ints, clamps, w) ∙ sym (limit30_is (cell +ℤ m))

-- ---- the product with alpha of a sum that is cut where it is too large

abbrev pub cut : ℤ → ℤ
cut s = int_min (int_max s (negsuc 1353909015)) (pos 1353909016)

above_sum : (s a : ℤ) → pos 1353909016 ≤ℤ s → IsRounded alpha s a → a ≤ℤ negsuc 2147483646
above_sum s a h r =
    let p = r.low in
    omega (arith, ints, p, h)

below_sum : (s a : ℤ) → s ≤ℤ negsuc 1353909015 → IsRounded alpha s a → pos 2147483647 ≤ℤ a
below_sum s a h r =
    let p = r.high in
    omega (arith, ints, p, h)

both_low : (cell a b : ℤ) → Within30 cell → a ≤ℤ negsuc 2147483646 → b ≤ℤ negsuc 2147483646 →
    limit30 (cell +ℤ a) ≡ limit30 (cell +ℤ b)
both_low cell a b w ha hb = limit_low (cell +ℤ a) (omega (arith, ints, w, ha))
    ∙ sym (limit_low (cell +ℤ b) (omega (arith, ints, w, hb)))

both_high : (cell a b : ℤ) → Within30 cell → pos 2147483647 ≤ℤ a → pos 2147483647 ≤ℤ b →
    limit30 (cell +ℤ a) ≡ limit30 (cell +ℤ b)
both_high cell a b w ha hb = limit_high (cell +ℤ a) (omega (arith, ints, w, ha))
    ∙ sym (limit_high (cell +ℤ b) (omega (arith, ints, w, hb)))

pub alpha_cut : (s t f cell : ℤ) → t ≡ cut s → IsRounded (pos 27123) t f → Within30 cell →
    limit30 (cell +ℤ (f -ℤ t -ℤ t)) ≡ limit30 (cell +ℤ mul16 alpha s)
alpha_cut s t f cell e r w =
    let value : f -ℤ t -ℤ t ≡ mul16 alpha t = alpha_split t f r in
    rw value (by_lt_z (pos 1353909016) s
    (λ above.
    let at : t ≡ pos 1353909016 = omega (arith, ints, clamps, e, above) in
    both_low cell (mul16 alpha t) (mul16 alpha s) w
    (above_sum t (mul16 alpha t) (omega (arith, ints, at)) (rounded alpha t))
    (above_sum s (mul16 alpha s) (omega (arith, ints, above)) (rounded alpha s)))
    (λ fits. by_lt_z s (negsuc 1353909015)
    (λ below.
    let at : t ≡ negsuc 1353909015 = omega (arith, ints, clamps, e, below) in
    both_high cell (mul16 alpha t) (mul16 alpha s) w
    (below_sum t (mul16 alpha t) (omega (arith, ints, at)) (rounded alpha t))
    (below_sum s (mul16 alpha s) (omega (arith, ints, below)) (rounded alpha s)))
    (λ over.
    let at : t ≡ s = omega (arith, ints, clamps, e, fits, over) in
    ap (λ (x : ℤ). limit30 (cell +ℤ mul16 alpha x)) at)))

-- what the code computes of a sum s that is cut to t, f being the fraction of t, with its casts
pub record IsAlphaStep (s t f : ℤ) : Type 0 where
  pub cut_is : passed t ≡ t
  pub fraction_is : passed f ≡ f
  pub first : FitsSigned w32 (f -ℤ t)
  pub second : FitsSigned w32 (f -ℤ t -ℤ t)
  pub value : (cell : ℤ) → Within30 cell →
      limit30 (cell +ℤ (f -ℤ t -ℤ t)) ≡ limit30 (cell +ℤ mul16 alpha s)

pub alpha_step : (s t f : ℤ) → t ≡ cut s → f ≡ mul16 (pos 27123) (passed t) → IsAlphaStep s t f
alpha_step s t f e p =
    let low : negsuc 1353909015 ≤ℤ t = omega (arith, ints, clamps, e) in
    let high : t ≤ℤ pos 1353909016 = omega (arith, ints, clamps, e) in
    let kept : passed t ≡ t = omega (arith, ints, low, high) in
    let is : f ≡ mul16 (pos 27123) t = p ∙ ap (mul16 (pos 27123)) kept in
    let r : IsRounded (pos 27123) t f = rw is (rounded (pos 27123) t) in
    let a = r.low in
    let b = r.high in
    let f_low : negsuc 715827883 ≤ℤ f = omega (arith, ints, a, b, low, high) in
    let f_high : f ≤ℤ pos 715827883 = omega (arith, ints, a, b, low, high) in
    record {
      cut_is = kept;
      fraction_is = omega (arith, ints, f_low, f_high);
      first = omega (arith, ints, a, b, low, high);
      second = omega (arith, ints, a, b, low, high);
      value = λ cell w. alpha_cut s t f cell e r w;
    }

-- the same of a sum s and the fraction f that gamma takes of it
pub record IsGammaStep (s f : ℤ) : Type 0 where
  pub fraction_is : passed f ≡ f
  pub sum_is : passed s ≡ s
  pub fits : FitsSigned w32 (f +ℤ s)
  pub value : f +ℤ s ≡ mul16 gamma s

pub gamma_step : (s f : ℤ) → FitsSigned w32 s → f ≡ mul16 (negsuc 7673) (passed s) →
    IsGammaStep s f
gamma_step s f h p =
    let kept : passed s ≡ s = omega (arith, ints, h) in
    let is : f ≡ mul16 (negsuc 7673) s = p ∙ ap (mul16 (negsuc 7673)) kept in
    let r : IsRounded (negsuc 7673) s f = rw is (rounded (negsuc 7673) s) in
    let a = r.low in
    let b = r.high in
    record {
      fraction_is = omega (arith, ints, a, b, h);
      sum_is = kept;
      fits = omega (arith, ints, a, b, h);
      value = gamma_split s f r;
    }

-- ---- the small parameters, and the scaling

abbrev pub IsSmall : ℤ → Type 0
IsSmall c = (c ≡ beta) ⊎ (c ≡ delta)

pub is_small : (c : ℤ) → IsParameter c → (c ≡ alpha → ⊥) → (c ≡ gamma → ⊥) → IsSmall c
is_small c p a g = elim p [
  | inl e ↦ absurd (a e)
  | inr q ↦ elim q [
    | inl e ↦ inl e
    | inr r ↦ elim r [
      | inl e ↦ absurd (g e)
      | inr e ↦ inr e
    ]
  ]
]

pub is_delta : (c : ℤ) → IsParameter c → (c ≡ alpha → ⊥) → (c ≡ beta → ⊥) → (c ≡ gamma → ⊥) →
    c ≡ delta
is_delta c p a b g = elim (is_small c p a g) [ inl e ↦ absurd (b e) | inr e ↦ e ]

pub is_inverse : (c : ℤ) → IsScaling c → (c ≡ scaling → ⊥) → c ≡ inverse_scaling
is_inverse c p n = elim p [ inl e ↦ absurd (n e) | inr e ↦ e ]

-- the fraction f that a small parameter takes of a sum is in the range of samples
pub record IsInRange (f : ℤ) : Type 0 where
  pub low : negsuc 1073741823 ≤ℤ f
  pub high : f ≤ℤ pos 1073741824

beta_range : (x f : ℤ) → FitsSigned w32 x → IsRounded beta x f → IsInRange f
beta_range x f h r =
    let a = r.low in
    let b = r.high in
    record { low = omega (arith, ints, a, b, h); high = omega (arith, ints, a, b, h) }

delta_range : (x f : ℤ) → FitsSigned w32 x → IsRounded delta x f → IsInRange f
delta_range x f h r =
    let a = r.low in
    let b = r.high in
    record { low = omega (arith, ints, a, b, h); high = omega (arith, ints, a, b, h) }

pub small_range : (c x f : ℤ) → IsSmall c → FitsSigned w32 x → f ≡ mul16 c x → IsInRange f
small_range c x f s h e =
    let r : IsRounded c x f = rw e (rounded c x) in
    elim s [
      | inl is ↦ beta_range x f h (subst (λ (z : ℤ). IsRounded z x f) is r)
      | inr is ↦ delta_range x f h (subst (λ (z : ℤ). IsRounded z x f) is r)
    ]

-- the sum of a sample and such a fraction
pub record IsSum (cell f : ℤ) : Type 0 where
  pub cell_is : passed cell ≡ cell
  pub fraction_is : passed f ≡ f
  pub fits : FitsSigned w32 (cell +ℤ f)

pub in_range : (cell f : ℤ) → Within30 cell → IsInRange f → IsSum cell f
in_range cell f w r =
    let a = r.low in
    let b = r.high in
    record {
      cell_is = passed_within cell w;
      fraction_is = omega (arith, ints, a, b);
      fits = omega (arith, ints, a, b, w);
    }

-- what a factor of the scaling is above 1
scaling_split : (x f : ℤ) → IsRounded (pos 15085) x f → x +ℤ f ≡ mul16 scaling x
scaling_split x f r =
    let a = r.low in
    let b = r.high in
    rounded_once scaling x (x +ℤ f)
    (record { low = omega (arith, ints, a, b); high = omega (arith, ints, a, b) })

inverse_split : (x f : ℤ) → IsRounded (negsuc 12261) x f → x +ℤ f ≡ mul16 inverse_scaling x
inverse_split x f r =
    let a = r.low in
    let b = r.high in
    rounded_once inverse_scaling x (x +ℤ f)
    (record { low = omega (arith, ints, a, b); high = omega (arith, ints, a, b) })

pub record IsScaled (c cell f : ℤ) : Type 0 where
  pub range : IsInRange f
  pub value : cell +ℤ f ≡ mul16 c cell

pub scaled_step : (c cell f : ℤ) → IsScaling c → Within30 cell → f ≡ mul16 (c -ℤ pos 65536) cell →
    IsScaled c cell f
scaled_step c cell f s w e = elim s [
  | inl is ↦
      let d : c -ℤ pos 65536 ≡ pos 15085 = omega (arith, ints, is) in
      let r : IsRounded (pos 15085) cell f = rw (e, d) (rounded (pos 15085) cell) in
      let a = r.low in
      let b = r.high in
      record {
        range = record { low = omega (arith, ints, a, b, w); high = omega (arith, ints, a, b, w) };
        value = rw is (scaling_split cell f r);
      }
  | inr is ↦
      let d : c -ℤ pos 65536 ≡ negsuc 12261 = omega (arith, ints, is) in
      let r : IsRounded (negsuc 12261) cell f = rw (e, d) (rounded (negsuc 12261) cell) in
      let a = r.low in
      let b = r.high in
      record {
        range = record { low = omega (arith, ints, a, b, w); high = omega (arith, ints, a, b, w) };
        value = rw is (inverse_split cell f r);
      }
]

-- 1/K of a sample is in the range of samples
pub record IsInverse (cell f : ℤ) : Type 0 where
  pub within : Within30 (cell +ℤ f)
  pub value : cell +ℤ f ≡ limit30 (cell +ℤ f)

pub inverse_step : (cell f : ℤ) → Within30 cell → f ≡ mul16 (negsuc 12261) cell → IsInverse cell f
inverse_step cell f w e =
    let r : IsRounded (negsuc 12261) cell f = rw e (rounded (negsuc 12261) cell) in
    let a = r.low in
    let b = r.high in
    let low : negsuc 1073741823 ≤ℤ (cell +ℤ f) = omega (arith, ints, a, b, w) in
    let high : (cell +ℤ f) ≤ℤ pos 1073741823 = omega (arith, ints, a, b, w) in
    record {
      within = (low, high);
      value = let e = limit30_is (cell +ℤ f) in omega (arith, ints, clamps, e, low, high);
    }
