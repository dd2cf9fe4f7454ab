-- The distortion of a block before and after a place is coded, and the sums of a pass.
use Rattle.std.proofs.Common.{ℕ, zero, suc, ◌+◌, ◌-◌, ◌*◌, ◌/◌, ◌%◌, ◌^◌, ◌<◌, ◌≤◌, ◌≡◌, Bool, true, false}
use Rattle.std.proofs.Common.{List, [], ◌∷◌, length, set, refl, sym, ap, ◌∙◌, arith}
use Rattle.dz_quantiser.specs.Error.{squared_error}
use Rattle.ebcot_contexts.specs.Cells.{Cell, cell_at, coef_at, bit_of, become_significant}
use Rattle.ebcot_contexts.specs.Passes.{learned}
use Rattle.distortion_sums.specs.Distortion.{error_sum}
use Rattle.distortion_sums.specs.Places.{IsNext, offset}
use Rattle.distortion_sums.proofs.Errors.{zero_error, new_error, refined_error}

abbrev error_at : List (ℕ × Bool) → ℕ → ℕ → ℕ
error_at coefs i u = squared_error (coef_at coefs i).0 u

error_set : (coefs : List (ℕ × Bool)) (cells : List Cell) (i : ℕ) (x : Cell) → i < length cells →
    i < length coefs
    → error_sum coefs (set cells i x) + error_at coefs i (cell_at cells i).unknown
    ≡ error_sum coefs cells + error_at coefs i x.unknown
error_set coefs [] i x l m = absurd (omega arith)
error_set [] (c ∷ cs) i x l m = absurd (omega arith)
error_set (m ∷ ms) (c ∷ cs) zero x l k = omega arith
error_set (m ∷ ms) (c ∷ cs) (suc i) x l k =
    let h : error_sum ms (set cs i x) + error_at ms i (cell_at cs i).unknown
    ≡ error_sum ms cs + error_at ms i x.unknown =
    error_set ms cs i x (omega arith) (omega arith) in
    omega arith

module _ (coefs : List (ℕ × Bool)) (cells : List Cell) (p i : ℕ) (o : IsNext coefs cells p i) where
  abbrev m : ℕ
  m = (coef_at coefs i).0

  changed : (x : Cell) → x.unknown ≡ p →
      error_sum coefs (set cells i x) + squared_error m (suc p)
      ≡ error_sum coefs cells + squared_error m p
  changed x e =
      ap (λ (u : ℕ). error_sum coefs (set cells i x) + squared_error m u) (sym o.untouched)
      ∙ error_set coefs cells i x o.inside o.there
      ∙ ap (λ (u : ℕ). error_sum coefs cells + squared_error m u) e

  -- a bit of 0 of a place that stays insignificant takes nothing
  pub zero_takes : m / 2 ^ suc p ≡ 0 → bit_of m p ≡ false →
      error_sum coefs (learned p false i cells) ≡ error_sum coefs cells
  zero_takes z b =
      let c : error_sum coefs (learned p false i cells) + squared_error m (suc p)
      ≡ error_sum coefs cells + squared_error m p = changed _ refl in
      let e : squared_error m p ≡ squared_error m (suc p) = zero_error m p z b in
      omega arith

  -- a place that becomes significant
  pub new_takes : (negative : Bool) → m / 2 ^ suc p ≡ 0 → bit_of m p ≡ true
      → error_sum coefs cells + 3 * 2 ^ p * (3 * 2 ^ p)
      ≡ error_sum coefs (set cells i (become_significant p negative (cell_at cells i)))
      + 3 * 2 ^ p * (4 * m + 2)
  new_takes negative z b =
      by (error_sum coefs cells)
      (error_sum coefs (set cells i (become_significant p negative (cell_at cells i))))
      (3 * 2 ^ p * (3 * 2 ^ p)) (3 * 2 ^ p * (4 * m + 2))
      (squared_error m (suc p)) (squared_error m p) (changed _ refl) (new_error m p z b)
    where
      by : (was is t x e f : ℕ) → is + e ≡ was + f → e + t ≡ f + x → was + t ≡ is + x
      by was is t x e f c n = omega arith

  -- a place that is refined
  pub refined_takes : (b : Bool) → 0 < m / 2 ^ suc p
      → error_sum coefs cells + 2 ^ p * 2 ^ p
      ≡ error_sum coefs (learned p b i cells) + 2 * (2 ^ p * (2 * offset p m + 1))
  refined_takes b some =
      by (error_sum coefs cells) (error_sum coefs (learned p b i cells)) (2 ^ p * 2 ^ p)
      (2 * (2 ^ p * (2 * offset p m + 1)))
      (squared_error m (suc p)) (squared_error m p) (changed _ refl) (refined_error m p some)
    where
      by : (was is t x e f : ℕ) → is + e ≡ was + f → e + t ≡ f + x → was + t ≡ is + x
      by was is t x e f c n = omega arith

-- the same in 64 bits
pub wrapped : (was is t x : ℕ) → was + t ≡ is + x → x ≤ 18446744073709551616
    → ((was % 18446744073709551616 + t) % 18446744073709551616 + (18446744073709551616 - x))
    % 18446744073709551616 ≡ is % 18446744073709551616
wrapped was is t x e few = omega arith
