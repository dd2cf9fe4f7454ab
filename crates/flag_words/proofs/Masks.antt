-- Which bits of a word a change of one cell sets.
use Rattle.std.proofs.Common.{ℕ, ◌≡◌, Bool, true, false, not}
use Rattle.std.proofs.Common.{◌&&◌, List, refl, sym, ap, ◌∙◌, arith}
use Rattle.std.specs.Prelude.{if◌then◌else◌, max, nat_le, ◌==◌}
use Rattle.std.specs.Int.{bit_at}
use Rattle.std.specs.Int.RustNames.{bit_or}
use Rattle.std.proofs.lemmas.Bool.{agree_below, agree_below_at, eqb-true, eq-eqb}
use Rattle.std.proofs.lemmas.Nat.Bits.{bit_at_or}
use Rattle.ebcot_contexts.specs.Cells.{Cell, is_significant, cell_at, number}
use Rattle.ebcot_contexts.specs.Passes.{is_untouched}
use Rattle.flag_words.specs.Words.{row_of, column_of, flag_at, flag_of}
use Rattle.flag_words.proofs.Words.{Changes}

-- the four flags of a cell
pub record Has (p : ℕ) (c : Cell) (s n f t : Bool) : Type 0 where
  pub significant : is_significant c ≡ s
  pub negative : c.negative ≡ n
  pub refined : nat_le 2 c.magnitude ≡ f
  pub touched : not (is_untouched p c) ≡ t

has_flag : (p k : ℕ) (c : Cell) (s n f t : Bool) → Has p c s n f t →
    flag_of p k c ≡ flag_at k s n f t
has_flag p k c s n f t h =
    λ j. flag_at k (h.significant j) (h.negative j) (h.refined j) (h.touched j)

-- whether a mask sets what makes the new flags of the place at r and c out of the old ones
abbrev pub fits_at : ℕ → ℕ → ℕ → Bool → Bool → Bool → Bool → Bool → Bool → Bool → Bool → ℕ → Bool
fits_at r c mask s n f t s' n' f' t' k =
    if row_of k == r && column_of k == c
    then max (number (flag_at k s n f t)) (bit_at mask k) == number (flag_at k s' n' f' t')
    else bit_at mask k == 0

abbrev pub fits : ℕ → ℕ → ℕ → Bool → Bool → Bool → Bool → Bool → Bool → Bool → Bool → Bool
fits r c mask s n f t s' n' f' t' =
    agree_below (fits_at r c mask s n f t s' n' f' t') (λ k. true) 32

inside : (a b x y : Bool) → a ≡ true → b ≡ true → (if a && b then x else y) ≡ true → x ≡ true
inside true true x y ea eb e = e
inside true false x y ea eb e = cc
inside false b x y ea eb e = cc

outside : (a b x y : Bool) → (a ≡ true → b ≡ true → ⊥) → (if a && b then x else y) ≡ true → y ≡ true
outside true true x y apart e = absurd (apart refl refl)
outside true false x y apart e = e
outside false b x y apart e = e

largest_zero : (n m : ℕ) → m ≡ 0 → max n m ≡ n
largest_zero n m e = omega arith

pub or_changes : (w p : ℕ) (cells : List Cell) (i : ℕ) (d : Cell) (column stripe r c word mask : ℕ)
    (s n f t s' n' f' t' : Bool)
    → fits r c mask s n f t s' n' f' t' ≡ true → Has p (cell_at cells i) s n f t →
    Has p d s' n' f' t'
    → Changes w p cells i d column stripe r c word (bit_or word mask)
or_changes w p cells i d column stripe r c word mask s n f t s' n' f' t' fit old now =
    record {
      there = λ k l er ec e.
          let at : fits_at r c mask s n f t s' n' f' t' k ≡ true =
          agree_below_at (fits_at r c mask s n f t s' n' f' t') (λ k. true) 32 k fit l in
          let sum : (max (number (flag_at k s n f t)) (bit_at mask k) == number
          (flag_at k s' n' f' t')) ≡ true =
          inside (row_of k == r) (column_of k == c) _ _ (eq-eqb (row_of k) r er)
          (eq-eqb (column_of k) c ec) at in
          bit_at_or word mask k
          ∙ ap (λ (v : ℕ). max v (bit_at mask k))
          (e ∙ ap number (has_flag p k (cell_at cells i) s n f t old))
          ∙ eqb-true _ _ sum
          ∙ ap number (sym (has_flag p k d s' n' f' t' now));
      elsewhere = λ k l apart.
          let at : fits_at r c mask s n f t s' n' f' t' k ≡ true =
          agree_below_at (fits_at r c mask s n f t s' n' f' t') (λ k. true) 32 k fit l in
          let none : (bit_at mask k == 0) ≡ true =
          outside (row_of k == r) (column_of k == c) _ _
          (λ er ec. apart (eqb-true _ _ er, eqb-true _ _ ec)) at in
          bit_at_or word mask k ∙ largest_zero (bit_at word k) (bit_at mask k) (eqb-true _ _ none);
    }
