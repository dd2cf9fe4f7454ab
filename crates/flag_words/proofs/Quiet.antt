-- A place without significant neighbours, by the bits of its word.
use Rattle.std.proofs.Common.{ℕ, zero, suc, ◌+◌, ◌*◌, ◌<◌, ◌≡◌, Bool, true}
use Rattle.std.proofs.Common.{false, not, ◌&&◌, List, refl, sym, ap, ◌∙◌, arith}
use Rattle.std.specs.Prelude.{nat_le, nat_eq, ◌==◌}
use Rattle.std.specs.Int.{bit_at}
use Rattle.std.proofs.lemmas.Bool.{eqb-true, eq-eqb, lt-leb, le-leb}
use Rattle.std.proofs.lemmas.Nat.Bits.{bit_at-zero, same_from_bits_below}
use Rattle.ebcot_contexts.specs.Cells.{Cell, is_significant, cell_at, number}
use Rattle.ebcot_contexts.specs.Contexts.{Shape, neighbour, is_quiet, refinement_context}
use Rattle.ebcot_contexts.specs.Contexts.{refinement_at}
use Rattle.ebcot_contexts.specs.Passes.{is_untouched, significance, refinement, cleanup, is_coded}
use Rattle.flag_words.specs.Words.{IsFlagWord, IsIn}
use Rattle.flag_words.specs.Lookups.{neighbours_of}
use Rattle.flag_words.proofs.Around.{sig_bit, own_sig, own_refined, own_touched, neighbour_bit}
use Rattle.flag_words.proofs.Around.{middle, neighbours_few}

pub same_bool : (a b : Bool) → (a ≡ true → b ≡ true) → (b ≡ true → a ≡ true) → a ≡ b
same_bool true b f g = sym (f refl)
same_bool false true f g = g refl
same_bool false false f g = refl

-- a bit as a test
pub as_test : (n : ℕ) (b : Bool) → n ≡ number b → (n == 1) ≡ b
as_test n true e = ap (λ (v : ℕ). v == 1) e
as_test n false e = ap (λ (v : ℕ). v == 1) e

module _ (s : Shape) (p i column stripe r : ℕ) (cells : List Cell) (word : ℕ) (few : r < 4)
    (at : IsIn s.width i column stripe r) (some : 0 < s.width)
    (is : IsFlagWord s.width p cells column stripe word) where
  abbrev around : ℕ
  around = neighbours_of word r

  -- the bit of a neighbour
  pub bit_of_neighbour : (dx dy : ℕ) → dx < 3 → dy < 3 → (3 * dy + dx ≡ 4 → ⊥)
      → bit_at around (3 * dy + dx) ≡ number (is_significant (neighbour s.width cells i dx dy))
  bit_of_neighbour dx dy lx ly apart =
      neighbour_bit word r (3 * dy + dx) (omega arith) apart
      ∙ sig_bit s.width p i column stripe r cells word few at some is dx dy lx ly

  abbrev N : ℕ → ℕ → ℕ
  N dx dy = number (is_significant (neighbour s.width cells i dx dy))

  no_bits : (N 0 0 ≡ 0) × (N 1 0 ≡ 0) × (N 2 0 ≡ 0) × (N 0 1 ≡ 0) × (N 2 1 ≡ 0) × (N 0 2 ≡ 0) ×
      (N 1 2 ≡ 0) × (N 2 2 ≡ 0)
      → (j : ℕ) → j < 9 → bit_at around j ≡ bit_at 0 j
  no_bits z zero l = bit_of_neighbour 0 0 (omega arith) (omega arith) (λ e. omega arith) ∙ z.0
  no_bits z (suc zero) l = bit_of_neighbour 1 0 (omega arith) (omega arith) (λ e. omega arith) ∙ z.1
  no_bits z (suc (suc zero)) l = bit_of_neighbour 2 0 (omega arith) (omega arith) (λ e. omega arith)
      ∙ z.2
  no_bits z (suc (suc (suc zero))) l =
      bit_of_neighbour 0 1 (omega arith) (omega arith) (λ e. omega arith) ∙ z.3
  no_bits z (suc (suc (suc (suc zero)))) l = middle word r
  no_bits z (suc (suc (suc (suc (suc zero))))) l =
      bit_of_neighbour 2 1 (omega arith) (omega arith) (λ e. omega arith) ∙ z.4
  no_bits z (suc (suc (suc (suc (suc (suc zero)))))) l =
      bit_of_neighbour 0 2 (omega arith) (omega arith) (λ e. omega arith) ∙ z.5
  no_bits z (suc (suc (suc (suc (suc (suc (suc zero))))))) l =
      bit_of_neighbour 1 2 (omega arith) (omega arith) (λ e. omega arith) ∙ z.6
  no_bits z (suc (suc (suc (suc (suc (suc (suc (suc zero)))))))) l =
      bit_of_neighbour 2 2 (omega arith) (omega arith) (λ e. omega arith) ∙ z.7
  no_bits z (suc (suc (suc (suc (suc (suc (suc (suc (suc j))))))))) l = absurd (omega arith)

  bit_none : (dx dy : ℕ) → dx < 3 → dy < 3 → (3 * dy + dx ≡ 4 → ⊥) → around ≡ 0 → N dx dy ≡ 0
  bit_none dx dy lx ly apart e =
      sym (bit_of_neighbour dx dy lx ly apart) ∙ ap (λ (v : ℕ). bit_at v (3 * dy + dx)) e
      ∙ bit_at-zero (3 * dy + dx)

  sum_zero : (a b c d e f g h : ℕ) → (a + b + (c + d) + (e + f + (g + h)) == 0) ≡ true
      → (e ≡ 0) × (c ≡ 0) × (f ≡ 0) × (a ≡ 0) × (b ≡ 0) × (g ≡ 0) × (d ≡ 0) × (h ≡ 0)
  sum_zero a b c d e f g h t =
      let z : a + b + (c + d) + (e + f + (g + h)) ≡ 0 = eqb-true _ _ t in
      (omega arith, omega arith, omega arith, omega arith, omega arith, omega arith, omega arith, omega arith)

  zero_sum : (a b c d e f g h : ℕ) → a ≡ 0 → b ≡ 0 → c ≡ 0 → d ≡ 0 → e ≡ 0 → f ≡ 0 → g ≡ 0 → h ≡ 0
      → (a + b + (c + d) + (e + f + (g + h)) == 0) ≡ true
  zero_sum a b c d e f g h ea eb ec ed ee ef eg eh = eq-eqb _ 0 (omega arith)

  -- no neighbour is significant exactly if all eight bits are 0
  pub quiet_bits : nat_eq around 0 ≡ is_quiet s cells i
  unfolding is_quiet
  quiet_bits =
      same_bool (nat_eq around 0) _
      (λ t. (let e : around ≡ 0 = eqb-true around 0 t in
      zero_sum (N 0 1) (N 2 1) (N 1 0) (N 1 2) (N 0 0) (N 2 0) (N 0 2) (N 2 2)
      (bit_none 0 1 (omega arith) (omega arith) (λ f. omega arith) e)
      (bit_none 2 1 (omega arith) (omega arith) (λ f. omega arith) e)
      (bit_none 1 0 (omega arith) (omega arith) (λ f. omega arith) e)
      (bit_none 1 2 (omega arith) (omega arith) (λ f. omega arith) e)
      (bit_none 0 0 (omega arith) (omega arith) (λ f. omega arith) e)
      (bit_none 2 0 (omega arith) (omega arith) (λ f. omega arith) e)
      (bit_none 0 2 (omega arith) (omega arith) (λ f. omega arith) e)
      (bit_none 2 2 (omega arith) (omega arith) (λ f. omega arith) e)))
      (λ t. eq-eqb around 0 (same_from_bits_below 9 around 0 (neighbours_few word r) (omega arith)
      (no_bits (sum_zero (N 0 1) (N 2 1) (N 1 0) (N 1 2) (N 0 0) (N 2 0) (N 0 2) (N 2 2) t))))

  untouched : (bit_at word (21 + 3 * r) == 1) ≡ not (is_untouched p (cell_at cells i))
  untouched = as_test _ _ (own_touched s.width p i column stripe r cells word few at some is)

  sig_test : (bit_at word (4 + 3 * r) == 1) ≡ is_significant (cell_at cells i)
  sig_test = as_test _ _ (own_sig s.width p i column stripe r cells word few at some is)

  twice : (b : Bool) → not (not b) ≡ b
  twice true = refl
  twice false = refl

  pub cleanup_test : not (bit_at word (21 + 3 * r) == 1) ≡ is_coded cleanup s p i cells
  cleanup_test = ap not untouched ∙ twice (is_untouched p (cell_at cells i))

  pub refinement_test : (not (bit_at word (21 + 3 * r) == 1) && (bit_at word (4 + 3 * r) == 1))
      ≡ is_coded refinement s p i cells
  refinement_test = λ j. cleanup_test j && sig_test j

  pub significance_test : ((not (bit_at word (21 + 3 * r) == 1) && not
      (bit_at word (4 + 3 * r) == 1)) && not (nat_eq around 0)) ≡ is_coded significance s p i cells
  significance_test = λ j. (cleanup_test j && not (sig_test j)) && not (quiet_bits j)

  -- a significant place is refined for the first time where it isn't refined yet
  first_by : (m : ℕ) (t : Bool) → 0 < m → nat_le 2 m ≡ t → not t ≡ (m == 1)
  first_by m true l e = by (m == 1) refl
    where
      by : (t : Bool) → (m == 1) ≡ t → false ≡ t
      by true f = absurd (let g : m ≡ 1 = eqb-true m 1 f in let h : true ≡ false = sym e
          ∙ lt-leb 2 m (omega arith) in cc)
      by false f = refl
  first_by m false l e = by (m == 1) refl
    where
      by : (t : Bool) → (m == 1) ≡ t → true ≡ t
      by true f = refl
      by false f = absurd (let g : m ≡ 1 →
          ⊥ = (λ h. (let k : true ≡ false = sym (eq-eqb m 1 h) ∙ f in cc)) in let h : true ≡ false =
          sym (le-leb 2 m (omega arith)) ∙ e in cc)

  pub context_test : 0 < (cell_at cells i).magnitude →
      refinement_context (not (bit_at word (20 + 3 * r) == 1)) (not (nat_eq around 0))
      ≡ refinement_at s cells i
  unfolding refinement_at
  context_test l =
      let refined : (bit_at word (20 + 3 * r) == 1) ≡ nat_le 2 (cell_at cells i).magnitude =
      as_test _ _ (own_refined s.width p i column stripe r cells word few at some is) in
      ap (λ (b : Bool). refinement_context (not b) (not (nat_eq around 0))) refined
      ∙ ap (λ (b : Bool). refinement_context b (not (nat_eq around 0)))
      (first_by (cell_at cells i).magnitude (nat_le 2 (cell_at cells i).magnitude) l refl)
      ∙ ap (λ (b : Bool). refinement_context ((cell_at cells i).magnitude == 1) (not b)) quiet_bits
