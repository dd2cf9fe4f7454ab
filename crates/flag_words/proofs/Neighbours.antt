-- Contexts by the bits of the neighbours.
use Rattle.std.proofs.Common.{ℕ, zero, suc, ◌+◌, ◌-◌, ◌*◌, ◌/◌, ◌%◌, ◌<◌, ◌≡◌, Bool, true, false}
use Rattle.std.proofs.Common.{◌&&◌, leb, List, get_or, refl, sym, ap, ◌∙◌, arith, subst}
use Rattle.std.specs.Prelude.{if◌then◌else◌, bit_and, ◌==◌}
use Rattle.std.specs.Int.{bit_at}
use Rattle.std.proofs.lemmas.Bool.{eqb-true, and_parts}
use Rattle.ebcot_contexts.specs.Cells.{Cell, is_significant, number}
use Rattle.ebcot_contexts.specs.Contexts.{Shape, Contribution, plus, even, minus, both}
use Rattle.ebcot_contexts.specs.Contexts.{sign_context, significance_context}
use Rattle.ebcot_contexts.specs.Contexts.{bordered, neighbour, context_at, sign_at}
use Rattle.flag_words.specs.Words.{row_of, column_of, flag_at, around, IsFlagWord, IsIn}
use Rattle.flag_words.specs.Lookups.{neighbours_of, neighbour_context, contribution_by, packed}
use Rattle.flag_words.specs.Lookups.{index_of}
use Rattle.flag_words.specs.declared.signs.TheConstants.{SIGN_CONTEXTS}
use Rattle.flag_words.proofs.Around.{sig_bit, neighbours_few as few_neighbours}
use Rattle.flag_words.proofs.Quiet.{bit_of_neighbour}

pub neighbours_few : (word r : ℕ) → neighbours_of word r < 512
neighbours_few = few_neighbours

module _ (s : Shape) (p i column stripe r : ℕ) (cells : List Cell) (word : ℕ) (few : r < 4)
    (at : IsIn s.width i column stripe r) (some : 0 < s.width)
    (is : IsFlagWord s.width p cells column stripe word) where
  pub context_by : neighbour_context s.orient (neighbours_of word r) ≡ context_at s cells i
  unfolding neighbour_context context_at
  context_by =
      let b : (dx dy : ℕ) → dx < 3 → dy < 3 → (3 * dy + dx ≡ 4 → ⊥) →
      bit_at (neighbours_of word r) (3 * dy + dx)
      ≡ number (is_significant (neighbour s.width cells i dx dy)) =
      bit_of_neighbour s p i column stripe r cells word few at some is in
      λ j.
      significance_context s.orient
      (b 0 1 (omega arith) (omega arith) (λ e. omega arith) j + b 2 1 (omega arith) (omega arith)
      (λ e. omega arith) j)
      (b 1 0 (omega arith) (omega arith) (λ e. omega arith) j + b 1 2 (omega arith) (omega arith)
      (λ e. omega arith) j)
      (b 0 0 (omega arith) (omega arith) (λ e. omega arith) j + b 2 0 (omega arith) (omega arith)
      (λ e. omega arith) j
      + (b 0 2 (omega arith) (omega arith) (λ e. omega arith) j + b 2 2 (omega arith) (omega arith)
      (λ e. omega arith) j))

-- Signs.

-- where the sign of the place above and below that of row r is in its word
above_places : (r : ℕ) → r < 4 → (s n f t : Bool) → (w : ℕ) → (k : ℕ) →
    k ≡ (if r == 0 then 18 else 3 * r + 16)
    → (row_of k ≡ r) × (column_of k ≡ 1) × (flag_at k s n f t ≡ n) × (k < 32)
above_places zero l s n f t w k e =
    subst (λ (k : ℕ). (row_of k ≡ 0) × (column_of k ≡ 1) × (flag_at k s n f t ≡ n) × (k < 32))
    (sym e) (refl, refl, refl, omega arith)
above_places (suc zero) l s n f t w k e =
    subst (λ (k : ℕ). (row_of k ≡ 1) × (column_of k ≡ 1) × (flag_at k s n f t ≡ n) × (k < 32))
    (sym e) (refl, refl, refl, omega arith)
above_places (suc (suc zero)) l s n f t w k e =
    subst (λ (k : ℕ). (row_of k ≡ 2) × (column_of k ≡ 1) × (flag_at k s n f t ≡ n) × (k < 32))
    (sym e) (refl, refl, refl, omega arith)
above_places (suc (suc (suc zero))) l s n f t w k e =
    subst (λ (k : ℕ). (row_of k ≡ 3) × (column_of k ≡ 1) × (flag_at k s n f t ≡ n) × (k < 32))
    (sym e) (refl, refl, refl, omega arith)
above_places (suc (suc (suc (suc r)))) l s n f t w k e = absurd (omega arith)

below_places : (r : ℕ) → r < 4 → (s n f t : Bool)
    → (row_of (3 * r + 22) ≡ suc (suc r)) × (column_of (3 * r + 22) ≡ 1) ×
    (flag_at (3 * r + 22) s n f t ≡ n)
below_places zero l s n f t = (refl, refl, refl)
below_places (suc zero) l s n f t = (refl, refl, refl)
below_places (suc (suc zero)) l s n f t = (refl, refl, refl)
below_places (suc (suc (suc zero))) l s n f t = (refl, refl, refl)
below_places (suc (suc (suc (suc r)))) l s n f t = absurd (omega arith)

beside_places : (r : ℕ) → r < 4 → (s n f t : Bool)
    → (row_of (3 * r + 19) ≡ suc r) × (column_of (3 * r + 19) ≡ 1) ×
    (flag_at (3 * r + 19) s n f t ≡ n)
beside_places zero l s n f t = (refl, refl, refl)
beside_places (suc zero) l s n f t = (refl, refl, refl)
beside_places (suc (suc zero)) l s n f t = (refl, refl, refl)
beside_places (suc (suc (suc zero))) l s n f t = (refl, refl, refl)
beside_places (suc (suc (suc (suc r)))) l s n f t = absurd (omega arith)

abbrev pub all : (Bool → Bool) → Bool
all f = f true && f false

pub one : (f : Bool → Bool) → all f ≡ true → (b : Bool) → f b ≡ true
one f e true = (and_parts _ _ e).0
one f e false = (and_parts _ _ e).1

abbrev index_by : Bool → Bool → Bool → Bool → Bool → Bool → Bool → Bool → ℕ
index_by a b c d e f g h =
    number a + 2 * number b + 4 * number c + 8 * number d + 16 * number e + 32 * number f + 64 * number g + 128 * number h

abbrev context_of : Bool → Bool → Bool → Bool → Bool → Bool → Bool → Bool → ℕ × Bool
context_of a b c d e f g h =
    sign_context (both (contribution_by d a) (contribution_by f c))
    (both (contribution_by b e) (contribution_by h g))

abbrev entry_is : Bool → Bool → Bool → Bool → Bool → Bool → Bool → Bool → Bool
entry_is a b c d e f g h = get_or SIGN_CONTEXTS (index_by a b c d e f g h) 0 == packed
    (context_of a b c d e f g h)

every_entry : all (λ a. all (λ b. all
    (λ c. all (λ d. all (λ e. all (λ f. all (λ g. all (λ h. entry_is a b c d e f g h)))))))) ≡ true
every_entry = refl

entry : (a b c d e f g h : Bool) →
    get_or SIGN_CONTEXTS (index_by a b c d e f g h) 0 ≡ packed (context_of a b c d e f g h)
entry a b c d e f g h =
    eqb-true _ _
    (one (λ h. entry_is a b c d e f g h)
    (one (λ g. all (λ h. entry_is a b c d e f g h))
    (one (λ f. all (λ g. all (λ h. entry_is a b c d e f g h)))
    (one (λ e. all (λ f. all (λ g. all (λ h. entry_is a b c d e f g h))))
    (one (λ d. all (λ e. all (λ f. all (λ g. all (λ h. entry_is a b c d e f g h)))))
    (one (λ c. all (λ d. all (λ e. all (λ f. all (λ g. all (λ h. entry_is a b c d e f g h))))))
    (one (λ b. all (λ c. all (λ d. all
    (λ e. all (λ f. all (λ g. all (λ h. entry_is a b c d e f g h)))))))
    (one (λ a. all (λ b. all (λ c. all
    (λ d. all (λ e. all (λ f. all (λ g. all (λ h. entry_is a b c d e f g h))))))))
    every_entry a) b) c) d) e) f) g) h)

unpacked : (x y : Contribution) →
    (bit_and (packed (sign_context x y)) 127, leb 128 (packed (sign_context x y)))
    ≡ sign_context x y
unpacked plus plus = refl
unpacked plus even = refl
unpacked plus minus = refl
unpacked even plus = refl
unpacked even even = refl
unpacked even minus = refl
unpacked minus plus = refl
unpacked minus even = refl
unpacked minus minus = refl

abbrev Sig : Shape → List Cell → ℕ → ℕ → ℕ → Bool
Sig s cells i dx dy = is_significant (neighbour s.width cells i dx dy)

abbrev Neg : Shape → List Cell → ℕ → ℕ → ℕ → Bool
Neg s cells i dx dy = (neighbour s.width cells i dx dy).negative

module _ (s : Shape) (p i column stripe r : ℕ) (cells : List Cell) (left word right : ℕ)
    (few : r < 4) (at : IsIn s.width i column stripe r) (some : 0 < s.width)
    (is_left : IsFlagWord s.width p cells (column - 1) stripe left)
    (is : IsFlagWord s.width p cells column stripe word)
    (is_right : IsFlagWord s.width p cells (column + 1) stripe right) where
  -- a sign in a word of column x
  sign_in : (x v k y bx by : ℕ) → IsFlagWord s.width p cells x stripe v → k < 32
      → ((se n f t : Bool) → (row_of k ≡ y) × (column_of k ≡ 1) × (flag_at k se n f t ≡ n))
      → x + 1 - 1 ≡ bx → 4 * stripe + y - 4 ≡ by →
      bit_at v k ≡ number (bordered s.width cells bx by).negative
  sign_in x v k y bx by shown l places ex ey =
      shown k l
      ∙ ap number (places _ _ _ _).2
      ∙ ap (λ (n : ℕ). number (around s.width cells x stripe n (column_of k)).negative)
      (places true true true true).0
      ∙ ap (λ (n : ℕ). number (around s.width cells x stripe y n).negative)
      (places true true true true).1
      ∙ ap (λ (n : ℕ). number (bordered s.width cells n (4 * stripe + y - 4)).negative) ex
      ∙ ap (λ (n : ℕ). number (bordered s.width cells bx n).negative) ey

  abbrev S : ℕ → ℕ → Bool
  S dx dy = Sig s cells i dx dy

  abbrev N : ℕ → ℕ → Bool
  N dx dy = Neg s cells i dx dy

  above_is : (k : ℕ) → k ≡ (if r == 0 then 18 else 3 * r + 16) → bit_at word k ≡ number (N 1 0)
  above_is k e =
      let ex : column ≡ suc (i % s.width) = at.column_is in
      let ey : 4 * stripe + r ≡ i / s.width + 4 = at.row_is in
      sign_in column word k r (i % s.width + 1) (i / s.width + 0) is
      (above_places r few true true true true 0 k e).3
      (λ se n f t. (let h = above_places r few se n f t 0 k e in (h.0, h.1, h.2))) (omega arith)
      (omega arith)

  chosen : (t : Bool) → (r == 0) ≡ t →
      (if t then bit_at word 18 else bit_at word (3 * r + 16)) ≡ number (N 1 0)
  chosen true e = above_is 18 (ap (λ (b : Bool). if b then 18 else 3 * r + 16) (sym e))
  chosen false e = above_is (3 * r + 16) (ap (λ (b : Bool). if b then 18 else 3 * r + 16) (sym e))

  index_is : index_of left word right r
      ≡ index_by (N 0 1) (S 1 0) (N 2 1) (S 0 1) (N 1 0) (S 2 1) (N 1 2) (S 1 2)
  index_is =
      let ex : column ≡ suc (i % s.width) = at.column_is in
      let ey : 4 * stripe + r ≡ i / s.width + 4 = at.row_is in
      let sig : (dx dy : ℕ) → dx < 3 → dy < 3 →
      bit_at word (3 * r + (3 * dy + dx)) ≡ number (S dx dy) =
      sig_bit s.width p i column stripe r cells word few at some is in
      let nl : bit_at left (3 * r + 19) ≡ number (N 0 1) =
      sign_in (column - 1) left (3 * r + 19) (suc r) (i % s.width + 0) (i / s.width + 1) is_left
      (omega arith) (beside_places r few) (omega arith) (omega arith) in
      let nr : bit_at right (3 * r + 19) ≡ number (N 2 1) =
      sign_in (column + 1) right (3 * r + 19) (suc r) (i % s.width + 2) (i / s.width + 1) is_right
      (omega arith) (beside_places r few) (omega arith) (omega arith) in
      let nb : bit_at word (3 * r + 22) ≡ number (N 1 2) =
      sign_in column word (3 * r + 22) (suc (suc r)) (i % s.width + 1) (i / s.width + 2) is
      (omega arith) (below_places r few) (omega arith) (omega arith) in
      let na : (if r == 0 then bit_at word 18 else bit_at word (3 * r + 16)) ≡ number (N 1 0) =
      chosen (r == 0) refl in
      let sa : bit_at word (3 * r + 1) ≡ number (S 1 0) = sig 1 0 (omega arith) (omega arith) in
      let sl : bit_at word (3 * r + 3) ≡ number (S 0 1) = sig 0 1 (omega arith) (omega arith) in
      let sr : bit_at word (3 * r + 5) ≡ number (S 2 1) = sig 2 1 (omega arith) (omega arith) in
      let sb : bit_at word (3 * r + 7) ≡ number (S 1 2) = sig 1 2 (omega arith) (omega arith) in
      λ j. nl j + 2 * sa j + 4 * nr j + 8 * sl j + 16 * na j + 32 * sr j + 64 * nb j + 128 * sb j

  pub sign_by : (
    bit_and (get_or SIGN_CONTEXTS (index_of left word right r) 0) 127,
    leb 128
        (get_or SIGN_CONTEXTS (index_of left word right r) 0),
  ) ≡ sign_at s cells i
  unfolding sign_at
  sign_by =
      ap (λ (n : ℕ). (
        bit_and (get_or SIGN_CONTEXTS n 0) 127,
        leb 128
            (get_or SIGN_CONTEXTS n 0),
      )) index_is
      ∙ ap (λ (n : ℕ). (bit_and n 127, leb 128 n))
      (entry (N 0 1) (S 1 0) (N 2 1) (S 0 1) (N 1 0) (S 2 1) (N 1 2) (S 1 2))
      ∙ unpacked (both (contribution_by (S 0 1) (N 0 1)) (contribution_by (S 2 1) (N 2 1)))
      (both (contribution_by (S 1 0) (N 1 0)) (contribution_by (S 1 2) (N 1 2)))
