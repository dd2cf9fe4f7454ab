-- What was read, as it is set.
use Rattle.std.proofs.Common.{ℕ, suc, ◌+◌, ◌*◌, ◌/◌, ◌%◌, ◌^◌, ◌<◌, ◌≤◌, ◌≡◌, inl, inr}
use Rattle.std.proofs.Common.{Bool, true, false, not, ◌==◌, nat_eq, bit_and, List, length, get_or, set}
use Rattle.std.proofs.Common.{map, refl, sym, ap, ◌∙◌, subst, arith}
use Rattle.std.specs.Int.{bit_at}
use Rattle.std.proofs.Math.Nat.{mul-div_cancel, one-le-pow, pow-le-pow_right}
use Rattle.std.proofs.Math.ListN.{get_or-map}
use Rattle.std.proofs.lemmas.Bool.{cases_eq, eq-eqb, eqb-true, eqb-false, ne_eqb}
use Rattle.std.proofs.lemmas.List.{length-map, get_or-set_same, get_or-set_other, ext_get_or}
use Rattle.std.proofs.lemmas.Nat.{and_mask, mod_below, div_below, div-mul-add, mod-mul-add}
use Rattle.std.proofs.lemmas.Nat.Bits.{bit_at-lt}
use Rattle.codeblock_views.specs.KnownCells.{zero_known}
use Rattle.codeblock_views.specs.declared.known.Known.{Known}
use Rattle.ebcot_contexts.specs.Cells.{Cell, fresh, cell_at, coef_at, coef_of, number}
use Rattle.ebcot_contexts.specs.Contexts.{Shape}
use Rattle.ebcot_contexts.specs.Passes.{cleanup, is_coded}
use Rattle.ebcot_contexts.specs.Meaning.{IsBlock}
use Rattle.ebcot_contexts.proofs.Levels.{Between}
use Rattle.flag_words.specs.Words.{AreFlags, IsIn}
use Rattle.flag_words.proofs.Quiet.{cleanup_test}
use Rattle.ebcot_reader.specs.Reading.{word_of}
use Rattle.ebcot_reader.specs.Results.{cell_of_known, AreTops, AreSmall}

-- the place in column x and row y
pub place_is : (w x y : ℕ) → x < w → IsIn w (y * w + x) (x + 1) (y / 4 + 1) (y % 4)
place_is w x y within =
    let m = mod-mul-add y w x within in
    let d = div-mul-add y w x within in
    let split : 4 * (y / 4 + 1) + y % 4 ≡ y + 4 = omega arith in
    let column : x + 1 ≡ suc x = omega arith in
    record {
      column_is = column ∙ ap suc (sym m);
      row_is = split ∙ ap (λ (v : ℕ). v + 4) (sym d);
    }

-- Its word in the grid.

low_part : (value low : ℕ) (b : Bool) → value ≡ 0x80000000 * number b + low → low < 2 ^ 31
    → value % 2 ^ 31 ≡ low
low_part value low true e few = omega arith
low_part value low false e few = omega arith

high_part : (value low : ℕ) (b : Bool) → value ≡ 0x80000000 * number b + low → low < 2 ^ 31
    → nat_eq (value / 0x80000000) 1 ≡ b
high_part value low true e few =
    let one : value / 0x80000000 ≡ 1 = omega arith in ap (λ (v : ℕ). nat_eq v 1) one
high_part value low false e few =
    let none : value / 0x80000000 ≡ 0 = omega arith in ap (λ (v : ℕ). nat_eq v 1) none

pub magnitude_is : (value u : ℕ) (c : Cell) → value ≡ word_of c → (coef_of c).0 < 2 ^ 31 →
    u ≡ c.unknown → bit_and value 0x7FFFFFFF / 2 ^ u ≡ c.magnitude
magnitude_is value u c is few e =
    let some = one-le-pow c.unknown 2 (omega arith) in
    ap (λ (v : ℕ). bit_and value 0x7FFFFFFF / 2 ^ v) e
    ∙ (ap (λ (v : ℕ). v / 2 ^ c.unknown)
    (and_mask value 31 ∙ low_part value (c.magnitude * 2 ^ c.unknown) c.negative is few)
    ∙ mul-div_cancel c.magnitude {n = 2 ^ c.unknown} (omega arith))

pub negative_is : (value : ℕ) (c : Cell) → value ≡ word_of c → (coef_of c).0 < 2 ^ 31 →
    nat_eq (value / 0x80000000) 1 ≡ c.negative
negative_is value c is few = high_part value (c.magnitude * 2 ^ c.unknown) c.negative is few

-- Unknown bit-planes, by the flags.

not_set : (x : ℕ) → x < 2 → not (x == 1) ≡ true → x ≡ 0
not_set x few e =
    let other : (x == 1) ≡ false = twice (x == 1) true e in
    let differs : x ≡ 1 → ⊥ = eqb-false x 1 other in
    omega (arith, differs)
  where
    twice : (b c : Bool) → not b ≡ c → b ≡ not c
    twice true true h = cc
    twice true false h = refl
    twice false true h = refl
    twice false false h = cc

is_set : (x : ℕ) → not (x == 1) ≡ false → x ≡ 1
is_set x e = eqb-true x 1 (once (x == 1) e)
  where
    once : (b : Bool) → not b ≡ false → b ≡ true
    once true h = refl
    once false h = cc

pub tops_of_flags : (s : Shape) (p : ℕ) (cells : List Cell) (words : List ℕ) → s.width ≤ 32
    → s.height ≤ 32 → AreFlags s.width p cells words → Between (s.width * s.height) p cells
    → AreTops s.width (suc p) cells words
tops_of_flags s p cells words narrow low a between = λ i column stripe r at some inside few.
    let w : ℕ = s.width in
    let h : ℕ = s.height in
    let long = between.long in
    let n : w * h ≡ h * w = omega arith in
    let within : i < h * w = omega arith in
    let x = mod_below i w some in
    let y = div_below i w h some within in
    let column_is = at.column_is in
    let row_is = at.row_is in
    let bit : ℕ = bit_at (get_or words (34 * stripe + column) 0) (21 + 3 * r) in
    let two = bit_at-lt (get_or words (34 * stripe + column) 0) (21 + 3 * r) in
    let test : not (bit == 1) ≡ is_coded cleanup s p i cells =
    cleanup_test s p i column stripe r cells (get_or words (34 * stripe + column) 0) few at some
    (a.each column stripe (omega arith) (omega arith)) in
    elim (between.level i (omega arith)) [
      | inl e ↦
          let touched : bit ≡ 1 = is_set bit (test ∙ (ap (λ (u : ℕ). u == suc p) e
          ∙ ne_eqb p (suc p) (λ f. omega arith))) in
          omega arith
      | inr e ↦
          let open_place : bit ≡ 0 = not_set bit two (test ∙ (ap (λ (u : ℕ). u == suc p) e
          ∙ eq-eqb (suc p) (suc p) refl)) in
          omega arith
    ]

-- magnitudes of a block
pub small_of_block : (s : Shape) (cells : List Cell) → s.planes ≤ 31 →
    IsBlock (map coef_of cells) s → AreSmall cells
small_of_block s cells few block = λ i.
    let at : coef_at (map coef_of cells) i ≡ coef_of (cell_at cells i) =
    get_or-map coef_of cells i (fresh 0) in
    let below : (coef_of (cell_at cells i)).0 < 2 ^ s.planes =
    subst (λ (c : ℕ × Bool). c.0 < 2 ^ s.planes) at (block.below i) in
    let power = pow-le-pow_right {n = 2} (omega arith) {i = s.planes} {j = 31} few in
    omega arith

-- The cells that were set so far.

pub cells_more : (ks : List Known) (cells : List Cell) (i j : ℕ) (x : Known) → j ≡ i
    → i < length ks → cell_of_known x ≡ cell_at cells j
    → ((k : ℕ) → k < i → cell_of_known (get_or ks k zero_known) ≡ cell_at cells k)
    → (k : ℕ) → k < i + 1
    → cell_of_known (get_or (set ks j x) k zero_known) ≡ cell_at cells k
cells_more ks cells i j x e inside is before k few = elim (cases_eq k j) [
  | inl same ↦ subst (λ (v : ℕ). cell_of_known (get_or (set ks j x) v zero_known)
      ≡ cell_at cells v) (sym same)
      (ap cell_of_known (get_or-set_same ks j x zero_known (omega arith)) ∙ is)
  | inr other ↦ ap cell_of_known (get_or-set_other ks j k x zero_known other)
      ∙ before k (omega arith)
]

pub cells_all : (ks : List Known) (cells : List Cell) → length ks ≡ length cells
    → ((k : ℕ) → k < length cells → cell_of_known (get_or ks k zero_known) ≡ cell_at cells k)
    → map cell_of_known ks ≡ cells
cells_all ks cells e each =
    let long = length-map ks cell_of_known in
    ext_get_or (fresh 0) (map cell_of_known ks) cells (long ∙ e)
    (λ k within. get_or-map cell_of_known ks k zero_known ∙ each k (omega arith))
