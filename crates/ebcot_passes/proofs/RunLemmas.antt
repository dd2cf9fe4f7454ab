-- Run mode.
use Rattle.std.proofs.Common.{ℕ, suc, ◌/◌, ◌%◌, ◌<◌, ◌≡◌, inl, inr, Bool}
use Rattle.std.proofs.Common.{true, false, ◌||◌, ◌==◌, nat_le, List, []}
use Rattle.std.proofs.Common.{◌∷◌, ◌++◌, length, take, set, refl, sym, ap, ◌∙◌, subst}
use Rattle.std.proofs.Common.{arith, append_assoc}
use Rattle.std.proofs.lemmas.Bool.{cases_eq, ne_eqb}
use Rattle.std.proofs.lemmas.List.{get_or-set_same, get_or-set_other, length-set}
use Rattle.ebcot_passes.specs.PassCoder.{PassCoder}
use Rattle.ebcot_contexts.specs.Cells.{Cell, fresh, cell_at, coef_at, bit_of, is_significant, learn}
use Rattle.ebcot_contexts.specs.Contexts.{Shape}
use Rattle.ebcot_contexts.specs.Asks.{Asks, symbols, outcome, truth, interrupted}
use Rattle.ebcot_contexts.specs.Asks.{row_high, row_low, first}
use Rattle.ebcot_contexts.specs.Passes.{cleanup, learned, sign_asked, is_coded, each}
use Rattle.ebcot_contexts.specs.Passes.{zeros, found_at, any_found, run, four, column}
use Rattle.flag_words.specs.Words.{AreFlags}
use Rattle.ebcot_passes.specs.Coding.{IsRow, Holds, HoldsAfter, IsSplit}
use Rattle.ebcot_passes.specs.Runs.{head_at, head_found, run_head, all_calm}
use Rattle.ebcot_passes.specs.Runs.{zeros_of, row_place, AreNew}
use Rattle.ebcot_contexts.proofs.Shown.{learn_on}
use Rattle.ebcot_passes.proofs.Places.{holds_set, zero_plain, next_place, zero_held}
use Rattle.ebcot_passes.proofs.ColumnLemmas.{chained, Nested, nested_each, drop_first}

-- A place that has been coded in this plane.
pub record Touched (p i : ℕ) (cells : List Cell) : Type 0 where
  pub inside : i < length cells
  pub known : (cell_at cells i).unknown ≡ p

set_touched : (p i : ℕ) (cells : List Cell) (x : Cell) → i < length cells → x.unknown ≡ p →
    Touched p i (set cells i x)
set_touched p i cells x inside e =
    record {
      inside = rw length-set inside;
      known =
          ap (λ (c : Cell). c.unknown) (get_or-set_same cells i x (fresh 0) inside) ∙ e;
    }

kept_touched : (p k i : ℕ) (cells : List Cell) (x : Cell) → x.unknown ≡ p → Touched p k cells →
    Touched p k (set cells i x)
kept_touched p k i cells x e h = elim (cases_eq k i) [
  | inl same ↦ subst (λ (v : ℕ). Touched p k (set cells v x)) same
      (set_touched p k cells x h.inside e)
  | inr other ↦ record {
    inside = rw length-set h.inside;
    known = ap (λ (c : Cell). c.unknown) (get_or-set_other cells i k x (fresh 0) other) ∙ h.known;
  }
]

sign_touched : (coefs : List (ℕ × Bool)) (s : Shape) (p i : ℕ) (cells : List Cell) →
    i < length cells → Touched p i (outcome coefs (sign_asked s p i cells))
unfolding sign_asked
sign_touched coefs s p i cells inside = set_touched p i cells _ inside refl

sign_kept : (coefs : List (ℕ × Bool)) (s : Shape) (p k i : ℕ) (cells : List Cell) →
    Touched p k cells → Touched p k (outcome coefs (sign_asked s p i cells))
unfolding sign_asked
sign_kept coefs s p k i cells h = kept_touched p k i cells _ refl h

pub touched_uncoded : (s : Shape) (p k : ℕ) (cells : List Cell) → Touched p k cells →
    is_coded cleanup s p k cells ≡ false
touched_uncoded s p k cells h = ap (λ (u : ℕ). u == suc p) h.known
    ∙ ne_eqb p (suc p) (λ e. omega arith)

-- Places that learn a zero.

-- another place's cell stays
pub other_cell : (cells : List Cell) (i k : ℕ) (x : Cell) → (k ≡ i → ⊥) →
    is_significant (cell_at cells k) ≡ false → is_significant (cell_at (set cells i x) k) ≡ false
other_cell cells i k x other none = ap is_significant (get_or-set_other cells i k x (fresh 0) other)
    ∙ none

pub other_open : (cells : List Cell) (i k u : ℕ) (x : Cell) → (k ≡ i → ⊥) →
    (cell_at cells k).unknown ≡ u → (cell_at (set cells i x) k).unknown ≡ u
other_open cells i k u x other open_place =
    ap (λ (c : Cell). c.unknown) (get_or-set_other cells i k x (fresh 0) other) ∙ open_place

pub zero_holds : (coefs : List (ℕ × Bool)) (s : Shape) (p i : ℕ) (cells : List Cell)
    (l : List (ℕ × Bool)) (before words : List ℕ) (coder : PassCoder)
    → i < length cells → (cell_at cells i).unknown ≡ suc p
    → is_significant (cell_at cells i) ≡ false → bit_of (coef_at coefs i).0 p ≡ false
    → Holds coefs s p cells l before coder
    → AreFlags s.width p (learned p false i cells) words →
    Holds coefs s p (learned p false i cells) l words coder
zero_holds coefs s p i cells l before words coder inside open_place none bit h flags =
    let next = next_place coefs s p i cells l before coder h inside open_place in
    holds_set coefs s p i (learn p false (cell_at cells i)) cells l l before words coder coder
    inside
    (zero_plain p (cell_at cells i) none (h.plain i))
    (learn_on p false (cell_at cells i) (coef_at coefs i) open_place (inr refl) (h.shown i)
    (sym bit))
    h flags h.stands
    (zero_held coefs cells p i coder.distortion next h.shown none bit h.held)

-- places of different rows are different
pub rows_differ : (w i k column stripe r q n m j : ℕ) → IsRow w i column stripe r n j →
    IsRow w k column stripe q m j → (r ≡ q → ⊥) → i ≡ k → ⊥
rows_differ w i k column stripe r q n m j at to differ same =
    let e = at.place.row_is in
    let f = to.place.row_is in
    let same_row : i / w ≡ k / w = ap (λ (v : ℕ). v / w) same in
    differ (omega arith)

-- What is asked, by what the answers are.

module _ (coefs : List (ℕ × Bool)) (s : Shape) (p a b c d : ℕ) (cells : List Cell) where
  any_true : (h l : Bool) → truth coefs (row_high p a b c d) ≡ h →
      truth coefs (row_low p a b c d) ≡ l
      → outcome coefs (any_found s p a b c d cells true)
      ≡ outcome coefs (found_at s p a b c d cells h l)
  any_true h l eh el = λ i. outcome coefs (found_at s p a b c d cells (eh i) (el i))

  pub run_outcome : (h l : Bool) → truth coefs (interrupted p a b c d) ≡ true →
      truth coefs (row_high p a b c d) ≡ h → truth coefs (row_low p a b c d) ≡ l
      → outcome coefs (run s p a b c d cells) ≡ outcome coefs (found_at s p a b c d cells h l)
  unfolding run
  run_outcome h l et eh el = ap (λ (t : Bool). outcome coefs (any_found s p a b c d cells t)) et
      ∙ any_true h l eh el

  pub run_symbols : (h l : Bool) → truth coefs (interrupted p a b c d) ≡ true →
      truth coefs (row_high p a b c d) ≡ h → truth coefs (row_low p a b c d) ≡ l
      → symbols coefs (run s p a b c d cells)
      ≡ (17, true) ∷ (18, h) ∷ (18, l) ∷ symbols coefs (found_at s p a b c d cells h l)
  unfolding run
  run_symbols h l et eh el =
      ap (λ (t : Bool). (17, t) ∷ symbols coefs (any_found s p a b c d cells t)) et
      ∙ (λ i. (17, true) ∷ (18, eh i) ∷ (18, el i)
      ∷ symbols coefs (found_at s p a b c d cells (eh i) (el i)))

  pub head_outcome : (h l : Bool) → truth coefs (interrupted p a b c d) ≡ true →
      truth coefs (row_high p a b c d) ≡ h → truth coefs (row_low p a b c d) ≡ l
      → outcome coefs (run_head s p a b c d cells) ≡ outcome coefs (head_at s p a b c d cells h l)
  unfolding run_head
  head_outcome h l et eh el =
      ap (λ (t : Bool). outcome coefs (head_found s p a b c d cells t)) et
      ∙ (λ i. outcome coefs (head_at s p a b c d cells (eh i) (el i)))

  pub head_symbols : (h l : Bool) → truth coefs (interrupted p a b c d) ≡ true →
      truth coefs (row_high p a b c d) ≡ h → truth coefs (row_low p a b c d) ≡ l
      → symbols coefs (run_head s p a b c d cells)
      ≡ (17, true) ∷ (18, h) ∷ (18, l) ∷ symbols coefs (head_at s p a b c d cells h l)
  unfolding run_head
  head_symbols h l et eh el =
      ap (λ (t : Bool). (17, t) ∷ symbols coefs (head_found s p a b c d cells t)) et
      ∙ (λ i. (17, true) ∷ (18, eh i) ∷ (18, el i)
      ∷ symbols coefs (head_at s p a b c d cells (eh i) (el i)))

  pub run_none : truth coefs (interrupted p a b c d) ≡ false
      → (outcome coefs (run s p a b c d cells) ≡ zeros p (a ∷ b ∷ c ∷ d ∷ []) cells) ×
      (symbols coefs (run s p a b c d cells) ≡ (17, false) ∷ [])
  unfolding run
  run_none et = (
    ap (λ (t : Bool). outcome coefs (any_found s p a b c d cells t)) et,
    ap (λ (t : Bool). (17, t) ∷ symbols coefs (any_found s p a b c d cells t)) et,
  )

  pub head_none : truth coefs (interrupted p a b c d) ≡ false
      → (outcome coefs (run_head s p a b c d cells) ≡ zeros p (a ∷ b ∷ c ∷ d ∷ []) cells) ×
      (symbols coefs (run_head s p a b c d cells) ≡ (17, false) ∷ [])
  unfolding run_head
  head_none et = (
    ap (λ (t : Bool). outcome coefs (head_found s p a b c d cells t)) et,
    ap (λ (t : Bool). (17, t) ∷ symbols coefs (head_found s p a b c d cells t)) et,
  )

-- the answers of run mode, by the four bits
pub record Answers (coefs : List (ℕ × Bool)) (p a b c d : ℕ) (x y z v : Bool) : Type 0 where
  pub a_is : bit_of (coef_at coefs a).0 p ≡ x
  pub b_is : bit_of (coef_at coefs b).0 p ≡ y
  pub c_is : bit_of (coef_at coefs c).0 p ≡ z
  pub d_is : bit_of (coef_at coefs d).0 p ≡ v

answer_some : (coefs : List (ℕ × Bool)) (p a b c d : ℕ) (x y z v : Bool) →
    Answers coefs p a b c d x y z v
    → truth coefs (interrupted p a b c d) ≡ (x || y || z || v)
answer_some coefs p a b c d x y z v h = λ i. h.a_is i || h.b_is i || h.c_is i || h.d_is i

answer_high : (coefs : List (ℕ × Bool)) (p a b c d : ℕ) (x y z v : Bool) →
    Answers coefs p a b c d x y z v
    → truth coefs (row_high p a b c d) ≡ nat_le 2 (first x y z)
answer_high coefs p a b c d x y z v h = λ i. nat_le 2 (first (h.a_is i) (h.b_is i) (h.c_is i))

answer_low : (coefs : List (ℕ × Bool)) (p a b c d : ℕ) (x y z v : Bool) →
    Answers coefs p a b c d x y z v
    → truth coefs (row_low p a b c d) ≡ (first x y z % 2 == 1)
answer_low coefs p a b c d x y z v h = λ i. first (h.a_is i) (h.b_is i) (h.c_is i) % 2 == 1

-- The head of a run as it is coded.

pub head_zeros : (coefs : List (ℕ × Bool)) (s : Shape) (p a b c d : ℕ) (cells : List Cell)
    (l : List (ℕ × Bool)) (words : List ℕ) (coder : PassCoder)
    → Answers coefs p a b c d false false false false
    → Holds coefs s p (zeros p (a ∷ b ∷ c ∷ d ∷ []) cells) (l ++ (17, false) ∷ []) words coder
    → HoldsAfter coefs s p (run_head s p a b c d cells) l words coder
head_zeros coefs s p a b c d cells l words coder h held =
    let e = head_none coefs s p a b c d cells
    (answer_some coefs p a b c d false false false false h) in
    rw (e.0, e.1) held

head_by : (coefs : List (ℕ × Bool)) (s : Shape) (p a b c d : ℕ) (cells : List Cell)
    (l : List (ℕ × Bool)) (words : List ℕ) (coder : PassCoder) (high low : Bool)
    → truth coefs (interrupted p a b c d) ≡ true → truth coefs (row_high p a b c d) ≡ high →
    truth coefs (row_low p a b c d) ≡ low
    → HoldsAfter coefs s p (head_at s p a b c d cells high low)
    (l ++ (17, true) ∷ (18, high) ∷ (18, low) ∷ []) words coder
    → HoldsAfter coefs s p (run_head s p a b c d cells) l words coder
head_by coefs s p a b c d cells l words coder high low et eh el held =
    let q : List (ℕ × Bool) = (17, true) ∷ (18, high) ∷ (18, low) ∷ [] in
    let t : Asks = head_at s p a b c d cells high low in
    let joined : Holds coefs s p (outcome coefs t)
    (l ++ (17, true) ∷ (18, high) ∷ (18, low) ∷ symbols coefs t) words coder =
    subst (λ (k : List (ℕ × Bool)). Holds coefs s p (outcome coefs t) k words coder)
    (append_assoc l q (symbols coefs t)) held in
    let named : Holds coefs s p (outcome coefs t)
    (l ++ symbols coefs (run_head s p a b c d cells)) words coder =
    subst (λ (k : List (ℕ × Bool)). Holds coefs s p (outcome coefs t) (l ++ k) words coder)
    (sym (head_symbols coefs s p a b c d cells high low et eh el)) joined in
    subst (λ (known : List Cell). Holds coefs s p known
    (l ++ symbols coefs (run_head s p a b c d cells)) words coder)
    (sym (head_outcome coefs s p a b c d cells high low et eh el)) named

-- the row of the first 1 is `row`
pub head_holds : (coefs : List (ℕ × Bool)) (s : Shape) (p a b c d : ℕ) (cells : List Cell)
    (l : List (ℕ × Bool)) (words : List ℕ) (coder : PassCoder) (row : ℕ) (x y z v : Bool)
    → Answers coefs p a b c d x y z v → row ≡ zeros_of x y z v → row < 4
    → HoldsAfter coefs s p (sign_asked s p (row_place row a b c d)
    (zeros p (take row (a ∷ b ∷ c ∷ d ∷ [])) cells))
    (l ++ (17, true) ∷ (18, nat_le 2 row) ∷ (18, row % 2 == 1) ∷ []) words coder
    → HoldsAfter coefs s p (run_head s p a b c d cells) l words coder
head_holds coefs s p a b c d cells l words coder row true y z v h is few held =
    head_by coefs s p a b c d cells l words coder false false
    (answer_some coefs p a b c d true y z v h)
    (answer_high coefs p a b c d true y z v h) (answer_low coefs p a b c d true y z v h)
    (subst (λ (k : ℕ). HoldsAfter coefs s p
    (sign_asked s p (row_place k a b c d) (zeros p (take k (a ∷ b ∷ c ∷ d ∷ [])) cells))
    (l ++ (17, true) ∷ (18, nat_le 2 k) ∷ (18, k % 2 == 1) ∷ []) words coder) is held)
head_holds coefs s p a b c d cells l words coder row false true z v h is few held =
    head_by coefs s p a b c d cells l words coder false true
    (answer_some coefs p a b c d false true z v h)
    (answer_high coefs p a b c d false true z v h) (answer_low coefs p a b c d false true z v h)
    (subst (λ (k : ℕ). HoldsAfter coefs s p
    (sign_asked s p (row_place k a b c d) (zeros p (take k (a ∷ b ∷ c ∷ d ∷ [])) cells))
    (l ++ (17, true) ∷ (18, nat_le 2 k) ∷ (18, k % 2 == 1) ∷ []) words coder) is held)
head_holds coefs s p a b c d cells l words coder row false false true v h is few held =
    head_by coefs s p a b c d cells l words coder true false
    (answer_some coefs p a b c d false false true v h)
    (answer_high coefs p a b c d false false true v h)
    (answer_low coefs p a b c d false false true v h)
    (subst (λ (k : ℕ). HoldsAfter coefs s p
    (sign_asked s p (row_place k a b c d) (zeros p (take k (a ∷ b ∷ c ∷ d ∷ [])) cells))
    (l ++ (17, true) ∷ (18, nat_le 2 k) ∷ (18, k % 2 == 1) ∷ []) words coder) is held)
head_holds coefs s p a b c d cells l words coder row false false false true h is few held =
    head_by coefs s p a b c d cells l words coder true true
    (answer_some coefs p a b c d false false false true h)
    (answer_high coefs p a b c d false false false true h)
    (answer_low coefs p a b c d false false false true h)
    (subst (λ (k : ℕ). HoldsAfter coefs s p
    (sign_asked s p (row_place k a b c d) (zeros p (take k (a ∷ b ∷ c ∷ d ∷ [])) cells))
    (l ++ (17, true) ∷ (18, nat_le 2 k) ∷ (18, k % 2 == 1) ∷ []) words coder) is held)
head_holds coefs s p a b c d cells l words coder row false false false false h is few held =
    absurd (omega arith)

-- The whole run, once the rows of the column have been gone through.

run_by : (coefs : List (ℕ × Bool)) (s : Shape) (p a b c d : ℕ) (cells : List Cell)
    (l : List (ℕ × Bool)) (words : List ℕ) (coder : PassCoder) (high low : Bool)
    → truth coefs (interrupted p a b c d) ≡ true → truth coefs (row_high p a b c d) ≡ high →
    truth coefs (row_low p a b c d) ≡ low
    → HoldsAfter coefs s p (found_at s p a b c d cells high low)
    (l ++ (17, true) ∷ (18, high) ∷ (18, low) ∷ []) words coder
    → HoldsAfter coefs s p (run s p a b c d cells) l words coder
run_by coefs s p a b c d cells l words coder high low et eh el held =
    let q : List (ℕ × Bool) = (17, true) ∷ (18, high) ∷ (18, low) ∷ [] in
    let t : Asks = found_at s p a b c d cells high low in
    let joined : Holds coefs s p (outcome coefs t)
    (l ++ (17, true) ∷ (18, high) ∷ (18, low) ∷ symbols coefs t) words coder =
    subst (λ (k : List (ℕ × Bool)). Holds coefs s p (outcome coefs t) k words coder)
    (append_assoc l q (symbols coefs t)) held in
    let named : Holds coefs s p (outcome coefs t)
    (l ++ symbols coefs (run s p a b c d cells)) words coder =
    subst (λ (k : List (ℕ × Bool)). Holds coefs s p (outcome coefs t) (l ++ k) words coder)
    (sym (run_symbols coefs s p a b c d cells high low et eh el)) joined in
    subst (λ (known : List Cell). Holds coefs s p known
    (l ++ symbols coefs (run s p a b c d cells)) words coder)
    (sym (run_outcome coefs s p a b c d cells high low et eh el)) named

-- the rows after the head, by the head's own answers
rows_by : (coefs : List (ℕ × Bool)) (s : Shape) (p a b c d : ℕ) (cells : List Cell)
    (l : List (ℕ × Bool)) (words : List ℕ) (coder : PassCoder) (high low : Bool)
    → truth coefs (interrupted p a b c d) ≡ true → truth coefs (row_high p a b c d) ≡ high →
    truth coefs (row_low p a b c d) ≡ low
    → Nested coefs s p cleanup (a ∷ b ∷ c ∷ d ∷ []) (outcome coefs (run_head s p a b c d cells))
    (l ++ symbols coefs (run_head s p a b c d cells)) words coder
    → Nested coefs s p cleanup (a ∷ b ∷ c ∷ d ∷ [])
    (outcome coefs (head_at s p a b c d cells high low))
    ((l ++ (17, true) ∷ (18, high) ∷ (18, low) ∷ [])
    ++ symbols coefs (head_at s p a b c d cells high low)) words coder
rows_by coefs s p a b c d cells l words coder high low et eh el h =
    let rows : List ℕ = a ∷ b ∷ c ∷ d ∷ [] in
    let t : Asks = head_at s p a b c d cells high low in
    let h1 : Nested coefs s p cleanup rows (outcome coefs t)
    (l ++ symbols coefs (run_head s p a b c d cells)) words coder =
    subst (λ (known : List Cell). Nested coefs s p cleanup rows known
    (l ++ symbols coefs (run_head s p a b c d cells)) words coder)
    (head_outcome coefs s p a b c d cells high low et eh el) h in
    let h2 : Nested coefs s p cleanup rows (outcome coefs t)
    (l ++ (17, true) ∷ (18, high) ∷ (18, low) ∷ symbols coefs t) words coder =
    subst (λ (k : List (ℕ × Bool)). Nested coefs s p cleanup rows (outcome coefs t)
    (l ++ k) words coder)
    (head_symbols coefs s p a b c d cells high low et eh el) h1 in
    subst (λ (k : List (ℕ × Bool)). Nested coefs s p cleanup rows (outcome coefs t) k words coder)
    (sym (append_assoc l ((17, true) ∷ (18, high) ∷ (18, low) ∷ []) (symbols coefs t))) h2

pub run_holds : (coefs : List (ℕ × Bool)) (s : Shape) (p a b c d : ℕ) (cells : List Cell)
    (l : List (ℕ × Bool)) (words : List ℕ) (coder : PassCoder) (x y z v : Bool)
    → Answers coefs p a b c d x y z v → AreNew p cells a b c d
    → Nested coefs s p cleanup (a ∷ b ∷ c ∷ d ∷ []) (outcome coefs (run_head s p a b c d cells))
    (l ++ symbols coefs (run_head s p a b c d cells)) words coder
    → HoldsAfter coefs s p (run s p a b c d cells) l words coder
run_holds coefs s p a b c d cells l words coder true y z v h new held =
    let et = answer_some coefs p a b c d true y z v h in
    let eh = answer_high coefs p a b c d true y z v h in
    let el = answer_low coefs p a b c d true y z v h in
    let k : List (ℕ × Bool) = l ++ (17, true) ∷ (18, false) ∷ (18, false) ∷ [] in
    let known : List Cell = outcome coefs (sign_asked s p a cells) in
    let ta = sign_touched coefs s p a cells new.in_first in
    let rows = rows_by coefs s p a b c d cells l words coder false false et eh el held in
    let below = drop_first coefs s p cleanup a (b ∷ c ∷ d ∷ []) known _ words coder
    (touched_uncoded s p a known ta) rows in
    run_by coefs s p a b c d cells l words coder false false et eh el
    (chained s p coefs k (sign_asked s p a cells) (each cleanup s p (b ∷ c ∷ d ∷ [])) words coder
    (nested_each coefs s p cleanup (b ∷ c ∷ d ∷ []) known _ words coder below))
run_holds coefs s p a b c d cells l words coder false true z v h new held =
    let et = answer_some coefs p a b c d false true z v h in
    let eh = answer_high coefs p a b c d false true z v h in
    let el = answer_low coefs p a b c d false true z v h in
    let k : List (ℕ × Bool) = l ++ (17, true) ∷ (18, false) ∷ (18, true) ∷ [] in
    let c1 : List Cell = learned p false a cells in
    let known : List Cell = outcome coefs (sign_asked s p b c1) in
    let ta = sign_kept coefs s p a b c1 (set_touched p a cells _ new.in_first refl) in
    let tb = sign_touched coefs s p b c1 (rw length-set new.in_second) in
    let rows = rows_by coefs s p a b c d cells l words coder false true et eh el held in
    let below = drop_first coefs s p cleanup b (c ∷ d ∷ []) known _ words coder
    (touched_uncoded s p b known tb)
    (drop_first coefs s p cleanup a (b ∷ c ∷ d ∷ []) known _ words coder
    (touched_uncoded s p a known ta) rows) in
    run_by coefs s p a b c d cells l words coder false true et eh el
    (chained s p coefs k (sign_asked s p b c1) (each cleanup s p (c ∷ d ∷ [])) words coder
    (nested_each coefs s p cleanup (c ∷ d ∷ []) known _ words coder below))
run_holds coefs s p a b c d cells l words coder false false true v h new held =
    let et = answer_some coefs p a b c d false false true v h in
    let eh = answer_high coefs p a b c d false false true v h in
    let el = answer_low coefs p a b c d false false true v h in
    let k : List (ℕ × Bool) = l ++ (17, true) ∷ (18, true) ∷ (18, false) ∷ [] in
    let c1 : List Cell = learned p false a cells in
    let c2 : List Cell = learned p false b c1 in
    let known : List Cell = outcome coefs (sign_asked s p c c2) in
    let ta = sign_kept coefs s p a c c2
    (kept_touched p a b c1 _ refl (set_touched p a cells _ new.in_first refl)) in
    let tb = sign_kept coefs s p b c c2 (set_touched p b c1 _ (rw length-set new.in_second) refl) in
    let tc = sign_touched coefs s p c c2 (rw (length-set, length-set) new.in_third) in
    let rows = rows_by coefs s p a b c d cells l words coder true false et eh el held in
    let below = drop_first coefs s p cleanup c (d ∷ []) known _ words coder
    (touched_uncoded s p c known tc)
    (drop_first coefs s p cleanup b (c ∷ d ∷ []) known _ words coder
    (touched_uncoded s p b known tb)
    (drop_first coefs s p cleanup a (b ∷ c ∷ d ∷ []) known _ words coder
    (touched_uncoded s p a known ta) rows)) in
    run_by coefs s p a b c d cells l words coder true false et eh el
    (chained s p coefs k (sign_asked s p c c2) (each cleanup s p (d ∷ [])) words coder
    (nested_each coefs s p cleanup (d ∷ []) known _ words coder below))
run_holds coefs s p a b c d cells l words coder false false false true h new held =
    let et = answer_some coefs p a b c d false false false true h in
    let eh = answer_high coefs p a b c d false false false true h in
    let el = answer_low coefs p a b c d false false false true h in
    let k : List (ℕ × Bool) = l ++ (17, true) ∷ (18, true) ∷ (18, true) ∷ [] in
    let c1 : List Cell = learned p false a cells in
    let c2 : List Cell = learned p false b c1 in
    let c3 : List Cell = learned p false c c2 in
    let known : List Cell = outcome coefs (sign_asked s p d c3) in
    let ta = sign_kept coefs s p a d c3
    (kept_touched p a c c2 _ refl (kept_touched p a b c1 _ refl
    (set_touched p a cells _ new.in_first refl))) in
    let tb = sign_kept coefs s p b d c3
    (kept_touched p b c c2 _ refl (set_touched p b c1 _ (rw length-set new.in_second) refl)) in
    let tc = sign_kept coefs s p c d c3
    (set_touched p c c2 _ (rw (length-set, length-set) new.in_third) refl) in
    let td = sign_touched coefs s p d c3 (rw (length-set, length-set, length-set) new.in_fourth) in
    let rows = rows_by coefs s p a b c d cells l words coder true true et eh el held in
    let below = drop_first coefs s p cleanup d [] known _ words coder
    (touched_uncoded s p d known td)
    (drop_first coefs s p cleanup c (d ∷ []) known _ words coder (touched_uncoded s p c known tc)
    (drop_first coefs s p cleanup b (c ∷ d ∷ []) known _ words coder
    (touched_uncoded s p b known tb)
    (drop_first coefs s p cleanup a (b ∷ c ∷ d ∷ []) known _ words coder
    (touched_uncoded s p a known ta) rows))) in
    run_by coefs s p a b c d cells l words coder true true et eh el
    (chained s p coefs k (sign_asked s p d c3) (each cleanup s p []) words coder
    (nested_each coefs s p cleanup [] known _ words coder below))
run_holds coefs s p a b c d cells l words coder false false false false h new held =
    let et = answer_some coefs p a b c d false false false false h in
    let e = head_none coefs s p a b c d cells et in
    let f = run_none coefs s p a b c d cells et in
    let c1 : List Cell = learned p false a cells in
    let c2 : List Cell = learned p false b c1 in
    let c3 : List Cell = learned p false c c2 in
    let known : List Cell = learned p false d c3 in
    let ta = kept_touched p a d c3 _ refl
    (kept_touched p a c c2 _ refl (kept_touched p a b c1 _ refl
    (set_touched p a cells _ new.in_first refl))) in
    let tb = kept_touched p b d c3 _ refl
    (kept_touched p b c c2 _ refl (set_touched p b c1 _ (rw length-set new.in_second) refl)) in
    let tc = kept_touched p c d c3 _ refl
    (set_touched p c c2 _ (rw (length-set, length-set) new.in_third) refl) in
    let td = set_touched p d c3 _ (rw (length-set, length-set, length-set) new.in_fourth) refl in
    let rows : Nested coefs s p cleanup (a ∷ b ∷ c ∷ d ∷ []) known
    (l ++ (17, false) ∷ []) words coder =
    subst (λ (k : List (ℕ × Bool)). Nested coefs s p cleanup (a ∷ b ∷ c ∷ d ∷ []) known
    (l ++ k) words coder) e.1
    (subst (λ (cs : List Cell). Nested coefs s p cleanup (a ∷ b ∷ c ∷ d ∷ []) cs
    (l ++ symbols coefs (run_head s p a b c d cells)) words coder) e.0 held) in
    let below : Holds coefs s p known (l ++ (17, false) ∷ []) words coder =
    drop_first coefs s p cleanup d [] known _ words coder (touched_uncoded s p d known td)
    (drop_first coefs s p cleanup c (d ∷ []) known _ words coder (touched_uncoded s p c known tc)
    (drop_first coefs s p cleanup b (c ∷ d ∷ []) known _ words coder
    (touched_uncoded s p b known tb)
    (drop_first coefs s p cleanup a (b ∷ c ∷ d ∷ []) known _ words coder
    (touched_uncoded s p a known ta) rows))) in
    rw (f.0, f.1) below

-- A column of a cleanup pass.

four_case : (s : Shape) (p a b c d : ℕ) (cells : List Cell) (t : Bool) →
    all_calm s p cells a b c d ≡ t
    → four s p a b c d cells ≡ elim t [
      | true ↦ run s p a b c d cells
      | false ↦ each cleanup s p
          (a ∷ b ∷ c ∷ d ∷ []) cells
    ]
unfolding four
four_case s p a b c d cells t e =
    ap (λ (v : Bool). elim v [
      | true ↦ run s p a b c d cells
      | false ↦ each cleanup s p
          (a ∷ b ∷ c ∷ d ∷ []) cells
    ]) e

-- outside of run mode
pub plain_column : (coefs : List (ℕ × Bool)) (s : Shape) (p : ℕ) (is : List ℕ) (a b c d n : ℕ)
    (cells : List Cell) (l : List (ℕ × Bool)) (words : List ℕ) (coder : PassCoder)
    → IsSplit n is a b c d → all_calm s p cells a b c d ≡ false
    → HoldsAfter coefs s p (each cleanup s p is cells) l words coder
    → HoldsAfter coefs s p (column cleanup s p is cells) l words coder
plain_column coefs s p is a b c d n cells l words coder (inl e) no_run h =
    subst (λ (js : List ℕ). HoldsAfter coefs s p (column cleanup s p js cells) l words coder)
    (sym e)
    (subst (λ (t : Asks). HoldsAfter coefs s p t l words coder)
    (sym (four_case s p a b c d cells false no_run))
    (subst (λ (js : List ℕ). HoldsAfter coefs s p (each cleanup s p js cells) l words coder) e h))
plain_column coefs s p is a b c d n cells l words coder (inr (inl (nd, e))) no_run h =
    subst (λ (js : List ℕ). HoldsAfter coefs s p (column cleanup s p js cells) l words coder)
    (sym e)
    (subst (λ (js : List ℕ). HoldsAfter coefs s p (each cleanup s p js cells) l words coder) e h)
plain_column coefs s p is a b c d n cells l words coder (inr (inr (inl (nc, nd, e)))) no_run h =
    subst (λ (js : List ℕ). HoldsAfter coefs s p (column cleanup s p js cells) l words coder)
    (sym e)
    (subst (λ (js : List ℕ). HoldsAfter coefs s p (each cleanup s p js cells) l words coder) e h)
plain_column coefs s p is a b c d n cells l words coder
    (inr (inr (inr (nb, nc, nd, e)))) no_run h =
    subst (λ (js : List ℕ). HoldsAfter coefs s p (column cleanup s p js cells) l words coder)
    (sym e)
    (subst (λ (js : List ℕ). HoldsAfter coefs s p (each cleanup s p js cells) l words coder) e h)

-- in run mode, where the last of the four places is one of the block
pub run_column : (coefs : List (ℕ × Bool)) (s : Shape) (p : ℕ) (is : List ℕ) (a b c d n : ℕ)
    (cells : List Cell) (l : List (ℕ × Bool)) (words : List ℕ) (coder : PassCoder)
    → IsSplit n is a b c d → d < n → all_calm s p cells a b c d ≡ true
    → HoldsAfter coefs s p (run s p a b c d cells) l words coder
    → HoldsAfter coefs s p (column cleanup s p is cells) l words coder
run_column coefs s p is a b c d n cells l words coder (inl e) inside calm h =
    subst (λ (js : List ℕ). HoldsAfter coefs s p (column cleanup s p js cells) l words coder)
    (sym e)
    (subst (λ (t : Asks). HoldsAfter coefs s p t l words coder)
    (sym (four_case s p a b c d cells true calm)) h)
run_column coefs s p is a b c d n cells l words coder (inr (inl (nd, e))) inside calm h =
    absurd (omega arith)
run_column coefs s p is a b c d n cells l words coder
    (inr (inr (inl (nc, nd, e)))) inside calm h = absurd (omega arith)
run_column coefs s p is a b c d n cells l words coder
    (inr (inr (inr (nb, nc, nd, e)))) inside calm h = absurd (omega arith)
