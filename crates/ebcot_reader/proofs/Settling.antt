-- In a cleanup pass each place that is significant has been read.
use Rattle.std.proofs.Common.{ℕ, zero, suc, ◌*◌, ◌≡◌, inl, inr, Bool, true}
use Rattle.std.proofs.Common.{false, not, ◌&&◌, List, [], ◌∷◌, length, get_or, replicate, set, refl}
use Rattle.std.proofs.Common.{sym, ap, ◌∙◌, subst, arith}
use Rattle.std.proofs.lemmas.Bool.{cases_eq, cases_lt, eqb-true}
use Rattle.std.proofs.lemmas.List.{get_or-set_same, get_or-set_other, get_or_past, length-set}
use Rattle.mq_coder.specs.Decisions.{Interval}
use Rattle.ebcot_contexts.specs.Cells.{Cell, fresh, cell_at, is_significant}
use Rattle.ebcot_contexts.specs.Contexts.{Shape}
use Rattle.ebcot_contexts.specs.Asks.{done}
use Rattle.ebcot_contexts.specs.Passes.{Kind, refinement, is_untouched, learned, sign_asked}
use Rattle.ebcot_contexts.specs.Passes.{after_bit, place, coded_in, visit, each, column, columns}
use Rattle.ebcot_contexts.specs.Passes.{scan, start, zeros}
use Rattle.ebcot_contexts.specs.Meaning.{next_decision}
use Rattle.ebcot_contexts.proofs.Trees.{AtEnds, at_chain, at_read}
use Rattle.ebcot_contexts.proofs.Kept.{new_kept, zeros_kept, visit_kept, each_kept, columns_kept}
use Rattle.ebcot_contexts.proofs.Covered.{In, Member, covered}
use Rattle.ebcot_reader.specs.Reading.{after}
use Rattle.ebcot_reader.specs.Runs.{head_at, head_found, run_head, calm_head, all_calm, column_head}
use Rattle.ebcot_reader.specs.Runs.{IsSettled}
use Rattle.ebcot_reader.proofs.Places.{untouched_inside}

settled_same : (p i : ℕ) (x : Cell) (cells : List Cell) → x.unknown ≡ p →
    is_untouched p (cell_at (set cells i x) i) ≡ true → ⊥
settled_same p i x cells e open_place = elim (cases_lt i (length cells)) [
  | inl inside ↦
      let known : (cell_at (set cells i x) i).unknown ≡ p =
      ap (λ (c : Cell). c.unknown) (get_or-set_same cells i x (fresh 0) inside) ∙ e in
      let one : (cell_at (set cells i x) i).unknown ≡ suc p = eqb-true _ _ open_place in
      omega arith
  | inr past ↦
      let long = length-set cells i x in
      let none : (cell_at (set cells i x) i).unknown ≡ 0 =
      ap (λ (c : Cell). c.unknown) (get_or_past (set cells i x) i (fresh 0) (omega arith)) in
      let one : (cell_at (set cells i x) i).unknown ≡ suc p = eqb-true _ _ open_place in
      omega arith
]

settled_kept : (p : ℕ) (cells : List Cell) (i : ℕ) (x : Cell) → x.unknown ≡ p →
    IsSettled p cells → IsSettled p (set cells i x)
settled_kept p cells i x e h = λ k open_place. elim (cases_eq k i) [
  | inl same ↦ absurd (settled_same p i x cells e
      (subst (λ (v : ℕ). is_untouched p (cell_at (set cells i x) v) ≡ true) same open_place))
  | inr other ↦
      let is = get_or-set_other cells i k x (fresh 0) other in
      ap is_significant is ∙ h k (ap (is_untouched p) (sym is) ∙ open_place)
]

pub settled_after : (bytes : List ℕ) (s : Shape) (p : ℕ) (kind : Kind) (cs : List (List ℕ))
    (st : List Cell × Interval) → IsSettled p st.0
    → IsSettled p (after bytes st (columns kind s p cs)).0
settled_after bytes s p kind cs st h =
    at_read (next_decision bytes) (IsSettled p) st.1 (columns kind s p cs st.0)
    (columns_kept (IsSettled p) p (settled_kept p) s kind cs st.0 h)

pub settled_visit : (bytes : List ℕ) (s : Shape) (p : ℕ) (kind : Kind) (i : ℕ)
    (st : List Cell × Interval) → IsSettled p st.0
    → IsSettled p (after bytes st (visit kind s p i)).0
settled_visit bytes s p kind i st h =
    at_read (next_decision bytes) (IsSettled p) st.1 (visit kind s p i st.0)
    (visit_kept (IsSettled p) p (settled_kept p) s kind i st.0 h)

-- The head of a column.

settled_at : (s : Shape) (p a b c d : ℕ) (cells : List Cell) (h l : Bool) → IsSettled p cells →
    AtEnds (IsSettled p) (head_at s p a b c d cells h l)
settled_at s p a b c d cells false false h = new_kept (IsSettled p) p (settled_kept p) s a cells h
settled_at s p a b c d cells false true h =
    new_kept (IsSettled p) p (settled_kept p) s b (zeros p (a ∷ []) cells)
    (zeros_kept (IsSettled p) p (settled_kept p) s (a ∷ []) cells h)
settled_at s p a b c d cells true false h =
    new_kept (IsSettled p) p (settled_kept p) s c (zeros p (a ∷ b ∷ []) cells)
    (zeros_kept (IsSettled p) p (settled_kept p) s (a ∷ b ∷ []) cells h)
settled_at s p a b c d cells true true h =
    new_kept (IsSettled p) p (settled_kept p) s d (zeros p (a ∷ b ∷ c ∷ []) cells)
    (zeros_kept (IsSettled p) p (settled_kept p) s (a ∷ b ∷ c ∷ []) cells h)

settled_found : (s : Shape) (p a b c d : ℕ) (cells : List Cell) (t : Bool) → IsSettled p cells →
    AtEnds (IsSettled p) (head_found s p a b c d cells t)
settled_found s p a b c d cells false h =
    zeros_kept (IsSettled p) p (settled_kept p) s (a ∷ b ∷ c ∷ d ∷ []) cells h
settled_found s p a b c d cells true h = λ x y. settled_at s p a b c d cells x y h

settled_head : (s : Shape) (p a b c d : ℕ) (cells : List Cell) (t : Bool) → IsSettled p cells →
    AtEnds (IsSettled p) (calm_head s p a b c d cells t)
unfolding run_head
settled_head s p a b c d cells false h = h
settled_head s p a b c d cells true h = λ t. settled_found s p a b c d cells t h

pub head_settled : (bytes : List ℕ) (s : Shape) (p a b c d : ℕ) (st : List Cell × Interval) →
    IsSettled p st.0
    → IsSettled p (after bytes st (column_head s p a b c d)).0
head_settled bytes s p a b c d st h =
    at_read (next_decision bytes) (IsSettled p) st.1 (column_head s p a b c d st.0)
    (settled_head s p a b c d st.0 (all_calm s p st.0 a b c d) h)

-- After a refinement pass each significant place has been read.

-- whatever the cells are
abbrev Any : List Cell → Type 0
Any cells = Unit {0}

abbrev SettledAt : ℕ → ℕ → List Cell → Type 0
SettledAt p i cells = is_untouched p (cell_at cells i) ≡ true →
    is_significant (cell_at cells i) ≡ false

at_kept : (p i : ℕ) (cells : List Cell) (j : ℕ) (x : Cell) → x.unknown ≡ p → SettledAt p i cells →
    SettledAt p i (set cells j x)
at_kept p i cells j x e h = λ open_place. elim (cases_eq i j) [
  | inl same ↦ absurd (settled_same p j x cells e
      (subst (λ (v : ℕ). is_untouched p (cell_at (set cells j x) v) ≡ true) same open_place))
  | inr other ↦
      let is = get_or-set_other cells j i x (fresh 0) other in
      ap is_significant is ∙ h (ap (is_untouched p) (sym is) ∙ open_place)
]

module _ (p i : ℕ) (s : Shape) where
  set_settles : (cells : List Cell) (x : Cell) → x.unknown ≡ p → SettledAt p i (set cells i x)
  set_settles cells x e = λ open_place. absurd (settled_same p i x cells e open_place)

  new_settles : (cells : List Cell) → AtEnds (SettledAt p i) (sign_asked s p i cells)
  unfolding sign_asked
  new_settles cells = λ b. set_settles cells _ refl

  after_settles : (t b : Bool) (cells : List Cell) →
      AtEnds (SettledAt p i) (elim t [
        | true ↦ sign_asked s p i cells
        | false ↦ done
            (learned p b i cells)
      ])
  after_settles true b cells = new_settles cells
  after_settles false b cells = set_settles cells _ refl

  place_settles : (cx : ℕ) (cells : List Cell) → AtEnds (SettledAt p i) (place s cx p i cells)
  unfolding place after_bit
  place_settles cx cells = λ b. after_settles (b && not (is_significant (cell_at cells i))) b cells

  visit_if : (t : Bool) (cx : ℕ) (cells : List Cell) →
      (is_untouched p (cell_at cells i) && is_significant (cell_at cells i)) ≡ t
      → AtEnds (SettledAt p i) (elim t [ true ↦ place s cx p i cells | false ↦ done cells ])
  visit_if true cx cells e = place_settles cx cells
  visit_if false cx cells e =
      λ open_place. sym (ap (λ (b : Bool). b && is_significant (cell_at cells i)) open_place) ∙ e

  visit_settles : (cells : List Cell) → AtEnds (SettledAt p i) (visit refinement s p i cells)
  unfolding visit
  visit_settles cells = visit_if
      (is_untouched p (cell_at cells i) && is_significant (cell_at cells i))
      (coded_in refinement s i cells) cells refl

  each_settles : (is : List ℕ) (cells : List Cell) → In i is →
      AtEnds (SettledAt p i) (each refinement s p is cells)
  each_settles [] cells m = absurd m
  each_settles (j ∷ js) cells (inl e) =
      at_chain (SettledAt p i) (SettledAt p i) (visit refinement s p j cells)
      (each refinement s p js)
      (subst (λ (v : ℕ). AtEnds (SettledAt p i) (visit refinement s p v cells)) e
      (visit_settles cells))
      (λ c h. each_kept (SettledAt p i) p (at_kept p i) s refinement js c h)
  each_settles (j ∷ js) cells (inr m) =
      at_chain Any (SettledAt p i) (visit refinement s p j cells) (each refinement s p js)
      (visit_kept Any p (λ c k x e h. tt) s refinement j cells tt) (λ c h. each_settles js c m)

  columns_settle : (cs : List (List ℕ)) (cells : List Cell) → Member i cs →
      AtEnds (SettledAt p i) (columns refinement s p cs cells)
  columns_settle [] cells m = absurd m
  columns_settle (is ∷ rest) cells (inl m) =
      at_chain (SettledAt p i) (SettledAt p i) (column refinement s p is cells)
      (columns refinement s p rest) (each_settles is cells m)
      (λ c h. columns_kept (SettledAt p i) p (at_kept p i) s refinement rest c h)
  columns_settle (is ∷ rest) cells (inr m) =
      at_chain Any (SettledAt p i) (column refinement s p is cells) (columns refinement s p rest)
      (each_kept Any p (λ c k x e h. tt) s refinement is cells tt) (λ c h. columns_settle rest c m)

pub refined_settles : (bytes : List ℕ) (s : Shape) (p : ℕ) (st : List Cell × Interval)
    → length (after bytes st (columns refinement s p (scan s.width s.height))).0
    ≡ s.width * s.height
    → IsSettled p (after bytes st (columns refinement s p (scan s.width s.height))).0
refined_settles bytes s p st long = λ i open_place.
    let known : List Cell = (after bytes st (columns refinement s p (scan s.width s.height))).0 in
    let inside = untouched_inside p i known open_place in
    at_read (next_decision bytes) (SettledAt p i) st.1
    (columns refinement s p (scan s.width s.height) st.0)
    (columns_settle p i s (scan s.width s.height) st.0
    (covered s.width s.height i (omega arith))) open_place

-- nothing is significant in a block of which nothing is known
new_cells : (n i u : ℕ) → is_significant (get_or (replicate n (fresh u)) i (fresh 0)) ≡ false
new_cells zero i u = refl
new_cells (suc n) zero u = refl
new_cells (suc n) (suc i) u = new_cells n i u

pub start_settled : (s : Shape) (p : ℕ) → IsSettled p (start s)
start_settled s p = λ i open_place. new_cells (s.width * s.height) i s.planes
