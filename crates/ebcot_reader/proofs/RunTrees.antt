-- Run mode, and then the four places one by one: those down to the first 1 ask nothing more.
use Rattle.std.proofs.Common.{ℕ, zero, suc, ◌*◌, ◌/◌, ◌<◌, ◌≡◌, inl, inr, Bool}
use Rattle.std.proofs.Common.{true, false, ◌==◌, List, [], ◌∷◌, ◌++◌, length, set, take}
use Rattle.std.proofs.Common.{refl, sym, ap, ◌∙◌, subst, arith}
use Rattle.std.proofs.lemmas.Bool.{cases_eq, ne_eqb, and_parts}
use Rattle.std.proofs.lemmas.List.{get_or-set_same, get_or-set_other, length-set}
use Rattle.mq_coder.specs.Decisions.{Interval}
use Rattle.mq_decoder.specs.declared.decoder.Decoder.{Decoder}
use Rattle.ebcot_contexts.specs.Cells.{Cell, fresh, cell_at, is_significant}
use Rattle.ebcot_contexts.specs.Contexts.{Shape}
use Rattle.ebcot_contexts.specs.Asks.{Asks, ask, chain, read, interrupted, row_high, row_low}
use Rattle.ebcot_contexts.specs.Passes.{cleanup, is_coded, learned, sign_asked, each, zeros, found}
use Rattle.ebcot_contexts.specs.Passes.{found_at, any_found, run, four, column}
use Rattle.ebcot_contexts.specs.Meaning.{next_decision}
use Rattle.ebcot_contexts.proofs.Trees.{AtEnds}
use Rattle.ebcot_contexts.proofs.Kept.{zeros_kept}
use Rattle.ebcot_contexts.proofs.Loops.{read_chain}
use Rattle.ebcot_reader.specs.Columns.{IsRow, AreRows, IsSplit}
use Rattle.ebcot_reader.specs.Runs.{head_at, head_found, run_head, calm_head, all_calm, column_head}
use Rattle.ebcot_reader.specs.Runs.{AreNew}
use Rattle.ebcot_reader.specs.Reading.{Holds, after}
use Rattle.ebcot_reader.proofs.Places.{untouched_inside, not_true}
use Rattle.ebcot_reader.proofs.ColumnTrees.{chain_ends, each_skip, column_split, after_rows}
use Rattle.ebcot_reader.proofs.ColumnTrees.{rows_read}

-- A place that has been coded in this plane.
record Touched (p i : ℕ) (cells : List Cell) : Type 0 where
  pub inside : i < length cells
  pub known : (cell_at cells i).unknown ≡ p

set_touched : (p i : ℕ) (cells : List Cell) (x : Cell) → i < length cells → x.unknown ≡ p →
    Touched p i (set cells i x)
set_touched p i cells x inside e =
    let long = length-set cells i x in
    record {
      inside = omega arith;
      known = ap (λ (c : Cell). c.unknown) (get_or-set_same cells i x (fresh 0) inside) ∙ e;
    }

kept_touched : (p k : ℕ) (cells : List Cell) (i : ℕ) (x : Cell) → x.unknown ≡ p → Touched p k cells
    →
    Touched p k (set cells i x)
kept_touched p k cells i x e h = elim (cases_eq k i) [
  | inl same ↦ subst (λ (v : ℕ). Touched p k (set cells v x)) same
      (set_touched p k cells x h.inside e)
  | inr other ↦
      let long = length-set cells i x in
      let within = h.inside in
      record {
        inside = omega arith;
        known = ap (λ (c : Cell). c.unknown) (get_or-set_other cells i k x (fresh 0) other)
            ∙ h.known;
      }
]

touched_uncoded : (s : Shape) (p k : ℕ) (cells : List Cell) → Touched p k cells →
    is_coded cleanup s p k cells ≡ false
touched_uncoded s p k cells h = ap (λ (u : ℕ). u == suc p) h.known
    ∙ ne_eqb p (suc p) (λ e. omega arith)

-- places of the block, and those of them that have been coded
abbrev AllInside : ℕ → List ℕ → Type 0
AllInside n [] = Unit {0}
AllInside n (i ∷ is) = (i < n) × AllInside n is

abbrev AllTouched : ℕ → List ℕ → List Cell → Type 0
AllTouched p [] cells = Unit {0}
AllTouched p (i ∷ is) cells = Touched p i cells × AllTouched p is cells

all_kept : (p : ℕ) (is : List ℕ) (cells : List Cell) (i : ℕ) (x : Cell) → x.unknown ≡ p →
    AllTouched p is cells → AllTouched p is (set cells i x)
all_kept p [] cells i x e h = tt
all_kept p (k ∷ ks) cells i x e h =
    (kept_touched p k cells i x e h.0, all_kept p ks cells i x e h.1)

zeros_touched : (s : Shape) (p n : ℕ) (is : List ℕ) (cells : List Cell) → length cells ≡ n →
    AllInside n is → AllTouched p is (zeros p is cells)
zeros_touched s p n [] cells long inside = tt
zeros_touched s p n (i ∷ is) cells long inside =
    let within = inside.0 in (
      zeros_kept (Touched p i) p (kept_touched p i) s is (learned p false i cells)
          (set_touched p i cells _ (omega arith) refl),
      zeros_touched s p n is (learned p false i cells) (length-set cells i _ ∙ long) inside.1,
    )

zeros_long : (s : Shape) (p n : ℕ) (is : List ℕ) (cells : List Cell) → length cells ≡ n →
    length (zeros p is cells) ≡ n
zeros_long s p n is cells long =
    zeros_kept (λ c. length c ≡ n) p (λ c i x e h. length-set c i x ∙ h) s is cells long

each_touched : (s : Shape) (p : ℕ) (is js : List ℕ) (cells : List Cell) → AllTouched p is cells
    → each cleanup s p (is ++ js) cells ≡ each cleanup s p js cells
each_touched s p [] js cells h = refl
each_touched s p (i ∷ is) js cells h =
    each_skip cleanup s p i (is ++ js) cells (touched_uncoded s p i cells h.0)
    ∙ each_touched s p is js cells h.1

sign_touches : (s : Shape) (p i : ℕ) (is : List ℕ) (cells : List Cell) → i < length cells →
    AllTouched p is cells
    → AtEnds (λ c. AllTouched p is c × Touched p i c) (sign_asked s p i cells)
unfolding sign_asked
sign_touches s p i is cells inside h =
    λ b. (all_kept p is cells i _ refl h, set_touched p i cells _ inside refl)

found_is : (s : Shape) (p n : ℕ) (is : List ℕ) (i : ℕ) (js : List ℕ) (cells : List Cell)
    → length cells ≡ n → AllInside n is → i < n
    → found s p is i js cells
    ≡ chain (sign_asked s p i (zeros p is cells)) (each cleanup s p (is ++ i ∷ js))
found_is s p n is i js cells long inside within =
    let known : List Cell = zeros p is cells in
    let longer = zeros_long s p n is cells long in
    chain_ends (λ c. AllTouched p is c × Touched p i c) (sign_asked s p i known)
    (each cleanup s p js) (each cleanup s p (is ++ i ∷ js))
    (sign_touches s p i is known (omega arith) (zeros_touched s p n is cells long inside))
    (λ c h. sym (each_touched s p is (i ∷ js) c h.0
    ∙ each_skip cleanup s p i js c (touched_uncoded s p i c h.1)))

found_at_is : (s : Shape) (p a b c d : ℕ) (cells : List Cell) (h l : Bool) → AreNew cells a b c d
    → found_at s p a b c d cells h l
    ≡ chain (head_at s p a b c d cells h l) (each cleanup s p (a ∷ b ∷ c ∷ d ∷ []))
found_at_is s p a b c d cells false false new =
    found_is s p (length cells) [] a (b ∷ c ∷ d ∷ []) cells refl tt new.in_first
found_at_is s p a b c d cells false true new =
    found_is s p (length cells) (a ∷ []) b (c ∷ d ∷ []) cells refl (new.in_first, tt) new.in_second
found_at_is s p a b c d cells true false new =
    found_is s p (length cells) (a ∷ b ∷ []) c (d ∷ []) cells refl
    (new.in_first, (new.in_second, tt)) new.in_third
found_at_is s p a b c d cells true true new =
    found_is s p (length cells) (a ∷ b ∷ c ∷ []) d [] cells refl
    (new.in_first, (new.in_second, (new.in_third, tt))) new.in_fourth

any_is : (s : Shape) (p a b c d : ℕ) (cells : List Cell) (t : Bool) → AreNew cells a b c d
    → any_found s p a b c d cells t
    ≡ chain (head_found s p a b c d cells t) (each cleanup s p (a ∷ b ∷ c ∷ d ∷ []))
any_is s p a b c d cells false new =
    let all : List ℕ = a ∷ b ∷ c ∷ d ∷ [] in
    sym (each_touched s p all [] (zeros p all cells)
    (zeros_touched s p (length cells) all cells refl
    (new.in_first, (new.in_second, (new.in_third, (new.in_fourth, tt))))))
any_is s p a b c d cells true new =
    λ i. ask 18 (row_high p a b c d)
    (λ h. ask 18 (row_low p a b c d) (λ l. found_at_is s p a b c d cells h l new i))

run_is : (s : Shape) (p a b c d : ℕ) (cells : List Cell) → AreNew cells a b c d
    → run s p a b c d cells
    ≡ chain (run_head s p a b c d cells) (each cleanup s p (a ∷ b ∷ c ∷ d ∷ []))
unfolding run run_head
run_is s p a b c d cells new =
    λ i. ask 17 (interrupted p a b c d) (λ t. any_is s p a b c d cells t new i)

-- where the four places of a column are calm, they are insignificant places of the block
pub calm_new : (s : Shape) (p a b c d : ℕ) (cells : List Cell) → all_calm s p cells a b c d ≡ true →
    AreNew cells a b c d
calm_new s p a b c d cells e =
    let abc = and_parts _ _ e in
    let ab = and_parts _ _ abc.0 in
    let ia = and_parts _ _ ab.0 in
    let qa = and_parts _ _ ia.0 in
    let ua = and_parts _ _ qa.0 in
    let qb = and_parts _ _ ia.1 in
    let ub = and_parts _ _ qb.0 in
    let qc = and_parts _ _ ab.1 in
    let uc = and_parts _ _ qc.0 in
    let qd = and_parts _ _ abc.1 in
    let ud = and_parts _ _ qd.0 in
    record {
      first = not_true _ ua.1;
      second = not_true _ ub.1;
      third = not_true _ uc.1;
      fourth = not_true _ ud.1;
      in_first = untouched_inside p a cells ua.0;
      in_second = untouched_inside p b cells ub.0;
      in_third = untouched_inside p c cells uc.0;
      in_fourth = untouched_inside p d cells ud.0;
    }

four_case : (s : Shape) (p a b c d : ℕ) (cells : List Cell) (t : Bool) →
    all_calm s p cells a b c d ≡ t
    → four s p a b c d cells ≡ elim t [
      | true ↦ run s p a b c d cells
      | false ↦ each cleanup s p (a ∷ b ∷ c ∷ d ∷ []) cells
    ]
unfolding four
four_case s p a b c d cells t e =
    ap (λ (v : Bool). elim v [
      | true ↦ run s p a b c d cells
      | false ↦ each cleanup s p (a ∷ b ∷ c ∷ d ∷ []) cells
    ]) e

-- a column of a cleanup pass: its head, and then its places
column_is : (s : Shape) (p n : ℕ) (is : List ℕ) (a b c d : ℕ) (cells : List Cell) (t : Bool)
    → all_calm s p cells a b c d ≡ t → length cells ≡ n → IsSplit n is a b c d
    → column cleanup s p is cells
    ≡ chain (calm_head s p a b c d cells t) (each cleanup s p (a ∷ b ∷ c ∷ d ∷ []))
column_is s p n is a b c d cells true e long (inl f) =
    ap (λ (js : List ℕ). column cleanup s p js cells) f
    ∙ (four_case s p a b c d cells true e
    ∙ run_is s p a b c d cells (calm_new s p a b c d cells e))
column_is s p n is a b c d cells false e long (inl f) =
    ap (λ (js : List ℕ). column cleanup s p js cells) f ∙ four_case s p a b c d cells false e
column_is s p n is a b c d cells true e long (inr (inl (nd, f))) =
    let new = calm_new s p a b c d cells e in
    let inside = new.in_fourth in
    absurd (omega arith)
column_is s p n is a b c d cells true e long (inr (inr (inl (nc, nd, f)))) =
    let new = calm_new s p a b c d cells e in
    let inside = new.in_fourth in
    absurd (omega arith)
column_is s p n is a b c d cells true e long (inr (inr (inr (nb, nc, nd, f)))) =
    let new = calm_new s p a b c d cells e in
    let inside = new.in_fourth in
    absurd (omega arith)
column_is s p n is a b c d cells false e long (inr (inl (nd, f))) =
    ap (λ (js : List ℕ). column cleanup s p js cells) f
    ∙ (ap (λ (js : List ℕ). each cleanup s p js cells) (sym f)
    ∙ sym (column_split cleanup s p n is a b c d cells (inr (inl (nd, f))) long))
column_is s p n is a b c d cells false e long (inr (inr (inl (nc, nd, f)))) =
    ap (λ (js : List ℕ). column cleanup s p js cells) f
    ∙ (ap (λ (js : List ℕ). each cleanup s p js cells) (sym f)
    ∙ sym (column_split cleanup s p n is a b c d cells (inr (inr (inl (nc, nd, f)))) long))
column_is s p n is a b c d cells false e long (inr (inr (inr (nb, nc, nd, f)))) =
    ap (λ (js : List ℕ). column cleanup s p js cells) f
    ∙ (ap (λ (js : List ℕ). each cleanup s p js cells) (sym f)
    ∙ sym (column_split cleanup s p n is a b c d cells (inr (inr (inr (nb, nc, nd, f)))) long))

pub cleanup_holds : (bytes : List ℕ) (s : Shape) (p : ℕ) (is : List ℕ) (a b c d : ℕ)
    (st : List Cell × Interval) (words grid : List ℕ) (decoder : Decoder)
    → IsSplit (s.width * s.height) is a b c d → length st.0 ≡ s.width * s.height
    → Holds bytes s p (after_rows bytes cleanup s p a b c d
    (after bytes st (column_head s p a b c d))) words grid decoder
    → Holds bytes s p (after bytes st (column cleanup s p is)) words grid decoder
cleanup_holds bytes s p is a b c d st words grid decoder split long h =
    let head : Asks = column_head s p a b c d st.0 in
    subst (λ (x : List Cell × Interval). Holds bytes s p x words grid decoder)
    (sym (rows_read bytes cleanup s p a b c d (after bytes st (column_head s p a b c d)))
    ∙ (sym (read_chain (next_decision bytes) st.1 head (each cleanup s p (a ∷ b ∷ c ∷ d ∷ [])))
    ∙ ap (λ (t : Asks). read (next_decision bytes) st.1 t)
    (sym (column_is s p (s.width * s.height) is a b c d st.0 (all_calm s p st.0 a b c d) refl
    long split)))) h

-- Places that learn a zero.

-- another place's cell stays
pub other_cell : (cells : List Cell) (i k : ℕ) (x : Cell) → (k ≡ i → ⊥) →
    is_significant (cell_at cells k) ≡ false → is_significant (cell_at (set cells i x) k) ≡ false
other_cell cells i k x other none = ap is_significant (get_or-set_other cells i k x (fresh 0) other)
    ∙ none

-- places of different rows are different
rows_differ : (w i k column stripe r q n j : ℕ) → IsRow w i column stripe r n j →
    IsRow w k column stripe q n j → (r ≡ q → ⊥) → i ≡ k → ⊥
rows_differ w i k column stripe r q n j at to differ same =
    let e = at.place.row_is in
    let f = to.place.row_is in
    let same_row : i / w ≡ k / w = ap (λ (v : ℕ). v / w) same in
    differ (omega arith)

-- the place of a row
abbrev pub row_place : ℕ → ℕ → ℕ → ℕ → ℕ → ℕ
row_place zero a b c d = a
row_place (suc zero) a b c d = b
row_place (suc (suc zero)) a b c d = c
row_place (suc (suc (suc n))) a b c d = d

-- The place of the first 1, after the zeros before it.
pub record Picked (w p column stripe row n j i : ℕ) (cells : List Cell) : Type 0 where
  pub at : IsRow w i column stripe row n j
  pub inside : i < length cells
  pub none : is_significant (cell_at cells i) ≡ false

pub picked : (w p column stripe row n j a b c d : ℕ) (cells : List Cell) →
    AreRows w column stripe n j a b c d → AreNew cells a b c d → row < 4
    → Picked w p column stripe row n j (row_place row a b c d)
    (zeros p (take row (a ∷ b ∷ c ∷ d ∷ [])) cells)
picked w p column stripe zero n j a b c d cells rows new few =
    record { at = rows.first; inside = new.in_first; none = new.first }
picked w p column stripe (suc zero) n j a b c d cells rows new few =
    record {
      at = rows.second;
      inside = rw length-set new.in_second;
      none = other_cell cells a b _
          (rows_differ w b a column stripe 1 0 n j rows.second rows.first
          (λ e. omega arith)) new.second;
    }
picked w p column stripe (suc (suc zero)) n j a b c d cells rows new few =
    record {
      at = rows.third;
      inside = rw (length-set, length-set) new.in_third;
      none = other_cell (learned p false a cells) b c _
          (rows_differ w c b column stripe 2 1 n j rows.third rows.second (λ e. omega arith))
          (other_cell cells a c _ (rows_differ w c a column stripe 2 0 n j rows.third rows.first
          (λ e. omega arith)) new.third);
    }
picked w p column stripe (suc (suc (suc zero))) n j a b c d cells rows new few =
    record {
      at = rows.fourth;
      inside = rw (length-set, length-set, length-set) new.in_fourth;
      none = other_cell (learned p false b (learned p false a cells)) c d _
          (rows_differ w d c column stripe 3 2 n j rows.fourth rows.third (λ e. omega arith))
          (other_cell (learned p false a cells) b d _
          (rows_differ w d b column stripe 3 1 n j rows.fourth rows.second (λ e. omega arith))
          (other_cell cells a d _ (rows_differ w d a column stripe 3 0 n j rows.fourth rows.first
          (λ e. omega arith)) new.fourth));
    }
picked w p column stripe (suc (suc (suc (suc k)))) n j a b c d cells rows new few =
    absurd (omega arith)
