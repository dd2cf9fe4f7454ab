-- A column of a cleanup pass, as it is coded.
use Rattle.std.proofs.Common.{◌&&◌, not, ℕ, zero, suc, ◌+◌, ◌*◌, ◌<◌, ◌≤◌, ◌≡◌, Bool, true, false}
use Rattle.std.proofs.Common.{List, [], ◌∷◌, ◌++◌, length, get_or, take}
use Rattle.std.proofs.Common.{refl, sym, ap, ◌∙◌, subst, arith, append_assoc, append-nil}
use Rattle.std.proofs.lemmas.Bool.{and_parts, eqb-true}
use Rattle.std.proofs.lemmas.List.{length-set}
use Rattle.ebcot_passes.specs.PassCoder.{PassCoder}
use Rattle.ebcot_contexts.specs.Cells.{Cell, cell_at, coef_at, bit_of, is_significant}
use Rattle.ebcot_contexts.specs.Contexts.{Shape, is_quiet}
use Rattle.ebcot_contexts.specs.Asks.{symbols, outcome}
use Rattle.ebcot_contexts.specs.Passes.{is_calm, cleanup, learned, zeros, visit, column, is_untouched}
use Rattle.ebcot_contexts.proofs.Trees.{AtEnds, at_outcome}
use Rattle.ebcot_contexts.proofs.Kept.{new_kept, zeros_kept}
use Rattle.ebcot_passes.specs.Coding.{IsRow, AreCoefs, HoldsAfter, IsSplit, word_of}
use Rattle.ebcot_passes.specs.Runs.{head_at, head_found, run_head, calm_head, all_calm, column_head}
use Rattle.ebcot_passes.specs.Runs.{zeros_of, row_place, AreRows, AreNew, IsSettled}
use Rattle.ebcot_passes.proofs.Places.{untouched_inside, not_true, coef_word}
use Rattle.ebcot_passes.proofs.ColumnLemmas.{Nested, rows_hold}
use Rattle.ebcot_passes.proofs.RunLemmas.{Answers, run_holds, run_column, plain_column, rows_differ}
use Rattle.ebcot_passes.proofs.RunLemmas.{other_cell, other_open}
use Rattle.ebcot_passes.proofs.Settling.{settled_kept}

-- where the four places of a column are calm, they are insignificant places of the block
pub calm_new : (s : Shape) (p a b c d : ℕ) (cells : List Cell) → all_calm s p cells a b c d ≡ true →
    AreNew p cells a b c d
calm_new s p a b c d cells e =
    let abc = and_parts _ _ e in
    let ab = and_parts _ _ abc.0 in
    let ia = and_parts _ _ ab.0 in
    let qa = and_parts _ _ ia.0 in
    let ua = and_parts _ _ qa.0 in
    let qb = and_parts _ _ ia.1 in
    let ub = and_parts _ _ qb.0 in
    let qc = and_parts _ _ ab.1 in
    let uc = and_parts _ _ qc.0 in
    let qd = and_parts _ _ abc.1 in
    let ud = and_parts _ _ qd.0 in
    record {
      first = not_true _ ua.1;
      second = not_true _ ub.1;
      third = not_true _ uc.1;
      fourth = not_true _ ud.1;
      in_first = untouched_inside p a cells ua.0;
      in_second = untouched_inside p b cells ub.0;
      in_third = untouched_inside p c cells uc.0;
      in_fourth = untouched_inside p d cells ud.0;
      open_first = eqb-true _ _ ua.0;
      open_second = eqb-true _ _ ub.0;
      open_third = eqb-true _ _ uc.0;
      open_fourth = eqb-true _ _ ud.0;
    }

-- the words of a column's places in the grid
pub row_word : (w h i column stripe r n j k : ℕ) (coefs : List (ℕ × Bool)) (grid : List ℕ) →
    IsRow w i column stripe r n j
    → AreCoefs w h coefs grid → i < w * h → k ≡ j + 32 * r →
    get_or grid k 0 ≡ word_of (coef_at coefs i)
row_word w h i column stripe r n j k coefs grid at a inside e =
    ap (λ (v : ℕ). get_or grid v 0) e ∙ coef_word w h i column stripe r n j coefs grid at a inside

pub zeros_are : (coefs : List (ℕ × Bool)) (p a b c d : ℕ) (x y z v : Bool) →
    bit_of (coef_at coefs a).0 p ≡ x → bit_of (coef_at coefs b).0 p ≡ y
    → bit_of (coef_at coefs c).0 p ≡ z → bit_of (coef_at coefs d).0 p ≡ v
    → zeros_of x y z v ≡ zeros_of (bit_of (coef_at coefs a).0 p) (bit_of (coef_at coefs b).0 p)
    (bit_of (coef_at coefs c).0 p) (bit_of (coef_at coefs d).0 p)
zeros_are coefs p a b c d x y z v ea eb ec ed = sym (λ i. zeros_of (ea i) (eb i) (ec i) (ed i))

pub own_answers : (coefs : List (ℕ × Bool)) (p a b c d : ℕ)
    → Answers coefs p a b c d (bit_of (coef_at coefs a).0 p) (bit_of (coef_at coefs b).0 p)
    (bit_of (coef_at coefs c).0 p) (bit_of (coef_at coefs d).0 p)
own_answers coefs p a b c d = record { a_is = refl; b_is = refl; c_is = refl; d_is = refl }

all_zero : (x y z v : Bool) → 4 ≤ zeros_of x y z v →
    (x ≡ false) × (y ≡ false) × (z ≡ false) × (v ≡ false)
all_zero true y z v h = absurd (omega arith)
all_zero false true z v h = absurd (omega arith)
all_zero false false true v h = absurd (omega arith)
all_zero false false false true h = absurd (omega arith)
all_zero false false false false h = (refl, refl, refl, refl)

pub no_answers : (coefs : List (ℕ × Bool)) (p a b c d row : ℕ)
    → row ≡ zeros_of (bit_of (coef_at coefs a).0 p) (bit_of (coef_at coefs b).0 p)
    (bit_of (coef_at coefs c).0 p) (bit_of (coef_at coefs d).0 p)
    → 4 ≤ row → Answers coefs p a b c d false false false false
no_answers coefs p a b c d row e four =
    let z = all_zero _ _ _ _ (rw e at four) in
    record { a_is = z.0; b_is = z.1; c_is = z.2; d_is = z.3 }

-- the bits of the rows before the first 1
pub row_zeros : (x y z v : Bool) →
    (1 ≤ zeros_of x y z v → x ≡ false) × (2 ≤ zeros_of x y z v → y ≡ false)
    × (3 ≤ zeros_of x y z v → z ≡ false) × (4 ≤ zeros_of x y z v → v ≡ false)
row_zeros true y z v = (
  λ h. absurd (omega arith),
  λ h. absurd (omega arith),
  λ h. absurd (omega arith),
  λ h. absurd (omega arith),
)
row_zeros false true z v =
    (λ h. refl, λ h. absurd (omega arith), λ h. absurd (omega arith), λ h. absurd (omega arith))
row_zeros false false true v =
    (λ h. refl, λ h. refl, λ h. absurd (omega arith), λ h. absurd (omega arith))
row_zeros false false false true = (λ h. refl, λ h. refl, λ h. refl, λ h. absurd (omega arith))
row_zeros false false false false = (λ h. refl, λ h. refl, λ h. refl, λ h. refl)

-- the bit of the first 1 itself
pub row_one : (coefs : List (ℕ × Bool)) (p a b c d row : ℕ)
    → row ≡ zeros_of (bit_of (coef_at coefs a).0 p) (bit_of (coef_at coefs b).0 p)
    (bit_of (coef_at coefs c).0 p) (bit_of (coef_at coefs d).0 p)
    → row < 4 → bit_of (coef_at coefs (row_place row a b c d)).0 p ≡ true
row_one coefs p a b c d row is few =
    one_by coefs p a b c d row _ _ _ _ refl refl refl refl is few
  where
    one_by : (coefs : List (ℕ × Bool)) (p a b c d row : ℕ) (x y z v : Bool)
        → bit_of (coef_at coefs a).0 p ≡ x → bit_of (coef_at coefs b).0 p ≡ y
        → bit_of (coef_at coefs c).0 p ≡ z → bit_of (coef_at coefs d).0 p ≡ v
        → row ≡ zeros_of x y z v → row < 4
        → bit_of (coef_at coefs (row_place row a b c d)).0 p ≡ true
    one_by coefs p a b c d row true y z v ea eb ec ed is few =
        subst (λ (r : ℕ). bit_of (coef_at coefs (row_place r a b c d)).0 p ≡ true) (sym is) ea
    one_by coefs p a b c d row false true z v ea eb ec ed is few =
        subst (λ (r : ℕ). bit_of (coef_at coefs (row_place r a b c d)).0 p ≡ true) (sym is) eb
    one_by coefs p a b c d row false false true v ea eb ec ed is few =
        subst (λ (r : ℕ). bit_of (coef_at coefs (row_place r a b c d)).0 p ≡ true) (sym is) ec
    one_by coefs p a b c d row false false false true ea eb ec ed is few =
        subst (λ (r : ℕ). bit_of (coef_at coefs (row_place r a b c d)).0 p ≡ true) (sym is) ed
    one_by coefs p a b c d row false false false false ea eb ec ed is few = absurd (omega arith)

-- The place of the first 1, after the zeros before it.
pub record Picked (w p column stripe row n j i : ℕ) (cells : List Cell) : Type 0 where
  pub at : IsRow w i column stripe row n j
  pub inside : i < length cells
  pub none : is_significant (cell_at cells i) ≡ false
  pub open_place : (cell_at cells i).unknown ≡ suc p

pub picked : (w p column stripe row n j a b c d : ℕ) (cells : List Cell) →
    AreRows w column stripe n j a b c d → AreNew p cells a b c d → row < 4
    → Picked w p column stripe row n j (row_place row a b c d)
    (zeros p (take row (a ∷ b ∷ c ∷ d ∷ [])) cells)
picked w p column stripe zero n j a b c d cells rows new few =
    record {
      at = rows.first;
      inside = new.in_first;
      none = new.first;
      open_place = new.open_first;
    }
picked w p column stripe (suc zero) n j a b c d cells rows new few =
    record {
      at = rows.second;
      inside = rw length-set new.in_second;
      none = other_cell cells a b _
          (rows_differ w b a column stripe 1 0 n n j rows.second rows.first
          (λ e. omega arith)) new.second;
      open_place = other_open cells a b (suc p) _
          (rows_differ w b a column stripe 1 0 n n j rows.second rows.first
          (λ e. omega arith)) new.open_second;
    }
picked w p column stripe (suc (suc zero)) n j a b c d cells rows new few =
    record {
      at = rows.third;
      inside = rw (length-set, length-set) new.in_third;
      none = other_cell (learned p false a cells) b c _
          (rows_differ w c b column stripe 2 1 n n j rows.third rows.second (λ e. omega arith))
          (other_cell cells a c _ (rows_differ w c a column stripe 2 0 n n j rows.third rows.first
          (λ e. omega arith)) new.third);
      open_place = other_open (learned p false a cells) b c (suc p) _
          (rows_differ w c b column stripe 2 1 n n j rows.third rows.second (λ e. omega arith))
          (other_open cells a c (suc p) _
          (rows_differ w c a column stripe 2 0 n n j rows.third rows.first
          (λ e. omega arith)) new.open_third);
    }
picked w p column stripe (suc (suc (suc zero))) n j a b c d cells rows new few =
    record {
      at = rows.fourth;
      inside = rw (length-set, length-set, length-set) new.in_fourth;
      none = other_cell (learned p false b (learned p false a cells)) c d _
          (rows_differ w d c column stripe 3 2 n n j rows.fourth rows.third (λ e. omega arith))
          (other_cell (learned p false a cells) b d _
          (rows_differ w d b column stripe 3 1 n n j rows.fourth rows.second (λ e. omega arith))
          (other_cell cells a d _ (rows_differ w d a column stripe 3 0 n n j rows.fourth rows.first
          (λ e. omega arith)) new.fourth));
      open_place = other_open (learned p false b (learned p false a cells)) c d (suc p) _
          (rows_differ w d c column stripe 3 2 n n j rows.fourth rows.third (λ e. omega arith))
          (other_open (learned p false a cells) b d (suc p) _
          (rows_differ w d b column stripe 3 1 n n j rows.fourth rows.second (λ e. omega arith))
          (other_open cells a d (suc p) _
          (rows_differ w d a column stripe 3 0 n n j rows.fourth rows.first
          (λ e. omega arith)) new.open_fourth));
    }
picked w p column stripe (suc (suc (suc (suc k)))) n j a b c d cells rows new few =
    absurd (omega arith)

-- three symbols more
pub three_more : (l : List (ℕ × Bool)) (x y z : ℕ × Bool) →
    ((l ++ x ∷ []) ++ y ∷ []) ++ z ∷ [] ≡ l ++ x ∷ y ∷ z ∷ []
three_more l x y z = append_assoc (l ++ x ∷ []) (y ∷ []) (z ∷ [])
    ∙ append_assoc l (x ∷ []) (y ∷ z ∷ [])

settled_at : (s : Shape) (p a b c d : ℕ) (cells : List Cell) (h l : Bool) → IsSettled p cells →
    AtEnds (IsSettled p) (head_at s p a b c d cells h l)
settled_at s p a b c d cells false false h = new_kept (IsSettled p) p (settled_kept p) s a cells h
settled_at s p a b c d cells false true h =
    new_kept (IsSettled p) p (settled_kept p) s b (zeros p (a ∷ []) cells)
    (zeros_kept (IsSettled p) p (settled_kept p) s (a ∷ []) cells h)
settled_at s p a b c d cells true false h =
    new_kept (IsSettled p) p (settled_kept p) s c (zeros p (a ∷ b ∷ []) cells)
    (zeros_kept (IsSettled p) p (settled_kept p) s (a ∷ b ∷ []) cells h)
settled_at s p a b c d cells true true h =
    new_kept (IsSettled p) p (settled_kept p) s d (zeros p (a ∷ b ∷ c ∷ []) cells)
    (zeros_kept (IsSettled p) p (settled_kept p) s (a ∷ b ∷ c ∷ []) cells h)

settled_found : (s : Shape) (p a b c d : ℕ) (cells : List Cell) (t : Bool) → IsSettled p cells →
    AtEnds (IsSettled p) (head_found s p a b c d cells t)
settled_found s p a b c d cells false h =
    zeros_kept (IsSettled p) p (settled_kept p) s (a ∷ b ∷ c ∷ d ∷ []) cells h
settled_found s p a b c d cells true h = λ x y. settled_at s p a b c d cells x y h

-- the head of a column settles no place
settled_head : (s : Shape) (p a b c d : ℕ) (cells : List Cell) (t : Bool) → IsSettled p cells →
    AtEnds (IsSettled p) (calm_head s p a b c d cells t)
unfolding run_head
settled_head s p a b c d cells false h = h
settled_head s p a b c d cells true h = λ t. settled_found s p a b c d cells t h

pub head_settled : (coefs : List (ℕ × Bool)) (s : Shape) (p a b c d : ℕ) (cells : List Cell) →
    IsSettled p cells
    → IsSettled p (outcome coefs (column_head s p a b c d cells))
head_settled coefs s p a b c d cells h =
    at_outcome (IsSettled p) coefs (column_head s p a b c d cells)
    (settled_head s p a b c d cells (all_calm s p cells a b c d) h)

-- the lengths through the rows of a column
pub record KeepLong (coefs : List (ℕ × Bool)) (s : Shape) (p a b c : ℕ)
    (cells : List Cell) : Type 0 where
  pub one : length (outcome coefs (visit cleanup s p a cells)) ≡ s.width * s.height
  pub two : length (outcome coefs (visit cleanup s p b (outcome coefs (visit cleanup s p a cells))))
      ≡ s.width * s.height
  pub three : length (outcome coefs
      (visit cleanup s p c (outcome coefs
      (visit cleanup s p b (outcome coefs (visit cleanup s p a cells)))))) ≡ s.width * s.height

pub cleanup_holds : (coefs : List (ℕ × Bool)) (s : Shape) (p : ℕ) (is : List ℕ) (a b c d : ℕ)
    (cells : List Cell) (l : List (ℕ × Bool)) (words : List ℕ) (coder : PassCoder) (t : Bool)
    → all_calm s p cells a b c d ≡ t → length cells ≡ s.width * s.height →
    IsSplit (s.width * s.height) is a b c d
    → KeepLong coefs s p a b c (outcome coefs (column_head s p a b c d cells))
    → Nested coefs s p cleanup (a ∷ b ∷ c ∷ d ∷ []) (outcome coefs (column_head s p a b c d cells))
    (l ++ symbols coefs (column_head s p a b c d cells)) words coder
    → HoldsAfter coefs s p (column cleanup s p is cells) l words coder
cleanup_holds coefs s p is a b c d cells l words coder true e long split keep held =
    let new = calm_new s p a b c d cells e in
    let inside = new.in_fourth in
    run_column coefs s p is a b c d (s.width * s.height) cells l words coder split (omega arith) e
    (run_holds coefs s p a b c d cells l words coder _ _ _ _ (own_answers coefs p a b c d) new
    (subst (λ (v : Bool). Nested coefs s p cleanup (a ∷ b ∷ c ∷ d ∷ [])
    (outcome coefs (calm_head s p a b c d cells v))
    (l ++ symbols coefs (calm_head s p a b c d cells v)) words coder) e held))
cleanup_holds coefs s p is a b c d cells l words coder false e long split keep held =
    let rows : Nested coefs s p cleanup (a ∷ b ∷ c ∷ d ∷ []) cells (l ++ []) words coder =
    subst (λ (v : Bool). Nested coefs s p cleanup (a ∷ b ∷ c ∷ d ∷ [])
    (outcome coefs (calm_head s p a b c d cells v))
    (l ++ symbols coefs (calm_head s p a b c d cells v)) words coder) e held in
    let kept : KeepLong coefs s p a b c cells =
    subst (λ (v : Bool). KeepLong coefs s p a b c
    (outcome coefs (calm_head s p a b c d cells v))) e keep in
    plain_column coefs s p is a b c d (s.width * s.height) cells l words coder split e
    (rows_hold coefs s p cleanup is a b c d cells l words coder split kept.one kept.two kept.three
    (subst (λ (k : List (ℕ × Bool)). Nested coefs s p cleanup
    (a ∷ b ∷ c ∷ d ∷ []) cells k words coder) (append-nil l) rows))

-- a column of which a place has been coded has no run mode
pub touched_calm : (s : Shape) (p a b c d : ℕ) (cells : List Cell)
    → is_untouched p (cell_at cells a) ≡ false → all_calm s p cells a b c d ≡ false
touched_calm s p a b c d cells e =
    ap (λ (t : Bool). t && not (is_significant (cell_at cells a)) && is_quiet s cells a
    && is_calm s p cells b && is_calm s p cells c && is_calm s p cells d) e
