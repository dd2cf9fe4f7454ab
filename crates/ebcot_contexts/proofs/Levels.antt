-- In a pass of plane p each place has p or p + 1 unknown planes, and after the cleanup p.
use Rattle.std.proofs.Common.{ℕ, zero, suc, ◌+◌, ◌-◌, ◌*◌, ◌/◌, ◌%◌, ◌<◌, ◌≤◌, ◌≡◌, ◌⊎◌, inl, inr}
use Rattle.std.proofs.Common.{Bool, true, false, not, ◌&&◌, List, [], ◌∷◌, length, set, refl, sym}
use Rattle.std.proofs.Common.{ap, ◌∙◌, arith, subst}
use Rattle.std.proofs.lemmas.Bool.{cases_eq, eqb-false}
use Rattle.std.proofs.lemmas.List.{get_or-set_same, get_or-set_other, get_or-replicate, length-set}
use Rattle.std.proofs.lemmas.List.{length-replicate}
use Rattle.ebcot_contexts.specs.Cells.{Cell, fresh, is_significant, cell_at}
use Rattle.ebcot_contexts.specs.Contexts.{Shape}
use Rattle.ebcot_contexts.specs.Asks.{Asks, done, ask}
use Rattle.ebcot_contexts.specs.Passes.{cleanup, is_untouched, learned, sign_asked, after_bit}
use Rattle.ebcot_contexts.specs.Passes.{place, coded_in, visit, each, zeros, found, found_at}
use Rattle.ebcot_contexts.specs.Passes.{any_found, run, is_calm, four, column, columns, kind_at}
use Rattle.ebcot_contexts.specs.Passes.{scan, plane_of, pass, passes, start}
use Rattle.ebcot_contexts.proofs.Trees.{AtEnds, at_chain}
use Rattle.ebcot_contexts.proofs.Covered.{In, Member, covered}
use Rattle.ebcot_contexts.proofs.Kept.{new_kept, visit_kept, each_kept, zeros_kept, column_kept}
use Rattle.ebcot_contexts.proofs.Kept.{columns_kept}

-- of each place p or p + 1 planes are unknown
pub record Between (n p : ℕ) (cells : List Cell) : Type 0 where
  pub long : length cells ≡ n
  pub level : (i : ℕ) → i < n → ((cell_at cells i).unknown ≡ p) ⊎
      ((cell_at cells i).unknown ≡ suc p)

-- a place has been touched
abbrev pub Done : ℕ → ℕ → ℕ → List Cell → Type 0
Done n p i cells = Between n p cells × ((cell_at cells i).unknown ≡ p)

pub at_map : (P Q : List Cell → Type 0) (t : Asks) → ((c : List Cell) → P c → Q c) → AtEnds P t →
    AtEnds Q t
at_map P Q (done cells) f h = f cells h
at_map P Q (ask cx q answered) f h = λ b. at_map P Q (answered b) f (h b)

at_all : (n : ℕ) (Q : ℕ → List Cell → Type 0) (t : Asks) → ((i : ℕ) → i < n → AtEnds (Q i) t) →
    AtEnds (λ c. (i : ℕ) → i < n → Q i c) t
at_all n Q (done cells) h = h
at_all n Q (ask cx q answered) h = λ b. at_all n Q (answered b) (λ i l. h i l b)

at_both : (P Q : List Cell → Type 0) (t : Asks) → AtEnds P t → AtEnds Q t →
    AtEnds (λ c. P c × Q c) t
at_both P Q (done cells) h k = (h, k)
at_both P Q (ask cx q answered) h k = λ b. at_both P Q (answered b) (h b) (k b)

module _ (n p : ℕ) where
  touched_at : (cells : List Cell) (i : ℕ) (x : Cell) → x.unknown ≡ p → i < length cells →
      (cell_at (set cells i x) i).unknown ≡ p
  touched_at cells i x e l = ap (λ (c : Cell). c.unknown) (get_or-set_same cells i x (fresh 0) l)
      ∙ e

  untouched_at : (cells : List Cell) (i j : ℕ) (x : Cell) → (j ≡ i → ⊥) →
      (cell_at (set cells i x) j).unknown ≡ (cell_at cells j).unknown
  untouched_at cells i j x e = ap (λ (c : Cell). c.unknown)
      (get_or-set_other cells i j x (fresh 0) e)

  between_kept : (cells : List Cell) (i : ℕ) (x : Cell) → x.unknown ≡ p → Between n p cells →
      Between n p (set cells i x)
  between_kept cells i x e r =
      record {
        long = length-set cells i x ∙ r.long;
        level = λ j l. elim (cases_eq j i) [
          | inl f ↦ inl (subst (λ (v : ℕ). (cell_at (set cells i x) v).unknown ≡ p) (sym f)
              (touched_at cells i x e (omega (arith, r.long))))
          | inr f ↦ subst (λ (v : ℕ). (v ≡ p) ⊎ (v ≡ suc p)) (sym (untouched_at cells i j x f))
              (r.level j l)
        ];
      }

module _ (n p : ℕ) (s : Shape) (i : ℕ) (inside : i < n) where
  done_kept : (cells : List Cell) (j : ℕ) (x : Cell) → x.unknown ≡ p → Done n p i cells →
      Done n p i (set cells j x)
  done_kept cells j x e d = (
    between_kept n p cells j x e d.0,
    elim (cases_eq i j) [
      | inl f ↦ subst (λ (v : ℕ). (cell_at (set cells v x) i).unknown ≡ p) f
          (touched_at n p cells i x e (omega (arith, d.0.long)))
      | inr f ↦ untouched_at n p cells j i x f ∙ d.1
    ],
  )

  set_done : (cells : List Cell) (x : Cell) → x.unknown ≡ p → Between n p cells →
      Done n p i (set cells i x)
  set_done cells x e r = (
    between_kept n p cells i x e r,
    touched_at n p cells i x e
        (omega (arith, r.long)),
  )

  new_done : (cells : List Cell) → Between n p cells → AtEnds (Done n p i) (sign_asked s p i cells)
  unfolding sign_asked
  new_done cells r = λ b. set_done cells _ refl r

  after_if : (t b : Bool) (cells : List Cell) → Between n p cells →
      AtEnds (Done n p i) (elim t [
        | true ↦ sign_asked s p i cells
        | false ↦ done
            (learned p b i cells)
      ])
  after_if true b cells r = new_done cells r
  after_if false b cells r = set_done cells _ refl r

  place_done : (cx : ℕ) (cells : List Cell) → Between n p cells →
      AtEnds (Done n p i) (place s cx p i cells)
  unfolding place after_bit
  place_done cx cells r = λ b. after_if (b && not (is_significant (cell_at cells i))) b cells r

  visit_if : (t : Bool) (cx : ℕ) (cells : List Cell) → is_untouched p (cell_at cells i) ≡ t →
      Between n p cells
      → AtEnds (Done n p i) (elim t [ true ↦ place s cx p i cells | false ↦ done cells ])
  visit_if true cx cells e r = place_done cx cells r
  visit_if false cx cells e r = (
    r,
    elim (r.level i inside) [
      | inl f ↦ f
      | inr f ↦ absurd (eqb-false _ _ e f)
    ],
  )

  visit_done : (cells : List Cell) → Between n p cells →
      AtEnds (Done n p i) (visit cleanup s p i cells)
  unfolding visit
  visit_done cells r = visit_if (is_untouched p (cell_at cells i))
      (coded_in cleanup s i cells) cells refl r

  each_done : (is : List ℕ) (cells : List Cell) → In i is → Between n p cells →
      AtEnds (Done n p i) (each cleanup s p is cells)
  each_done [] cells m r = absurd m
  each_done (j ∷ js) cells (inl e) r =
      at_chain (Done n p i) (Done n p i) (visit cleanup s p j cells) (each cleanup s p js)
      (subst (λ (v : ℕ). AtEnds (Done n p i) (visit cleanup s p v cells)) e (visit_done cells r))
      (λ c d. each_kept (Done n p i) p done_kept s cleanup js c d)
  each_done (j ∷ js) cells (inr m) r =
      at_chain (Between n p) (Done n p i) (visit cleanup s p j cells) (each cleanup s p js)
      (visit_kept (Between n p) p (between_kept n p) s cleanup j cells r)
      (λ c b. each_done js c m b)

  zeros_done : (is : List ℕ) (cells : List Cell) → In i is → Between n p cells →
      Done n p i (zeros p is cells)
  zeros_done [] cells m r = absurd m
  zeros_done (j ∷ js) cells (inl e) r =
      subst (λ (v : ℕ). Done n p i (zeros p js (learned p false v cells))) e
      (zeros_kept (Done n p i) p done_kept s js (learned p false i cells) (set_done cells _ refl r))
  zeros_done (j ∷ js) cells (inr m) r =
      zeros_done js (learned p false j cells) m (between_kept n p cells j _ refl r)

  found_done : (before : List ℕ) (j : ℕ) (below : List ℕ) (cells : List Cell) →
      In i before ⊎ ((i ≡ j) ⊎ In i below) → Between n p cells
      → AtEnds (Done n p i) (found s p before j below cells)
  found_done before j below cells (inl m) r =
      at_chain (Done n p i) (Done n p i) (sign_asked s p j (zeros p before cells))
      (each cleanup s p below)
      (new_kept (Done n p i) p done_kept s j (zeros p before cells) (zeros_done before cells m r))
      (λ c d. each_kept (Done n p i) p done_kept s cleanup below c d)
  found_done before j below cells (inr (inl e)) r =
      at_chain (Done n p i) (Done n p i) (sign_asked s p j (zeros p before cells))
      (each cleanup s p below)
      (subst (λ (v : ℕ). AtEnds (Done n p i) (sign_asked s p v (zeros p before cells))) e
      (new_done (zeros p before cells)
      (zeros_kept (Between n p) p (between_kept n p) s before cells r)))
      (λ c d. each_kept (Done n p i) p done_kept s cleanup below c d)
  found_done before j below cells (inr (inr m)) r =
      at_chain (Between n p) (Done n p i) (sign_asked s p j (zeros p before cells))
      (each cleanup s p below)
      (new_kept (Between n p) p (between_kept n p) s j (zeros p before cells)
      (zeros_kept (Between n p) p (between_kept n p) s before cells r))
      (λ c b. each_done below c m b)

  split_1 : (a : ℕ) (P : Type 0) → (i ≡ a) ⊎ P → In i (a ∷ []) ⊎ P
  split_1 a P (inl e) = inl (inl e)
  split_1 a P (inr m) = inr m

  split_2 : (a b : ℕ) (P : Type 0) → (i ≡ a) ⊎ ((i ≡ b) ⊎ P) → In i (a ∷ b ∷ []) ⊎ P
  split_2 a b P (inl e) = inl (inl e)
  split_2 a b P (inr (inl e)) = inl (inr (inl e))
  split_2 a b P (inr (inr m)) = inr m

  split_3 : (a b c : ℕ) (P : Type 0) → (i ≡ a) ⊎ ((i ≡ b) ⊎ ((i ≡ c) ⊎ P)) →
      In i (a ∷ b ∷ c ∷ []) ⊎ P
  split_3 a b c P (inl e) = inl (inl e)
  split_3 a b c P (inr (inl e)) = inl (inr (inl e))
  split_3 a b c P (inr (inr (inl e))) = inl (inr (inr (inl e)))
  split_3 a b c P (inr (inr (inr m))) = inr m

  found_at_done : (a b c d : ℕ) (cells : List Cell) (h l : Bool) → In i (a ∷ b ∷ c ∷ d ∷ []) →
      Between n p cells → AtEnds (Done n p i) (found_at s p a b c d cells h l)
  found_at_done a b c d cells false false m r = found_done [] a (b ∷ c ∷ d ∷ []) cells (inr m) r
  found_at_done a b c d cells false true m r =
      found_done (a ∷ []) b (c ∷ d ∷ []) cells (split_1 a _ m) r
  found_at_done a b c d cells true false m r =
      found_done (a ∷ b ∷ []) c (d ∷ []) cells (split_2 a b _ m) r
  found_at_done a b c d cells true true m r =
      found_done (a ∷ b ∷ c ∷ []) d [] cells (split_3 a b c _ m) r

  any_done : (a b c d : ℕ) (cells : List Cell) (t : Bool) → In i (a ∷ b ∷ c ∷ d ∷ []) →
      Between n p cells → AtEnds (Done n p i) (any_found s p a b c d cells t)
  any_done a b c d cells false m r = zeros_done (a ∷ b ∷ c ∷ d ∷ []) cells m r
  any_done a b c d cells true m r = λ h l. found_at_done a b c d cells h l m r

  four_if : (t : Bool) (a b c d : ℕ) (cells : List Cell) → In i (a ∷ b ∷ c ∷ d ∷ []) →
      Between n p cells
      → AtEnds (Done n p i) (elim t [
        | true ↦ run s p a b c d cells
        | false ↦ each cleanup s p
            (a ∷ b ∷ c ∷ d ∷ []) cells
      ])
  unfolding run
  four_if true a b c d cells m r = λ t. any_done a b c d cells t m r
  four_if false a b c d cells m r = each_done (a ∷ b ∷ c ∷ d ∷ []) cells m r

  four_done : (a b c d : ℕ) (cells : List Cell) → In i (a ∷ b ∷ c ∷ d ∷ []) → Between n p cells →
      AtEnds (Done n p i) (four s p a b c d cells)
  unfolding four
  four_done a b c d cells m r = four_if
      (is_calm s p cells a && is_calm s p cells b && is_calm s p cells c && is_calm s p cells d) a b c d cells m r

  column_done : (is : List ℕ) (cells : List Cell) → In i is → Between n p cells →
      AtEnds (Done n p i) (column cleanup s p is cells)
  column_done (a ∷ b ∷ c ∷ d ∷ []) cells m r = four_done a b c d cells m r
  column_done is cells m r = each_done is cells m r

  columns_done : (cs : List (List ℕ)) (cells : List Cell) → Member i cs → Between n p cells →
      AtEnds (Done n p i) (columns cleanup s p cs cells)
  columns_done [] cells m r = absurd m
  columns_done (is ∷ rest) cells (inl m) r =
      at_chain (Done n p i) (Done n p i) (column cleanup s p is cells) (columns cleanup s p rest)
      (column_done is cells m r)
      (λ c d. columns_kept (Done n p i) p done_kept s cleanup rest c d)
  columns_done (is ∷ rest) cells (inr m) r =
      at_chain (Between n p) (Done n p i) (column cleanup s p is cells) (columns cleanup s p rest)
      (column_kept (Between n p) p (between_kept n p) s cleanup is cells r)
      (λ c b. columns_done rest c m b)

-- of each place exactly u planes are unknown
abbrev pub AllUnknown : ℕ → ℕ → List Cell → Type 0
AllUnknown n u cells = (i : ℕ) → i < n → (cell_at cells i).unknown ≡ u

pub pass_between : (s : Shape) (j : ℕ) (cells : List Cell) →
    Between (s.width * s.height) (plane_of s j) cells
    → AtEnds (Between (s.width * s.height) (plane_of s j)) (pass s j cells)
unfolding pass
pass_between s j cells r =
    let n : ℕ = s.width * s.height in
    columns_kept (Between n (plane_of s j)) (plane_of s j) (between_kept n (plane_of s j)) s
    (kind_at ((j + 2) % 3)) (scan s.width s.height) cells r

-- after a cleanup
pub pass_done : (s : Shape) (j : ℕ) (cells : List Cell) → (j + 2) % 3 ≡ 2 →
    Between (s.width * s.height) (plane_of s j) cells
    → AtEnds (AllUnknown (s.width * s.height) (plane_of s j)) (pass s j cells)
unfolding pass
pass_done s j cells e r =
    let n : ℕ = s.width * s.height in
    let p : ℕ = plane_of s j in
    subst (λ (v : ℕ). AtEnds (AllUnknown n p)
    (columns (kind_at v) s p (scan s.width s.height) cells)) (sym e)
    (at_all n (λ i c. (cell_at c i).unknown ≡ p) (columns cleanup s p (scan s.width s.height) cells)
    (λ i l. at_map (Done n p i) (λ c. (cell_at c i).unknown ≡ p)
    (columns cleanup s p (scan s.width s.height) cells) (λ c d. d.1)
    (columns_done n p s i l (scan s.width s.height) cells (covered s.width s.height i l) r)))

start_level : (s : Shape) → 1 ≤ s.planes → Between (s.width * s.height) (plane_of s 0) (start s)
start_level s some =
    record {
      long = length-replicate (s.width * s.height) (fresh s.planes);
      level = λ i l. inr (ap (λ (c : Cell). c.unknown)
          (get_or-replicate (s.width * s.height) i (fresh s.planes) (fresh 0) l)
          ∙ (let e : s.planes ≡ suc (s.planes - 1 - (0 + 2) / 3) = omega arith in e));
    }

next_same : (s : Shape) (k : ℕ) (c : List Cell) → ((k + 2) % 3 ≡ 2 → ⊥) →
    Between (s.width * s.height) (plane_of s k) c →
    Between (s.width * s.height) (plane_of s (suc k)) c
next_same s k c e r =
    let same : plane_of s k ≡ plane_of s (suc k) = omega arith in
    subst (λ (p : ℕ). Between (s.width * s.height) p c) same r

next_plane : (s : Shape) (k : ℕ) (c : List Cell) → suc k < 3 * s.planes - 2 → (k + 2) % 3 ≡ 2 →
    Between (s.width * s.height) (plane_of s k) c × AllUnknown (s.width * s.height) (plane_of s k) c
    → Between (s.width * s.height) (plane_of s (suc k)) c × AllUnknown (s.width * s.height)
    (suc (plane_of s (suc k))) c
next_plane s k c l e r =
    let down : plane_of s k ≡ suc (plane_of s (suc k)) = omega arith in
    (record { long = r.0.long; level = λ i m. inr (r.1 i m ∙ down) }, λ i m. r.1 i m ∙ down)

-- in the passes of plane p each place has p or p + 1 unknown planes
pub before_pass : (s : Shape) (k : ℕ) → k < 3 * s.planes - 2 →
    AtEnds (Between (s.width * s.height) (plane_of s k)) (passes s k (start s))
before_pass s zero l = start_level s (omega arith)
before_pass s (suc k) l =
    let n : ℕ = s.width * s.height in
    at_chain (Between n (plane_of s k)) (Between n (plane_of s (suc k))) (passes s k (start s))
    (pass s k) (before_pass s k (omega arith))
    (λ c r. elim (cases_eq ((k + 2) % 3) 2) [
      | inl e ↦
          at_map (λ x. Between n (plane_of s k) x × AllUnknown n (plane_of s k) x)
          (Between n (plane_of s (suc k))) (pass s k c) (λ x h. (next_plane s k x l e h).0)
          (at_both (Between n (plane_of s k)) (AllUnknown n (plane_of s k)) (pass s k c)
          (pass_between s k c r) (pass_done s k c e r))
      | inr e ↦ at_map (Between n (plane_of s k)) (Between n (plane_of s (suc k))) (pass s k c)
          (λ x h. next_same s k x e h) (pass_between s k c r)
    ])

-- where a plane begins, each place has p + 1
pub before_plane : (s : Shape) (k : ℕ) → suc k < 3 * s.planes - 2 → (k + 2) % 3 ≡ 2
    → AtEnds (AllUnknown (s.width * s.height) (suc (plane_of s (suc k))))
    (passes s (suc k) (start s))
before_plane s k l e =
    let n : ℕ = s.width * s.height in
    at_chain (Between n (plane_of s k)) (AllUnknown n (suc (plane_of s (suc k))))
    (passes s k (start s)) (pass s k) (before_pass s k (omega arith))
    (λ c r.
    at_map (λ x. Between n (plane_of s k) x × AllUnknown n (plane_of s k) x)
    (AllUnknown n (suc (plane_of s (suc k)))) (pass s k c) (λ x h. (next_plane s k x l e h).1)
    (at_both (Between n (plane_of s k)) (AllUnknown n (plane_of s k)) (pass s k c)
    (pass_between s k c r) (pass_done s k c e r)))
