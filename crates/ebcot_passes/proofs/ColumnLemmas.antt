-- A column of a stripe.
use Rattle.std.proofs.Common.{ℕ, suc, ◌+◌, ◌*◌, ◌/◌, ◌%◌, ◌^◌, ◌<◌, ◌≤◌, ◌≡◌, inl, inr, Bool}
use Rattle.std.proofs.Common.{true, false, not, ◌&&◌, ◌==◌, eqb, bit_and, min, List, [], ◌∷◌, ◌++◌}
use Rattle.std.proofs.Common.{length, refl, sym, ap, ◌∙◌, subst, arith, append_assoc}
use Rattle.std.proofs.Common.{append-nil}
use Rattle.std.specs.Int.{bit_at}
use Rattle.std.proofs.lemmas.Bool.{ne_eqb}
use Rattle.std.proofs.lemmas.List.{get_or_past}
use Rattle.std.proofs.lemmas.Nat.{and_mask, and_mod, and_le_r}
use Rattle.std.proofs.lemmas.Nat.Bits.{bit_at_and, bit_at-zero, bit_at-lt}
use Rattle.ebcot_passes.specs.PassCoder.{PassCoder}
use Rattle.ebcot_contexts.specs.Cells.{Cell, fresh, cell_at, is_significant}
use Rattle.ebcot_contexts.specs.Contexts.{Shape, is_quiet}
use Rattle.ebcot_contexts.specs.Asks.{Asks, chain, symbols, outcome}
use Rattle.ebcot_contexts.specs.Passes.{Kind, significance, refinement, cleanup, is_untouched}
use Rattle.ebcot_contexts.specs.Passes.{is_coded, visit, each, column}
use Rattle.ebcot_contexts.proofs.Trees.{outcome_chain, symbols_chain}
use Rattle.flag_words.specs.Words.{IsFlagWord, IsIn}
use Rattle.flag_words.specs.Lookups.{neighbours_of}
use Rattle.flag_words.proofs.Quiet.{significance_test, refinement_test, cleanup_test}
use Rattle.ebcot_passes.specs.Coding.{Holds, HoldsAfter, IsSplit}
use Rattle.ebcot_passes.proofs.Places.{visit_case, not_visited}

-- one row of questions after another
pub chained : (s : Shape) (p : ℕ) (coefs l : List (ℕ × Bool)) (t : Asks) (f : List Cell → Asks)
    (words : List ℕ) (coder : PassCoder)
    → HoldsAfter coefs s p (f (outcome coefs t)) (l ++ symbols coefs t) words coder
    → HoldsAfter coefs s p (chain t f) l words coder
chained s p coefs l t f words coder h =
    let last : List Cell = outcome coefs (f (outcome coefs t)) in
    let joined : Holds coefs s p last (l
    ++ (symbols coefs t ++ symbols coefs (f (outcome coefs t)))) words coder =
    subst (λ (k : List (ℕ × Bool)). Holds coefs s p last k words coder)
    (append_assoc l (symbols coefs t) (symbols coefs (f (outcome coefs t)))) h in
    let named : Holds coefs s p last (l ++ symbols coefs (chain t f)) words coder =
    subst (λ (k : List (ℕ × Bool)). Holds coefs s p last (l ++ k) words coder)
    (sym (symbols_chain coefs t f)) joined in
    subst (λ (cells : List Cell). Holds coefs s p cells (l ++ symbols coefs (chain t f)) words
    coder)
    (sym (outcome_chain coefs t f)) named

outside_touched : (p i : ℕ) (cells : List Cell) → length cells ≤ i →
    is_untouched p (cell_at cells i) ≡ false
outside_touched p i cells past =
    ap (λ (c : Cell). c.unknown == suc p) (get_or_past cells i (fresh 0) past)
    ∙ ne_eqb 0 (suc p) (λ e. omega arith)

-- a place outside is not coded
outside_uncoded : (kind : Kind) (s : Shape) (p i : ℕ) (cells : List Cell) → length cells ≤ i →
    is_coded kind s p i cells ≡ false
outside_uncoded significance s p i cells past =
    ap (λ (b : Bool). b && not (is_significant (cell_at cells i)) && not (is_quiet s cells i))
    (outside_touched p i cells past)
outside_uncoded refinement s p i cells past =
    ap (λ (b : Bool). b && is_significant (cell_at cells i)) (outside_touched p i cells past)
outside_uncoded cleanup s p i cells past = outside_touched p i cells past

-- a place that is not coded changes nothing
pub skipped : (kind : Kind) (s : Shape) (p i : ℕ) (coefs l : List (ℕ × Bool)) (cells : List Cell)
    (words : List ℕ) (coder : PassCoder)
    → is_coded kind s p i cells ≡ false →
    HoldsAfter coefs s p (visit kind s p i cells) l words coder →
    Holds coefs s p cells l words coder
skipped kind s p i coefs l cells words coder uncoded h =
    subst (λ (k : List (ℕ × Bool)). Holds coefs s p cells k words coder) (append-nil l)
    (subst (λ (a : Asks). HoldsAfter coefs s p a l words coder)
    (visit_case kind s p i cells false uncoded) h)

-- what is known and coded after places in turn
abbrev pub Nested : List (ℕ × Bool) → Shape → ℕ → Kind → List ℕ → List Cell → List (ℕ × Bool) →
    List ℕ → PassCoder → Type 0
Nested coefs s p kind [] cells l words coder = Holds coefs s p cells l words coder
Nested coefs s p kind (i ∷ is) cells l words coder =
    Nested coefs s p kind is (outcome coefs (visit kind s p i cells))
    (l ++ symbols coefs (visit kind s p i cells)) words coder

pub nested_each : (coefs : List (ℕ × Bool)) (s : Shape) (p : ℕ) (kind : Kind) (is : List ℕ)
    (cells : List Cell) (l : List (ℕ × Bool)) (words : List ℕ) (coder : PassCoder)
    → Nested coefs s p kind is cells l words coder →
    HoldsAfter coefs s p (each kind s p is cells) l words coder
nested_each coefs s p kind [] cells l words coder h =
    subst (λ (k : List (ℕ × Bool)). Holds coefs s p cells k words coder) (sym (append-nil l)) h
nested_each coefs s p kind (i ∷ is) cells l words coder h =
    chained s p coefs l (visit kind s p i cells) (each kind s p is) words coder
    (nested_each coefs s p kind is (outcome coefs (visit kind s p i cells))
    (l ++ symbols coefs (visit kind s p i cells)) words coder h)

-- a first place that is not coded
pub drop_first : (coefs : List (ℕ × Bool)) (s : Shape) (p : ℕ) (kind : Kind) (i : ℕ) (is : List ℕ)
    (cells : List Cell) (l : List (ℕ × Bool)) (words : List ℕ) (coder : PassCoder)
    → is_coded kind s p i cells ≡ false → Nested coefs s p kind (i ∷ is) cells l words coder →
    Nested coefs s p kind is cells l words coder
drop_first coefs s p kind i is cells l words coder uncoded h =
    subst (λ (k : List (ℕ × Bool)). Nested coefs s p kind is cells k words coder) (append-nil l)
    (subst (λ (a : Asks). Nested coefs s p kind is (outcome coefs a)
    (l ++ symbols coefs a) words coder) (visit_case kind s p i cells false uncoded) h)

-- The four rows of a column, of which the last ones may be outside.
pub rows_hold : (coefs : List (ℕ × Bool)) (s : Shape) (p : ℕ) (kind : Kind) (is : List ℕ)
    (a b c d : ℕ) (cells : List Cell) (l : List (ℕ × Bool)) (words : List ℕ) (coder : PassCoder)
    → IsSplit (s.width * s.height) is a b c d
    → length (outcome coefs (visit kind s p a cells)) ≡ s.width * s.height
    → length (outcome coefs (visit kind s p b (outcome coefs (visit kind s p a cells))))
    ≡ s.width * s.height
    → length (outcome coefs (visit kind s p c
    (outcome coefs (visit kind s p b (outcome coefs (visit kind s p a cells))))))
    ≡ s.width * s.height
    → Nested coefs s p kind (a ∷ b ∷ c ∷ d ∷ []) cells l words coder
    → HoldsAfter coefs s p (each kind s p is cells) l words coder
rows_hold coefs s p kind is a b c d cells l words coder (inl e) l1 l2 l3 h =
    subst (λ (js : List ℕ). HoldsAfter coefs s p (each kind s p js cells) l words coder) (sym e)
    (nested_each coefs s p kind (a ∷ b ∷ c ∷ d ∷ []) cells l words coder h)
rows_hold coefs s p kind is a b c d cells l words coder (inr (inl (nd, e))) l1 l2 l3 h =
    subst (λ (js : List ℕ). HoldsAfter coefs s p (each kind s p js cells) l words coder) (sym e)
    (nested_each coefs s p kind (a ∷ b ∷ c ∷ []) cells l words coder
    (skipped kind s p d coefs _ _ words coder
    (outside_uncoded kind s p d _ (omega (arith, l3))) h))
rows_hold coefs s p kind is a b c d cells l words coder (inr (inr (inl (nc, nd, e)))) l1 l2 l3 h =
    subst (λ (js : List ℕ). HoldsAfter coefs s p (each kind s p js cells) l words coder) (sym e)
    (nested_each coefs s p kind (a ∷ b ∷ []) cells l words coder
    (skipped kind s p c coefs _ _ words coder (outside_uncoded kind s p c _ (omega (arith, l2)))
    (skipped kind s p d coefs _ _ words coder
    (outside_uncoded kind s p d _ (omega (arith, l3))) h)))
rows_hold coefs s p kind is a b c d cells l words coder
    (inr (inr (inr (nb, nc, nd, e)))) l1 l2 l3 h =
    subst (λ (js : List ℕ). HoldsAfter coefs s p (each kind s p js cells) l words coder) (sym e)
    (nested_each coefs s p kind (a ∷ []) cells l words coder
    (skipped kind s p b coefs _ _ words coder (outside_uncoded kind s p b _ (omega (arith, l1)))
    (skipped kind s p c coefs _ _ words coder (outside_uncoded kind s p c _ (omega (arith, l2)))
    (skipped kind s p d coefs _ _ words coder
    (outside_uncoded kind s p d _ (omega (arith, l3))) h))))

-- A column of which nothing is coded.
pub none_coded : (coefs : List (ℕ × Bool)) (s : Shape) (p : ℕ) (kind : Kind) (is : List ℕ)
    (a b c d : ℕ) (cells : List Cell) (l : List (ℕ × Bool)) (words : List ℕ) (coder : PassCoder)
    → IsSplit (s.width * s.height) is a b c d
    → ((cs : List Cell) (k : List (ℕ × Bool)) → Holds coefs s p cs k words coder →
    is_coded kind s p a cs ≡ false)
    → ((cs : List Cell) (k : List (ℕ × Bool)) → Holds coefs s p cs k words coder →
    is_coded kind s p b cs ≡ false)
    → ((cs : List Cell) (k : List (ℕ × Bool)) → Holds coefs s p cs k words coder →
    is_coded kind s p c cs ≡ false)
    → ((cs : List Cell) (k : List (ℕ × Bool)) → Holds coefs s p cs k words coder →
    is_coded kind s p d cs ≡ false)
    → Holds coefs s p cells l words coder
    → HoldsAfter coefs s p (each kind s p is cells) l words coder
none_coded coefs s p kind is a b c d cells l words coder split ua ub uc ud h =
    let h1 = not_visited kind s p a coefs l cells words coder (ua cells l h) h in
    let h2 = not_visited kind s p b coefs _ _ words coder (ub _ _ h1) h1 in
    let h3 = not_visited kind s p c coefs _ _ words coder (uc _ _ h2) h2 in
    let h4 = not_visited kind s p d coefs _ _ words coder (ud _ _ h3) h3 in
    rows_hold coefs s p kind is a b c d cells l words coder split h1.long h2.long h3.long h4

-- Tests of a whole column.

no_neighbours : (x : ℕ) → x % 512 ≡ 0 → bit_and x 0x1EF ≡ 0
no_neighbours x e =
    let low = and_le_r x 0x1EF in
    let m : bit_and x 0x1EF % 2 ^ 9 ≡ 0 = and_mod x 0x1EF 9
    ∙ ap (λ (v : ℕ). bit_and v (0x1EF % 2 ^ 9)) e in
    omega arith

pub quiet_word : (word : ℕ) → bit_and word 0x3FFFF ≡ 0
    → (neighbours_of word 0 ≡ 0) × (neighbours_of word 1 ≡ 0) × (neighbours_of word 2 ≡ 0) ×
    (neighbours_of word 3 ≡ 0)
quiet_word word e =
    let low : word % 0x40000 ≡ 0 = sym (and_mask word 18) ∙ e in (
      no_neighbours (word / 2 ^ (3 * 0)) (omega arith),
      no_neighbours (word / 2 ^ (3 * 1)) (omega arith),
      no_neighbours (word / 2 ^ (3 * 2)) (omega arith),
      no_neighbours (word / 2 ^ (3 * 3)) (omega arith),
    )

and_false : (b : Bool) → (b && false) ≡ false
and_false true = refl
and_false false = refl

pub quiet_uncoded : (s : Shape) (p i column stripe r : ℕ) (cells : List Cell) (word : ℕ) → r < 4 →
    IsIn s.width i column stripe r → 0 < s.width
    → IsFlagWord s.width p cells column stripe word → neighbours_of word r ≡ 0 →
    is_coded significance s p i cells ≡ false
quiet_uncoded s p i column stripe r cells word few at some is none =
    sym (significance_test s p i column stripe r cells word few at some is)
    ∙ (ap (λ (k : ℕ). not (bit_at word (21 + 3 * r) == 1) && not
    (bit_at word (4 + 3 * r) == 1) && not (eqb k 0)) none ∙ and_false _)

bit_none : (word k : ℕ) → bit_and word 0x2490 ≡ 0 → bit_at 0x2490 k ≡ 1 → bit_at word k ≡ 0
bit_none word k e one =
    let both : min (bit_at word k) (bit_at 0x2490 k) ≡ 0 = sym (bit_at_and word 0x2490 k)
    ∙ (ap (λ (v : ℕ). bit_at v k) e ∙ bit_at-zero k) in
    let m : min (bit_at word k) 1 ≡ 0 = rw one at both in
    omega arith

pub none_significant : (word : ℕ) → bit_and word 0x2490 ≡ 0
    → (bit_at word (4 + 3 * 0) ≡ 0) × (bit_at word (4 + 3 * 1) ≡ 0) ×
    (bit_at word (4 + 3 * 2) ≡ 0) × (bit_at word (4 + 3 * 3) ≡ 0)
none_significant word e = (
  bit_none word 4 e refl,
  bit_none word 7 e refl,
  bit_none word 10 e refl,
  bit_none word 13 e
      refl,
)

pub unrefined : (s : Shape) (p i column stripe r : ℕ) (cells : List Cell) (word : ℕ) → r < 4 →
    IsIn s.width i column stripe r → 0 < s.width
    → IsFlagWord s.width p cells column stripe word → bit_at word (4 + 3 * r) ≡ 0 →
    is_coded refinement s p i cells ≡ false
unrefined s p i column stripe r cells word few at some is none =
    sym (refinement_test s p i column stripe r cells word few at some is)
    ∙ (ap (λ (k : ℕ). not (bit_at word (21 + 3 * r) == 1) && (k == 1)) none ∙ and_false _)

-- all rows touched
bit_set : (word mask k : ℕ) → bit_and word mask ≡ mask → bit_at mask k ≡ 1 → bit_at word k ≡ 1
bit_set word mask k e one =
    let both : min (bit_at word k) (bit_at mask k) ≡ 1 =
    sym (bit_at_and word mask k) ∙ (ap (λ (v : ℕ). bit_at v k) e ∙ one) in
    let m : min (bit_at word k) 1 ≡ 1 = rw one at both in
    let few = bit_at-lt word k in
    omega arith

pub all_touched : (word : ℕ) → bit_and word 0x49200000 ≡ 0x49200000
    → (bit_at word (21 + 3 * 0) ≡ 1) × (bit_at word (21 + 3 * 1) ≡ 1) ×
    (bit_at word (21 + 3 * 2) ≡ 1) × (bit_at word (21 + 3 * 3) ≡ 1)
all_touched word e = (
  bit_set word 0x49200000 21 e refl,
  bit_set word 0x49200000 24 e refl,
  bit_set word 0x49200000 27 e refl,
  bit_set word 0x49200000 30 e refl,
)

pub touched_uncoded : (s : Shape) (p i column stripe r : ℕ) (cells : List Cell) (word : ℕ) → r < 4 →
    IsIn s.width i column stripe r → 0 < s.width
    → IsFlagWord s.width p cells column stripe word → bit_at word (21 + 3 * r) ≡ 1 →
    is_coded cleanup s p i cells ≡ false
touched_uncoded s p i column stripe r cells word few at some is one =
    sym (cleanup_test s p i column stripe r cells word few at some is)
    ∙ ap (λ (k : ℕ). not (k == 1)) one

-- all rows significant
pub all_significant : (word : ℕ) → bit_and word 0x2490 ≡ 0x2490
    → (bit_at word (4 + 3 * 0) ≡ 1) × (bit_at word (4 + 3 * 1) ≡ 1)
    × (bit_at word (4 + 3 * 2) ≡ 1) × (bit_at word (4 + 3 * 3) ≡ 1)
all_significant word e = (
  bit_set word 0x2490 4 e refl,
  bit_set word 0x2490 7 e refl,
  bit_set word 0x2490 10 e refl,
  bit_set word 0x2490 13 e refl,
)

pub significant_uncoded : (s : Shape) (p i column stripe r : ℕ) (cells : List Cell) (word : ℕ)
    → r < 4 → IsIn s.width i column stripe r → 0 < s.width
    → IsFlagWord s.width p cells column stripe word → bit_at word (4 + 3 * r) ≡ 1
    → is_coded significance s p i cells ≡ false
significant_uncoded s p i column stripe r cells word few at some is one =
    sym (significance_test s p i column stripe r cells word few at some is)
    ∙ (ap (λ (k : ℕ). not (bit_at word (21 + 3 * r) == 1) && not (k == 1)
    && not (eqb (neighbours_of word r) 0)) one
    ∙ ap (λ (b : Bool). b && not (eqb (neighbours_of word r) 0))
    (and_false (not (bit_at word (21 + 3 * r) == 1))))
