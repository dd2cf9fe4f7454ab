-- Lists of budgets, one budget at a time.
use Rattle.std.specs.Borrow.{Bor}
use Rattle.std.proofs.Common.{ℕ, zero, suc, map, ◌+◌, ◌<◌, ◌≤◌, ◌≡◌, ◌⊎◌, inl, inr, List, [], ◌∷◌}
use Rattle.std.proofs.Common.{◌++◌, length, take, get_or, slice_index_or, nat_lt, if◌then◌else◌}
use Rattle.std.proofs.Common.{Option, Some, None, is_some, false, arith, refl, sym, ap, subst, ◌∙◌}
use Rattle.std.proofs.lemmas.Bool.Decides.{nat_tests}
use Rattle.std.proofs.lemmas.List.{take_more}
use Rattle.std.specs.List.{AllByRecursion}
use Rattle.rd_hulls.specs.declared.step.Step.{Step}
use Rattle.allocation_bound.specs.Budgets.{Closed, IsChain, IsOn, nearer, first}
use Rattle.allocation_bound.proofs.Take.{first_none}
use Rattle.allocation_bound.proofs.Chains.{chain_below}
use Rattle.budget_duals.specs.Tree.{IsTree, number_at, around_in, last_of, outermost}
use Rattle.budget_duals.specs.declared.tree.Tree.{Tree}
use Rattle.budget_duals.specs.declared.held.Held.{Held}
use Rattle.budget_duals.specs.Numbered.{bytes_in}

nearer_none : (o : Option Step) (k : ℕ) (later new : Option Closed) → (later ≡ None → new ≡ None)
    → nearer k o later ≡ None → nearer k o new ≡ None
nearer_none None k later new f e = f e
nearer_none (Some s) k later new f e = let bad : ⊥ = cc in absurd bad

first_push : (closed : ℕ → Option Step) (l : List ℕ) (j : ℕ) → first closed l ≡ None → closed j
    ≡ None
    → first closed (l ++ j ∷ []) ≡ None
first_push closed [] j none here = ap (λ c. nearer j c None) here
first_push closed (k ∷ rest) j none here =
    nearer_none (closed k) k (first closed rest) (first closed (rest ++ j ∷ []))
    (λ e. first_push closed rest j e here) none

open_is : (o : Option Step) → is_some o ≡ false → o ≡ None
open_is None e = refl
open_is (Some s) e = let bad : ⊥ = cc in absurd bad

pub first_more : (closed : ℕ → Option Step) (l : List ℕ) (i : ℕ) → i < length l
    → first closed (take i l) ≡ None → is_some (closed (get_or l i 0)) ≡ false
    → first closed (take (i + 1) l) ≡ None
first_more closed l i below none here =
    ap (first closed) (take_more l i 0 below)
    ∙ first_push closed (take i l) (get_or l i 0) none (open_is (closed (get_or l i 0)) here)

some_is : (l : List ℕ) (i : ℕ) → i < length l → IsOn (get_or l i 0) l
some_is [] i below = absurd (omega arith)
some_is (k ∷ rest) zero below = inl refl
some_is (k ∷ rest) (suc i) below = inr (some_is rest i (omega arith))

pub first_at : (closed : ℕ → Option Step) (l : List ℕ) (i : ℕ) → i < length l → first closed l
    ≡ None
    → is_some (closed (get_or l i 0)) ≡ false
first_at closed l i below none = ap is_some
    (first_none closed (get_or l i 0) l none (some_is l i below))

last_none : (o : Option ℕ) → last_of None o ≡ last_of o None
last_none None = refl
last_none (Some i) = refl

last_assoc : (a b c : Option ℕ) → last_of (last_of a b) c ≡ last_of a (last_of b c)
last_assoc None b c = refl
last_assoc (Some i) b c = refl

outermost_push : (limit held : ℕ → ℕ) (l : List ℕ) (j : ℕ) → outermost limit held (l ++ j ∷ [])
    ≡ last_of (if nat_lt (limit j) (held j) then Some j else None) (outermost limit held l)
outermost_push limit held [] j = last_none (if nat_lt (limit j) (held j) then Some j else None)
outermost_push limit held (k ∷ rest) j =
    ap (λ o. last_of o (if nat_lt (limit k) (held k) then Some k else None))
    (outermost_push limit held rest j)
    ∙ last_assoc (if nat_lt (limit j) (held j) then Some j else None) (outermost limit held rest)
    (if nat_lt (limit k) (held k) then Some k else None)

broken_is : (limit held j : ℕ) → limit < held → (if nat_lt limit held then Some j else None)
    ≡ Some j
broken_is limit held j more = grind (arith, nat_tests)

fine_is : (limit held j : ℕ) → held ≤ limit → (if nat_lt limit held then Some j else None) ≡ None
fine_is limit held j fits = grind (arith, nat_tests)

pub outermost_more : (limit held : ℕ → ℕ) (l : List ℕ) (i : ℕ) → i < length l
    → outermost limit held (take (i + 1) l) ≡ last_of
    (if nat_lt (limit (get_or l i 0)) (held (get_or l i 0)) then Some (get_or l i 0) else None)
    (outermost limit held (take i l))
outermost_more limit held l i below =
    ap (outermost limit held) (take_more l i 0 below) ∙ outermost_push limit held (take i l)
    (get_or l i 0)

-- what is found is on the list and holds too much; where nothing is found, none does
two_ways : (m n : ℕ) → (m < n) ⊎ (n ≤ m)
two_ways m n = grind arith

none_cases : (limit held : ℕ → ℕ) (l : List ℕ) (k : ℕ) (o : Option ℕ) → outermost limit held l ≡ o
    → last_of o (if nat_lt (limit k) (held k) then Some k else None) ≡ None
    → (o ≡ None) × (held k ≤ limit k)
none_cases limit held l k (Some i) is e = let bad : ⊥ = cc in absurd bad
none_cases limit held l k None is e = elim (two_ways (limit k) (held k)) [
  | inl more ↦ (let b = broken_is (limit k) (held k) k more in
      let both : None ≡ Some k = sym e ∙ b in let bad : ⊥ = cc in absurd bad)
  | inr fits ↦ (refl, fits)
]

pub none_broken : (limit held : ℕ → ℕ) (l : List ℕ) → outermost limit held l ≡ None → (j : ℕ)
    → IsOn j l
    → held j ≤ limit j
none_broken limit held [] none j on = absurd on
none_broken limit held (k ∷ rest) none j (inl e) =
    subst (λ i. held i ≤ limit i) e
    (none_cases limit held rest k (outermost limit held rest) refl none).1
none_broken limit held (k ∷ rest) none j (inr on) =
    none_broken limit held rest
    (none_cases limit held rest k (outermost limit held rest) refl none).0 j on

some_cases : (limit held : ℕ → ℕ) (l : List ℕ) (k j : ℕ) (o : Option ℕ) → outermost limit held l ≡ o
    → last_of o (if nat_lt (limit k) (held k) then Some k else None) ≡ Some j
    → (o ≡ Some j) ⊎ ((k ≡ j) × (limit k < held k))
some_cases limit held l k j (Some i) is e = inl e
some_cases limit held l k j None is e = elim (two_ways (limit k) (held k)) [
  | inl more ↦ (let b = broken_is (limit k) (held k) k more in
      let both : Some k ≡ Some j = sym b ∙ e in
      let same : k ≡ j = cc in
      inr (same, more))
  | inr fits ↦ (let b = fine_is (limit k) (held k) k fits in
      let both : None ≡ Some j = sym b ∙ e in let bad : ⊥ = cc in absurd bad)
]

pub is_broken : (limit held : ℕ → ℕ) (l : List ℕ) (j : ℕ) → outermost limit held l ≡ Some j
    → IsOn j l × (limit j < held j)
is_broken limit held [] j some = let bad : ⊥ = cc in absurd bad
is_broken limit held (k ∷ rest) j some = elim
    (some_cases limit held rest k j (outermost limit held rest) refl some) [
      | inl later ↦ (let h = is_broken limit held rest j later in (inr h.0, h.1))
      | inr here ↦ (inl here.0, subst (λ i. limit i < held i) here.0 here.1)
    ]

-- the outermost broken budget is further out, or it is this one and none of those is broken
last_or_here : (limit held : ℕ → ℕ) (l : List ℕ) (k j : ℕ) (o : Option ℕ)
    → outermost limit held l ≡ o
    → last_of o (if nat_lt (limit k) (held k) then Some k else None) ≡ Some j
    → (outermost limit held l ≡ Some j) ⊎ ((k ≡ j) × (outermost limit held l ≡ None))
last_or_here limit held l k j (Some i) is e = inl (is ∙ e)
last_or_here limit held l k j None is e = elim (two_ways (limit k) (held k)) [
  | inl more ↦ (let b = broken_is (limit k) (held k) k more in
      let both : Some k ≡ Some j = sym b ∙ e in
      let same : k ≡ j = cc in
      inr (same, is))
  | inr fits ↦ (let b = fine_is (limit k) (held k) k fits in
      let both : None ≡ Some j = sym b ∙ e in let bad : ⊥ = cc in absurd bad)
]

-- the budgets around the outermost broken one are within their limits
pub outside_kept : (around : ℕ → List ℕ) (limit held : ℕ → ℕ) (l : List ℕ) (j : ℕ) → IsChain around l
    → outermost limit held l ≡ Some j → (i : ℕ) → IsOn i (around j) → held i ≤ limit i
outside_kept around limit held [] j is some i on = let bad : ⊥ = cc in absurd bad
outside_kept around limit held (k ∷ rest) j is some i on = elim
    (last_or_here limit held rest k j (outermost limit held rest) refl some) [
      | inl later ↦ outside_kept around limit held rest j is.1 later i on
      | inr here ↦ none_broken limit held rest here.1 i
          (subst (IsOn i) (sym (is.0 ∙ ap around here.0)) on)
    ]

-- the budgets around one are the tree's, and all of them have numbers below the tree's
pub row_is : (rows : List (Bor (List ℕ))) (j : ℕ) (d : Bor (List ℕ)) → j < length rows
    → (get_or rows j d).now ≡ get_or (map (λ row. row.now) rows) j []
row_is [] j d below = absurd (omega arith)
row_is (r ∷ rest) zero d below = refl
row_is (r ∷ rest) (suc j) d below = row_is rest j d (omega arith)

pub row_below : (tree : Tree) (j : ℕ) (d : Bor (List ℕ)) → IsTree tree → j < length tree.limits.now
    → AllByRecursion (λ k. k < length tree.limits.now) (get_or tree.around.now j d).now
row_below tree j d is below =
    let all = chain_below (around_in tree) is.nested j (length tree.limits.now) below in
    subst (AllByRecursion (λ k. k < length tree.limits.now))
    (sym (row_is tree.around.now j d (subst (λ n. j < n) (sym is.long) below))) all.1

pub number_past : (numbers : List ℕ) (j : ℕ) → length numbers ≤ j → 0 ≡ get_or numbers j 0
number_past [] j past = refl
number_past (n ∷ rest) zero past = absurd (omega arith)
number_past (n ∷ rest) (suc j) past = number_past rest j (omega arith)

-- what is held may be said in two ways
pub outermost_same : (limit f g : ℕ → ℕ) → ((j : ℕ) → f j ≡ g j) → (l : List ℕ)
    → outermost limit f l ≡ outermost limit g l
outermost_same limit f g same [] = refl
outermost_same limit f g same (j ∷ rest) =
    ap (λ o. last_of o (if nat_lt (limit j) (f j) then Some j else None))
    (outermost_same limit f g same rest)
    ∙ ap (λ n. last_of (outermost limit g rest) (if nat_lt (limit j) n then Some j else None))
    (same j)

pub listed_bytes : (h : Held) (j : ℕ)
    → number_at (h.frame ∷ h.inner ∷ slice_index_or h.component 0 0 ∷ slice_index_or h.component 1 0
    ∷ slice_index_or h.component 2 0 ∷ []) j
    ≡ bytes_in h j
listed_bytes h zero = refl
listed_bytes h (suc zero) = refl
listed_bytes h (suc (suc zero)) = refl
listed_bytes h (suc (suc (suc zero))) = refl
listed_bytes h (suc (suc (suc (suc zero)))) = refl
listed_bytes h (suc (suc (suc (suc (suc j))))) = refl
