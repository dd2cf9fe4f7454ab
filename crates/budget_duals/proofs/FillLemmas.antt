-- Steps are put to those of their block.
use Rattle.std.proofs.Common.{ℕ, zero, suc, ◌+◌, ◌<◌, ◌≤◌, ◌^◌, ◌≡◌, ◌≢◌, ◌⊎◌, inl, inr, Bool, true}
use Rattle.std.proofs.Common.{false, ◌==◌, cond, List, [], ◌∷◌, ◌++◌, length, take, set, get_or}
use Rattle.std.proofs.Common.{replicate, Some, arith, refl, sym, ap, subst, ◌∙◌, append-nil}
use Rattle.std.proofs.lemmas.Bool.Decides.{nat_tests}
use Rattle.std.proofs.lemmas.List.{take_more, get_or-set_same, get_or-set_other, get_or-replicate}
use Rattle.std.proofs.lemmas.List.{length-replicate}
use Rattle.std.proofs.lemmas.List.Elements.{filter-append}
use Rattle.std.proofs.lemmas.Option.{slice_get-get_or}
use Rattle.rd_hulls.specs.declared.step.Step.{Step as HullStep}
use Rattle.std.specs.List.{AllByRecursion as Each}
use Rattle.budget_duals.specs.Offers.{HasBlock}
use Rattle.budget_duals.specs.Listed.{AreRows, list_at, steps_of}
use Rattle.budget_duals.proofs.Places.{same_or_other}

-- a test by cases
decided : (a b : ℕ) → ((a == b) ≡ true) × (a ≡ b) ⊎ (((a == b) ≡ false) × (a ≢ b))
decided a b = elim (same_or_other a b) [
  | inl e ↦ inl (grind (arith, nat_tests), e)
  | inr ne ↦ inr (grind (arith, nat_tests), ne)
]

own_filtered : (b : ℕ) (test : Bool) (s : HullStep) (rest : List HullStep)
    → (test ≡ true → s.block ≡ b) → HasBlock b rest
    → HasBlock b (cond test (s ∷ rest) rest)
own_filtered b true s rest same all = (same refl, all)
own_filtered b false s rest same all = all

pub own_steps_of : (b : ℕ) (steps : List HullStep) → HasBlock b (steps_of b steps)
own_steps_of b [] = tt
own_steps_of b (s ∷ rest) = own_filtered b (s.block == b) s (steps_of b rest)
    (λ test. grind (arith, nat_tests)) (own_steps_of b rest)

short_filtered : (test : Bool) (s : HullStep) (kept rest : List HullStep) → length kept
    ≤ length rest → length (cond test (s ∷ kept) kept) ≤ suc (length rest)
short_filtered true s kept rest le = omega arith
short_filtered false s kept rest le = omega arith

pub short_steps_of : (b : ℕ) (steps : List HullStep) → length (steps_of b steps) ≤ length steps
short_steps_of b [] = omega arith
short_steps_of b (s ∷ rest) = short_filtered (s.block == b) s (steps_of b rest) rest
    (short_steps_of b rest)

pub begun_rows : (rows : List (List HullStep)) (places : List ℕ) (steps : List HullStep) → places
    ≡ replicate (length rows) 0
    → ((b : ℕ) → b < length rows → list_at rows b ≡ steps_of b steps) → length steps < 2 ^ 32
    → length rows < 2 ^ 32 → AreRows rows places
begun_rows rows places steps zeros filled few blocks = record {
  few = blocks;
  many = ap length zeros ∙ length-replicate (length rows) 0;
  within = λ b below. subst (λ (n : ℕ). n ≤ length (list_at rows b))
      (sym (ap (λ (l : List ℕ). get_or l b 0) zeros ∙ get_or-replicate (length rows) b 0 0 below))
      (omega arith);
  own = λ b below. subst (HasBlock b) (sym (filled b below)) (own_steps_of b steps);
  short = λ b below. omega (arith, ap length (filled b below), short_steps_of b steps);
}

put_one : (test : Bool) (old : List HullStep) (s : HullStep) → test ≡ true → old ++ s ∷ [] ≡ old
    ++ cond test (s ∷ []) []
put_one test old s e = ap (λ (t : Bool). old ++ cond t (s ∷ []) []) (sym e)

put_none : (test : Bool) (old : List HullStep) (s : HullStep) → test ≡ false → old ≡ old
    ++ cond test (s ∷ []) []
put_none test old s e = sym (append-nil old) ∙ ap (λ (t : Bool). old ++ cond t (s ∷ []) []) (sym e)

pub some_default : (xs : List (List HullStep)) (i : ℕ) (d e : List HullStep) → i < length xs
    → get_or xs i d ≡ get_or xs i e
some_default xs i d e below =
    let first = slice_get-get_or xs i d below in
    let second = slice_get-get_or xs i e below in
    let both : Some (get_or xs i d) ≡ Some (get_or xs i e) = sym first ∙ second in
    cc

steps_next : (b : ℕ) (steps : List HullStep) (i : ℕ) (s : HullStep) → i < length steps → s
    ≡ get_or steps i s
    → steps_of b (take i steps) ++ cond (s.block == b) (s ∷ []) [] ≡ steps_of b (take (i + 1) steps)
steps_next b steps i s below is = sym
    (ap (steps_of b) (take_more steps i s below)
    ∙ (ap (λ (t : HullStep). steps_of b (take i steps ++ t ∷ [])) (sym is)
    ∙ filter-append (λ (t : HullStep). t.block == b) (take i steps) (s ∷ [])))

pub fill_more : (rows : List (List HullStep)) (steps : List HullStep) (i : ℕ) (s : HullStep)
    (old : List HullStep)
    → i < length steps → s ≡ get_or steps i s → s.block < length rows → old
    ≡ get_or rows s.block old
    → ((b : ℕ) → b < length rows → list_at rows b ≡ steps_of b (take i steps))
    → (b : ℕ) → b < length rows → list_at (set rows s.block (old ++ s ∷ [])) b
    ≡ steps_of b (take (i + 1) steps)
fill_more rows steps i s old below is inside was filled b in_range = elim (decided s.block b) [
  | inl p ↦ subst (λ (k : ℕ). get_or (set rows s.block (old ++ s ∷ [])) k []
      ≡ steps_of b (take (i + 1) steps)) p.1
      (get_or-set_same rows s.block (old ++ s ∷ []) [] inside
      ∙ (put_one (s.block == b) old s p.0
      ∙ (ap (λ (l : List HullStep). l ++ cond (s.block == b) (s ∷ []) [])
      (was ∙ (some_default rows s.block old [] inside ∙
      (filled s.block inside ∙ ap (λ (k : ℕ). steps_of k (take i steps)) p.1)))
      ∙ steps_next b steps i s below is)))
  | inr p ↦ (let other : b ≢ s.block = λ e. p.1 (sym e) in
      get_or-set_other rows s.block b (old ++ s ∷ []) [] other
      ∙ (filled b in_range
      ∙ (put_none (s.block == b) (steps_of b (take i steps)) s p.0
      ∙ steps_next b steps i s below is)))
]

-- a fact of each step is one of the step at a place
pub each_at : (P : HullStep → Type 0) (steps : List HullStep) (i : ℕ) (s : HullStep) → Each P steps
    → i < length steps → s ≡ get_or steps i s → P s
each_at P [] i s all below is = absurd (omega arith)
each_at P (t ∷ rest) zero s all below is = subst P (sym is) all.0
each_at P (t ∷ rest) (suc i) s all below is = each_at P rest i s all.1 (omega arith) is
