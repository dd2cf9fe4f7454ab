-- A list of steps, and what each block has of it.
use Rattle.std.proofs.Common.{ℕ, zero, suc, ◌≡◌, ◌+◌, ◌<◌, ◌≤◌, ◌^◌, ◌==◌, if◌then◌else◌, cond}
use Rattle.std.proofs.Common.{Bool, true, false, inl, inr, List, [], ◌∷◌, length, drop, replicate}
use Rattle.std.proofs.Common.{get_or, arith, refl, sym, ap, subst, ◌∙◌}
use Rattle.std.proofs.lemmas.Bool.{cases_eq}
use Rattle.std.proofs.lemmas.Bool.Decides.{nat_tests}
use Rattle.std.proofs.lemmas.List.{get_or_past, get_or-replicate, length-replicate}
use Rattle.std.specs.List.{AllByRecursion}
use Rattle.rd_hulls.specs.declared.step.Step.{Step}
use Rattle.allocation_bound.specs.Steps.{lens}
use Rattle.allocation_bound.specs.Sums.{upto, total, only}
use Rattle.allocation_bound.proofs.Chains.{only_same, only_other}
use Rattle.allocation_bound.proofs.SumLemmas.{upto_same, upto_add, upto_none}
use Rattle.budget_duals.specs.Listed.{list_at, left_at, steps_of}
use Rattle.budget_duals.proofs.Outermost.{two_ways}

only_past : (n i v : ℕ) → n ≤ i → upto n (only i v) ≡ 0
only_past zero i v past = refl
only_past (suc n) i v past =
    let before : upto n (only i v) ≡ 0 = only_past n i v (omega arith) in
    let here : only i v n
    ≡ 0 = only_other i v n (λ e. let same : i ≡ n = e in absurd (omega arith)) in
    omega arith

only_sum : (n i v : ℕ) → i < n → upto n (only i v) ≡ v
only_sum zero i v below = absurd (omega arith)
only_sum (suc n) i v below = elim (cases_eq i n) [
  | inl e ↦ (let before : upto n (only i v) ≡ 0 = only_past n i v (omega arith) in
      let here : only i v n ≡ v = subst (λ k. only i v k ≡ v) e (only_same i v) in
      omega arith)
  | inr ne ↦ (let before : upto n (only i v) ≡ v = only_sum n i v (omega arith) in
      let here : only i v n ≡ 0 = only_other i v n ne in
      omega arith)
]

filtered_total : (test : Bool) (f : Step → ℕ) (s : Step) (rest : List Step)
    → total f (cond test (s ∷ rest) rest) ≡ (if test then f s else 0) + total f rest
filtered_total true f s rest = refl
filtered_total false f s rest = omega arith

-- the blocks' sums are the sum of all
pub split_sum : (f : Step → ℕ) (n : ℕ) (steps : List Step) → AllByRecursion (λ s. s.block < n) steps
    → upto n (λ b. total f (steps_of b steps)) ≡ total f steps
split_sum f n [] all = upto_none n
split_sum f n (s ∷ rest) all =
    let each : upto n (λ b. total f (steps_of b (s ∷ rest)))
    ≡ upto n (λ b. only s.block (f s) b + total f (steps_of b rest)) =
    upto_same n (λ b. total f (steps_of b (s ∷ rest)))
    (λ b. only s.block (f s) b + total f (steps_of b rest))
    (λ b lt. filtered_total (s.block == b) f s (steps_of b rest)) in
    let both : upto n (λ b. only s.block (f s) b + total f (steps_of b rest))
    ≡ upto n (only s.block (f s)) + upto n (λ b. total f (steps_of b rest)) =
    upto_add n (only s.block (f s)) (λ b. total f (steps_of b rest)) in
    let here : upto n (only s.block (f s)) ≡ f s = only_sum n s.block (f s) all.0 in
    let later : upto n (λ b. total f (steps_of b rest)) ≡ total f rest = split_sum f n rest all.1 in
    omega arith

few_lens : (steps : List Step) → length steps ≤ lens steps
few_lens [] = omega arith
few_lens (s ∷ rest) = let h : length rest ≤ lens rest = few_lens rest in omega (arith, s.longer)

-- there are no more steps than bytes
pub few_steps : (n : ℕ) (steps : List Step) → AllByRecursion (λ s. s.block < n) steps
    → upto n (λ b. lens (steps_of b steps)) < 2 ^ 32 → length steps < 2 ^ 32
few_steps n steps all bytes =
    let same : upto n (λ b. lens (steps_of b steps))
    ≡ lens steps = split_sum (λ s. s.len) n steps all in
    let few : length steps ≤ lens steps = few_lens steps in
    omega arith

-- a block beyond all has no steps
none_filtered : (test : Bool) (s : Step) (rest : List Step) → test ≡ false
    → cond test (s ∷ rest) rest ≡ rest
none_filtered true s rest e = let bad : ⊥ = cc in absurd bad
none_filtered false s rest e = refl

other_block : (a b : ℕ) → a < b → (a == b) ≡ false
other_block a b less = grind (arith, nat_tests)

pub no_steps : (n b : ℕ) (steps : List Step) → n ≤ b → AllByRecursion (λ s. s.block < n) steps
    → steps_of b steps ≡ []
no_steps n b [] past all = refl
no_steps n b (s ∷ rest) past all =
    let here : s.block < n = all.0 in
    none_filtered (s.block == b) s (steps_of b rest) (other_block s.block b (omega arith)) ∙
    no_steps n b rest past all.1

no_row : (rows : List (List Step)) (b : ℕ) → length rows ≤ b → list_at rows b ≡ []
no_row [] b past = refl
no_row (r ∷ rest) zero past = absurd (omega arith)
no_row (r ∷ rest) (suc b) past = no_row rest b (omega arith)

drop_none : (n : ℕ) → drop {A = Step} n [] ≡ []
drop_none zero = refl
drop_none (suc n) = refl

pub none_left : (rows : List (List Step)) (places : List ℕ) (b : ℕ) → length rows ≤ b
    → left_at rows places b ≡ []
none_left rows places b past =
    ap (drop (get_or places b 0)) (no_row rows b past) ∙ drop_none (get_or places b 0)

same_at : (k b n : ℕ) → get_or (replicate k n) b n ≡ n
same_at k b n = elim (two_ways k b) [
  | inl past ↦ get_or_past (replicate k n) b n
      (let e : length (replicate k n) ≡ k = length-replicate k n in omega arith)
  | inr below ↦ get_or-replicate k b n n below
]

-- before any step is taken each block has left what the list has of it
pub left_all : (rows : List (List Step)) (places : List ℕ) (steps : List Step) → places
    ≡ replicate (length rows) 0
    → ((b : ℕ) → b < length rows → list_at rows b ≡ steps_of b steps)
    → AllByRecursion (λ s. s.block < length rows) steps → (b : ℕ) → left_at rows places b
    ≡ steps_of b steps
left_all rows places steps zeros filled all b = elim (two_ways (length rows) b) [
  | inl past ↦ none_left rows places b past ∙ sym (no_steps (length rows) b steps past all)
  | inr below ↦ ap (λ (l : List ℕ). drop (get_or l b 0) (list_at rows b)) zeros
      ∙ (ap (λ (n : ℕ). drop n (list_at rows b)) (same_at (length rows) b 0) ∙ filled b below)
]
