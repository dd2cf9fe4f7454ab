-- A step is taken, or closes a budget.
use Rattle.std.proofs.Common.{ℕ, zero, suc, ◌≡◌, ◌≢◌, ◌+◌, ◌<◌, ◌≤◌, inl, inr, List, [], ◌∷◌, ◌++◌}
use Rattle.std.proofs.Common.{length, set, Option, Some, None, arith, refl, sym, ap, subst, ◌∙◌}
use Rattle.std.proofs.lemmas.Bool.{cases_eq}
use Rattle.std.proofs.lemmas.List.{get_or-set_same, get_or-set_other}
use Rattle.std.proofs.lemmas.Option.{none-some}
use Rattle.rd_hulls.specs.declared.step.Step.{Step}
use Rattle.allocation_bound.specs.Sums.{upto}
use Rattle.allocation_bound.specs.Budgets.{Closed, chain, first, nearer}
use Rattle.allocation_bound.specs.Settled.{Budgets, AreBudgets, Outcome, nearest}
use Rattle.allocation_bound.specs.Walk.{Takes, Closes}
use Rattle.allocation_bound.proofs.Chains.{chain_below, chain_is_chain, on_below}
use Rattle.allocation_bound.proofs.Take.{walk_take, first_none}
use Rattle.allocation_bound.proofs.Close.{walk_close}
use Rattle.budget_duals.specs.Tree.{closed_by, outermost}
use Rattle.budget_duals.specs.Walking.{so_far, Walks, IsNextStep, is_none, open_count, ahead}
use Rattle.budget_duals.proofs.TreeLemmas.{none_broken, is_broken, outside_kept}

pub upto_at_most : (n : ℕ) (f g : ℕ → ℕ) → ((j : ℕ) → j < n → f j ≤ g j) → upto n f ≤ upto n g
upto_at_most zero f g le = omega arith
upto_at_most (suc n) f g le =
    let here : f n ≤ g n = le n (omega arith) in
    let rest : upto n f ≤ upto n g = upto_at_most n f g (λ j below. le j (omega arith)) in
    omega arith

pub upto_less : (n : ℕ) (f g : ℕ → ℕ) (b : ℕ) → b < n → ((j : ℕ) → j < n → f j ≤ g j) → f b < g b
    → upto n f < upto n g
upto_less zero f g b inside le lt = absurd (omega arith)
upto_less (suc n) f g b inside le lt = elim (cases_eq b n) [
  | inl e ↦ (let here : f n < g n = subst (λ k. f k < g k) e lt in
      let rest : upto n f ≤ upto n g = upto_at_most n f g (λ j below. le j (omega arith)) in
      omega arith)
  | inr ne ↦ (let here : f n ≤ g n = le n (omega arith) in
      let rest : upto n f < upto n g = upto_less n f g b (omega arith)
      (λ j below. le j (omega arith)) lt in
      omega arith)
]

-- one step fewer is left
fewer : (left new : ℕ → List Step) (s : Step) (b : ℕ) → left s.block ≡ s ∷ new s.block
    → ((k : ℕ) → k ≢ s.block → new k ≡ left k) → length (new b) ≤ length (left b)
fewer left new s b head others = elim (cases_eq b s.block) [
  | inl e ↦ subst (λ k. length (new k) ≤ length (left k)) (sym e)
      (let l : length (left s.block) ≡ suc (length (new s.block)) = ap length head in omega arith)
  | inr ne ↦ (let l : length (new b) ≡ length (left b) = ap length (others b ne) in omega arith)
]

pub ahead_taken : (blocks : ℕ) (left new : ℕ → List Step) (closed : List (Option Step))
    (unknown more : ℕ → ℕ) (s : Step)
    → s.block < blocks → left s.block ≡ s ∷ new s.block → ((k : ℕ) → k ≢ s.block → new k ≡ left k)
    → ((k : ℕ) → k < blocks → more k ≤ unknown k)
    → ahead blocks new closed more < ahead blocks left closed unknown
ahead_taken blocks left new closed unknown more s inside head others keeps =
    let a : upto blocks (λ b. length (new b)) < upto blocks (λ b. length (left b)) =
    upto_less blocks (λ b. length (new b)) (λ b. length (left b)) s.block inside
    (λ b below. fewer left new s b head others)
    (let l : length (left s.block) ≡ suc (length (new s.block)) = ap length head in omega arith) in
    let u : upto blocks more ≤ upto blocks unknown = upto_at_most blocks more unknown keeps in
    omega arith

-- one budget fewer is open
open_fewer : (closed : List (Option Step)) (j : ℕ) (s : Step) → j < length closed
    → closed_by closed j ≡ None
    → open_count (set closed j (Some s)) + 1 ≡ open_count closed
open_fewer [] j s below was = absurd (omega arith)
open_fewer (o ∷ rest) zero s below was = let e : is_none o ≡ 1 = ap is_none was in omega arith
open_fewer (o ∷ rest) (suc j) s below was =
    let h : open_count (set rest j (Some s)) + 1
    ≡ open_count rest = open_fewer rest j s (omega arith) was in
    omega arith

pub ahead_closed : (blocks : ℕ) (left : ℕ → List Step) (closed : List (Option Step))
    (unknown : ℕ → ℕ) (j : ℕ) (s : Step)
    → j < length closed → closed_by closed j ≡ None
    → ahead blocks left (set closed j (Some s)) unknown < ahead blocks left closed unknown
ahead_closed blocks left closed unknown j s below was =
    let h : open_count (set closed j (Some s)) + 1
    ≡ open_count closed = open_fewer closed j s below was in
    omega arith

pub ahead_looked : (blocks : ℕ) (left : ℕ → List Step) (closed : List (Option Step))
    (unknown less : ℕ → ℕ) (b : ℕ)
    → b < blocks → less b < unknown b → ((k : ℕ) → k < blocks → less k ≤ unknown k)
    → ahead blocks left closed less < ahead blocks left closed unknown
ahead_looked blocks left closed unknown less b inside learns keeps =
    let u : upto blocks less < upto blocks unknown = upto_less blocks less unknown b inside keeps
    learns in
    omega arith

-- where one budget more is closed, what is open was open
nearer_opens : (o p : Option Step) (k : ℕ) (later before : Option Closed) → (p ≡ None → o ≡ None)
    → (later ≡ None → before ≡ None)
    → nearer k p later ≡ None → nearer k o before ≡ None
nearer_opens o (Some s) k later before f g e = let bad : ⊥ = cc in absurd bad
nearer_opens o None k later before f g e = ap (λ c. nearer k c before) (f refl) ∙ g e

pub first_opens : (old new : ℕ → Option Step) → ((j : ℕ) → new j ≡ None → old j ≡ None)
    → (c : List ℕ)
    → first new c ≡ None → first old c ≡ None
first_opens old new opens [] e = refl
first_opens old new opens (k ∷ rest) e =
    nearer_opens (old k) (new k) k (first new rest) (first old rest) (opens k)
    (first_opens old new opens rest) e

set_opens : (closed : List (Option Step)) (j : ℕ) (s : Step) → j < length closed → (i : ℕ)
    → closed_by (set closed j (Some s)) i ≡ None → closed_by closed i ≡ None
set_opens closed j s below i e = elim (cases_eq i j) [
  | inl same ↦ absurd (none-some s
      (sym e ∙ subst (λ k. closed_by (set closed j (Some s)) k ≡ Some s) (sym same)
      (get_or-set_same closed j (Some s) None below)))
  | inr ne ↦ sym (get_or-set_other closed j i (Some s) None ne) ∙ e
]

pub close_opens : (w : Budgets) (counts : List ℕ) (done left : ℕ → List Step)
    (closed : List (Option Step)) (j : ℕ) (s : Step)
    → j < length closed → (b : ℕ)
    → nearest w (so_far counts done left (set closed j (Some s))) b ≡ None
    → nearest w (so_far counts done left closed) b ≡ None
close_opens w counts done left closed j s below b e =
    first_opens (closed_by closed) (closed_by (set closed j (Some s))) (set_opens closed j s below)
    (chain w.around (w.node b)) e

tail_of : List Step → List Step
tail_of [] = []
tail_of (s ∷ rest) = rest

rest_same : (s : Step) (a b : List Step) → s ∷ a ≡ s ∷ b → a ≡ b
unfolding tail_of
rest_same s a b e = ap tail_of e

pub takes : (w : Budgets) (counts new_counts : List ℕ) (done left new_done new_left : ℕ → List Step)
    (closed : List (Option Step))
    (s : Step) → AreBudgets w → IsNextStep w (so_far counts done left closed) s
    → outermost w.limit (w.held (set counts s.block s.to)) (chain w.around (w.node s.block)) ≡ None
    → new_counts ≡ set counts s.block s.to → left s.block ≡ s ∷ new_left s.block
    → new_done s.block ≡ done s.block ++ s ∷ []
    → ((k : ℕ) → k ≢ s.block → new_left k ≡ left k) → ((k : ℕ) → k ≢ s.block → new_done k ≡ done k)
    → (steps : ℕ → List Step) → Walks w steps (so_far counts done left closed)
    → Walks w steps (so_far new_counts new_done new_left closed)
takes w counts new_counts done left new_done new_left closed s budgets next fits is head grown lefts
    dones steps walks =
    let o : Outcome = so_far counts done left closed in
    let n : Outcome = so_far new_counts new_done new_left closed in
    let move : Takes w o s next.0 n = record {
      next = next.1;
      fits = none_broken w.limit (w.held (set counts s.block s.to))
          (chain w.around (w.node s.block)) fits;
      counts = is;
      done = grown;
      left = rest_same s (new_left s.block) next.0 (sym head ∙ next.1.head);
      other_done = dones;
      other_left = lefts;
      closed = λ j. refl;
    } in record {
      front = s;
      stands = walk_take w budgets steps walks.front o walks.stands s next.0 n move;
      reached = (o ∷ walks.reached.0, (walks.reached.1, (s, (next.0, inl move))));
    }

pub closes : (w : Budgets) (counts : List ℕ) (done left : ℕ → List Step)
    (closed : List (Option Step)) (s : Step) (j : ℕ)
    → AreBudgets w → j < length closed → IsNextStep w (so_far counts done left closed) s
    → outermost w.limit (w.held (set counts s.block s.to)) (chain w.around (w.node s.block))
    ≡ Some j
    → (steps : ℕ → List Step) → Walks w steps (so_far counts done left closed)
    → Walks w steps (so_far counts done left (set closed j (Some s)))
closes w counts done left closed s j budgets below next breaks steps walks =
    let o : Outcome = so_far counts done left closed in
    let n : Outcome = so_far counts done left (set closed j (Some s)) in
    let broken = is_broken w.limit (w.held (set counts s.block s.to))
    (chain w.around (w.node s.block)) j breaks in
    let move : Closes w o s next.0 j n = record {
      next = next.1;
      on = broken.0;
      breaks = broken.1;
      outermost = outside_kept w.around w.limit (w.held (set counts s.block s.to))
          (chain w.around (w.node s.block)) j
          (chain_is_chain w.around budgets.nested (w.node s.block)) breaks;
      counts = refl;
      done = λ b. refl;
      left = λ b. refl;
      closed = get_or-set_same closed j (Some s) None below;
      other_closed = λ i ne. get_or-set_other closed j i (Some s) None ne;
    } in record {
      front = s;
      stands = walk_close w budgets steps walks.front o walks.stands s next.0 j n move;
      reached = (o ∷ walks.reached.0, (walks.reached.1, (s, (next.0, inr (j, move)))));
    }

-- the broken budget is one of the budgets, and was open
pub broken_inside : (w : Budgets) (o : Outcome) (s : Step) (j : ℕ) (held : ℕ → ℕ) → AreBudgets w
    → IsNextStep w o s
    → outermost w.limit held (chain w.around (w.node s.block)) ≡ Some j → j < w.number
broken_inside w o s j held budgets next breaks =
    on_below w.number j (chain w.around (w.node s.block))
    (chain_below w.around budgets.nested (w.node s.block) w.number
    (budgets.inside s.block next.1.inside))
    (is_broken w.limit held (chain w.around (w.node s.block)) j breaks).0

pub broken_open : (w : Budgets) (o : Outcome) (s : Step) (j : ℕ) (held : ℕ → ℕ) → IsNextStep w o s
    → outermost w.limit held (chain w.around (w.node s.block)) ≡ Some j → o.closed j ≡ None
broken_open w o s j held next breaks =
    first_none o.closed j (chain w.around (w.node s.block)) next.1.open_block
    (is_broken w.limit held (chain w.around (w.node s.block)) j breaks).0
