-- Levels are nested, so that the multipliers around a block add up to the level of its nearest
-- closed budget.
use Rattle.std.proofs.Common.{ℕ, ◌≡◌, ◌+◌, ◌-◌, ◌*◌, ◌<◌, ◌≤◌, List, [], ◌∷◌, Option, Some, None}
use Rattle.std.proofs.Common.{refl, sym, ap, subst, ◌∙◌, arith, inl, inr}
use Rattle.std.proofs.lemmas.Nat.{le-div}
use Rattle.std.proofs.lemmas.Option.{none-some, same_Some}
use Rattle.rd_hulls.specs.declared.step.Step.{Step}
use Rattle.allocation_bound.specs.Sums.{total}
use Rattle.allocation_bound.specs.Steps.{scale, IsAsSteep, Agrees, level}
use Rattle.allocation_bound.specs.Budgets.{IsChain, IsOn, Closed, chain, nearer, first, base}
use Rattle.allocation_bound.specs.Budgets.{level_of, above_base, multiplier}
use Rattle.allocation_bound.specs.Settled.{Budgets, AreBudgets, Outcome, IsSettled, nearest}
use Rattle.allocation_bound.specs.Settled.{block_rate}
use Rattle.allocation_bound.proofs.Products.{below, above, level_low, level_high, levels_fall}
use Rattle.allocation_bound.proofs.Chains.{chain_is_chain}
use Rattle.allocation_bound.proofs.Lists.{cases_option, all_weaker, all_any}

pub first_open : (closed : ℕ → Option Step) (j : ℕ) (r : List ℕ) → closed j ≡ None
    → first closed (j ∷ r) ≡ first closed r
first_open closed j r e = ap (λ c. nearer j c (first closed r)) e

pub first_closed : (closed : ℕ → Option Step) (j : ℕ) (r : List ℕ) (s : Step) → closed j ≡ Some s
    → first closed (j ∷ r) ≡ Some (record { budget = j; step = s })
first_closed closed j r s e = ap (λ c. nearer j c (first closed r)) e

-- the first closed budget of a list is closed, and stands on it
pub first_is : (closed : ℕ → Option Step) (c : List ℕ) (x : Closed) → first closed c ≡ Some x
    → (closed x.budget ≡ Some x.step) × IsOn x.budget c
first_is closed [] x e = absurd (none-some x e)
first_is closed (j ∷ r) x e = elim (cases_option (closed j)) [
  | inl n ↦ (let h = first_is closed r x (sym (first_open closed j r n) ∙ e) in (h.0, inr h.1))
  | inr (s, c) ↦ (let p : (record { budget = j; step = s }) ≡ x =
      same_Some _ x (sym (first_closed closed j r s c) ∙ e) in
      subst (λ (y : Closed). (closed y.budget ≡ Some y.step) × IsOn y.budget (j ∷ r)) p
      (c, inl refl))
]

pub multiplier_open : (around : ℕ → List ℕ) (closed : ℕ → Option Step) (j : ℕ) → closed j ≡ None
    → multiplier around closed j ≡ 0
multiplier_open around closed j e = ap (λ c. above_base c (base closed (around j))) e

pub multiplier_closed : (around : ℕ → List ℕ) (closed : ℕ → Option Step) (j : ℕ) (s : Step)
    → closed j ≡ Some s → multiplier around closed j ≡ level s - base closed (around j)
multiplier_closed around closed j s e = ap (λ c. above_base c (base closed (around j))) e

-- no level is below the level around it
abbrev pub LevelsNested : (ℕ → List ℕ) → (ℕ → Option Step) → Type 0
LevelsNested around closed = (j : ℕ) (s : Step) → closed j ≡ Some s → base closed (around j)
    ≤ level s

multiplier_sum : (around : ℕ → List ℕ) (closed : ℕ → Option Step) → LevelsNested around closed
    → (c : List ℕ) → IsChain around c → total (multiplier around closed) c ≡ base closed c
multiplier_sum around closed levels [] h = refl
multiplier_sum around closed levels (j ∷ r) h =
    let later : total (multiplier around closed) r ≡ base closed r =
    multiplier_sum around closed levels r h.1 in
    elim (cases_option (closed j)) [
      | inl e ↦ (let m : multiplier around closed j ≡ 0 = multiplier_open around closed j e in
          let b : base closed (j ∷ r) ≡ base closed r = ap level_of (first_open closed j r e) in
          omega arith)
      | inr (s, e) ↦ (let m : multiplier around closed j ≡ level s - base closed (around j) =
          multiplier_closed around closed j s e in
          let b : base closed (j ∷ r) ≡ level s = ap level_of (first_closed closed j r s e) in
          let n : base closed (around j) ≤ level s = levels j s e in
          let a : base closed r ≡ base closed (around j) = ap (base closed) h.0 in
          omega arith)
    ]

-- a level is above 0
pub level_positive : (s : Step) → 1 ≤ level s
level_positive s =
    let long : s.len ≤ 131072 = s.short in
    let some : 1 ≤ s.gain = s.gains in
    le-div 1 (scale * s.gain) s.len s.longer (omega arith)

module _ (w : Budgets) (budgets : AreBudgets w) (steps : ℕ → List Step) (o : Outcome)
    (h : IsSettled w steps o) where
  pub levels_nested : LevelsNested w.around o.closed
  levels_nested j s e = elim (cases_option (first o.closed (w.around j))) [
    | inl n ↦ (let z : base o.closed (w.around j) ≡ 0 = ap level_of n in omega arith)
    | inr (x, f) ↦ (let z : base o.closed (w.around j) ≡ level x.step = ap level_of f in
        let t : Step = x.step in
        let l : level x.step ≤ level s =
        levels_fall t.len t.gain s.len s.gain t.longer s.longer (h.kept.outer j s x e f) in
        omega arith)
  ]

  -- a block's rate is the level of the nearest step that closed a budget around it
  pub block_rate_is : (b : ℕ) → block_rate w o b ≡ level_of (nearest w o b)
  block_rate_is b =
      multiplier_sum w.around o.closed levels_nested (chain w.around (w.node b))
      (chain_is_chain w.around budgets.nested (w.node b))

  -- and agrees with what the block has taken and left
  pub agreement : (b : ℕ) → b < w.blocks → Agrees (block_rate w o b) (o.done b) (o.left b)
  agreement b inside = elim (cases_option (nearest w o b)) [
    | inl n ↦ (let z : block_rate w o b ≡ 0 = block_rate_is b ∙ ap level_of n in
        rw (z, h.open_done b inside n)
        (record {
          taken = all_any (λ (s : Step). 0 * s.len ≤ scale * s.gain) (λ s. omega arith) (o.done b);
          untaken = tt;
        }))
    | inr (x, f) ↦ (let z : block_rate w o b ≡ level x.step = block_rate_is b ∙ ap level_of f in
        let u : Step = x.step in
        rw z
        (record {
          taken = all_weaker (λ (t : Step). IsAsSteep t u)
              (λ (t : Step). level u * t.len ≤ scale * t.gain)
              (λ t p. below (level u) u.len u.gain t.len t.gain u.longer p (level_low u.gain u.len))
              (o.done b) (h.kept.taken b x inside f);
          untaken = all_weaker (IsAsSteep u) (λ (t : Step). scale * t.gain < (level u + 1) * t.len)
              (λ t p. above (level u) u.len u.gain t.len t.gain u.longer t.longer p
              (level_high u.gain u.len u.longer))
              (o.left b) (h.kept.untaken b x inside f);
        }))
  ]
