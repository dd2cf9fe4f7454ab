-- Closing a budget keeps what stands between moves. This is where it matters that budgets are
-- nested.
use Rattle.std.proofs.Common.{ℕ, ◌≡◌, ◌<◌, ◌⊎◌, List, [], ◌∷◌, set, Option, Some, None, refl, sym}
use Rattle.std.proofs.Common.{ap, subst, ◌∙◌, inl, inr}
use Rattle.std.proofs.lemmas.Bool.{cases_eq}
use Rattle.std.proofs.lemmas.Option.{none-some, same_Some}
use Rattle.std.specs.List.{AllByRecursion}
use Rattle.rd_hulls.specs.declared.step.Step.{Step}
use Rattle.allocation_bound.specs.Steps.{IsAsSteep, IsHead}
use Rattle.allocation_bound.specs.Budgets.{IsChain, IsOn, Closed, chain, first}
use Rattle.allocation_bound.specs.Settled.{Budgets, AreBudgets, Outcome, nearest, with_step}
use Rattle.allocation_bound.specs.Walk.{Stands, Closes}
use Rattle.allocation_bound.proofs.Products.{steep_self}
use Rattle.allocation_bound.proofs.Chains.{chain_is_chain, around_is_chain}
use Rattle.allocation_bound.proofs.Levels.{first_open, first_closed}
use Rattle.allocation_bound.proofs.Lists.{cases_option}
use Rattle.allocation_bound.proofs.Take.{first_none, done_steep, closing_steep}

-- where no budget of a list is closed, none around one of them is
first_none_around : (around : ℕ → List ℕ) (closed : ℕ → Option Step) (j : ℕ) (c : List ℕ)
    → IsChain around c
    → first closed c ≡ None → IsOn j c → first closed (around j) ≡ None
first_none_around around closed j [] h n on = absurd on
first_none_around around closed j (i ∷ r) h n on = elim (cases_option (closed i)) [
  | inl e ↦ (let later : first closed r ≡ None = sym (first_open closed i r e) ∙ n in
      elim on [
        | inl same ↦ subst (λ k. first closed (around k) ≡ None) same
            (ap (first closed) (sym h.0) ∙ later)
        | inr there ↦ first_none_around around closed j r h.1 later there
      ])
  | inr (s, e) ↦ absurd (none-some _ (sym n ∙ first_closed closed i r s e))
]

-- Once j is closed by s, with nothing around it closed, the first closed budget of a chain is as
-- before, or there was none and it is j.
moved : (around : ℕ → List ℕ) (old new : ℕ → Option Step) (j : ℕ) (s : Step) → old j ≡ None
    → first old (around j) ≡ None → new j ≡ Some s → ((i : ℕ) → ¬ (i ≡ j) → new i ≡ old i)
    → (c : List ℕ) → IsChain around c
    → (first new c ≡ first old c)
    ⊎ ((first old c ≡ None) × (first new c ≡ Some (record { budget = j; step = s })))
moved around old new j s was_open outer closed other [] h = inl refl
moved around old new j s was_open outer closed other (k ∷ r) h = elim (cases_eq k j) [
  | inl e ↦ inr (
    first_open old k r (subst (λ i. old i ≡ None) (sym e) was_open) ∙ ap (first old) h.0
        ∙ subst (λ i. first old (around i) ≡ None) (sym e) outer,
    first_closed new k r s (subst (λ i. new i ≡ Some s) (sym e) closed)
        ∙ ap (λ i. Some (record { budget = i; step = s })) e,
  )
  | inr ne ↦ elim (cases_option (old k)) [
    | inl n ↦ (let before : first old (k ∷ r) ≡ first old r = first_open old k r n in
        let after : first new (k ∷ r) ≡ first new r = first_open new k r (other k ne ∙ n) in
        elim (moved around old new j s was_open outer closed other r h.1) [
          | inl same ↦ inl (after ∙ same ∙ sym before)
          | inr both ↦ inr (before ∙ both.0, after ∙ both.1)
        ])
    | inr (t, e) ↦ inl (first_closed new k r t (other k ne ∙ e) ∙ sym (first_closed old k r t e))
  ]
]

module _ (w : Budgets) (budgets : AreBudgets w) (steps : ℕ → List Step) (front : Step) (o : Outcome)
    (h : Stands w steps front o) (s : Step) (rest : List Step) (j : ℕ) (n : Outcome)
    (t : Closes w o s rest j n) where
  chain_of : (b : ℕ) → IsChain w.around (chain w.around (w.node b))
  chain_of b = chain_is_chain w.around budgets.nested (w.node b)

  shut_moved : (c : List ℕ) → IsChain w.around c → (first n.closed c ≡ first o.closed c)
      ⊎ ((first o.closed c ≡ None) × (first n.closed c ≡ Some (record { budget = j; step = s })))
  shut_moved c ch =
      moved w.around o.closed n.closed j s
      (first_none o.closed j (chain w.around (w.node s.block)) t.next.open_block t.on)
      (first_none_around w.around o.closed j (chain w.around (w.node s.block)) (chain_of s.block)
      t.next.open_block t.on)
      t.closed t.other_closed c ch

  -- a closing step is an old one or the new one
  old_or_new : (i : ℕ) (u : Step) → n.closed i ≡ Some u
      → (o.closed i ≡ Some u) ⊎ ((i ≡ j) × (u ≡ s))
  old_or_new i u e = elim (cases_eq i j) [
    | inl same ↦ inr (
      same,
      same_Some u s
          (sym e ∙ subst (λ k. n.closed k ≡ Some s) (sym same) t.closed),
    )
    | inr ne ↦ inl (sym (t.other_closed i ne) ∙ e)
  ]

  -- the first closed budget of a chain is the old one, or is new where there was none
  first_old_or_new : (c : List ℕ) → IsChain w.around c → (x : Closed) → first n.closed c ≡ Some x
      → (first o.closed c ≡ Some x) ⊎ ((first o.closed c ≡ None) × (s ≡ x.step))
  first_old_or_new c ch x e = elim (shut_moved c ch) [
    | inl same ↦ inl (sym same ∙ e)
    | inr both ↦ inr (
      both.0,
      ap (λ (y : Closed). y.step)
          (same_Some (record { budget = j; step = s }) x (sym both.1 ∙ e)),
    )
  ]

  still_none : (c : List ℕ) → IsChain w.around c → first n.closed c ≡ None → first o.closed c ≡ None
  still_none c ch e = elim (shut_moved c ch) [
    | inl same ↦ sym same ∙ e
    | inr both ↦ both.0
  ]

  still_some : (c : List ℕ) → IsChain w.around c → (x : Closed) → first o.closed c ≡ Some x
      → first n.closed c ≡ Some x
  still_some c ch x e = elim (shut_moved c ch) [
    | inl same ↦ same ∙ e
    | inr both ↦ absurd (none-some x (sym both.0 ∙ e))
  ]

  new_closing : nearest w n s.block ≡ Some (record { budget = j; step = s })
  new_closing = elim (shut_moved (chain w.around (w.node s.block)) (chain_of s.block)) [
    | inl same ↦ absurd (none-some s
        (sym (first_none n.closed j (chain w.around (w.node s.block)) (same ∙ t.next.open_block)
        t.on) ∙ t.closed))
    | inr both ↦ both.1
  ]

  new_head : IsHead s (n.left s.block)
  new_head = rw (t.left s.block, t.next.head) refl

  shut_inside : (i : ℕ) (u : Step) → n.closed i ≡ Some u → u.block < w.blocks
  shut_inside i u e = elim (old_or_new i u e) [
    | inl old ↦ h.kept.inside i u old
    | inr both ↦ subst (λ (v : Step). v.block < w.blocks) (sym both.1) t.next.inside
  ]

  shut_heads : (i : ℕ) (u : Step) → n.closed i ≡ Some u → IsHead u (n.left u.block)
  shut_heads i u e = elim (old_or_new i u e) [
    | inl old ↦ rw (t.left u.block) (h.kept.heads i u old)
    | inr both ↦ subst (λ v. IsHead v (n.left v.block)) (sym both.1) new_head
  ]

  shut_closing : (i : ℕ) (u : Step) → n.closed i ≡ Some u → nearest w n u.block
      ≡ Some (record { budget = i; step = u })
  shut_closing i u e = elim (old_or_new i u e) [
    | inl old ↦ still_some (chain w.around (w.node u.block)) (chain_of u.block)
        (record { budget = i; step = u })
        (h.kept.closing i u old)
    | inr both ↦ subst (λ v. nearest w n v.block ≡ Some (record { budget = i; step = v }))
        (sym both.1)
        (subst (λ k. nearest w n s.block ≡ Some (record { budget = k; step = s })) (sym both.0)
        new_closing)
  ]

  shut_refused : (i : ℕ) (u : Step) → n.closed i ≡ Some u → w.limit i < w.held (with_step n u) i
  shut_refused i u e =
      rw t.counts (elim (old_or_new i u e) [
        | inl old ↦ h.kept.refused i u old
        | inr both ↦ subst (λ v. w.limit i < w.held (set o.counts v.block v.to) i) (sym both.1)
            (subst (λ k. w.limit k < w.held (with_step o s) k) (sym both.0) t.breaks)
      ])

  shut_steep : (i : ℕ) (u : Step) → n.closed i ≡ Some u → IsAsSteep u s
  shut_steep i u e = elim (old_or_new i u e) [
    | inl old ↦ closing_steep w budgets steps front o h s rest t.next i u old
    | inr both ↦ subst (λ v. IsAsSteep v s) (sym both.1) (steep_self s)
  ]

  shut_outer : (i : ℕ) (u : Step) (x : Closed) → n.closed i ≡ Some u → first n.closed (w.around i)
      ≡ Some x
      → IsAsSteep u x.step
  shut_outer i u x e f = elim
      (first_old_or_new (w.around i) (around_is_chain w.around budgets.nested i) x f) [
        | inr new ↦ subst (λ v. IsAsSteep u v) new.1 (shut_steep i u e)
        | inl g ↦ elim (old_or_new i u e) [
          | inl old ↦ h.kept.outer i u x old g
          | inr both ↦ absurd (none-some x
              (sym (first_none_around w.around o.closed j (chain w.around (w.node s.block))
              (chain_of s.block) t.next.open_block t.on)
              ∙ subst (λ k. first o.closed (w.around k) ≡ Some x) both.0 g))
        ]
      ]

  shut_taken : (b : ℕ) (x : Closed) → b < w.blocks → nearest w n b ≡ Some x
      → AllByRecursion (λ (v : Step). IsAsSteep v x.step) (n.done b)
  shut_taken b x inside e =
      rw (t.done b) (elim (first_old_or_new (chain w.around (w.node b)) (chain_of b) x e) [
        | inl old ↦ h.kept.taken b x inside old
        | inr new ↦ subst (λ u. AllByRecursion (λ (v : Step). IsAsSteep v u) (o.done b)) new.1
            (done_steep w budgets steps front o h s rest t.next b inside new.0)
      ])

  shut_untaken : (b : ℕ) (x : Closed) → b < w.blocks → nearest w n b ≡ Some x
      → AllByRecursion (IsAsSteep x.step) (n.left b)
  shut_untaken b x inside e =
      rw (t.left b) (elim (first_old_or_new (chain w.around (w.node b)) (chain_of b) x e) [
        | inl old ↦ h.kept.untaken b x inside old
        | inr new ↦ subst (λ u. AllByRecursion (IsAsSteep u) (o.left b)) new.1
            (t.next.steepest b inside new.0)
      ])

  pub walk_close : Stands w steps s n
  walk_close = record {
    kept = record {
      long = rw t.counts h.kept.long;
      within = λ i lt. rw t.counts (h.kept.within i lt);
      splits = λ b inside. rw (t.done b, t.left b) (h.kept.splits b inside);
      places = λ b inside. rw (t.counts, t.done b) (h.kept.places b inside);
      inside = shut_inside;
      heads = shut_heads;
      closing = shut_closing;
      refused = shut_refused;
      outer = shut_outer;
      taken = shut_taken;
      untaken = shut_untaken;
    };
    done = λ b inside e. rw (t.done b)
        (done_steep w budgets steps front o h s rest t.next b inside
        (still_none (chain w.around (w.node b)) (chain_of b) e));
    left = λ b inside e. rw (t.left b)
        (t.next.steepest b inside (still_none (chain w.around (w.node b)) (chain_of b) e));
    rest = shut_steep;
  }
