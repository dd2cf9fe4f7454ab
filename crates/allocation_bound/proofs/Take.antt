-- Taking a step keeps what stands between moves.
use Rattle.std.proofs.Common.{ℕ, ◌≡◌, ◌+◌, ◌<◌, ◌≤◌, List, [], ◌∷◌, ◌++◌, length, get_or, set}
use Rattle.std.proofs.Common.{Option, Some, None, refl, sym, ap, subst, ◌∙◌, arith, inl, inr}
use Rattle.std.proofs.lemmas.Bool.{cases_eq}
use Rattle.std.proofs.lemmas.List.{get_or-set_same, get_or-set_other, length-set}
use Rattle.std.proofs.lemmas.Option.{none-some}
use Rattle.std.specs.List.{AllByRecursion}
use Rattle.rd_hulls.specs.declared.step.Step.{Step}
use Rattle.rd_hulls.specs.Hull.{end_of}
use Rattle.allocation_bound.specs.Steps.{IsAsSteep}
use Rattle.allocation_bound.specs.Budgets.{IsOn, Closed, chain, nearer, first}
use Rattle.allocation_bound.specs.Settled.{Budgets, AreBudgets, Outcome, IsKept, nearest, with_step}
use Rattle.allocation_bound.specs.Walk.{Stands, IsNext, Takes}
use Rattle.allocation_bound.proofs.Products.{steep_through, steep_self}
use Rattle.allocation_bound.proofs.Chains.{cases_on}
use Rattle.allocation_bound.proofs.Levels.{first_open, first_closed, first_is}
use Rattle.allocation_bound.proofs.Lists.{cases_option, all_weaker, all_more, moved_over}

-- where no budget of a list is closed, each is open
pub first_none : (closed : ℕ → Option Step) (j : ℕ) (c : List ℕ) → first closed c ≡ None → IsOn j c
    → closed j ≡ None
first_none closed j [] n on = absurd on
first_none closed j (i ∷ r) n on = elim (cases_option (closed i)) [
  | inl e ↦ elim on [
    | inl same ↦ subst (λ k. closed k ≡ None) same e
    | inr later ↦ first_none closed j r (sym (first_open closed i r e) ∙ n) later
  ]
  | inr (s, e) ↦ absurd (none-some _ (sym n ∙ first_closed closed i r s e))
]

first_same : (old new : ℕ → Option Step) → ((j : ℕ) → new j ≡ old j) → (c : List ℕ) → first new c
    ≡ first old c
first_same old new same [] = refl
first_same old new same (j ∷ r) =
    ap (λ c. nearer j c (first new r)) (same j) ∙ ap (λ x. nearer j (old j) x)
    (first_same old new same r)

end_push : (c : ℕ) (done : List Step) (s : Step) → end_of c (done ++ s ∷ []) ≡ s.to
end_push c [] s = refl
end_push c (t ∷ d) s = end_push t.to d s

module _ (w : Budgets) (budgets : AreBudgets w) (steps : ℕ → List Step) (front : Step) (o : Outcome)
    (h : Stands w steps front o) (s : Step) (rest : List Step) (next : IsNext w o s rest) where
  -- of the step that a move is made by
  pub front_steep : IsAsSteep front s
  front_steep = (rw next.head at (h.left s.block next.inside next.open_block)).0

  pub done_steep : (b : ℕ) → b < w.blocks → nearest w o b ≡ None
      → AllByRecursion (λ (t : Step). IsAsSteep t s) (o.done b)
  done_steep b inside none =
      all_weaker (λ (t : Step). IsAsSteep t front) (λ (t : Step). IsAsSteep t s)
      (λ t p. steep_through t front s p front_steep) (o.done b) (h.done b inside none)

  pub closing_steep : (j : ℕ) (t : Step) → o.closed j ≡ Some t → IsAsSteep t s
  closing_steep j t e = steep_through t front s (h.rest j t e) front_steep

  -- the block of a closed budget is not the open one
  pub not_moved : (b : ℕ) (x : Closed) → nearest w o b ≡ Some x → ¬ (b ≡ s.block)
  not_moved b x e same =
      none-some x (sym next.open_block ∙ subst (λ c. nearest w o c ≡ Some x) same e)

module _ (w : Budgets) (budgets : AreBudgets w) (steps : ℕ → List Step) (front : Step) (o : Outcome)
    (h : Stands w steps front o) (s : Step) (rest : List Step) (n : Outcome)
    (t : Takes w o s rest n) where
  own : List ℕ
  own = chain w.around (w.node s.block)

  same_first : (c : List ℕ) → first n.closed c ≡ first o.closed c
  same_first c = first_same o.closed n.closed t.closed c

  away : (b : ℕ) (x : Closed) → nearest w o b ≡ Some x → ¬ (b ≡ s.block)
  away = not_moved w budgets steps front o h s rest t.next

  rest_steep : AllByRecursion (IsAsSteep s) rest
  rest_steep = (rw t.next.head at (t.next.steepest s.block t.next.inside t.next.open_block)).1

  take_within : (j : ℕ) → j < w.number → w.held n.counts j ≤ w.limit j
  unfolding own
  take_within j lt =
      rw t.counts (elim (cases_on j own) [
        | inl on ↦ t.fits j on
        | inr off ↦ rw (budgets.elsewhere o.counts s.block s.to j h.kept.long t.next.inside off)
            (h.kept.within j lt)
      ])

  take_splits : (b : ℕ) → b < w.blocks → n.done b ++ n.left b ≡ steps b
  take_splits b inside = elim (cases_eq b s.block) [
    | inl e ↦ subst (λ c. n.done c ++ n.left c ≡ steps c) (sym e)
        (rw (t.done, t.left) (moved_over (o.done s.block) s rest ∙
        (rw t.next.head at (h.kept.splits s.block t.next.inside))))
    | inr ne ↦ rw (t.other_done b ne, t.other_left b ne) (h.kept.splits b inside)
  ]

  in_counts : s.block < length o.counts
  in_counts = subst (λ k. s.block < k) (sym h.kept.long) t.next.inside

  take_places : (b : ℕ) → b < w.blocks → get_or n.counts b 0 ≡ end_of 0 (n.done b)
  take_places b inside =
      rw t.counts (elim (cases_eq b s.block) [
        | inl e ↦ subst (λ c. get_or (with_step o s) c 0 ≡ end_of 0 (n.done c)) (sym e)
            (get_or-set_same o.counts s.block s.to 0 in_counts
            ∙ sym (ap (end_of 0) t.done ∙ end_push 0 (o.done s.block) s))
        | inr ne ↦ get_or-set_other o.counts s.block b s.to 0 ne ∙ h.kept.places b inside
            ∙ sym (ap (end_of 0) (t.other_done b ne))
      ])

  was_closed : (j : ℕ) (u : Step) → n.closed j ≡ Some u → o.closed j ≡ Some u
  was_closed j u e = sym (t.closed j) ∙ e

  was_first : (c : List ℕ) (x : Closed) → first n.closed c ≡ Some x → first o.closed c ≡ Some x
  was_first c x e = sym (same_first c) ∙ e

  was_none : (c : List ℕ) → first n.closed c ≡ None → first o.closed c ≡ None
  was_none c e = sym (same_first c) ∙ e

  closer_stays : (j : ℕ) (u : Step) → o.closed j ≡ Some u → ¬ (u.block ≡ s.block)
  closer_stays j u e same = away u.block _ (h.kept.closing j u e) same

  off_chain : (j : ℕ) (u : Step) → o.closed j ≡ Some u → ¬ IsOn j (chain w.around (w.node s.block))
  off_chain j u e on =
      none-some u (sym (first_none o.closed j (chain w.around (w.node s.block)) t.next.open_block
      on) ∙ e)

  on_own : (j : ℕ) (u : Step) → o.closed j ≡ Some u → IsOn j (chain w.around (w.node u.block))
  on_own j u e = (first_is o.closed (chain w.around (w.node u.block)) _ (h.kept.closing j u e)).1

  long_after : length (with_step o s) ≡ w.blocks
  long_after = length-set o.counts s.block s.to ∙ h.kept.long

  agree : (j : ℕ) (u : Step) → o.closed j ≡ Some u → (x : ℕ) → x < w.blocks → w.node x
      ≡ w.node u.block
      → get_or (with_step o s) x 0 ≡ get_or o.counts x 0
  agree j u e x inside at_node = get_or-set_other o.counts s.block x s.to 0 (λ same.
      off_chain j u e (subst (λ c. IsOn j (chain w.around c)) (sym at_node ∙ ap w.node same)
      (on_own j u e)))

  -- what a budget refused it refuses still
  still_refused : (j : ℕ) (u : Step) → o.closed j ≡ Some u
      → w.limit j < w.held (set (with_step o s) u.block u.to) j
  still_refused j u e =
      let same : w.held (set (with_step o s) u.block u.to) j + w.held o.counts j
      ≡ w.held (set o.counts u.block u.to) j + w.held (with_step o s) j =
      budgets.depends o.counts (with_step o s) u.block u.to j h.kept.long long_after
      (h.kept.inside j u e) (agree j u e) in
      let stays : w.held (with_step o s) j ≡ w.held o.counts j =
      budgets.elsewhere o.counts s.block s.to j h.kept.long t.next.inside (off_chain j u e) in
      let over : w.limit j < w.held (set o.counts u.block u.to) j = h.kept.refused j u e in
      omega arith

  take_kept : IsKept w steps n
  take_kept = record {
    long = ap length t.counts ∙ long_after;
    within = take_within;
    splits = take_splits;
    places = take_places;
    inside = λ j u e. h.kept.inside j u (was_closed j u e);
    heads = λ j u e. rw (t.other_left u.block (closer_stays j u (was_closed j u e)))
        (h.kept.heads j u (was_closed j u e));
    closing = λ j u e. same_first (chain w.around (w.node u.block)) ∙ h.kept.closing j u
        (was_closed j u e);
    refused = λ j u e. rw t.counts (still_refused j u (was_closed j u e));
    outer = λ j u x e f. h.kept.outer j u x (was_closed j u e) (was_first (w.around j) x f);
    taken = λ b x inside e.
        let f : nearest w o b ≡ Some x = was_first (chain w.around (w.node b)) x e in
        rw (t.other_done b (away b x f)) (h.kept.taken b x inside f);
    untaken = λ b x inside e.
        let f : nearest w o b ≡ Some x = was_first (chain w.around (w.node b)) x e in
        rw (t.other_left b (away b x f)) (h.kept.untaken b x inside f);
  }

  pub walk_take : Stands w steps s n
  walk_take = record {
    kept = take_kept;
    done = λ b inside e.
        let f : nearest w o b ≡ None = was_none (chain w.around (w.node b)) e in
        elim (cases_eq b s.block) [
          | inl same ↦ subst (λ c. AllByRecursion (λ (t : Step). IsAsSteep t s) (n.done c))
              (sym same)
              (rw t.done (all_more (λ (t : Step). IsAsSteep t s) (o.done s.block) s
              (done_steep w budgets steps front o h s rest t.next s.block t.next.inside
              t.next.open_block) (steep_self s)))
          | inr ne ↦ rw (t.other_done b ne)
              (done_steep w budgets steps front o h s rest t.next b inside f)
        ];
    left = λ b inside e.
        let f : nearest w o b ≡ None = was_none (chain w.around (w.node b)) e in
        elim (cases_eq b s.block) [
          | inl same ↦ subst (λ c. AllByRecursion (IsAsSteep s) (n.left c)) (sym same)
              (rw t.left rest_steep)
          | inr ne ↦ rw (t.other_left b ne) (t.next.steepest b inside f)
        ];
    rest = λ j u e. closing_steep w budgets steps front o h s rest t.next j u (was_closed j u e);
  }
