-- What an allocation leaves is what the certificate says.
use Rattle.std.proofs.Common.{ℕ, ◌≡◌, ◌+◌, ◌*◌, ◌<◌, ◌≤◌, ◌^◌, ◌==◌, if◌then◌else◌, Bool, true}
use Rattle.std.proofs.Common.{false, List, [], ◌∷◌, ◌++◌, length, get_or, Option, Some, None, arith}
use Rattle.std.proofs.Common.{refl, sym, ap, subst, ◌∙◌}
use Rattle.std.proofs.Common.{inl, inr}
use Rattle.std.specs.List.{AllByRecursion}
use Rattle.cine_nums.specs.declared.budget.Budget.{Budget}
use Rattle.cine_nums.specs.declared.budget.Budget.TheVariants.{Frame, Inner, C0, C1, C2}
use Rattle.rd_hulls.specs.declared.step.Step.{Step}
use Rattle.allocation_bound.specs.Budgets.{chain}
use Rattle.allocation_bound.specs.Laws.{HasCertificate}
use Rattle.allocation_bound.specs.Ledger.{IsGap}
use Rattle.allocation_bound.specs.Refused.{grow, price, price_at, refused_price, ledger}
use Rattle.allocation_bound.specs.Settled.{Budgets, AreBudgets, Outcome, IsSettled, multiplier_of}
use Rattle.allocation_bound.specs.Settled.{block_rate}
use Rattle.allocation_bound.specs.Steps.{best, cost, gains, lens, scale}
use Rattle.allocation_bound.specs.Sums.{upto, total}
use Rattle.allocation_bound.proofs.Levels.{first_is, multiplier_open}
use Rattle.allocation_bound.proofs.Lists.{cases_option, all_after, at_head}
use Rattle.allocation_bound.proofs.Splits.{best_is_least, excess_over_prefixes}
use Rattle.allocation_bound.proofs.SumLemmas.{upto_le}
use Rattle.budget_duals.specs.Allocated.{IsAllocated}
use Rattle.budget_duals.specs.Certified.{IsCertificate}
use Rattle.budget_duals.specs.Frame.{AreMembers, frame_budgets, refused_one, refused_by}
use Rattle.budget_duals.specs.Frame.{refused_steps}
use Rattle.budget_duals.specs.Held.{place_of}
use Rattle.budget_duals.specs.Listing.{refused_listed}
use Rattle.budget_duals.specs.Numbered.{bytes_in}
use Rattle.budget_duals.specs.Price.{CanTake}
use Rattle.budget_duals.specs.Tree.{closed_by, number_at}
use Rattle.budget_duals.specs.Walking.{so_far, CanWalk}
use Rattle.budget_duals.specs.declared.certificate.Certificate.{Certificate}
use Rattle.budget_duals.specs.declared.certificate.RefusedStep.{RefusedStep}
use Rattle.budget_duals.specs.declared.held.Held.{Held}
use Rattle.budget_duals.specs.declared.limits.Limits.{Limits}
use Rattle.budget_duals.specs.declared.members.Members.{Members}
use Rattle.budget_duals.proofs.DualLemmas.{lens_after, left_bytes}
use Rattle.budget_duals.proofs.FrameLemmas.{no_inner_in}
use Rattle.budget_duals.proofs.GainLemmas.{gains_append}

-- a step that closed a budget can still be taken
pub can_take_refused : (w : Budgets) (steps : ℕ → List Step) (o : Outcome) (most : List ℕ)
    → IsSettled w steps o
    → HasCertificate w steps o → length most ≡ w.blocks → CanWalk most steps → (j : ℕ) (s : Step)
    → o.closed j ≡ Some s → CanTake most o.counts s
can_take_refused w steps o most settled certificate long can j s e =
    let b : ℕ = s.block in
    let inside : b < w.blocks = settled.kept.inside j s e in
    let below : b < length most = subst (λ n. b < n) (sym long) inside in
    record {
      block = below;
      from = (certificate.refused j s e).count;
      to = at_head (λ (t : Step). t.to ≤ get_or most b 0) s (o.left b) (settled.kept.heads j s e)
          (all_after (λ (t : Step). t.to ≤ get_or most b 0) (o.done b) (o.left b)
          (subst (AllByRecursion (λ (t : Step). t.to ≤ get_or most b 0))
          (sym (settled.kept.splits b inside)) (can.to b below)));
    }

-- what stands of all steps stands of one that closed a budget
pub all_refused : (w : Budgets) (steps : ℕ → List Step) (o : Outcome) (P : Step → Type 0)
    → IsSettled w steps o → ((b : ℕ) → b < w.blocks → AllByRecursion P (steps b))
    → (j : ℕ) (s : Step) → o.closed j ≡ Some s → P s
all_refused w steps o P settled all j s e =
    let b : ℕ = s.block in
    let inside : b < w.blocks = settled.kept.inside j s e in
    at_head P s (o.left b) (settled.kept.heads j s e)
    (all_after P (o.done b) (o.left b)
    (subst (AllByRecursion P) (sym (settled.kept.splits b inside)) (all b inside)))

-- what was taken gains no more than all steps
pub taken_gains : (w : Budgets) (steps : ℕ → List Step) (o : Outcome) → IsSettled w steps o
    → upto w.blocks (λ b. gains (o.done b)) ≤ upto w.blocks (λ b. gains (steps b))
taken_gains w steps o settled =
    upto_le w.blocks (λ b. gains (o.done b)) (λ b. gains (steps b))
    (λ b inside. subst (λ (l : List Step). gains (o.done b) ≤ gains l)
    (settled.kept.splits b inside)
    (let e : gains (o.done b ++ o.left b) ≡ gains (o.done b)
    + gains (o.left b) = gains_append (o.done b) (o.left b) in omega arith))

total_append : (xs ys : List RefusedStep)
    → total (λ (r : RefusedStep). r.price) (xs ++ ys) ≡ total (λ (r : RefusedStep). r.price) xs
    + total (λ (r : RefusedStep). r.price) ys
total_append [] ys = omega arith
total_append (x ∷ xs) ys =
    let h : total (λ (r : RefusedStep). r.price) (xs ++ ys)
    ≡ total (λ (r : RefusedStep). r.price) xs
    + total (λ (r : RefusedStep). r.price) ys = total_append xs ys in
    omega arith

none_or_none : (test : Bool) (n : ℕ) → n ≡ (if test then n else n)
none_or_none true n = refl
none_or_none false n = refl

one_or_none : (test : Bool) (r : RefusedStep)
    → total (λ (x : RefusedStep). x.price) (if test then [] else r ∷ [])
    ≡ (if test then 0 else r.price)
one_or_none true r = refl
one_or_none false r = omega arith

-- the prices that a budget lists
listed_price : (w : Budgets) (o : Outcome) (budget : Budget) (closed : Option Step)
    → total (λ (r : RefusedStep). r.price)
    (refused_one budget (multiplier_of w o (place_of budget))
    (λ s. grow w o s (place_of budget)) closed)
    ≡ (if multiplier_of w o (place_of budget) == 0 then 0 else refused_price w o closed
    (place_of budget))
listed_price w o budget None = none_or_none (multiplier_of w o (place_of budget) == 0) 0
listed_price w o budget (Some s) = one_or_none (multiplier_of w o (place_of budget) == 0) (record {
  budget = budget;
  step = s;
  grow = grow w o s (place_of budget);
  price = price s (grow w o s (place_of budget));
})

price_of_one : (w : Budgets) (o : Outcome) (budget : Budget)
    → total (λ (r : RefusedStep). r.price) (refused_by w o budget) ≡ price_at w o (place_of budget)
price_of_one w o budget = listed_price w o budget (o.closed (place_of budget))

prices_are : (w : Budgets) (o : Outcome)
    → total (λ (r : RefusedStep). r.price) (refused_steps w o) ≡ upto 5 (price_at w o)
prices_are w o =
    let a : total (λ (r : RefusedStep). r.price) (refused_by w o Frame)
    ≡ price_at w o 0 = price_of_one w o Frame in
    let b : total (λ (r : RefusedStep). r.price) (refused_by w o Inner)
    ≡ price_at w o 1 = price_of_one w o Inner in
    let c : total (λ (r : RefusedStep). r.price) (refused_by w o C0)
    ≡ price_at w o 2 = price_of_one w o C0 in
    let d : total (λ (r : RefusedStep). r.price) (refused_by w o C1)
    ≡ price_at w o 3 = price_of_one w o C1 in
    let e : total (λ (r : RefusedStep). r.price) (refused_by w o C2)
    ≡ price_at w o 4 = price_of_one w o C2 in
    let ab = total_append (refused_by w o Frame) (refused_by w o Inner) in
    let abc = total_append (refused_by w o Frame ++ refused_by w o Inner) (refused_by w o C0) in
    let abcd = total_append (refused_by w o Frame ++ refused_by w o Inner ++ refused_by w o C0)
    (refused_by w o C1) in
    let abcde = total_append
    (refused_by w o Frame ++ refused_by w o Inner ++ refused_by w o C0 ++ refused_by w o C1)
    (refused_by w o C2) in
    omega arith

five_same : (a b c d e p q r s t : List RefusedStep) → a ≡ p → b ≡ q → c ≡ r → d ≡ s → e ≡ t
    → a ++ b ++ c ++ d ++ e ≡ p ++ q ++ r ++ s ++ t
five_same a b c d e p q r s t ea eb ec ed ee = cc

chosen_by : (x b c l s n : ℕ) → x + n ≤ b + l → b ≤ c → l ≤ s → x ≤ c + s
chosen_by x b c l s n over least less = omega arith

pub certified_frame : (limits : Limits) (blocks : ℕ) (inside : ℕ → Members) (held : List ℕ → Held)
    (steps : ℕ → List Step) (counts : List ℕ) (done left : ℕ → List Step)
    (closed : List (Option Step))
    (numbers : List ℕ) (gap start : ℕ) (c : Certificate)
    → AreBudgets (frame_budgets limits blocks inside held)
    → IsAllocated (frame_budgets limits blocks inside held) steps (so_far counts done left closed)
    numbers gap
    → upto blocks (λ b. lens (steps b)) < 2 ^ 32
    → ((j : ℕ) → j < 5 → number_at c.multipliers j ≡ number_at numbers j)
    → c.gap ≡ gap → c.distortion + upto blocks (λ b. gains (done b)) ≡ start
    → c.refused.items ≡ refused_listed (λ k j. bytes_in (held k) j) counts numbers closed Frame
    ++ refused_listed (λ k j. bytes_in (held k) j) counts numbers closed Inner
    ++ refused_listed (λ k j. bytes_in (held k) j) counts numbers closed C0
    ++ refused_listed (λ k j. bytes_in (held k) j) counts numbers closed C1
    ++ refused_listed (λ k j. bytes_in (held k) j) counts numbers closed C2
    → IsCertificate (frame_budgets limits blocks inside held) steps counts done left start c
certified_frame limits blocks inside held steps counts done left closed numbers gap start c
    budgets allocated bytes same same_gap distortion listed =
    let w : Budgets = frame_budgets limits blocks inside held in
    let o : Outcome = so_far counts done left closed in
    let settled : IsSettled w steps o = allocated.settled in
    let certificate : HasCertificate w steps o = allocated.certificate in
    let is_gap : IsGap (ledger w steps o) c.gap =
    subst (λ (n : ℕ). IsGap (ledger w steps o) n) (sym (same_gap ∙ allocated.gap)) certificate.gap
    in
    let one : (budget : Budget) → place_of budget < 5
    → refused_listed (λ k j. bytes_in (held k) j) counts numbers closed budget
    ≡ refused_by w o budget =
    λ budget below. ap (λ m. refused_one budget m (λ s. grow w o s (place_of budget))
    (closed_by closed (place_of budget)))
    (allocated.multipliers (place_of budget) below) in
    let refused : c.refused.items ≡ refused_steps w o = listed
    ∙ five_same _ _ _ _ _ _ _ _ _ _ (one Frame (omega arith)) (one Inner (omega arith))
    (one C0 (omega arith))
    (one C1 (omega arith)) (one C2 (omega arith)) in
    let fewer : upto blocks (λ b. lens (left b))
    ≤ upto blocks (λ b. lens (steps b)) = left_bytes w steps o settled in
    let few : upto blocks (λ b. lens (left b)) ≤ scale * 1 = omega arith in
    let below : c.gap ≤ upto 5 (price_at w o) + 1 = certificate.below_prices 1 c.gap few is_gap in
    let prices : total (λ (r : RefusedStep). r.price) c.refused.items ≡ upto 5 (price_at w o) =
    ap (λ l. total (λ (r : RefusedStep). r.price) l) refused ∙ prices_are w o in
    record {
      budgets = budgets;
      closed = closed;
      settled = settled;
      reached = allocated.reached;
      multipliers = λ j lt. same j lt ∙ allocated.multipliers j lt;
      gap = is_gap;
      rivals = certificate.rivals c.gap is_gap;
      chosen = λ b lt taken rest split.
          chosen_by (cost (block_rate w o b) (done b) (left b)) (best (block_rate w o b) (steps b))
          (cost (block_rate w o b) taken rest) (lens (left b)) (lens (steps b)) (length (left b))
          (subst (λ (l : List Step). cost (block_rate w o b) (done b) (left b) + length (left b)
          ≤ best (block_rate w o b) l + lens (left b))
          (settled.kept.splits b lt)
          (excess_over_prefixes (block_rate w o b) (done b) (left b) (certificate.agree b lt)))
          (subst (λ (l : List Step). best (block_rate w o b) l ≤ cost (block_rate w o b) taken rest)
          split
          (best_is_least (block_rate w o b) taken rest))
          (subst (λ (l : List Step). lens (left b) ≤ lens l) (settled.kept.splits b lt)
          (lens_after (done b) (left b)));
      distortion = distortion;
      refused = refused;
      each = certificate.refused;
      below_prices = omega arith;
      none = λ zeros. certificate.none
          (λ j lt. sym (same j lt ∙ allocated.multipliers j lt) ∙ zeros j lt) c.gap is_gap;
    }

-- without a 2K portion its multiplier is 0
pub no_inner_multiplier : (limits : Limits) (blocks : ℕ) (inside : ℕ → Members)
    (held : List ℕ → Held)
    (steps : ℕ → List Step) (counts : List ℕ) (done left : ℕ → List Step) (start : ℕ)
    (c : Certificate)
    → ((b : ℕ) → b < blocks → AreMembers limits.inner (inside b)) → limits.inner ≡ None
    → IsCertificate (frame_budgets limits blocks inside held) steps counts done left start c
    → number_at c.multipliers 1 ≡ 0
no_inner_multiplier limits blocks inside held steps counts done left start c are none is =
    let w : Budgets = frame_budgets limits blocks inside held in
    let closed : ℕ → Option Step = closed_by is.closed in
    let open_now : multiplier_of w (so_far counts done left is.closed) 1
    ≡ 0 = elim (cases_option (closed 1)) [
      | inl n ↦ multiplier_open w.around closed 1 n
      | inr (s, e) ↦ absurd
          (no_inner_in limits.inner (inside s.block) (are s.block (is.settled.kept.inside 1 s e))
          none
          (first_is closed (chain w.around (w.node s.block)) (record { budget = 1; step = s })
          (is.settled.kept.closing 1 s e)).1)
    ] in
    is.multipliers 1 (omega arith) ∙ open_now
