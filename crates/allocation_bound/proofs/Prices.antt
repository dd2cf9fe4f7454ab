-- Refused steps: what stands of them at the end, and how their prices bound the gap.
use Rattle.std.proofs.Common.{ℕ, ◌≡◌, ◌+◌, ◌-◌, ◌*◌, ◌<◌, ◌≤◌, ◌==◌, if◌then◌else◌, List, [], ◌∷◌}
use Rattle.std.proofs.Common.{◌++◌, length, Option, Some, refl, sym, ap, subst, ◌∙◌, arith, inl}
use Rattle.std.proofs.Common.{inr}
use Rattle.std.proofs.lemmas.Bool.{cases_eq}
use Rattle.std.proofs.lemmas.Bool.Decides.{nat_tests}
use Rattle.std.proofs.Math.Nat.{mul-le-mul_left, mul-le-mul_right}
use Rattle.std.specs.List.{AllByRecursion}
use Rattle.rd_hulls.specs.declared.step.Step.{Step}
use Rattle.rd_hulls.specs.Hull.{end_of}
use Rattle.rd_hulls.specs.Steps.{IsFalling}
use Rattle.allocation_bound.specs.Sums.{upto, total}
use Rattle.allocation_bound.specs.Steps.{scale, lens, gains, cost, best, level, excess, IsHead}
use Rattle.allocation_bound.specs.Budgets.{chain, base, level_of}
use Rattle.allocation_bound.specs.Settled.{Budgets, AreBudgets, Outcome, IsSettled, nearest}
use Rattle.allocation_bound.specs.Settled.{with_step, multiplier_of, block_rate}
use Rattle.allocation_bound.specs.Ledger.{IsBelow, IsGap, FitsBeside, rounded_up, distortion}
use Rattle.allocation_bound.specs.Ledger.{least_terms, held_worth, limit_worth}
use Rattle.allocation_bound.specs.Laws.{FollowOn}
use Rattle.allocation_bound.specs.Refused.{grow, price, refused_price, price_at, IsRefused, ledger}
use Rattle.allocation_bound.specs.Refused.{slack, over}
use Rattle.allocation_bound.proofs.Products.{covers, div_up_covers, level_low}
use Rattle.allocation_bound.proofs.Chains.{chain_below, on_below}
use Rattle.allocation_bound.proofs.Gaps.{gap_is, accounting, rivals, unused_worth}
use Rattle.allocation_bound.proofs.Levels.{first_is, multiplier_open, multiplier_closed}
use Rattle.allocation_bound.proofs.Levels.{block_rate_is, agreement, level_positive}
use Rattle.allocation_bound.proofs.Lists.{cases_option}
use Rattle.allocation_bound.proofs.Splits.{best_is_least, excess_over_prefixes, positive_parts}
use Rattle.allocation_bound.proofs.SumLemmas.{upto_le, upto_same, upto_none, upto_scaled}

next_from : (c : ℕ) (done : List Step) (s : Step) (r : List Step) → FollowOn c (done ++ s ∷ r)
    → end_of c done ≡ s.from
next_from c [] s r h = sym h.0
next_from c (t ∷ d) s r h = next_from t.to d s r h.1

pub head_from : (s : Step) (done xs : List Step) → IsHead s xs → FollowOn 0 (done ++ xs)
    → end_of 0 done ≡ s.from
head_from s done [] h f = absurd h
head_from s done (t ∷ r) h f = next_from 0 done t r f ∙ ap (λ (x : Step). x.from) h

none_on : (m : ℕ → ℕ) (n : ℕ) → ((j : ℕ) → j < n → m j ≡ 0) → (c : List ℕ)
    → AllByRecursion (λ k. k < n) c → total m c ≡ 0
none_on m n h [] b = refl
none_on m n h (i ∷ r) b =
    let z : m i ≡ 0 = h i b.0 in
    let rest : total m r ≡ 0 = none_on m n h r b.1 in
    omega arith

-- from what is added to what is unused, and to what it is worth
unused_by : (limit held after len : ℕ) → limit < after → limit < held
    + (len + (after - (held + len)))
unused_by limit held after len more = omega arith

slack_by : (limit held w : ℕ) → held ≤ limit → limit < held + w → limit - held ≤ w
slack_by limit held w fits more = omega arith

slack_and : (limit held : ℕ) → held ≤ limit → (limit - held) + held ≡ limit
slack_and limit held fits = omega arith

over_by : (m bytes dist least : ℕ) → least ≤ m * bytes + scale * dist
    → scale * dist + m * bytes ≡ least + (m * bytes + scale * dist - least)
over_by m bytes dist least h = omega arith

over_less : (cost least n bytes : ℕ) → least ≤ cost → cost + n ≤ least + bytes → cost - least + n
    ≤ bytes
over_less cost least n bytes h g = omega arith

less_by : (c b x : ℕ) → c ≡ b + x → c - b ≡ x
less_by c b x e = omega arith

worth_by : (m top few w h n p : ℕ) → 1 ≤ n → m ≤ top → few ≤ w → top * n ≤ scale * h → h * w ≤ p * n
    → m * few ≤ scale * p
worth_by m top few w h n p some low less reach cover =
    let c : top * w ≤ scale * p = covers top n h w p some reach cover in
    let a : m * few ≤ top * few = mul-le-mul_right few low in
    let b : top * few ≤ top * w = mul-le-mul_left top less in
    omega arith

price_none : (m p : ℕ) → m ≡ 0 → (if m == 0 then 0 else p) ≡ 0
price_none m p e = grind (arith, nat_tests)

price_some : (m p : ℕ) → ¬ (m ≡ 0) → (if m == 0 then 0 else p) ≡ p
price_some m p ne = grind (arith, nat_tests)

module _ (w : Budgets) (budgets : AreBudgets w) (steps : ℕ → List Step) (o : Outcome)
    (h : IsSettled w steps o) where
  -- a closed budget is one of the budgets
  pub closed_inside : (j : ℕ) (s : Step) → o.closed j ≡ Some s → j < w.number
  closed_inside j s e =
      let on = (first_is o.closed (chain w.around (w.node s.block))
      (record { budget = j; step = s }) (h.kept.closing j s e)).1 in
      on_below w.number j (chain w.around (w.node s.block))
      (chain_below w.around budgets.nested (w.node s.block) w.number
      (budgets.inside s.block (h.kept.inside j s e))) on

  pub refused_step : ((b : ℕ) → b < w.blocks → FollowOn 0 (steps b)) → (j : ℕ) (s : Step)
      → o.closed j ≡ Some s → IsRefused w o j s
  refused_step follows j s e =
      let block = h.kept.inside j s e in
      record {
        inside = block;
        on = (first_is o.closed (chain w.around (w.node s.block)) (record { budget = j; step = s })
            (h.kept.closing j s e)).1;
        count = h.kept.places s.block block ∙ head_from s (o.done s.block) (o.left s.block)
            (h.kept.heads j s e)
            (subst (FollowOn 0) (sym (h.kept.splits s.block block)) (follows s.block block));
        slope = block_rate_is w budgets steps o h s.block ∙ ap level_of (h.kept.closing j s e);
        breaks = h.kept.refused j s e;
        unused = unused_by (w.limit j) (w.held o.counts j) (w.held (with_step o s) j) s.len
            (h.kept.refused j s e);
      }

  -- unused bytes are worth no more than the price of the refused step
  one_price : (j : ℕ) (s : Step) → o.closed j ≡ Some s
      → multiplier_of w o j * slack w o j ≤ scale * price s (grow w o s j)
  one_price j s e =
      let m : multiplier_of w o j
      ≡ level s - base o.closed (w.around j) = multiplier_closed w.around o.closed j s e in
      let more : w.limit j < w.held o.counts j + (s.len + grow w o s j) =
      unused_by (w.limit j) (w.held o.counts j) (w.held (with_step o s) j) s.len
      (h.kept.refused j s e) in
      let few : slack w o j ≤ s.len + grow w o s j =
      slack_by (w.limit j) (w.held o.counts j) (s.len + grow w o s j)
      (h.kept.within j (closed_inside j s e)) more in
      worth_by (multiplier_of w o j) (level s) (slack w o j) (s.len + grow w o s j) s.gain s.len
      (price s (grow w o s j))
      s.longer (omega arith) few (level_low s.gain s.len)
      (div_up_covers (s.gain * (s.len + grow w o s j)) s.len s.longer)

  -- for each budget, with the price 0 of a budget whose multiplier is 0
  each_price : (j : ℕ) → j < w.number → multiplier_of w o j * slack w o j ≤ scale * price_at w o j
  each_price j lt = elim (cases_eq (multiplier_of w o j) 0) [
    | inl z ↦ (let p : multiplier_of w o j * slack w o j
        ≡ 0 * slack w o j = ap (λ x. x * slack w o j) z in
        omega arith)
    | inr some ↦ elim (cases_option (o.closed j)) [
      | inl n ↦ absurd (some (multiplier_open w.around o.closed j n))
      | inr (s, e) ↦ (let p : price_at w o j ≡ price s (grow w o s j) =
          price_some (multiplier_of w o j) (refused_price w o (o.closed j) j) some
          ∙ ap (λ (c : Option Step). refused_price w o c j) e in
          rw p (one_price j s e))
    ]
  ]

  own_least : (b : ℕ) → b < w.blocks → best (block_rate w o b) (steps b)
      ≤ cost (block_rate w o b) (o.done b) (o.left b)
  own_least b inside =
      subst (λ (l : List Step). best (block_rate w o b) l
      ≤ cost (block_rate w o b) (o.done b) (o.left b))
      (h.kept.splits b inside) (best_is_least (block_rate w o b) (o.done b) (o.left b))

  over_is : (b : ℕ) → b < w.blocks → scale * gains (o.left b) + block_rate w o b * lens (o.done b)
      ≡ best (block_rate w o b) (steps b) + over w steps o b
  over_is b inside =
      over_by (block_rate w o b) (lens (o.done b)) (gains (o.left b))
      (best (block_rate w o b) (steps b)) (own_least b inside)

  -- less than the bytes that the block leaves
  pub over_small : (b : ℕ) → b < w.blocks → over w steps o b + length (o.left b) ≤ lens (o.left b)
  over_small b inside =
      let x : cost (block_rate w o b) (o.done b) (o.left b) + length (o.left b)
      ≤ best (block_rate w o b) (steps b) + lens (o.left b) =
      subst (λ (l : List Step). cost (block_rate w o b) (o.done b) (o.left b) + length (o.left b)
      ≤ best (block_rate w o b) l + lens (o.left b)) (h.kept.splits b inside)
      (excess_over_prefixes (block_rate w o b) (o.done b) (o.left b)
      (agreement w budgets steps o h b inside)) in
      over_less (cost (block_rate w o b) (o.done b) (o.left b)) (best (block_rate w o b) (steps b))
      (length (o.left b)) (lens (o.left b)) (own_least b inside) x

  -- what a block costs above the least is what the code adds up
  pub over_is_excess : (b : ℕ) → b < w.blocks → IsFalling (o.left b)
      → over w steps o b ≡ excess (block_rate w o b) (o.left b)
  over_is_excess b inside falls =
      let e : cost (block_rate w o b) (o.done b) (o.left b)
      ≡ best (block_rate w o b) (steps b) + excess (block_rate w o b) (o.left b) =
      subst (λ (l : List Step). cost (block_rate w o b) (o.done b) (o.left b)
      ≡ best (block_rate w o b) l + excess (block_rate w o b) (o.left b)) (h.kept.splits b inside)
      (positive_parts (block_rate w o b) (o.done b) (o.left b)
      (agreement w budgets steps o h b inside) falls) in
      less_by (cost (block_rate w o b) (o.done b) (o.left b)) (best (block_rate w o b) (steps b))
      (excess (block_rate w o b) (o.left b)) e

  slack_is : (j : ℕ) → j < w.number → slack w o j + w.held o.counts j ≡ w.limit j
  slack_is j lt = slack_and (w.limit j) (w.held o.counts j) (h.kept.within j lt)

  -- the gap of what a walk leaves
  pub walk_gap : IsGap (ledger w steps o)
      (rounded_up (upto w.blocks (over w steps o) + unused_worth (ledger w steps o) (slack w o)))
  walk_gap = gap_is (ledger w steps o) budgets.nested budgets.inside (over w steps o) (slack w o)
      over_is slack_is

  account : scale * distortion (ledger w steps o) + limit_worth (ledger w steps o)
      ≡ least_terms (ledger w steps o) + held_worth (ledger w steps o)
      + (upto w.blocks (over w steps o) + unused_worth (ledger w steps o) (slack w o))
  account = accounting (ledger w steps o) budgets.nested budgets.inside (over w steps o) (slack w o)
      over_is slack_is

  unused_below : unused_worth (ledger w steps o) (slack w o) ≤ scale * upto w.number (price_at w o)
  unused_below =
      let a : unused_worth (ledger w steps o) (slack w o)
      ≤ upto w.number (λ j. scale * price_at w o j) =
      upto_le w.number (λ j. multiplier_of w o j * slack w o j) (λ j. scale * price_at w o j)
      each_price in
      let b : upto w.number (λ j. scale * price_at w o j) ≡ scale * upto w.number (price_at w o) =
      upto_scaled w.number (price_at w o) in
      omega arith

  -- The gap is at most the prices together, and one for each 2^32 bytes that blocks leave, or a
  -- part of them.
  pub gap_below_prices : (k g : ℕ) → upto w.blocks (λ b. lens (o.left b)) ≤ scale * k
      → IsGap (ledger w steps o) g → g ≤ upto w.number (price_at w o) + k
  gap_below_prices k g few is =
      let s = account in
      let u = unused_below in
      let x : upto w.blocks (over w steps o) ≤ upto w.blocks (λ b. lens (o.left b)) =
      upto_le w.blocks (over w steps o) (λ b. lens (o.left b))
      (λ b inside. let t : over w steps o b + length (o.left b)
      ≤ lens (o.left b) = over_small b inside in omega arith) in
      is.least (upto w.number (price_at w o) + k) (omega arith)

  -- where no budget has a multiplier, every block has taken all its steps
  nothing_left : ((j : ℕ) → j < w.number → multiplier_of w o j ≡ 0) → (b : ℕ) → b < w.blocks
      → o.left b ≡ []
  nothing_left zeros b inside = elim (cases_option (nearest w o b)) [
    | inl n ↦ h.open_done b inside n
    | inr (x, f) ↦ (let e : block_rate w o b
        ≡ level x.step = block_rate_is w budgets steps o h b ∙ ap level_of f in
        let z : block_rate w o b ≡ 0 =
        none_on (multiplier_of w o) w.number zeros (chain w.around (w.node b))
        (chain_below w.around budgets.nested (w.node b) w.number (budgets.inside b inside)) in
        let p : 1 ≤ level x.step = level_positive x.step in
        absurd (omega arith))
  ]

  -- and the gap is 0
  pub no_gap : ((j : ℕ) → j < w.number → multiplier_of w o j ≡ 0) → (g : ℕ)
      → IsGap (ledger w steps o) g → g ≡ 0
  no_gap zeros g is =
      let s = account in
      let none : (b : ℕ) → b < w.blocks → over w steps o b ≤ 0 = λ b inside.
      let t : over w steps o b + length (o.left b) ≤ lens (o.left b) = over_small b inside in
      let l : lens (o.left b) ≡ 0 = ap lens (nothing_left zeros b inside) in
      omega arith in
      let x : upto w.blocks (over w steps o) ≤ upto w.blocks (λ b. 0) =
      upto_le w.blocks (over w steps o) (λ b. 0) none in
      let y : upto w.blocks (λ b. 0) ≡ 0 = upto_none w.blocks in
      let u : unused_worth (ledger w steps o) (slack w o) ≡ upto w.number (λ j. 0) =
      upto_same w.number (λ j. multiplier_of w o j * slack w o j) (λ j. 0) (λ j lt.
      let p : multiplier_of w o j * slack w o j
      ≡ 0 * slack w o j = ap (λ x. x * slack w o j) (zeros j lt) in
      omega arith) in
      let v : upto w.number (λ j. 0) ≡ 0 = upto_none w.number in
      let z : g ≤ 0 = is.least 0 (omega arith) in
      omega arith

  -- No other way to take the first steps of blocks that fits beside what the budgets hold has a
  -- distortion below the chosen one's, less the gap.
  pub walk_rivals : (g : ℕ) → IsBelow (ledger w steps o) g → (done left : ℕ → List Step)
      → ((b : ℕ) → b < w.blocks → done b ++ left b ≡ steps b)
      → FitsBeside (ledger w steps o) (λ b. lens (done b))
      → distortion (ledger w steps o) ≤ upto w.blocks (λ b. gains (left b)) + g
  walk_rivals g is done left splits fits =
      rivals (ledger w steps o) budgets.nested budgets.inside g is (λ b. gains (left b))
      (λ b. lens (done b))
      (λ b inside.
      let least : best (block_rate w o b) (steps b) ≤ cost (block_rate w o b) (done b) (left b) =
      subst (λ (l : List Step). best (block_rate w o b) l
      ≤ cost (block_rate w o b) (done b) (left b))
      (splits b inside) (best_is_least (block_rate w o b) (done b) (left b)) in
      omega arith) fits
