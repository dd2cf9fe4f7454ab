-- From steps to pass counts: the gap is the same number over all pass counts of the blocks.
use Rattle.std.proofs.Common.{ℕ, ◌≡◌, ◌+◌, ◌*◌, ◌<◌, ◌≤◌, List, ◌++◌, length, Some, get_or, ap, ◌∙◌}
use Rattle.std.proofs.Common.{arith, subst, sym, refl}
use Rattle.rd_hulls.specs.declared.point.Point.{Point}
use Rattle.rd_hulls.specs.declared.step.Step.{Step}
use Rattle.rd_hulls.specs.Points.{point_at, ArePoints}
use Rattle.rd_hulls.specs.Hull.{IsHull, IsHullStep, end_of}
use Rattle.allocation_bound.specs.Sums.{upto, total, only}
use Rattle.allocation_bound.specs.Steps.{scale, lens, gains, best}
use Rattle.allocation_bound.specs.Budgets.{body, chain}
use Rattle.allocation_bound.specs.Settled.{Budgets, AreBudgets, Outcome, IsSettled, block_rate}
use Rattle.allocation_bound.specs.Ledger.{Ledger, distortion, FitsBeside, least_terms, held_worth}
use Rattle.allocation_bound.specs.Ledger.{limit_worth, IsBelow, IsGap}
use Rattle.allocation_bound.specs.Refused.{ledger}
use Rattle.allocation_bound.specs.Passes.{term, IsLeastTerm, chosen_point, pass_ledger, HaveTerms}
use Rattle.allocation_bound.specs.Passes.{HasPassCertificate}
use Rattle.allocation_bound.proofs.Counts.{least_over_counts, least_is_reached, split_bytes}
use Rattle.allocation_bound.proofs.Counts.{split_dist, block_term, head_hull_step}
use Rattle.allocation_bound.proofs.Gaps.{rivals}
use Rattle.allocation_bound.proofs.Levels.{agreement}
use Rattle.allocation_bound.proofs.SumLemmas.{upto_same, upto_add, upto_scaled}

-- the least term is the best split, beside the distortion that no step gains
least_term_is : (b : ℕ) (points : List Point) (m least : ℕ) (steps : List Step) → ArePoints points
    → IsHull b points steps
    → IsLeastTerm points m least → least ≡ scale * (point_at points (end_of 0 steps)).dist
    + best m steps
least_term_is b points m least steps are h is =
    let low : best m steps + scale * (point_at points (end_of 0 steps)).dist
    ≤ term m (point_at points is.count) =
    least_over_counts b points m steps are h is.count is.inside in
    let e : term m (point_at points is.count) ≡ least = is.reached in
    let r = least_is_reached b points m steps are h in
    let n : least ≤ term m (point_at points r.count) = is.below r.count r.inside in
    let c : term m (point_at points r.count)
    ≡ best m steps + scale * (point_at points (end_of 0 steps)).dist
    + m * (point_at points 0).len = r.costs in
    let zero_bytes : (point_at points 0).len ≡ 0 = (are.each 0 are.first).none refl in
    let z : m * (point_at points 0).len ≡ m * 0 = ap (λ n. m * n) zero_bytes in
    omega arith

-- A distortion of each block that no step changes is in the least terms too, and cancels; what is
-- said in other words of the same numbers is the same.
gap_moved : (l n : Ledger) (more : ℕ → ℕ) (g : ℕ) → n.number ≡ l.number → n.blocks ≡ l.blocks
    → upto n.blocks n.dist ≡ upto l.blocks (λ b. more b + l.dist b)
    → least_terms n ≡ upto l.blocks (λ b. scale * more b + l.least b)
    → held_worth n ≡ held_worth l → limit_worth n ≡ limit_worth l → IsGap l g → IsGap n g
gap_moved l n more g number blocks dist least held limit h =
    let d : upto l.blocks (λ b. more b + l.dist b) ≡ upto l.blocks more
    + distortion l = upto_add l.blocks more l.dist in
    let t : upto l.blocks (λ b. scale * more b + l.least b) ≡ upto l.blocks (λ b. scale * more b)
    + least_terms l =
    upto_add l.blocks (λ b. scale * more b) l.least in
    let s : upto l.blocks (λ b. scale * more b)
    ≡ scale * upto l.blocks more = upto_scaled l.blocks more in
    let e : IsBelow l g = h.enough in
    record {
      enough = omega arith;
      least = λ k f. h.least k (omega arith);
    }

same_body : (around : ℕ → List ℕ) (node x y : ℕ → ℕ) (blocks j : ℕ)
    → ((b : ℕ) → b < blocks → x b ≡ y b)
    → body around node x blocks j ≡ body around node y blocks j
same_body around node x y blocks j same =
    upto_same blocks (λ b. total (λ i. only i (x b) j) (chain around (node b)))
    (λ b. total (λ i. only i (y b) j) (chain around (node b)))
    (λ b inside. ap (λ v. total (λ i. only i v j) (chain around (node b))) (same b inside))

module _ (w : Budgets) (budgets : AreBudgets w) (steps : ℕ → List Step) (o : Outcome)
    (h : IsSettled w steps o)
    (points : ℕ → List Point) (least : ℕ → ℕ) (have : HaveTerms w steps o points least) where
  own_hull : (b : ℕ) → b < w.blocks → IsHull b (points b) (o.done b ++ o.left b)
  own_hull b inside = subst (IsHull b (points b)) (sym (h.kept.splits b inside))
      (have.hulls b inside)

  bytes_are : (b : ℕ) → b < w.blocks → (chosen_point points (λ x. get_or o.counts x 0) b).len
      ≡ lens (o.done b)
  bytes_are b inside =
      let e : (point_at (points b) (end_of 0 (o.done b))).len ≡ (point_at (points b) 0).len
      + lens (o.done b) =
      split_bytes b (points b) 0 (o.done b) (o.left b) (own_hull b inside).follow in
      let z : (point_at (points b) 0).len
      ≡ 0 = ((have.points b inside).each 0 (have.points b inside).first).none refl in
      ap (λ k. (point_at (points b) k).len) (h.kept.places b inside)
      ∙ (let f : (point_at (points b) (end_of 0 (o.done b))).len
      ≡ lens (o.done b) = omega arith in f)

  dist_is : (b : ℕ) → b < w.blocks → (chosen_point points (λ x. get_or o.counts x 0) b).dist
      ≡ (point_at (points b) (end_of 0 (steps b))).dist + gains (o.left b)
  dist_is b inside =
      let e : (point_at (points b) (end_of 0 (o.done b))).dist
      ≡ gains (o.left b) + (point_at (points b) (end_of 0 (o.done b ++ o.left b))).dist =
      split_dist b (points b) 0 (o.done b) (o.left b) (own_hull b inside).follow in
      let f : (point_at (points b) (end_of 0 (o.done b ++ o.left b))).dist
      ≡ (point_at (points b) (end_of 0 (steps b))).dist =
      ap (λ xs. (point_at (points b) (end_of 0 xs)).dist) (h.kept.splits b inside) in
      ap (λ k. (point_at (points b) k).dist) (h.kept.places b inside)
      ∙ (let g : (point_at (points b) (end_of 0 (o.done b))).dist
      ≡ (point_at (points b) (end_of 0 (steps b))).dist + gains (o.left b) = omega arith in g)

  pass_gap : (g : ℕ) → IsGap (ledger w steps o) g → IsGap (pass_ledger w points least o) g
  pass_gap g is =
      let end : ℕ → ℕ = λ b. (point_at (points b) (end_of 0 (steps b))).dist in
      let x : ℕ → ℕ = λ b. (chosen_point points (λ x. get_or o.counts x 0) b).len in
      let y : ℕ → ℕ = λ b. lens (o.done b) in
      gap_moved (ledger w steps o) (pass_ledger w points least o) end g refl refl
      (upto_same w.blocks (λ b. (chosen_point points (λ x. get_or o.counts x 0) b).dist)
      (λ b. end b + gains (o.left b)) dist_is)
      (upto_same w.blocks least (λ b. scale * end b + best (block_rate w o b) (steps b))
      (λ b inside. least_term_is b (points b) (block_rate w o b) (least b) (steps b)
      (have.points b inside) (have.hulls b inside) (have.terms b inside)))
      refl
      (upto_same w.number (λ j. (ledger w steps o).multipliers j *
      (w.limit j + body w.around w.node x w.blocks j))
      (λ j. (ledger w steps o).multipliers j * (w.limit j + body w.around w.node y w.blocks j))
      (λ j lt. ap (λ n. (ledger w steps o).multipliers j * (w.limit j + n))
      (same_body w.around w.node x y w.blocks j bytes_are)))
      is

  pass_rivals : (g : ℕ) → IsGap (pass_ledger w points least o) g → (choice : ℕ → ℕ)
      → ((b : ℕ) → b < w.blocks → choice b < length (points b))
      → FitsBeside (pass_ledger w points least o) (λ b. (chosen_point points choice b).len)
      → distortion (pass_ledger w points least o)
      ≤ upto w.blocks (λ b. (chosen_point points choice b).dist) + g
  pass_rivals g is choice inside fits =
      rivals (pass_ledger w points least o) budgets.nested budgets.inside g is.enough
      (λ b. (chosen_point points choice b).dist) (λ b. (chosen_point points choice b).len)
      (λ b below. (have.terms b below).below (choice b) (inside b below)) fits

  pass_chosen : (b : ℕ) → b < w.blocks → (k : ℕ) → k < length (points b)
      → term (block_rate w o b) (point_at (points b) (get_or o.counts b 0))
      ≤ term (block_rate w o b) (point_at (points b) k) + 131072
  pass_chosen b inside k below =
      subst (λ c. term (block_rate w o b) (point_at (points b) c)
      ≤ term (block_rate w o b) (point_at (points b) k) + 131072)
      (sym (h.kept.places b inside))
      (block_term b (points b) (block_rate w o b) (o.done b) (o.left b) (have.points b inside)
      (own_hull b inside)
      (agreement w budgets steps o h b inside) k below)

  pass_refused : (j : ℕ) (s : Step) → o.closed j ≡ Some s
      → IsHullStep s.block (points s.block) (get_or o.counts s.block 0) s
  pass_refused j s e =
      let inside = h.kept.inside j s e in
      subst (λ c. IsHullStep s.block (points s.block) c s) (sym (h.kept.places s.block inside))
      (head_hull_step s.block (points s.block) s (o.done s.block) (o.left s.block)
      (h.kept.heads j s e) (own_hull s.block inside).follow)

  pub pass_certified : HasPassCertificate w steps o points least
  pass_certified = record {
    gap = pass_gap;
    rivals = pass_rivals;
    chosen = pass_chosen;
    refused = pass_refused;
  }
