-- What stands of a choice, from the certificate of the walk that made it.
use Rattle.std.proofs.Common.{ℕ, ◌≡◌, ◌+◌, ◌*◌, ◌<◌, ◌≤◌, if◌then◌else◌, List, length, get_or}
use Rattle.std.proofs.Common.{is_some, map, sum, Some, sym, subst, ap, ◌∙◌, arith}
use Rattle.std.proofs.lemmas.List.{length-replicate}
use Rattle.cine_nums.specs.Limits.{has_inner}
use Rattle.cine_nums.specs.declared.budget.Budget.{Budget}
use Rattle.cine_nums.specs.declared.budget.Budget.TheVariants.{Frame, Inner, C0, C1, C2}
use Rattle.cine_nums.specs.declared.orient.Orient.TheVariants.{LL}
use Rattle.band_geometry.specs.Bands.{IsBlock}
use Rattle.band_geometry.specs.Counts.{number_of}
use Rattle.band_geometry.specs.Numbering.{all_blocks}
use Rattle.band_geometry.specs.declared.geometry.Geometry.{Geometry}
use Rattle.band_geometry.specs.declared.places.BlockId.{BlockId}
use Rattle.rd_hulls.specs.Hull.{IsHull}
use Rattle.rd_hulls.specs.Points.{ArePoints, point_at}
use Rattle.rd_hulls.specs.declared.point.Point.{Point}
use Rattle.rd_hulls.specs.declared.step.Step.{Step}
use Rattle.allocation_bound.specs.Ledger as ledgers
use Rattle.allocation_bound.specs.Ledger.{IsGap, Ledger, body_of, distortion, least_terms}
use Rattle.allocation_bound.specs.Passes.{IsLeastTerm, pass_ledger, term}
use Rattle.allocation_bound.specs.Settled.{block_rate}
use Rattle.allocation_bound.specs.Steps.{scale}
use Rattle.allocation_bound.specs.Sums.{total, upto}
use Rattle.allocation_bound.proofs.SumLemmas.{upto_same}
use Rattle.budget_duals.specs.Certified.{IsCertificate}
use Rattle.budget_duals.specs.Frame.{AreMembers, limit_each}
use Rattle.budget_duals.specs.Held.{IsWithin, held_in, limit_in, place_of}
use Rattle.budget_duals.specs.Members.{is_in}
use Rattle.budget_duals.specs.Walking.{so_far}
use Rattle.budget_duals.specs.declared.certificate.Certificate.{Certificate}
use Rattle.budget_duals.specs.declared.limits.Limits.{Limits}
use Rattle.dz_quantiser.specs.declared.steps.StepSizes.{StepSizes}
use Rattle.frame_packets.specs.Changes.{block_members}
use Rattle.profile_reader.specs.Chosen.{Planes, choice_distortion, chosen_passes}
use Rattle.frame_choice.specs.Blocks.{block_numbered, inside_at, point_of, points_of}
use Rattle.frame_choice.specs.Choice.{FitsBesideHeaders, IsChoice, block_bytes, block_distortion}
use Rattle.frame_choice.specs.Choice.{block_passes, body_bytes, held_at, no_passes}
use Rattle.frame_choice.specs.Chosen.{IsChosen, choice_budgets, undecoded}
use Rattle.frame_choice.specs.Gap.{AreLeastTerms, IsGapAbove, held_worth, limit_worth}
use Rattle.frame_choice.specs.NumberLaws.{block_is, is_block, number_below, number_is}
use Rattle.frame_choice.specs.Refused.{all_budgets, multiplier_in, rate_in}
use Rattle.frame_choice.proofs.Bounds.{dist_at, distortion_is, gap_is, least, len_at, listed}
use Rattle.frame_choice.proofs.Bounds.{promise, rivals_are, terms}
use Rattle.frame_choice.proofs.BudgetSums.{body_is, sum_in}
use Rattle.frame_choice.proofs.HullLemmas.{point_is, points_long}
use Rattle.frame_choice.proofs.Members.{are_members}
use Rattle.frame_choice.proofs.NoPasses.{zero_at}
use Rattle.frame_choice.proofs.RefusedSteps.{all_refused, held_is, itself_fits}
use Rattle.frame_choice.proofs.RefusedSteps.{listed_budgets, place_below, rate_is}
use Rattle.frame_choice.proofs.Sums.{listed_sum}

-- ---- sums

five_sum : (f : ℕ → ℕ) (h : Budget → ℕ) → ((j : Budget) → f (place_of j) ≡ h j) →
    upto 5 f ≡ total h all_budgets
five_sum f h same =
    let frame : f 0 ≡ h Frame = same Frame in
    let inner : f 1 ≡ h Inner = same Inner in
    let c0 : f 2 ≡ h C0 = same C0 in
    let c1 : f 3 ≡ h C1 = same C1 in
    let c2 : f 4 ≡ h C2 = same C2 in
    let e : 0 + f 0 + f 1 + f 2 + f 3 + f 4
    ≡ h Frame + (h Inner + (h C0 + (h C1 + (h C2 + 0)))) = omega arith in
    e

bound_in : (d l t h e m u i k : ℕ) → d ≡ e → l ≡ m → t ≡ u → h ≡ i →
    scale * d + l ≤ t + h + scale * k → scale * e + m ≤ u + i + scale * k
bound_in d l t h e m u i k a b c f below = omega arith

-- ---- a choice by the numbers of its blocks

module _ (g : Geometry) (steps : StepSizes) (planes : Planes) where
  abbrev points_at : ℕ → List Point
  points_at n = points_of g steps planes (block_numbered g n)

  abbrev blocks : ℕ
  blocks = length (all_blocks g)

  -- a block that has so many passes has this point
  point_at_number : (choice : List ℕ) → IsChoice g planes choice → (n : ℕ) → n < blocks →
      point_at (points_at n) (listed choice n)
      ≡ point_of g steps planes (block_numbered g n) (chosen_passes g choice (block_numbered g n))
  point_at_number choice is n below =
      let b = block_numbered g n in
      ap (λ m. point_at (points_at n) (get_or choice m 0)) (sym (number_is g n below))
      ∙ point_is g steps planes b (chosen_passes g choice b) (is.most b (is_block g n below))

  pub distortion_by_number : (choice : List ℕ) → IsChoice g planes choice →
      choice_distortion g planes choice ≡ upto blocks (dist_at points_at (listed choice))
  unfolding choice_distortion
  distortion_by_number choice is =
      listed_sum (record { component = 0; res = 0; orient = LL; x = 0; y = 0 })
      (λ b. block_distortion g planes b (chosen_passes g choice b)) (all_blocks g)
      ∙ upto_same blocks
      (λ n. block_distortion g planes (block_numbered g n)
      (chosen_passes g choice (block_numbered g n)))
      (dist_at points_at (listed choice))
      (λ n below. ap (λ (p : Point). p.dist) (sym (point_at_number choice is n below)))

  pub body_by_number : (choice : List ℕ) → IsChoice g planes choice → (budget : Budget) →
      body_bytes g steps planes choice budget
      ≡ sum_in (inside_at g) (len_at points_at (listed choice)) blocks budget
  unfolding body_bytes
  body_by_number choice is budget =
      listed_sum (record { component = 0; res = 0; orient = LL; x = 0; y = 0 })
      (λ b. if is_in (block_members g b) budget
      then block_bytes g steps planes b (chosen_passes g choice b) else 0) (all_blocks g)
      ∙ upto_same blocks
      (λ n. if is_in (inside_at g n) budget
      then block_bytes g steps planes (block_numbered g n)
      (chosen_passes g choice (block_numbered g n)) else 0)
      (λ n. if is_in (inside_at g n) budget then len_at points_at (listed choice) n else 0)
      (λ n below. ap (λ (v : ℕ). if is_in (inside_at g n) budget then v else 0)
      (ap (λ (p : Point). p.len) (sym (point_at_number choice is n below))))

  none_is_choice : IsChoice g planes (no_passes g)
  none_is_choice = record {
    long = length-replicate blocks 0;
    most = λ b is. (let zero_passes : chosen_passes g (no_passes g) b ≡ 0 =
        zero_at blocks (number_of g b) in omega (arith, zero_passes));
  }

  undecoded_by_number : undecoded g planes ≡ upto blocks (dist_at points_at (λ x. 0))
  undecoded_by_number =
      distortion_by_number (no_passes g) none_is_choice
      ∙ upto_same blocks (dist_at points_at (listed (no_passes g))) (dist_at points_at (λ x. 0))
      (λ n below. ap (λ k. (point_at (points_at n) k).dist) (zero_at blocks n))

  passes_below : (choice : List ℕ) → IsChoice g planes choice → (n : ℕ) → n < blocks →
      listed choice n < length (points_at n)
  passes_below choice is n below =
      let b = block_numbered g n in
      let most : chosen_passes g choice b ≤ block_passes g planes b =
      is.most b (is_block g n below) in
      let same : chosen_passes g choice b ≡ listed choice n =
      ap (λ m. get_or choice m 0) (number_is g n below) in
      let long : length (points_at n) ≡ block_passes g planes b + 1 =
      points_long g steps planes b in
      omega (arith, most, same, long)

  -- ---- the certificate

  module _ (limits : Limits) (counts : List ℕ) (hull_steps done left : ℕ → List Step)
      (c : Certificate) (inner : is_some limits.inner ≡ has_inner g.profile)
      (are : (b : ℕ) → b < blocks → ArePoints (points_at b))
      (hulls : (b : ℕ) → b < blocks → IsHull b (points_at b) (hull_steps b))
      (choice : IsChoice g planes counts)
      (h : IsCertificate (choice_budgets g steps planes limits) hull_steps counts done left
      (undecoded g planes) c) where
    members : (n : ℕ) → n < blocks → AreMembers limits.inner (inside_at g n)
    members n below =
        are_members limits.inner g.profile g.levels (block_numbered g n).component
        (block_numbered g n).res inner (is_block g n below).component

    abbrev rate : ℕ → ℕ
    rate n = block_rate (choice_budgets g steps planes limits) (so_far counts done left h.closed) n

    chosen_distortion : c.distortion ≡ choice_distortion g planes counts
    chosen_distortion =
        distortion_is limits blocks (inside_at g) (held_at g steps planes) points_at hull_steps
        counts done left (undecoded g planes) c members are hulls h undecoded_by_number
        ∙ sym (distortion_by_number counts choice)

    fits_by_number : (rival : List ℕ) → IsChoice g planes rival →
        FitsBesideHeaders g steps planes limits counts rival →
        (budget : Budget) (n : ℕ) → limit_in limits budget ≡ Some n →
        sum_in (inside_at g) (len_at points_at (listed rival)) blocks budget
        + held_in (held_at g steps planes counts) budget
        ≤ n + sum_in (inside_at g) (len_at points_at (listed counts)) blocks budget
    fits_by_number rival is fits budget n has =
        let f : body_bytes g steps planes rival budget
        + held_in (held_at g steps planes counts) budget
        ≤ n + body_bytes g steps planes counts budget = fits budget n has in
        let own : body_bytes g steps planes rival budget
        ≡ sum_in (inside_at g) (len_at points_at (listed rival)) blocks budget =
        body_by_number rival is budget in
        let here : body_bytes g steps planes counts budget
        ≡ sum_in (inside_at g) (len_at points_at (listed counts)) blocks budget =
        body_by_number counts choice budget in
        omega (arith, f, own, here)

    rivals_above : (rival : List ℕ) → IsChoice g planes rival →
        FitsBesideHeaders g steps planes limits counts rival →
        choice_distortion g planes counts ≤ choice_distortion g planes rival + c.gap
    rivals_above rival is fits =
        let above : upto blocks (dist_at points_at (listed counts))
        ≤ upto blocks (dist_at points_at (listed rival)) + c.gap =
        rivals_are limits blocks (inside_at g) (held_at g steps planes) points_at hull_steps
        counts done left (undecoded g planes) c members are hulls h (listed rival)
        (passes_below rival is) (fits_by_number rival is fits) in
        let own : choice_distortion g planes counts
        ≡ upto blocks (dist_at points_at (listed counts)) = distortion_by_number counts choice in
        let other : choice_distortion g planes rival
        ≡ upto blocks (dist_at points_at (listed rival)) = distortion_by_number rival is in
        omega (arith, above, own, other)

    near_at : (n k : ℕ) → n < blocks → k ≤ block_passes g planes (block_numbered g n) →
        term (rate n) (point_of g steps planes (block_numbered g n) (listed counts n))
        ≤ term (rate n) (point_of g steps planes (block_numbered g n) k) + 131072
    near_at n k below most =
        let b = block_numbered g n in
        let own : listed counts n < length (points_at n) = passes_below counts choice n below in
        let long : length (points_at n) ≡ block_passes g planes b + 1 =
        points_long g steps planes b in
        subst (λ (p : Point). term (rate n) p
        ≤ term (rate n) (point_of g steps planes b k) + 131072)
        (point_is g steps planes b (listed counts n) (omega (arith, own, long)))
        (subst (λ (p : Point). term (rate n) (point_at (points_at n) (listed counts n))
        ≤ term (rate n) p + 131072)
        (point_is g steps planes b k most)
        ((promise limits blocks (inside_at g) (held_at g steps planes) points_at hull_steps
        counts done left (undecoded g planes) c members are hulls h).chosen n below k
        (omega (arith, most, long))))

    -- ---- by the multipliers of the certificate

    same_rate : (n : ℕ) → n < blocks → rate n ≡ rate_in g c.multipliers (block_numbered g n)
    same_rate n below =
        rate_is g steps planes limits counts hull_steps done left c inner are hulls choice h n below

    near : (b : BlockId) → IsBlock g b → (k : ℕ) → k ≤ block_passes g planes b →
        term (rate_in g c.multipliers b) (point_of g steps planes b (chosen_passes g counts b))
        ≤ term (rate_in g c.multipliers b) (point_of g steps planes b k) + 131072
    near b block k =
        subst (λ (x : BlockId). k ≤ block_passes g planes x →
        term (rate_in g c.multipliers x) (point_of g steps planes x (chosen_passes g counts b))
        ≤ term (rate_in g c.multipliers x) (point_of g steps planes x k) + 131072)
        (block_is g b block)
        (λ most. subst (λ m. term m
        (point_of g steps planes (block_numbered g (number_of g b)) (chosen_passes g counts b))
        ≤ term m (point_of g steps planes (block_numbered g (number_of g b)) k) + 131072)
        (same_rate (number_of g b) (number_below g b block))
        (near_at (number_of g b) k (number_below g b block) most))

    abbrev least_at : ℕ → ℕ
    least_at = least limits blocks (inside_at g) (held_at g steps planes) points_at hull_steps
        counts done left (undecoded g planes) c members are hulls h

    abbrev least_of : BlockId → ℕ
    least_of b = least_at (number_of g b)

    terms_are : AreLeastTerms g steps planes c.multipliers least_of
    terms_are b block =
        subst (λ (x : BlockId). IsLeastTerm (points_of g steps planes x)
        (rate_in g c.multipliers x) (least_of b)) (block_is g b block)
        (subst (λ m. IsLeastTerm (points_at (number_of g b)) m (least_of b))
        (same_rate (number_of g b) (number_below g b block))
        (terms limits blocks (inside_at g) (held_at g steps planes) points_at hull_steps counts
        done left (undecoded g planes) c members are hulls h (number_of g b)
        (number_below g b block)))

    abbrev bound : Ledger
    bound = pass_ledger (choice_budgets g steps planes limits) points_at least_at
        (so_far counts done left h.closed)

    least_sum : sum (map least_of (all_blocks g)) ≡ least_terms bound
    least_sum =
        listed_sum (record { component = 0; res = 0; orient = LL; x = 0; y = 0 }) least_of
        (all_blocks g)
        ∙ upto_same blocks (λ n. least_of (block_numbered g n)) least_at
        (λ n below. ap least_at (number_is g n below))

    same_held : ledgers.held_worth bound ≡ held_worth g steps planes counts c.multipliers
    same_held =
        five_sum (λ j. bound.multipliers j * bound.held j)
        (λ j. multiplier_in c.multipliers j * held_in (held_at g steps planes counts) j)
        (λ j. ap (λ m. m * bound.held (place_of j))
        (sym (h.multipliers (place_of j) (place_below j)))
        ∙ ap (λ n. multiplier_in c.multipliers j * n)
        (held_is (held_at g steps planes counts) j))

    same_limit : ledgers.limit_worth bound
        ≡ limit_worth g steps planes limits counts c.multipliers
    same_limit =
        five_sum (λ j. bound.multipliers j * (bound.limit j + body_of bound bound.bytes j))
        (λ j. multiplier_in c.multipliers j
        * (get_or (limit_each limits) (place_of j) 0 + body_bytes g steps planes counts j))
        (λ j. ap (λ m. m * (bound.limit (place_of j) + body_of bound bound.bytes (place_of j)))
        (sym (h.multipliers (place_of j) (place_below j)))
        ∙ ap (λ n. multiplier_in c.multipliers j
        * (get_or (limit_each limits) (place_of j) 0 + n))
        (body_is limits blocks (inside_at g) members (len_at points_at (listed counts)) j
        ∙ sym (body_by_number counts choice j)))

    gap_above : IsGapAbove g steps planes limits counts c.multipliers least_of c.gap
    gap_above =
        let is : IsGap bound c.gap =
        gap_is limits blocks (inside_at g) (held_at g steps planes) points_at hull_steps counts done
        left (undecoded g planes) c members are hulls h in
        let own = distortion_by_number counts choice in
        record {
          enough = bound_in (distortion bound) (ledgers.limit_worth bound) (least_terms bound)
              (ledgers.held_worth bound) (choice_distortion g planes counts)
              (limit_worth g steps planes limits counts c.multipliers)
              (sum (map least_of (all_blocks g)))
              (held_worth g steps planes counts c.multipliers) c.gap (sym own) same_limit
              (sym least_sum) same_held is.enough;
          smallest = λ k below. is.least k
              (bound_in (choice_distortion g planes counts)
              (limit_worth g steps planes limits counts c.multipliers)
              (sum (map least_of (all_blocks g)))
              (held_worth g steps planes counts c.multipliers) (distortion bound)
              (ledgers.limit_worth bound) (least_terms bound) (ledgers.held_worth bound) k own
              (sym same_limit) least_sum (sym same_held) below);
        }

    pub is_chosen : IsWithin limits (held_at g steps planes counts) →
        IsChosen g steps planes limits counts c
    is_chosen within = record {
      is_choice = choice;
      within = within;
      distortion = chosen_distortion;
      fits = itself_fits g steps planes limits counts within;
      rivals = rivals_above;
      hull_steps = hull_steps;
      hulls = hulls;
      done = done;
      left = left;
      certificate = h;
      least = least_of;
      terms = terms_are;
      gap = gap_above;
      chosen = near;
      refused = all_refused g steps planes limits counts hull_steps done left c inner are hulls
          choice h;
      budgets = listed_budgets g steps planes limits counts hull_steps done left c h;
      below_prices = h.below_prices;
      none = h.none;
    }

-- The certificate of a walk over the hulls of a frame's code-blocks bounds all its choices of
-- passes.
pub certified : (g : Geometry) (steps : StepSizes) (planes : Planes) (limits : Limits)
    (counts : List ℕ) (hull_steps done left : ℕ → List Step) (c : Certificate) →
    is_some limits.inner ≡ has_inner g.profile →
    ((b : ℕ) → b < length (all_blocks g) →
    ArePoints (points_of g steps planes (block_numbered g b))) →
    ((b : ℕ) → b < length (all_blocks g) →
    IsHull b (points_of g steps planes (block_numbered g b)) (hull_steps b)) →
    IsChoice g planes counts → IsWithin limits (held_at g steps planes counts) →
    IsCertificate (choice_budgets g steps planes limits) hull_steps counts done left
    (undecoded g planes) c →
    IsChosen g steps planes limits counts c
certified g steps planes limits counts hull_steps done left c inner are hulls choice within h =
    is_chosen g steps planes limits counts hull_steps done left c inner are hulls choice h within
