-- What the allocation over the hulls of a frame's code-blocks asks.
use Rattle.std.proofs.Common.{◌≡◌, ℕ, ◌<◌, ◌≤◌, ◌^◌, List, length}
use Rattle.std.proofs.Common.{sym, ap, ◌∙◌, subst, arith, is_some}
use Rattle.std.specs.List.{AllByRecursion}
use Rattle.std.proofs.lemmas.List.{length-map}
use Rattle.cine_nums.specs.Limits.{has_inner}
use Rattle.cine_nums.specs.declared.orient.Orient.TheVariants.{LL}
use Rattle.band_geometry.specs.Counts.{number_of}
use Rattle.band_geometry.specs.Numbering.{all_blocks}
use Rattle.band_geometry.specs.declared.geometry.Geometry.{Geometry}
use Rattle.allocation_bound.specs.Steps.{gains, lens}
use Rattle.allocation_bound.specs.Sums.{upto}
use Rattle.allocation_bound.proofs.SumLemmas.{upto_le, upto_same}
use Rattle.budget_duals.specs.Certified.{IsReady}
use Rattle.budget_duals.specs.Frame.{AreLow}
use Rattle.budget_duals.specs.Price.{AreCounts}
use Rattle.budget_duals.specs.declared.limits.Limits.{Limits}
use Rattle.profile_reader.specs.Chosen.{Planes, choice_distortion, chosen_passes}
use Rattle.rd_hulls.specs.Points.{point_at}
use Rattle.rd_hulls.specs.declared.step.Step.{Step}
use Rattle.frame_choice.specs.Blocks.{block_numbered, inside_at, most_passes, points_of}
use Rattle.frame_choice.specs.Choice.{IsChoice, block_distortion, block_passes, held_at, no_passes}
use Rattle.frame_choice.specs.Chosen.{undecoded}
use Rattle.frame_choice.specs.Hulls.{AreHulls}
use Rattle.frame_choice.specs.NumberLaws.{block_is, is_block, number_below}
use Rattle.frame_choice.specs.PriceLaws.{planes_in}
use Rattle.frame_choice.specs.declared.quantised.QuantisedFrame.{QuantisedFrame}
use Rattle.frame_choice.proofs.BlockSteps.{CanBeTaken, can_be_taken, upto_each}
use Rattle.frame_choice.proofs.FewBlocks.{few_blocks}
use Rattle.frame_choice.proofs.HullLemmas.{point_is, points_long}
use Rattle.frame_choice.proofs.Members.{are_members, none_inside}
use Rattle.frame_choice.proofs.NoPasses.{zero_at}
use Rattle.frame_choice.proofs.Sums.{listed_sum}
use Rattle.frame_choice.proofs.Taking.{most_at}

-- ---- the distortion with nothing decoded

-- that of the block with this number
abbrev pub block_undecoded : Geometry → Planes → ℕ → ℕ
block_undecoded g planes n = block_distortion g planes (block_numbered g n) 0

pub undecoded_is : (g : Geometry) (planes : Planes) →
    undecoded g planes ≡ upto (length (all_blocks g)) (block_undecoded g planes)
unfolding choice_distortion
undecoded_is g planes =
    listed_sum (record { component = 0; res = 0; orient = LL; x = 0; y = 0 })
    (λ b. block_distortion g planes b (chosen_passes g (no_passes g) b)) (all_blocks g)
    ∙ upto_same (length (all_blocks g))
    (λ n. block_distortion g planes (block_numbered g n)
    (chosen_passes g (no_passes g) (block_numbered g n)))
    (block_undecoded g planes)
    (λ n below. ap (block_distortion g planes (block_numbered g n))
    (zero_at (length (all_blocks g)) (number_of g (block_numbered g n))))

-- ---- the choice

pub is_choice : (g : Geometry) (planes : Planes) (counts : List ℕ) →
    AreCounts (most_passes g planes) counts → IsChoice g planes counts
is_choice g planes counts are = record {
  long = are.long ∙ length-map (all_blocks g) (block_passes g planes);
  most = λ b is.
      let long = length-map (all_blocks g) (block_passes g planes) in
      let below = number_below g b is in
      let most = are.most (number_of g b) (omega (arith, below, long)) in
      let at = most_at g planes (number_of g b) 0 below in
      let same = ap (block_passes g planes) (block_is g b is) in
      omega (arith, most, at, same);
}

-- ---- what is asked

module _ (f : QuantisedFrame) (all : ℕ → List Step)
    (are : AreHulls f.geometry.now f.steps.now (planes_in f) all) where
  abbrev g : Geometry
  g = f.geometry.now

  abbrev blocks : ℕ
  blocks = length (all_blocks g)

  most_of : ℕ → ℕ
  most_of n = block_passes g (planes_in f) (block_numbered g n)

  few : blocks ≤ 26292
  few = few_blocks g f.levels

  long : length (most_passes g (planes_in f)) ≡ blocks
  long = length-map (all_blocks g) (block_passes g (planes_in f))

  taken : (n : ℕ) → n < blocks →
      CanBeTaken (points_of g f.steps.now (planes_in f) (block_numbered g n))
      (block_passes g (planes_in f) (block_numbered g n)) (all n)
  taken n below =
      can_be_taken n (points_of g f.steps.now (planes_in f) (block_numbered g n))
      (block_passes g (planes_in f) (block_numbered g n)) (all n)
      (points_long g f.steps.now (planes_in f) (block_numbered g n)) (are.points n below)
      (are.hulls n below)

  first_dist : (n : ℕ) → n < blocks →
      (point_at (points_of g f.steps.now (planes_in f) (block_numbered g n)) 0).dist
      ≡ block_undecoded g (planes_in f) n
  first_dist n below =
      ap (λ p. p.dist)
      (point_is g f.steps.now (planes_in f) (block_numbered g n) 0 (omega arith))

  gained : upto blocks (λ n. gains (all n)) ≤ undecoded g (planes_in f)
  gained =
      let each = upto_le blocks (λ n. gains (all n)) (block_undecoded g (planes_in f))
      (λ n below. (let gain = (taken n below).gain in
      let first = first_dist n below in omega (arith, gain, first))) in
      let is = undecoded_is g (planes_in f) in
      omega (arith, each, is)

  narrow : undecoded g (planes_in f) < 2 ^ 90
  narrow =
      let each = upto_each blocks (2 ^ 64) (block_undecoded g (planes_in f))
      (λ n below. (let wide = ((are.points n below).each 0 (are.points n below).first).wide in
      let first = first_dist n below in omega (arith, wide, first))) in
      let is = undecoded_is g (planes_in f) in
      let count = few in
      omega (arith, each, is, count)

  written : upto blocks (λ n. lens (all n)) < 2 ^ 32
  written =
      let each = upto_each blocks 131072 (λ n. lens (all n))
      (λ n below. (taken n below).bytes) in
      let count = few in
      omega (arith, each, count)

  pub ready : (limits : Limits) (start : ℕ) → start ≡ undecoded g (planes_in f) →
      AreLow limits → is_some limits.inner ≡ has_inner g.profile →
      IsReady limits (most_passes g (planes_in f)) (no_passes g) (inside_at g)
      (held_at g f.steps.now (planes_in f)) all start
  ready limits start is low inner =
      let within : (n : ℕ) → n < length (most_passes g (planes_in f)) → n < blocks =
      λ n below. subst (λ m. n < m) long below in
      record {
        unpassed = λ n below. zero_at blocks n;
        can_walk = record {
          follow = λ n below. (taken n (within n below)).follow;
          fall = λ n below. (taken n (within n below)).fall;
          to = λ n below.
              subst (λ m. AllByRecursion (λ (s : Step). s.to ≤ m) (all n))
              (sym (most_at g (planes_in f) n 0 (within n below))) (taken n (within n below)).to;
        };
        gain = subst (λ m. upto m (λ n. gains (all n)) ≤ start) (sym long)
            (subst (λ m. upto blocks (λ n. gains (all n)) ≤ m) (sym is) gained);
        wide = subst (λ m. m < 2 ^ 90) (sym is) narrow;
        bytes = subst (λ m. upto m (λ n. lens (all n)) < 2 ^ 32) (sym long) written;
        low = low;
        members = λ n below.
            are_members limits.inner g.profile g.levels (block_numbered g n).component
            (block_numbered g n).res inner (is_block g n (within n below)).component;
        none = λ none. none_inside limits.inner g.profile _ _ inner none;
      }
