-- The steps of hulls are known.
use Rattle.std.proofs.Common.{◌≡◌, ℕ, ◌+◌, ◌<◌, ◌≤◌, List, [], ◌∷◌, length, sym, ap, subst, ◌∙◌}
use Rattle.std.proofs.Common.{arith}
use Rattle.band_geometry.specs.Numbering.{all_blocks}
use Rattle.std.specs.List.{AllByRecursion}
use Rattle.band_geometry.specs.declared.geometry.Geometry.{Geometry}
use Rattle.dz_quantiser.specs.declared.steps.StepSizes.{StepSizes}
use Rattle.profile_reader.specs.Chosen.{Planes}
use Rattle.rd_hulls.specs.Hull.{FollowFrom, IsHull, IsHullStep}
use Rattle.rd_hulls.specs.Points.{ArePoints}
use Rattle.rd_hulls.specs.declared.step.Step.{Step}
use Rattle.frame_choice.specs.Blocks.{block_numbered, points_of}
use Rattle.frame_choice.specs.Choice.{block_bytes}
use Rattle.frame_choice.specs.Hulls.{AreHulls}
use Rattle.frame_choice.specs.Present.{IsKnownStep}
use Rattle.frame_choice.proofs.HullLemmas.{point_is, points_long}

module _ (g : Geometry) (steps : StepSizes) (planes : Planes) (b : ℕ)
    (are : ArePoints (points_of g steps planes (block_numbered g b))) where
  known_one : (c : ℕ) (s : Step) → c < length (points_of g steps planes (block_numbered g b)) →
      IsHullStep b (points_of g steps planes (block_numbered g b)) c s →
      IsKnownStep g steps planes s
  known_one c s inside h =
      let id = block_numbered g b in
      let points = points_of g steps planes id in
      let long = points_long g steps planes id in
      let last = h.within in
      let from : s.from ≡ c = h.step.from ∙ (are.each c inside).passes in
      let here = ap (λ p. p.len) (point_is g steps planes id c (omega (arith, inside, long))) in
      let there = ap (λ p. p.len) (point_is g steps planes id s.to (omega (arith, last, long))) in
      let sum = h.step.len in
      let few = (are.each s.to h.within).short in
      let len : block_bytes g steps planes id c + s.len ≡ block_bytes g steps planes id s.to =
      omega (arith, here, there, sum) in
      let short : block_bytes g steps planes id s.to ≤ 131072 = omega (arith, there, few) in
      record {
        len = subst (λ n. block_bytes g steps planes (block_numbered g n) s.from + s.len
            ≡ block_bytes g steps planes (block_numbered g n) s.to) (sym h.step.block)
            (subst (λ k. block_bytes g steps planes id k + s.len
            ≡ block_bytes g steps planes id s.to) (sym from) len);
        short = subst (λ n. block_bytes g steps planes (block_numbered g n) s.to ≤ 131072)
            (sym h.step.block) short;
      }

  known_from : (c : ℕ) (xs : List Step) →
      c < length (points_of g steps planes (block_numbered g b)) →
      FollowFrom b (points_of g steps planes (block_numbered g b)) c xs →
      AllByRecursion (IsKnownStep g steps planes) xs
  known_from c [] inside h = tt
  known_from c (s ∷ rest) inside h =
      (known_one c s inside h.0, known_from s.to rest h.0.within h.1)

  pub known_steps : (xs : List Step) →
      IsHull b (points_of g steps planes (block_numbered g b)) xs →
      AllByRecursion (IsKnownStep g steps planes) xs
  known_steps xs h = known_from 0 xs are.first h.follow

-- those of all blocks
pub hulls_known : (g : Geometry) (steps : StepSizes) (planes : Planes) (all : ℕ → List Step) →
    AreHulls g steps planes all → (b : ℕ) → b < length (all_blocks g) →
    AllByRecursion (IsKnownStep g steps planes) (all b)
hulls_known g steps planes all are b below =
    known_steps g steps planes b (are.points b below) (all b) (are.hulls b below)
