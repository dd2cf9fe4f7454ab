-- A walk over the hulls of a frame's code-blocks, whose passes are coded on demand.
use Rattle.std.proofs.Common.{◌≡◌, ℕ, ◌<◌, List, length, get_or, is_some, sym, subst}
use Rattle.std.specs.List.{AllByRecursion, slice_get}
use Rattle.std.proofs.lemmas.List.{length-map}
use Rattle.cine_nums.specs.Limits.{has_inner}
use Rattle.band_geometry.specs.Numbering.{all_blocks}
use Rattle.band_geometry.specs.declared.geometry.Geometry.{Geometry}
use Rattle.budget_duals.specs.Certified.{IsCertificate, IsReady}
use Rattle.budget_duals.specs.Frame.{AreLow, frame_budgets}
use Rattle.budget_duals.specs.Held.{IsWithin}
use Rattle.budget_duals.specs.Price.{AreCounts}
use Rattle.budget_duals.specs.declared.certificate.Certificate.{Certificate}
use Rattle.budget_duals.specs.declared.limits.Limits.{Limits}
use Rattle.demand_blocks.specs.Blocks.{identity_in, known_in}
use Rattle.demand_blocks.specs.declared.block.DemandBlock.{DemandBlock}
use Rattle.demand_blocks.specs.declared.blocks.DemandBlocks.{DemandBlocks}
use Rattle.dz_quantiser.specs.declared.steps.StepSizes.{StepSizes}
use Rattle.profile_reader.specs.Chosen.{Planes}
use Rattle.rd_hulls.specs.Hull.{end_of}
use Rattle.rd_hulls.specs.declared.step.Step.{Step}
use Rattle.frame_choice.specs.Blocks.{inside_at, most_passes}
use Rattle.frame_choice.specs.Choice.{block_passes, held_at, no_passes}
use Rattle.frame_choice.specs.Chosen.{IsChosen, undecoded}
use Rattle.frame_choice.specs.Demanded.{AreCodedUpTo, AreDemanded}
use Rattle.frame_choice.specs.Hulls.{AreHulls}
use Rattle.frame_choice.specs.Present.{IsKnownStep}
use Rattle.frame_choice.specs.PriceLaws.{Same, planes_in}
use Rattle.frame_choice.specs.declared.quantised.QuantisedFrame.{QuantisedFrame}
use Rattle.frame_choice.proofs.Certify.{certified}
use Rattle.frame_choice.proofs.Demanding.{still_demanded}
use Rattle.frame_choice.proofs.KnownSteps.{hulls_known}
use Rattle.frame_choice.proofs.Ready.{is_choice, ready}

-- what stands of a frame stands of one with the same geometry, steps and coefficients
pub of_same : (P : Geometry → StepSizes → Planes → Type 0) (a b : QuantisedFrame) → Same a b →
    P b.geometry.now b.steps.now (planes_in b) → P a.geometry.now a.steps.now (planes_in a)
of_same P a b same here =
    subst (λ (p : Planes). P a.geometry.now a.steps.now p) same.planes
    (subst (λ (s : StepSizes). P a.geometry.now s (planes_in b)) same.steps
    (subst (λ (g : Geometry). P g b.steps.now (planes_in b)) same.geometry here))

-- ---- before the walk: the price is of the frame f

module _ (f q : QuantisedFrame) (is : q ≡ f) where
  pub most_long : length (most_passes q.geometry.now (planes_in q))
      ≡ length (all_blocks f.geometry.now)
  most_long =
      subst (λ (h : QuantisedFrame). length (most_passes h.geometry.now (planes_in h))
      ≡ length (all_blocks f.geometry.now)) (sym is)
      (length-map (all_blocks f.geometry.now) (block_passes f.geometry.now (planes_in f)))

  pub can_begin : (all : ℕ → List Step) (counts : List ℕ) (limits : Limits) (start : ℕ) →
      AreHulls f.geometry.now f.steps.now (planes_in f) all → counts ≡ no_passes f.geometry.now →
      start ≡ undecoded f.geometry.now (planes_in f) → AreLow limits →
      is_some limits.inner ≡ has_inner f.geometry.now.profile →
      IsReady limits (most_passes q.geometry.now (planes_in q)) counts (inside_at q.geometry.now)
      (held_at q.geometry.now q.steps.now (planes_in q)) all start
  can_begin all counts limits start are none empty low inner =
      subst (λ (h : QuantisedFrame). IsReady limits (most_passes h.geometry.now (planes_in h))
      counts (inside_at h.geometry.now) (held_at h.geometry.now h.steps.now (planes_in h)) all
      start) (sym is)
      (subst (λ (xs : List ℕ). IsReady limits (most_passes f.geometry.now (planes_in f)) xs
      (inside_at f.geometry.now) (held_at f.geometry.now f.steps.now (planes_in f)) all start)
      (sym none) (ready f all are limits start empty low inner))

  pub all_known : (all : ℕ → List Step) →
      AreHulls f.geometry.now f.steps.now (planes_in f) all → (b : ℕ) →
      b < length (all_blocks f.geometry.now) →
      AllByRecursion (IsKnownStep q.geometry.now q.steps.now (planes_in q)) (all b)
  all_known all are b below =
      subst (λ (h : QuantisedFrame). AllByRecursion (IsKnownStep h.geometry.now h.steps.now
      (planes_in h)) (all b)) (sym is)
      (hulls_known f.geometry.now f.steps.now (planes_in f) all are b below)

  -- ---- after it: what is held is what the frame's budgets hold

  pub is_within : (limits : Limits) (counts : List ℕ) →
      IsWithin limits (held_at q.geometry.now q.steps.now (planes_in q) counts) →
      IsWithin limits (held_at f.geometry.now f.steps.now (planes_in f) counts)
  is_within limits counts within =
      subst (λ (h : QuantisedFrame). IsWithin limits
      (held_at h.geometry.now h.steps.now (planes_in h) counts)) is within

  -- a new price keeps the frame
  pub kept_frame : (new : QuantisedFrame) → Same q new → Same f new
  kept_frame new same = subst (λ (h : QuantisedFrame). Same h new) is same

  module _ (all done left : ℕ → List Step) (blocks start : ℕ) (limits : Limits) (counts : List ℕ)
      (c : Certificate) (are : AreHulls f.geometry.now f.steps.now (planes_in f) all)
      (many : blocks ≡ length (all_blocks f.geometry.now))
      (empty : start ≡ undecoded f.geometry.now (planes_in f))
      (h : IsCertificate (frame_budgets limits blocks (inside_at q.geometry.now)
      (held_at q.geometry.now q.steps.now (planes_in q))) all counts done left start c) where
    of_frame : IsCertificate (frame_budgets limits (length (all_blocks f.geometry.now))
        (inside_at f.geometry.now) (held_at f.geometry.now f.steps.now (planes_in f))) all counts
        done left (undecoded f.geometry.now (planes_in f)) c
    of_frame =
        subst (λ (s : ℕ). IsCertificate (frame_budgets limits
        (length (all_blocks f.geometry.now)) (inside_at f.geometry.now)
        (held_at f.geometry.now f.steps.now (planes_in f))) all counts done left s c) empty
        (subst (λ (n : ℕ). IsCertificate (frame_budgets limits n (inside_at f.geometry.now)
        (held_at f.geometry.now f.steps.now (planes_in f))) all counts done left start c) many
        (subst (λ (x : QuantisedFrame). IsCertificate (frame_budgets limits blocks
        (inside_at x.geometry.now) (held_at x.geometry.now x.steps.now (planes_in x))) all counts
        done left start c) is h))

    pub chosen_by : (new : QuantisedFrame) → Same q new →
        AreCounts (most_passes new.geometry.now (planes_in new)) counts →
        is_some limits.inner ≡ has_inner f.geometry.now.profile →
        IsWithin limits (held_at q.geometry.now q.steps.now (planes_in q) counts) →
        IsChosen f.geometry.now f.steps.now (planes_in f) limits counts c
    chosen_by new same most inner within =
        certified f.geometry.now f.steps.now (planes_in f) limits counts all done left c inner
        are.points are.hulls
        (is_choice f.geometry.now (planes_in f) counts
        (of_same (λ g s p. AreCounts (most_passes g p) counts) f new (kept_frame new same) most))
        (is_within limits counts within) of_frame

    -- the chosen passes are coded, where those that the taken steps lead to are
    pub coded_by : (coded : List DemandBlock) →
        ((n : ℕ) → n < length (all_blocks f.geometry.now) →
        end_of 0 (done n) < length (known_in (slice_get coded n))) →
        AreCodedUpTo f.geometry.now (length (all_blocks f.geometry.now)) (λ n. get_or counts n 0)
        coded
    coded_by coded ends n below =
        subst (λ (k : ℕ). k < length (known_in (slice_get coded n)))
        (sym (of_frame.settled.kept.places n below)) (ends n below)

-- ---- the blocks after it

pub blocks_after : (g : Geometry) (planes : Planes) (first old new given : DemandBlocks) →
    old ≡ first → given ≡ new →
    ((k : ℕ) → identity_in (slice_get new.blocks.items k)
    ≡ identity_in (slice_get old.blocks.items k)) →
    AreDemanded g planes first.blocks.items → AreDemanded g planes given.blocks.items
blocks_after g planes first old new given begun ended stays are =
    subst (λ (p : DemandBlocks). AreDemanded g planes p.blocks.items) (sym ended)
    (still_demanded g planes old.blocks.items new.blocks.items stays
    (subst (λ (p : DemandBlocks). AreDemanded g planes p.blocks.items) (sym begun) are))
