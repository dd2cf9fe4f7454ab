use Rattle.std.proofs.Common.{◌≡◌, ◌∙◌, ℕ, refl, sym, subst}
use Rattle.budget_duals.specs.Held.{IsWithin}
use Rattle.coded_blocks.proofs.Planes.{few_planes_of}
use Rattle.dz_quantiser.specs.Bands.{AreUsable}
use Rattle.dz_quantiser.specs.declared.steps.StepSizes.{StepSizes}
use Rattle.frame_choice.specs.Blocks.{three_planes}
use Rattle.frame_choice.specs.Choice.{no_passes}
use Rattle.frame_coefficients.specs.BuiltIn.{built_in_steps}
use Rattle.frame_packets.specs.Keeps.{frame_held, nothing}
use Rattle.pnm_frames.specs.View.{picture_of}
use Rattle.profile_reader.specs.Chosen.{Planes}
use Rattle.frame_encoder.specs.Encoded.{planes_of}
use Rattle.frame_encoder.proofs.Allowed.{are_low}
use Rattle.frame_encoder.proofs.Planes.{below_with, chosen_with, codes_with, distortion_with}
use Rattle.frame_encoder.proofs.Planes.{kept_with, planes_from}
use Rattle.frame_encoder.proofs.Steps.{same_steps}
use Rattle.frame_encoder.proofs.choosing.choose_passes.Goals.{After-drop-made-4}
use Rattle.frame_encoder.proofs.choosing.choose_passes.Goals as goal

pub invariant_of-quantised : goal.invariant_of-quantised
invariant_of-quantised c =
    let size = c.in_ok-made.ensures.size in
    let small = c.in_ok-made.ensures.magnitudes in
    let below = c.in_ok-made.ensures.below in
    record {
      levels = c.requires.geometry.levels;
      usable = subst (λ (n : ℕ). AreUsable n c.built_in-steps.result)
          (sym c.requires.geometry.levels) c.built_in-steps.ensures.usable;
      first = record { size = size.0; small = small.0; below = below.0 };
      second = record { size = size.1; small = small.1; below = below.1 };
      third = record { size = size.2; small = small.2; below = below.2 };
    }

pub choose-requires-clause-low : goal.choose-requires-clause-low
choose-requires-clause-low c =
    are_low c.args.geometry.now.profile c.args.limits.now c.requires.allowed

pub choose-requires-clause-within : goal.choose-requires-clause-within
choose-requires-clause-within c =
    subst (λ (s : StepSizes).
    IsWithin c.args.limits.now (frame_held c.args.geometry.now s nothing))
    (sym (same_steps c.args.geometry.now.profile c.built_in-steps.result
    c.built_in-steps.ensures.guard c.built_in-steps.ensures.bands)) c.requires.limits

pub invariant_of-passes : goal.invariant_of-passes
invariant_of-passes c = record {
  levels = c.requires.geometry.levels;
  codes_count = c.in_ok-choice.ensures.codes.count;
  choice_count = c.in_ok-choice.ensures.chosen.is_choice.long;
  packets_of = c.in_ok-choice.ensures.packets.geometry;
}

-- the steps and the planes that were made are those of the profile and the picture
made_steps : (c : After-drop-made-4) →
    c.built_in-steps.result ≡ built_in_steps c.args.geometry.now.profile
made_steps c = same_steps c.args.geometry.now.profile c.built_in-steps.result
    c.built_in-steps.ensures.guard c.built_in-steps.ensures.bands

first_planes : After-drop-made-4 → Planes
first_planes c = three_planes c.in_ok-made.made.c0 c.in_ok-made.made.c1 c.in_ok-made.made.c2

made_planes : (c : After-drop-made-4) →
    first_planes c ≡ planes_of c.args.geometry.now (picture_of c.args.frame.now)
unfolding first_planes
made_planes c =
    planes_from c.args.geometry.now (picture_of c.args.frame.now) c.built_in-steps.result
    c.in_ok-made.made.c0 c.in_ok-made.made.c1 c.in_ok-made.made.c2 c.as_slice.result.now
    c.as_slice-2.result.now c.as_slice-3.result.now (made_steps c) c.as_slice.ensures.value
    c.as_slice-2.ensures.value c.as_slice-3.ensures.value c.in_ok-made.ensures.c0
    c.in_ok-made.ensures.c1 c.in_ok-made.ensures.c2

pub returns-clause-frame : goal.returns-clause-frame
unfolding first_planes
returns-clause-frame c =
    let g = c.args.geometry.now in
    let planes = planes_of g (picture_of c.args.frame.now) in
    let steps = built_in_steps g.profile in
    let made = c.in_ok-made.made in
    let size = c.in_ok-made.ensures.size in
    let small = c.in_ok-made.ensures.magnitudes in
    let below = c.in_ok-made.ensures.below in
    record {
      below = below_with g c.built_in-steps.result steps (first_planes c) planes (made_steps c)
          (made_planes c)
          (few_planes_of g c.built_in-steps.result (first_planes c) made.c0 made.c1 made.c2
          (record { size = size.0; small = small.0; below = below.0 })
          (record { size = size.1; small = small.1; below = below.1 })
          (record { size = size.2; small = small.2; below = below.2 }) refl refl refl);
      codes = codes_with g c.built_in-steps.result steps (first_planes c) planes (made_steps c)
          (made_planes c) c.in_ok-choice.choice.counts.items c.in_ok-choice.choice.codes
          c.in_ok-choice.ensures.codes;
      keeps = kept_with g c.built_in-steps.result steps (first_planes c)
          planes (made_steps c) (made_planes c) c.in_ok-choice.choice.counts.items
          c.in_ok-choice.choice.packets c.in_ok-choice.ensures.packets;
    }

pub returns-clause-empty : goal.returns-clause-empty
unfolding first_planes
returns-clause-empty c =
    let g = c.args.geometry.now in
    c.in_ok-choice.ensures.undecoded
    ∙ distortion_with g c.built_in-steps.result (built_in_steps g.profile) (first_planes c)
    (planes_of g (picture_of c.args.frame.now)) (made_steps c) (made_planes c) (no_passes g)

pub returns-clause-chosen : goal.returns-clause-chosen
unfolding first_planes
returns-clause-chosen c =
    let g = c.args.geometry.now in
    chosen_with g c.built_in-steps.result (built_in_steps g.profile) (first_planes c)
    (planes_of g (picture_of c.args.frame.now)) (made_steps c) (made_planes c)
    c.args.limits.now c.in_ok-choice.choice.counts.items c.in_ok-choice.choice.certificate
    c.in_ok-choice.ensures.chosen
