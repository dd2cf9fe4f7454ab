-- The choice of no passes.
use Rattle.std.proofs.Common.{◌≡◌, ℕ, zero, suc, length, get_or, refl, sym, ap, ◌∙◌}
use Rattle.std.proofs.Common.{arith, replicate}
use Rattle.std.proofs.lemmas.List.{length-map, length-replicate}
use mathlib.Core.Path.{fun_ext}
use Rattle.band_geometry.specs.Counts.{number_of}
use Rattle.band_geometry.specs.Numbering.{all_blocks}
use Rattle.band_geometry.specs.declared.geometry.Geometry.{Geometry}
use Rattle.budget_duals.specs.Price.{AreCounts}
use Rattle.dz_quantiser.specs.Bands.{band_planes}
use Rattle.dz_quantiser.specs.declared.steps.StepSizes.{StepSizes}
use Rattle.frame_packets.specs.Keeps.{nothing}
use Rattle.profile_reader.specs.Chosen.{Planes, block_coefs, block_shape, chosen, written_of}
use Rattle.frame_choice.specs.Blocks.{most_passes}
use Rattle.frame_choice.specs.Choice.{block_passes}

pub zero_at : (n i : ℕ) → get_or {A = ℕ} (replicate n 0) i 0 ≡ 0
zero_at zero i = refl
zero_at (suc n) zero = refl
zero_at (suc n) (suc i) = zero_at n i

-- by it nothing is written of any block
pub none_chosen : (g : Geometry) (steps : StepSizes) (planes : Planes) (n : ℕ) →
    chosen g steps planes (replicate n 0) ≡ nothing
unfolding chosen
none_chosen g steps planes n = fun_ext (λ b. ap
    (λ k. written_of (band_planes steps b.res b.orient) (block_coefs g planes b)
    (block_shape g planes b) k) (zero_at n (number_of g b)))

pub none_are_counts : (g : Geometry) (planes : Planes) →
    AreCounts (most_passes g planes) (replicate (length (all_blocks g)) 0)
none_are_counts g planes = record {
  long = length-replicate (length (all_blocks g)) 0
      ∙ sym (length-map (all_blocks g) (block_passes g planes));
  most = λ b below. (let at = zero_at (length (all_blocks g)) b in omega (arith, at));
}
