-- The main header of a codestream that is spelled.
use Rattle.std.proofs.Common.{◌≡◌, ℕ, ◌^◌, ◌<◌, ◌≤◌, List, length, get_or}
use Rattle.std.proofs.Common.{refl, sym, arith, subst, inl, inr}
use Rattle.std.specs.List.{All}
use Rattle.std.proofs.lemmas.Bool.{cases_lt}
use Rattle.std.proofs.lemmas.List.{get_or_past}
use Rattle.std.proofs.lemmas.List.FromFn.{length-map-range_with_len}
use Rattle.std.proofs.lemmas.List.Elements.{All-weaker, All-get_or}
use Rattle.cine_nums.specs.Profile.{parts_of}
use Rattle.band_geometry.specs.declared.geometry.Geometry.{Geometry}
use Rattle.band_geometry.specs.declared.places.BlockId.{BlockId}
use Rattle.cinema_markers.specs.MainHeader.{main_header_of}
use Rattle.cinema_markers.specs.Words.{MainFits, main_words}
use Rattle.cinema_markers.specs.Words.{written_words}
use Rattle.cinema_markers.specs.declared.header.MainHeader.{MainHeader}
use Rattle.cinema_markers.proofs.Written.{CanWrite, written_bytes, written_fits}
use Rattle.dz_quantiser.specs.Bands.{planes_of, AreUsable}
use Rattle.dz_quantiser.specs.declared.band.BandStep.{BandStep}
use Rattle.dz_quantiser.specs.declared.steps.StepSizes.{StepSizes}
use Rattle.profile_reader.specs.Packets.{BlockBytes}
use Rattle.profile_reader.specs.Spell.{part_length, part_lengths, header_for}
use Rattle.profile_reader.specs.Spelled.{CanSpell}
use Rattle.profile_reader.proofs.StepLemmas.{IsTaken, all_taken}

short_length : (lengths : List ℕ) → All (λ n. n < 2 ^ 32) lengths → (k : ℕ) →
    get_or lengths k 0 < 4294967296
short_length lengths all k = elim (cases_lt k (length lengths)) [
  | inl within ↦ All-get_or (λ n. n < 2 ^ 32) lengths k 0 within all
  | inr past ↦ subst (λ n. n < 4294967296) (sym (get_or_past lengths k 0 past)) (omega arith)
]

can_write_main : (g : Geometry) (steps : StepSizes) (given : BlockId → BlockBytes) →
    CanSpell g steps given → CanWrite (header_for g steps (part_lengths g steps given))
can_write_main g steps given can =
    let taken = all_taken g.levels steps can.steps_usable in
    record {
      some_width = g.some_width;
      width = g.width_in_profile;
      some_height = g.some_height;
      height = g.height_in_profile;
      levels = can.levels;
      flag = refl;
      guard = can.steps_usable.guard;
      bands = can.steps_usable.count;
      exponents = All-weaker (IsTaken steps.guard) (λ (step : BandStep). step.exponent < 32)
          (λ step is. let high = is.1.exponent_high in omega (arith, high)) steps.bands.items taken;
      mantissas = All-weaker (IsTaken steps.guard) (λ (step : BandStep). step.mantissa < 2048)
          (λ step is. is.1.mantissa) steps.bands.items taken;
      parts = length-map-range_with_len (part_length g steps given) 0 (parts_of g.profile);
      short = short_length (part_lengths g steps given) can.lengths;
    }

-- the writer's words spell the main header
pub main_fits : (g : Geometry) (steps : StepSizes) (given : BlockId → BlockBytes) →
    CanSpell g steps given →
    MainFits (header_for g steps (part_lengths g steps given))
    (written_words (header_for g steps (part_lengths g steps given)))
main_fits g steps given can =
    written_fits (header_for g steps (part_lengths g steps given))
    (can_write_main g steps given can)
    (All-weaker (IsTaken steps.guard) (λ (step : BandStep). 1 ≤ planes_of steps.guard step.exponent)
    (λ step is. is.1.planes_low) steps.bands.items (all_taken g.levels steps can.steps_usable))

pub main_spelled : (m : MainHeader) → main_header_of m ≡ main_words m (written_words m)
unfolding main_header_of
main_spelled m = written_bytes m m.profile

-- no band has more bit-planes than a reader takes
pub few_band_planes : (levels : ℕ) (steps : StepSizes) → AreUsable levels steps →
    All (λ (step : BandStep). planes_of steps.guard step.exponent ≤ 31) steps.bands.items
few_band_planes levels steps usable =
    All-weaker (IsTaken steps.guard)
    (λ (step : BandStep). planes_of steps.guard step.exponent ≤ 31)
    (λ step is. let high = is.1.planes_high in omega (arith, high)) steps.bands.items
    (all_taken levels steps usable)
