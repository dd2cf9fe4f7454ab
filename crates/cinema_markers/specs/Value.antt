-- What a main header says, read at the places of its segments (ISO/IEC 15444-1, A.5 to A.7).
use Rattle.std.specs.Prelude.{ℕ, ◌≡◌, ◌+◌, ◌*◌, ◌/◌, ◌%◌, List, map, slice_index}
use Rattle.std.specs.Option.{unwrap_or}
use Rattle.std.specs.List.{range_with_len}
use Rattle.cine_nums.specs.Bytes.{word_at, long_at}
use Rattle.cine_nums.specs.Profile.{parts_of}
use Rattle.dz_quantiser.specs.declared.band.BandStep.{BandStep}
use Rattle.dz_quantiser.specs.declared.steps.StepSizes.{StepSizes}
use Rattle.cinema_markers.specs.Reading.{EndsAt}
use Rattle.cinema_markers.specs.Tables.{profile_at, entry_place, index_size, length_at}
use Rattle.cinema_markers.specs.declared.found.Found.{Found}
use Rattle.cinema_markers.specs.declared.header.MainRead.{MainRead}

-- the step that 16 bits of QCD give: an exponent above a mantissa of 11 bits
abbrev pub step_with : ℕ → BandStep
step_with n = record { exponent = n / 2048; mantissa = n % 2048 }

-- the step of band i of QCD at a place
abbrev pub band_step : List ℕ → ℕ → ℕ → BandStep
band_step bytes qcd i = step_with (word_at bytes (qcd + (5 + 2 * i)))

-- the guard bits and the steps of so many bands
abbrev pub steps_at : List ℕ → ℕ → ℕ → StepSizes
steps_at bytes qcd count = record {
  guard = slice_index bytes (qcd + 4) / 32;
  bands = record { items = map (band_step bytes qcd) (range_with_len 0 count) };
}

-- where TLM at a place has the length of tile-part i, and the length
abbrev pub part_place : List ℕ → ℕ → ℕ → ℕ
part_place bytes tlm i =
    let stlm = slice_index bytes (tlm + 5) in
    entry_place tlm stlm i + index_size stlm

abbrev pub part_length : List ℕ → ℕ → ℕ → ℕ
part_length bytes tlm i = length_at (slice_index bytes (tlm + 5)) bytes (part_place bytes tlm i)

-- a main header whose segments stand at these places, and which ends at this one
abbrev pub main_at : List ℕ → Found → ℕ → MainRead
main_at bytes found at =
    let profile = profile_at bytes found.siz in
    let siz = unwrap_or found.siz 0 in
    let cod = unwrap_or found.cod 0 in
    let tlm = unwrap_or found.tlm 0 in
    let levels = slice_index bytes (cod + 9) in
    let parts = range_with_len 0 (parts_of profile) in
    record {
      main = record {
        profile = profile;
        width = long_at bytes (siz + 6);
        height = long_at bytes (siz + 10);
        levels = levels;
        flag = slice_index bytes (cod + 8);
        steps = steps_at bytes (unwrap_or found.qcd 0) (3 * levels + 1);
        parts = record { items = map (part_length bytes tlm) parts };
      };
      parts_at = record { items = map (part_place bytes tlm) parts };
      bytes = at;
    }

-- a main header ends, and this is what is read at the places of its segments
pub record IsRead (bytes : List ℕ) (read : MainRead) : Type 0 where
  pub found : Found
  pub ends : EndsAt bytes found read.bytes
  pub is : read ≡ main_at bytes found read.bytes
