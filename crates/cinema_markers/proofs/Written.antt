-- What the writer writes is a main header.
use Rattle.std.proofs.Common.{◌≡◌, ℕ, suc, ◌+◌, ◌*◌, ◌<◌, ◌≤◌, List, [], ◌∷◌, ◌++◌, length, inl}
use Rattle.std.proofs.Common.{inr, arith, ◌∙◌, ap, refl, append-nil, get_or, if◌then◌else◌}
use Rattle.std.specs.List.{All, AllByRecursion}
use Rattle.cine_nums.specs.declared.profile.Profile.{Profile}
use Rattle.cine_nums.specs.declared.profile.Profile.TheVariants.{TwoK, FourK}
use Rattle.cine_nums.specs.Profile.{levels_of, parts_of, max_width_of, max_height_of}
use Rattle.dz_quantiser.specs.Bands.{planes_of}
use Rattle.dz_quantiser.specs.declared.band.BandStep.{BandStep}
use Rattle.cinema_markers.specs.Fields.{segment}
use Rattle.cinema_markers.specs.MainHeader.{main_header_of, soc, siz, cod, qcd, poc, tlm}
use Rattle.cine_nums.specs.Profile.{least_levels_of, is_four_k}
use Rattle.cinema_markers.specs.Words.{spelled_upto, written_segments, written_words, read_of}
use Rattle.cinema_markers.specs.Words.{IsSpelled, IsStep, MainFits, HasMain, main_words, count_of}
use Rattle.cinema_markers.specs.declared.header.MainHeader.{MainHeader}

-- the bytes
pub written_bytes : (m : MainHeader) (p : Profile) →
    segment soc ++ segment (siz m.profile m.width m.height) ++ segment (cod m.levels m.flag)
    ++ segment (qcd m.levels m.steps)
    ++ segment (poc p m.levels) ++ segment (tlm m.parts.items)
    ≡ spelled_upto m (written_words m) (written_segments p)
written_bytes m TwoK =
    ap (λ t. t ++ segment (tlm m.parts.items))
    (append-nil (segment soc ++ segment (siz m.profile m.width m.height)
    ++ segment (cod m.levels m.flag) ++ segment (qcd m.levels m.steps)))
written_bytes m FourK = refl

short_lengths : (parts : List ℕ) → ((k : ℕ) → get_or parts k 0 < 4294967296) →
    AllByRecursion (λ n. n < 4294967296) parts
short_lengths [] each = tt
short_lengths (n ∷ parts) each = (each 0, short_lengths parts (λ k. each (suc k)))

each_spelled : (parts : List ℕ) (p : Profile) → ((k : ℕ) → get_or parts k 0 < 4294967296) →
    AllByRecursion (IsSpelled parts) (written_segments p)
each_spelled parts TwoK each =
    ((omega arith, inr (inr (inl refl)), short_lengths parts each), (tt, (tt, tt)))
each_spelled parts FourK each =
    ((omega arith, inr (inr (inl refl)), short_lengths parts each), (tt, (tt, (tt, tt))))

-- a step has its ranges
each_step : (guard : ℕ) (steps : List BandStep) → All (λ step. step.exponent < 32) steps →
    All (λ step. step.mantissa < 2048) steps →
    All (λ step. 1 ≤ planes_of guard step.exponent) steps → AllByRecursion (IsStep guard) steps
each_step guard [] x y z = tt
each_step guard (step ∷ steps) x y z = (
  record {
    exponent = x 0 step (omega arith);
    mantissa = y 0 step (omega arith);
    planes =
        z 0 step (omega arith);
  },
  each_step guard steps (λ k d h. x (suc k) d (omega (arith, h)))
      (λ k d h. y (suc k) d (omega (arith, h)))
      (λ k d h. z (suc k) d (omega (arith, h))),
)

counts : (p : Profile) → (count_of 0xFF52 (written_segments p) ≡ 1) ×
    (count_of 0xFF5C (written_segments p) ≡ 1)
    × (count_of 0xFF5F (written_segments p) ≡ (if is_four_k p then 1 else 0)) ×
    (count_of 0xFF55 (written_segments p) ≡ 1)
counts TwoK = (refl, refl, refl, refl)
counts FourK = (refl, refl, refl, refl)

most : (p : Profile) → (least_levels_of p ≤ levels_of p) × (max_width_of p < 4294967296) ×
    (max_height_of p < 4294967296)
most TwoK = (omega arith, omega arith, omega arith)
most FourK = (omega arith, omega arith, omega arith)

pub record CanWrite (m : MainHeader) : Type 0 where
  pub some_width : 1 ≤ m.width
  pub width : m.width ≤ max_width_of m.profile
  pub some_height : 1 ≤ m.height
  pub height : m.height ≤ max_height_of m.profile
  pub levels : m.levels ≡ levels_of m.profile
  pub flag : m.flag ≡ 1
  pub guard : m.steps.guard ≤ 7
  pub bands : length m.steps.bands.items ≡ 3 * m.levels + 1
  pub exponents : All (λ step. step.exponent < 32) m.steps.bands.items
  pub mantissas : All (λ step. step.mantissa < 2048) m.steps.bands.items
  pub parts : length m.parts.items ≡ parts_of m.profile
  pub short : (k : ℕ) → get_or m.parts.items k 0 < 4294967296

pub written_fits : (m : MainHeader) → CanWrite m →
    All (λ step. 1 ≤ planes_of m.steps.guard step.exponent) m.steps.bands.items →
    MainFits m (written_words m)
written_fits m can planes =
    let number = counts m.profile in
    let limits = most m.profile in
    record {
      some_width = can.some_width;
      width = can.width;
      some_height = can.some_height;
      height = can.height;
      tile_width = omega arith;
      tile_height = omega arith;
      short_width = omega arith;
      short_height = omega arith;
      enough_levels = omega arith;
      few_levels = omega arith;
      flag = omega arith;
      guard = can.guard;
      bands = can.bands;
      steps = each_step m.steps.guard m.steps.bands.items can.exponents can.mantissas planes;
      parts = can.parts;
      each = each_spelled m.parts.items m.profile can.short;
      coding = number.0;
      quantisation = number.1;
      progression = number.2;
      lengths = number.3;
    }

pub written_is_main : (m : MainHeader) (bytes rest : List ℕ) → CanWrite m →
    All (λ step. 1 ≤ planes_of m.steps.guard step.exponent) m.steps.bands.items →
    bytes ≡ main_header_of m →
    HasMain (bytes ++ 0xFF ∷ 0x90 ∷ rest) (read_of m)
unfolding main_header_of
written_is_main m bytes rest can planes is =
    let same : bytes ≡ main_words m (written_words m) = is ∙ written_bytes m m.profile in
    record {
      words = written_words m;
      fits = written_fits m can planes;
      rest = rest;
      spelled = ap (λ t. t ++ 0xFF ∷ 0x90 ∷ rest) same;
      places = refl;
      length_is = refl;
    }
