-- The length of a main header doesn't depend on the lengths of tile-parts that it has.
use Rattle.std.proofs.Common.{◌≡◌, ℕ, ◌+◌, ◌*◌, List, [], ◌∷◌, ◌++◌, length, arith, refl}
use Rattle.std.proofs.Common.{length-append}
use Rattle.std.specs.List.{flat_map}
use Rattle.cine_nums.specs.Coding.{precinct_byte}
use Rattle.cine_nums.specs.Profile.{levels_of, parts_of}
use Rattle.cine_nums.specs.declared.profile.Profile.{Profile}
use Rattle.cine_nums.specs.declared.profile.Profile.TheVariants.{TwoK, FourK}
use Rattle.band_geometry.specs.declared.geometry.Geometry.{Geometry}
use Rattle.dz_quantiser.specs.declared.steps.StepSizes.{StepSizes}
use Rattle.cinema_markers.specs.Fields.{segment}
use Rattle.cinema_markers.specs.MainHeader.{main_header_of, main_length, soc, siz, cod, qcd, poc, tlm}
use Rattle.cinema_markers.specs.MainHeader.{tlm_entry}
use Rattle.cinema_markers.specs.Fits.{widths}
use Rattle.cinema_markers.proofs.Spelled.{widths_are, same_widths, step_widths}
use Rattle.profile_reader.specs.Spell.{header_for}

tlm_widths : (lengths : List ℕ) → widths (flat_map tlm_entry lengths) ≡ 5 * length lengths
tlm_widths [] = refl
tlm_widths (n ∷ lengths) = omega (arith, tlm_widths lengths)

six : (a b c d e f : List ℕ) → length (a ++ b ++ c ++ d ++ e ++ f)
    ≡ length a + length b + length c + length d + length e + length f
six a b c d e f =
    omega (
      arith,
      length-append a b,
      length-append (a ++ b) c,
      length-append (a ++ b ++ c) d,
      length-append (a ++ b ++ c ++ d) e,
      length-append (a ++ b ++ c ++ d ++ e) f,
    )

of_profile : (p : Profile) (w h levels : ℕ) (steps : StepSizes) (lengths : List ℕ) →
    levels ≡ levels_of p → length steps.bands.items ≡ 3 * levels + 1 → length lengths ≡ parts_of p →
    length (segment soc) + length (segment (siz p w h)) + length (segment (cod levels 1))
    + length (segment (qcd levels steps)) + length (segment (poc p levels))
    + length (segment (tlm lengths)) ≡ main_length p
of_profile TwoK w h levels steps lengths at bands parts =
    omega (
      arith,
      at,
      bands,
      parts,
      widths_are soc,
      widths_are (siz TwoK w h),
      widths_are (cod levels 1),
      same_widths levels (precinct_byte 1),
      widths_are (qcd levels steps),
      step_widths steps.bands.items,
      widths_are (poc TwoK levels),
      widths_are (tlm lengths),
      tlm_widths lengths,
    )
of_profile FourK w h levels steps lengths at bands parts =
    omega (
      arith,
      at,
      bands,
      parts,
      widths_are soc,
      widths_are (siz FourK w h),
      widths_are (cod levels 1),
      same_widths levels (precinct_byte 1),
      widths_are (qcd levels steps),
      step_widths steps.bands.items,
      widths_are (poc FourK levels),
      widths_are (tlm lengths),
      tlm_widths lengths,
    )

pub main_is : (g : Geometry) (steps : StepSizes) (lengths : List ℕ) → g.levels ≡ levels_of g.profile
    →
    length steps.bands.items ≡ 3 * g.levels + 1 → length lengths ≡ parts_of g.profile →
    length (main_header_of (header_for g steps lengths)) ≡ main_length g.profile
unfolding main_header_of
main_is g steps lengths levels bands parts =
    let whole = six (segment soc) (segment (siz g.profile g.width g.height))
    (segment (cod g.levels 1)) (segment (qcd g.levels steps)) (segment (poc g.profile g.levels))
    (segment (tlm lengths)) in
    let all = of_profile g.profile g.width g.height g.levels steps lengths levels bands parts in
    omega (arith, whole, all)
