-- The main header of a codestream of the digital cinema profiles, segment by segment (ISO/IEC
-- 15444-1, A.5 to A.7; the values of the profiles, A.10). A length counts itself and not its
-- marker.
use Rattle.std.specs.Prelude.{ℕ, ◌+◌, ◌*◌, List, [], ◌∷◌, ◌++◌, length, map, replicate}
use Rattle.std.specs.List.{flat_map}
use Rattle.cine_nums.specs.Coding.{block_exponent, precinct_byte, progression}
use Rattle.cine_nums.specs.declared.profile.Profile.{Profile}
use Rattle.cine_nums.specs.declared.profile.Profile.TheVariants.{TwoK, FourK}
use Rattle.dz_quantiser.specs.declared.band.BandStep.{BandStep}
use Rattle.dz_quantiser.specs.declared.steps.StepSizes.{StepSizes}
use Rattle.cinema_markers.specs.declared.fields.Field.{Field}
use Rattle.cinema_markers.specs.declared.fields.Field.TheVariants.{Byte, Short, Long}
use Rattle.cinema_markers.specs.declared.header.MainHeader.{MainHeader}
use Rattle.cinema_markers.specs.Fields.{segment}

-- start of codestream (A.4.1)
abbrev pub soc : List Field
soc = Short 0xFF4F ∷ []

-- Rsiz of a profile (Table A.10)
abbrev pub rsiz : Profile → ℕ
rsiz TwoK = 3
rsiz FourK = 4

-- a component of the image: 12 bits, unsigned, sampled at each place
abbrev pub component : List Field
component = Byte 11 ∷ Byte 1 ∷ Byte 1 ∷ []

-- image and tile size (A.5.1): one tile, image and tile at the origin, three components
abbrev pub siz : Profile → ℕ → ℕ → List Field
siz profile width height =
    Short 0xFF51 ∷ Short 47 ∷ Short (rsiz profile)
    ∷ Long width ∷ Long height ∷ Long 0 ∷ Long 0
    ∷ Long width ∷ Long height ∷ Long 0 ∷ Long 0
    ∷ Short 3 ∷ component ++ component ++ component

-- the sizes of precincts (Table A.21): 128 by 128 at resolution 0, and 256 by 256 at the one above
-- each level
abbrev pub precinct_sizes : ℕ → List Field
precinct_sizes levels = Byte (precinct_byte 0) ∷ replicate levels (Byte (precinct_byte 1))

-- coding style (A.6.1): precincts are given; the packets in the order component, position,
-- resolution, layer; one layer; the field of the component transform; the levels; code blocks of 32
-- by 32 and no variant of their coding; the irreversible 9-7 wavelet; the sizes of precincts
abbrev pub cod_head : ℕ → ℕ → ℕ → List Field
cod_head size levels flag =
    Short 0xFF52 ∷ Short size ∷ Byte 1
    ∷ Byte progression ∷ Short 1 ∷ Byte flag
    ∷ Byte levels ∷ Byte block_exponent ∷ Byte block_exponent ∷ Byte 0 ∷ Byte 0 ∷ []

abbrev pub cod : ℕ → ℕ → List Field
cod levels flag = cod_head (13 + levels) levels flag ++ precinct_sizes levels

-- the step of a band (Table A.30): its exponent above a mantissa of 11 bits
abbrev pub step_field : BandStep → Field
step_field step = Short (step.exponent * 2048 + step.mantissa)

-- quantisation (A.6.4): the guard bits above the style, in which each band has a step of its own;
-- and the steps of all bands, LL first
abbrev pub qcd : ℕ → StepSizes → List Field
qcd levels steps =
    Short 0xFF5C ∷ Short (5 + 6 * levels) ∷ Byte (steps.guard * 32 + 2)
    ∷ map step_field steps.bands.items

-- a change of the progression order (A.6.6): the resolutions from this one up to, and without, that
-- one, of components 0, 1 and 2, of the first layer, in the order component, position, resolution,
-- layer
abbrev pub poc_entry : ℕ → ℕ → List Field
poc_entry from to = Byte from ∷ Byte 0 ∷ Short 1 ∷ Byte to ∷ Byte 3 ∷ Byte progression ∷ []

-- the changes of the 4K profile: all resolutions but the highest first, and then the highest; in
-- the 2K profile there is no such segment
abbrev pub poc : Profile → ℕ → List Field
poc TwoK levels = []
poc FourK levels = Short 0xFF5F ∷ Short 16 ∷ poc_entry 0 levels ++ poc_entry levels (levels + 1)

-- an entry of the table of tile-part lengths: tile 0, and the length in bytes
abbrev pub tlm_entry : ℕ → List Field
tlm_entry part_length = Byte 0 ∷ Long part_length ∷ []

-- tile-part lengths (A.7.1), in the order of the tile-parts; the first segment of this kind, whose
-- entries have a tile index of 8 bits and a length of 32 bits
abbrev pub tlm : List ℕ → List Field
tlm parts = Short 0xFF55 ∷ Short (4 + 5 * length parts) ∷ Byte 0 ∷ Byte 0x50
    ∷ flat_map tlm_entry parts

-- the whole main header
unfoldable pub main_header_of : MainHeader → List ℕ
main_header_of m =
    segment soc
    ++ segment (siz m.profile m.width m.height)
    ++ segment (cod m.levels m.flag)
    ++ segment (qcd m.levels m.steps)
    ++ segment (poc m.profile m.levels)
    ++ segment (tlm m.parts.items)

-- how many bytes it has
abbrev pub main_length : Profile → ℕ
main_length TwoK = 129
main_length FourK = 169
