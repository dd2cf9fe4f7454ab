-- What both digital cinema profiles fix of the coding style (ISO/IEC 15444-1, A.10, and the tables
-- of A.6.1).
use Rattle.std.specs.Prelude.{ℕ, zero, suc}

-- one side of a code block, in places of its band
abbrev pub block_side : ℕ
block_side = 32

-- the fields of COD for a block's width and height (Table A.18): the exponent of 2, less 2
abbrev pub block_exponent : ℕ
block_exponent = 3

-- one side of a precinct of resolution r, in places of the resolution
abbrev pub precinct_side : ℕ → ℕ
precinct_side zero = 128
precinct_side (suc _) = 256

-- its byte in COD (Table A.21): PPx in the four low bits and PPy in the four high ones, the
-- exponents of 2
abbrev pub precinct_byte : ℕ → ℕ
precinct_byte zero = 0x77
precinct_byte (suc _) = 0x88

-- one side of a precinct in places of each band (B.7): the bands of a resolution above 0 have half
-- its sides
abbrev pub band_precinct_side : ℕ
band_precinct_side = 128

-- the order of the packets (Table A.16): component, position, resolution, layer
abbrev pub progression : ℕ
progression = 4
