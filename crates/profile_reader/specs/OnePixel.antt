-- Frames of one pixel, whose codestreams are known byte by byte.
use Rattle.std.specs.Prelude.{ℕ, zero, suc, true, false, List, [], ◌∷◌}
use Rattle.std.proofs.Common.{arith}
use Rattle.cine_nums.specs.declared.profile.Profile.TheVariants.{TwoK}
use Rattle.band_geometry.specs.declared.geometry.Geometry.{Geometry}
use Rattle.codeblock_views.specs.declared.known.Known.{Known}
use Rattle.dz_quantiser.specs.Bands.{built_in_bands}
use Rattle.dz_quantiser.specs.Coefficient.{Coefficient, zero_coefficient}
use Rattle.dz_quantiser.specs.declared.steps.StepSizes.{StepSizes}
use Rattle.packet_order.specs.declared.packet.PacketId.{PacketId}
use Rattle.profile_reader.specs.Chosen.{Planes, chosen}
use Rattle.profile_reader.specs.Packets.{BlockBytes}
use Rattle.profile_reader.specs.Reads.{Decoding}
use Rattle.profile_reader.specs.Shown.{chosen_decoding}
use Rattle.band_geometry.specs.declared.places.BlockId.{BlockId}

-- the 2K frame of one pixel
abbrev pub pixel : Geometry
pixel = record {
  profile = TwoK;
  levels = 5;
  width = 1;
  height = 1;
  enough_levels = omega arith;
  few_levels = omega arith;
  some_width = omega arith;
  width_in_profile = omega arith;
  some_height = omega arith;
  height_in_profile = omega arith;
}

-- the built-in steps of the profile
abbrev pub built_in_2k : StepSizes
built_in_2k = record { guard = 1; bands = record { items = built_in_bands 5 } }

-- component 0 has this coefficient, and the other two have 0
abbrev pub first_alone : Coefficient → Planes
first_alone q zero = q ∷ []
first_alone q (suc c) = zero_coefficient ∷ []

abbrev pub plus : ℕ → Coefficient
plus m = record { magnitude = m; negative = false }

abbrev pub minus : ℕ → Coefficient
minus m = record { magnitude = m; negative = true }

-- what is written of each block where so many passes of the first are included, and of the others
-- none
abbrev pub first_written : Coefficient → ℕ → BlockId → BlockBytes
first_written q k = chosen pixel built_in_2k (first_alone q) (k ∷ 0 ∷ 0 ∷ [])

-- the packet of the band LL of component 0
abbrev pub first_packet : PacketId
first_packet = record { component = 0; res = 0; px = 0; py = 0 }

-- what is decoded where so many passes of the first block are included, and of the others none
abbrev pub first_decoded : Coefficient → ℕ → List (List Known)
first_decoded q k =
    let d : Decoding = chosen_decoding pixel built_in_2k (first_alone q) (k ∷ 0 ∷ 0 ∷ []) in
    d.planes

-- nothing is known of a coefficient of 18 bit-planes
abbrev pub unknown_18 : Known
unknown_18 = record { magnitude = 0; negative = false; unknown = 18 }

-- a negative coefficient without its lowest bit-planes
abbrev pub minus_cut : ℕ → ℕ → Known
minus_cut m u = record { magnitude = m; negative = true; unknown = u }

-- the codestream of the index 64 with 18 passes
abbrev pub bytes_of_64 : List ℕ
bytes_of_64 =
    0xFF ∷ 0x4F
    ∷ 0xFF ∷ 0x51 ∷ 0x00 ∷ 0x2F ∷ 0x00 ∷ 0x03 ∷ 0x00 ∷ 0x00 ∷ 0x00 ∷ 0x01 ∷ 0x00 ∷ 0x00 ∷ 0x00
    ∷ 0x01
    ∷ 0x00 ∷ 0x00 ∷ 0x00 ∷ 0x00 ∷ 0x00 ∷ 0x00 ∷ 0x00 ∷ 0x00 ∷ 0x00 ∷ 0x00 ∷ 0x00 ∷ 0x01 ∷ 0x00
    ∷ 0x00
    ∷ 0x00 ∷ 0x01 ∷ 0x00 ∷ 0x00 ∷ 0x00 ∷ 0x00 ∷ 0x00 ∷ 0x00 ∷ 0x00 ∷ 0x00 ∷ 0x00 ∷ 0x03 ∷ 0x0B
    ∷ 0x01
    ∷ 0x01 ∷ 0x0B ∷ 0x01 ∷ 0x01 ∷ 0x0B ∷ 0x01 ∷ 0x01
    ∷ 0xFF ∷ 0x52 ∷ 0x00 ∷ 0x12 ∷ 0x01 ∷ 0x04 ∷ 0x00 ∷ 0x01 ∷ 0x01 ∷ 0x05 ∷ 0x03 ∷ 0x03 ∷ 0x00
    ∷ 0x00
    ∷ 0x77 ∷ 0x88 ∷ 0x88 ∷ 0x88 ∷ 0x88 ∷ 0x88
    ∷ 0xFF ∷ 0x5C ∷ 0x00 ∷ 0x23 ∷ 0x22 ∷ 0x90 ∷ 0x00 ∷ 0x90 ∷ 0x00 ∷ 0x90 ∷ 0x00 ∷ 0x90 ∷ 0x00
    ∷ 0x88
    ∷ 0x00 ∷ 0x88 ∷ 0x00 ∷ 0x88 ∷ 0x00 ∷ 0x80 ∷ 0x00 ∷ 0x80 ∷ 0x00 ∷ 0x80 ∷ 0x00 ∷ 0x78 ∷ 0x00
    ∷ 0x78
    ∷ 0x00 ∷ 0x78 ∷ 0x00 ∷ 0x70 ∷ 0x00 ∷ 0x70 ∷ 0x00 ∷ 0x70 ∷ 0x00
    ∷ 0xFF ∷ 0x55 ∷ 0x00 ∷ 0x13 ∷ 0x00 ∷ 0x50 ∷ 0x00 ∷ 0x00 ∷ 0x00 ∷ 0x00 ∷ 0x18 ∷ 0x00 ∷ 0x00
    ∷ 0x00
    ∷ 0x00 ∷ 0x14 ∷ 0x00 ∷ 0x00 ∷ 0x00 ∷ 0x00 ∷ 0x14
    ∷ 0xFF ∷ 0x90 ∷ 0x00 ∷ 0x0A ∷ 0x00 ∷ 0x00 ∷ 0x00 ∷ 0x00 ∷ 0x00 ∷ 0x18 ∷ 0x00 ∷ 0x03 ∷ 0xFF
    ∷ 0x93
    ∷ 0xC0 ∷ 0x07 ∷ 0xD8 ∷ 0x02 ∷ 0x04 ∷ 0x00 ∷ 0x00 ∷ 0x00 ∷ 0x00 ∷ 0x00
    ∷ 0xFF ∷ 0x90 ∷ 0x00 ∷ 0x0A ∷ 0x00 ∷ 0x00 ∷ 0x00 ∷ 0x00 ∷ 0x00 ∷ 0x14 ∷ 0x01 ∷ 0x03 ∷ 0xFF
    ∷ 0x93
    ∷ 0x00 ∷ 0x00 ∷ 0x00 ∷ 0x00 ∷ 0x00 ∷ 0x00
    ∷ 0xFF ∷ 0x90 ∷ 0x00 ∷ 0x0A ∷ 0x00 ∷ 0x00 ∷ 0x00 ∷ 0x00 ∷ 0x00 ∷ 0x14 ∷ 0x02 ∷ 0x03 ∷ 0xFF
    ∷ 0x93
    ∷ 0x00 ∷ 0x00 ∷ 0x00 ∷ 0x00 ∷ 0x00 ∷ 0x00
    ∷ 0xFF ∷ 0xD9 ∷ []
