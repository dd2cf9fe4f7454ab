-- What is decoded of a codestream, and that it is the meaning of the bytes.
use Rattle.std.specs.Prelude.{ℕ, ◌+◌, ◌-◌, ◌≡◌, List, [], ◌∷◌, length, map, sum}
use Rattle.band_geometry.specs.Numbering.{all_blocks}
use Rattle.budget_duals.specs.Held.{held_of, limits_of, IsWithin}
use Rattle.budget_duals.specs.declared.held.Held.{Held}
use Rattle.cinema_markers.specs.declared.header.MainHeader.{MainHeader}
use Rattle.codestream_reader.specs.declared.stream.StreamSpans.{StreamSpans}
use Rattle.profile_reader.specs.Reads.{Decoding, Reads}
use Rattle.frame_reader.specs.Blocks.{AreDecodedBelow, read_of}
use Rattle.frame_reader.specs.declared.decoded.Decoded.{Decoded}

-- what is decoded, in the words of `profile_reader`
abbrev pub decoding_of : Decoded → Decoding
decoding_of d = record {
  main = d.main;
  blocks = map read_of d.blocks.items;
  planes = d.c0.cells.items ∷ d.c1.cells.items ∷ d.c2.cells.items ∷ [];
}

-- What bytes hold in the byte budgets whose main header says this (DCI Digital Cinema System
-- Specification, section 4): all bytes but those of the tile-parts and of EOC are the main header's.
abbrev pub held_from : List ℕ → MainHeader → Held
held_from bytes m =
    held_of m.profile (length bytes - (sum m.parts.items + 2)) m.parts.items

-- The bytes mean this, and each byte budget is within the limit of the profile.
pub record IsMeaning (bytes : List ℕ) (d : Decoding) : Type 0 where
  pub reads : Reads bytes d
  pub within : IsWithin (limits_of d.main.profile) (held_from bytes d.main)

-- each plane has the sides of the frame
pub record HaveSides (d : Decoded) : Type 0 where
  pub width0 : d.c0.width ≡ d.main.width
  pub width1 : d.c1.width ≡ d.main.width
  pub width2 : d.c2.width ≡ d.main.width
  pub height0 : d.c0.height ≡ d.main.height
  pub height1 : d.c1.height ≡ d.main.height
  pub height2 : d.c2.height ≡ d.main.height

-- what is decoded of a codestream that was found
pub record IsDecodedOf (bytes : List ℕ) (found : StreamSpans) (d : Decoded) : Type 0 where
  pub main : d.main ≡ found.read.main
  pub held : d.held ≡ found.held
  pub count : length d.blocks.items ≡ length (all_blocks found.geometry)
  pub blocks : AreDecodedBelow (length (all_blocks found.geometry)) bytes found d.blocks.items
      (d.c0.cells.items ∷ d.c1.cells.items ∷ d.c2.cells.items ∷ [])
  pub width0 : d.c0.width ≡ found.geometry.width
  pub width1 : d.c1.width ≡ found.geometry.width
  pub width2 : d.c2.width ≡ found.geometry.width
  pub height0 : d.c0.height ≡ found.geometry.height
  pub height1 : d.c1.height ≡ found.geometry.height
  pub height2 : d.c2.height ≡ found.geometry.height
