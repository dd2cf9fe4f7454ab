-- The bytes of a whole tile-part: SOT, any number of segments COM and PLT, SOD, and the body
-- (ISO/IEC 15444-1, A.4.2, A.4.3, A.7.3, A.9.2).
use Rattle.std.specs.Prelude.{ℕ, ◌+◌, ◌≡◌, ◌<◌, ◌⊎◌, List, ◌++◌, length, drop}
use Rattle.std.specs.List.{flat_map, All}
use Rattle.cine_nums.specs.Segments.{Segment, segment_bytes}
use Rattle.tile_parts.specs.Head.{sot_bytes, sod_bytes}
use Rattle.tile_parts.specs.declared.part.Part.{Part}

-- a segment between SOT and SOD is COM or PLT, and its length, which counts itself, has 16 bits
pub record IsSegment (s : Segment) : Type 0 where
  pub marker : (s.marker ≡ 0xFF64) ⊎ (s.marker ≡ 0xFF58)
  pub short : length s.content + 2 < 65536

-- the head of a tile-part with these segments
abbrev pub head_with : ℕ → ℕ → ℕ → List Segment → List ℕ
head_with length index tnsot segments =
    sot_bytes length index tnsot ++ (flat_map segment_bytes segments ++ sod_bytes)

-- The bytes from the place `at` on begin with this tile-part, the `index`-th of `count`: its head
-- and its body have Psot bytes together, and TNsot is the count, or 0.
pub record Spells (bytes : List ℕ) (at index count : ℕ) (part : Part) : Type 0 where
  pub segments : List Segment
  pub tnsot : ℕ
  pub packets : List ℕ
  pub rest : List ℕ
  pub each : All IsSegment segments
  pub count_is : (tnsot ≡ count) ⊎ (tnsot ≡ 0)
  pub spelled : drop at bytes ≡ head_with part.length index tnsot segments ++ (packets ++ rest)
  pub psot_is : part.length ≡ length (head_with part.length index tnsot segments) + length packets
  pub body_is : part.body ≡ at + length (head_with part.length index tnsot segments)
  pub stop_is : part.stop ≡ at + part.length
