-- Why the bytes at a place are no tile-part, as tables whose rows stand in the order in which they
-- are judged (ISO/IEC 15444-1, A.4.2, A.4.3, A.7.3, A.9.2). A place is counted from the first byte.
use Rattle.std.specs.Prelude.{ℕ, Bool, ◌+◌, ◌≡◌, ◌<◌, ◌≤◌, ◌==◌, ◌||◌, ◌&&◌, not, nat_lt, nat_le}
use Rattle.std.specs.Prelude.{List, [], ◌∷◌, ◌++◌, length, drop, Some, None}
use Rattle.std.specs.List.{flat_map, All}
use Rattle.cine_nums.specs.Bytes.{word_at}
use Rattle.cine_nums.specs.Faults.{Row, row, first_fault}
use Rattle.cine_nums.specs.Segments.{Segment, segment_bytes}
use Rattle.tile_parts.specs.Head.{Sot, sot_fields}
use Rattle.tile_parts.specs.Spelling.{IsSegment}
use Rattle.tile_parts.specs.declared.refusal.PartRefusal.{PartRefusal}
use Rattle.tile_parts.specs.declared.refusal.PartRefusal.TheVariants.{BadTilePart, PsotZero}
use Rattle.tile_parts.specs.declared.refusal.PartRefusal.TheVariants.{TilePartMarker}

-- The segment SOT with these fields at the place `at` of so many bytes in all, which is to be that
-- of the `index`-th tile-part of `count`.
abbrev pub sot_rows : ℕ → ℕ → ℕ → ℕ → Sot → List (Row PartRefusal)
sot_rows at size index count f =
    row (not (f.marker == 0xFF90)) (BadTilePart at)
    ∷ row (not (f.lsot == 10)) (BadTilePart (at + 2))
    ∷ row (not (f.isot == 0)) (BadTilePart (at + 4))
    ∷ row (f.psot == 0) (PsotZero (at + 6))
    ∷ row (nat_lt f.psot 14) (BadTilePart (at + 6))
    ∷ row (nat_lt size (at + f.psot)) (BadTilePart (at + 6))
    ∷ row (not (f.tpsot == index)) (BadTilePart (at + 10))
    ∷ row (not (f.tnsot == count || f.tnsot == 0)) (BadTilePart (at + 11))
    ∷ []

-- the markers COM and PLT
abbrev pub is_passed : ℕ → Bool
is_passed marker = marker == 0xFF64 || marker == 0xFF58

-- after the marker at the place `at` a length of 2 or more stands, and so many bytes before `stop`
abbrev pub is_whole : List ℕ → ℕ → ℕ → Bool
is_whole bytes at stop =
    nat_le (at + 4) stop
    && (nat_le 2 (word_at bytes (at + 2)) && nat_le (at + 2 + word_at bytes (at + 2)) stop)

-- The marker at the place `at` of a tile-part that ends at `stop`: there is one, it is COM, PLT or
-- SOD, and the segment of COM or PLT is whole.
abbrev pub marker_rows : List ℕ → ℕ → ℕ → List (Row PartRefusal)
marker_rows bytes at stop =
    row (nat_lt stop (at + 2)) (BadTilePart at)
    ∷ row
    (not (is_passed (word_at bytes at) || word_at bytes at == 0xFF93))
    (TilePartMarker at (word_at bytes at))
    ∷ row (is_passed (word_at bytes at) && not (is_whole bytes at stop)) (BadTilePart at)
    ∷ []

-- the fields of SOT stand at a place
abbrev pub HasSot : List ℕ → ℕ → Sot → Type 0
HasSot bytes at f = (rest : List ℕ) × (drop at bytes ≡ sot_fields f ++ rest)

-- segments COM and PLT, any number of them, stand from one place up to another
pub record StandUpTo (bytes : List ℕ) (from to : ℕ) : Type 0 where
  pub segments : List Segment
  pub each : All IsSegment segments
  pub bytes_are : drop from bytes ≡ flat_map segment_bytes segments ++ drop to bytes
  pub to_is : to ≡ from + length (flat_map segment_bytes segments)

-- There is no tile-part at the place `at`, and this is the first fault: too few bytes for SOT, or a
-- field of SOT, or where SOT has no fault, the marker after whole segments in the tile-part.
pub data IsRefused (bytes : List ℕ) (at index count : ℕ) (refusal : PartRefusal) : Type 0 where
  short : length bytes < at + 12 → refusal ≡ BadTilePart at → IsRefused bytes at index count refusal
  field : (f : Sot) → HasSot bytes at f
      → first_fault (sot_rows at (length bytes) index count f) ≡ Some refusal
      → IsRefused bytes at index count refusal
  marker : (f : Sot) (to : ℕ) → HasSot bytes at f
      → first_fault (sot_rows at (length bytes) index count f) ≡ None
      → StandUpTo bytes (at + 12) to → to ≤ at + f.psot
      → first_fault (marker_rows bytes to (at + f.psot)) ≡ Some refusal
      → IsRefused bytes at index count refusal
