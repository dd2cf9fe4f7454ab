-- Marker segments (ISO/IEC 15444-1, A.1.2): a marker, a length that counts itself and not the
-- marker, and the content of so many bytes less two.
use Rattle.std.specs.Prelude.{ℕ, ◌+◌, List, ◌++◌, length}
use Rattle.cine_nums.specs.Bytes.{word_bytes}

-- a segment: its marker, and what follows its length
pub record Segment : Type 0 where
  pub marker : ℕ
  pub content : List ℕ

-- its bytes
abbrev pub segment_bytes : Segment → List ℕ
segment_bytes s = word_bytes s.marker ++ (word_bytes (length s.content + 2) ++ s.content)
