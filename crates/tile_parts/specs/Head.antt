-- The head of a tile-part as the writer makes it, which is the segment SOT and the marker SOD, and
-- the marker EOC, which ends a codestream (ISO/IEC 15444-1, A.4.2 to A.4.4).
use Rattle.std.specs.Prelude.{ℕ, List, [], ◌∷◌, ◌++◌}
use Rattle.cine_nums.specs.Bytes.{word_bytes, long_bytes}

-- the marker of a segment SOT and its fields
pub record Sot : Type 0 where
  pub marker : ℕ
  pub lsot : ℕ
  pub isot : ℕ
  pub psot : ℕ
  pub tpsot : ℕ
  pub tnsot : ℕ

-- their bytes: 16, 16, 16, 32, 8 and 8 bits
abbrev pub sot_fields : Sot → List ℕ
sot_fields f =
    word_bytes f.marker
    ++ (word_bytes f.lsot ++ (word_bytes f.isot ++ (long_bytes f.psot ++ f.tpsot ∷ f.tnsot ∷ [])))

-- the segment SOT of tile 0: FF90, Lsot 10, Isot 0, Psot, TPsot, TNsot
abbrev pub sot_bytes : ℕ → ℕ → ℕ → List ℕ
sot_bytes length index count = sot_fields (record {
  marker = 0xFF90;
  lsot = 10;
  isot = 0;
  psot = length;
  tpsot = index;
  tnsot = count;
})

-- the marker SOD: FF93
abbrev pub sod_bytes : List ℕ
sod_bytes = 255 ∷ 147 ∷ []

-- SOT, and SOD after it
abbrev pub part_head_of : ℕ → ℕ → ℕ → List ℕ
part_head_of length index count = sot_bytes length index count ++ sod_bytes

-- how many bytes these are
abbrev pub part_head_bytes : ℕ
part_head_bytes = 14

-- the marker EOC: FFD9
abbrev pub eoc : List ℕ
eoc = 255 ∷ 217 ∷ []
