-- Which words spell a packet of a shape, and the bits of a header at which reading stops (ISO/IEC
-- 15444-1, B.10).
use Rattle.std.specs.Prelude.{◌≡◌, ℕ, ◌+◌, ◌-◌, ◌*◌, ◌^◌, ◌<◌, ◌≤◌, Bool, true, false, List, []}
use Rattle.std.specs.Prelude.{◌∷◌, ◌++◌, length}
use Rattle.tag_trees.specs.TagTree.{IsNumbering}
use Rattle.packet_headers.specs.declared.packet.BandShape.{BandShape}
use Rattle.packet_headers.specs.Codewords.{pass_bits, length_width}
use Rattle.packet_headers.specs.Words.{BlockWords, BandTrees, BandWords, PacketWords, leaf_at}
use Rattle.packet_headers.specs.Words.{inclusion_bits, zero_plane_bits, blocks_bits, bands_bits}

-- the most coding passes of a block with so many zero planes: a cleanup pass, and three for each
-- further plane
abbrev pub most_passes : ℕ → ℕ → ℕ
most_passes planes zero_planes = 3 * (planes - zero_planes) - 2

-- a block at this place is included, with at most the passes that its planes give, and a length
-- that its bits hold
pub record IsIncluded (trees : BandTrees) (planes place : ℕ) (block : BlockWords) : Type 0 where
  pub inclusion : trees.inclusion (leaf_at trees.width place) ≡ 0
  pub zero_planes : trees.zero_planes (leaf_at trees.width place) ≡ block.entry.zero_planes
  pub fewer : block.entry.zero_planes < planes
  pub some_passes : 1 ≤ block.entry.passes
  pub passes : block.entry.passes ≤ most_passes planes block.entry.zero_planes
  pub len : block.entry.len < 2 ^ length_width block.entry.passes block.raise

-- a block at this place isn't included, and its entry has zeros
pub record IsLeftOut (trees : BandTrees) (place : ℕ) (block : BlockWords) : Type 0 where
  pub inclusion : 1 ≤ trees.inclusion (leaf_at trees.width place)
  pub zero_planes : block.entry.zero_planes ≡ 0
  pub passes : block.entry.passes ≡ 0
  pub len : block.entry.len ≡ 0

-- one or the other, as the entry says
abbrev pub FitsAs : Bool → BandTrees → ℕ → ℕ → BlockWords → Type 0
FitsAs true trees planes place block = IsIncluded trees planes place block
FitsAs false trees planes place block = IsLeftOut trees place block

-- each of these blocks fits, the first at this place
unfoldable pub BlocksFit : BandTrees → ℕ → ℕ → List BlockWords → Type 0
BlocksFit trees planes place [] = Unit {0}
BlocksFit trees planes place (block ∷ blocks) =
    FitsAs block.entry.included trees planes place block × BlocksFit trees planes (place + 1) blocks

-- the trees are of the band's shape, and their numbers never fall on the way down
pub record TreesFit (shape : BandShape) (trees : BandTrees) : Type 0 where
  pub width : trees.width ≡ shape.width
  pub height : trees.height ≡ shape.height
  pub inclusion : IsNumbering trees.width trees.height trees.inclusion
  pub zero_planes : IsNumbering trees.width trees.height trees.zero_planes

-- the words of a band of this shape
pub record BandFits (shape : BandShape) (band : BandWords) : Type 0 where
  pub trees : TreesFit shape band.trees
  pub planes : band.planes ≡ shape.planes
  pub count : length band.blocks ≡ shape.width * shape.height
  pub blocks : BlocksFit band.trees band.planes 0 band.blocks

-- the words of bands of these shapes
unfoldable pub BandsFit : List BandShape → List BandWords → Type 0
BandsFit [] [] = Unit {0}
BandsFit (shape ∷ shapes) (band ∷ bands) = BandFits shape band × BandsFit shapes bands
BandsFit [] (_ ∷ _) = ⊥
BandsFit (_ ∷ _) [] = ⊥

-- no block of these, or of these bands, is included
unfoldable pub NoneOf : List BlockWords → Type 0
NoneOf [] = Unit {0}
NoneOf (block ∷ blocks) = (block.entry.included ≡ false) × NoneOf blocks

unfoldable pub NoneOfBands : List BandWords → Type 0
NoneOfBands [] = Unit {0}
NoneOfBands (band ∷ bands) = NoneOf band.blocks × NoneOfBands bands

-- The words of a packet of these shapes: a first bit 0 leaves all blocks out. A first bit 1 may do
-- so too.
pub record WordsFit (shapes : List BandShape) (words : PacketWords) : Type 0 where
  pub bands : BandsFit shapes words.bands
  pub empty : words.begins ≡ false → NoneOfBands words.bands

-- where reading stops: the bands before, the band's trees and planes, and its blocks before
pub record Stop : Type 0 where
  pub before : List BandWords
  pub trees : BandTrees
  pub planes : ℕ
  pub blocks : List BlockWords

-- the bits up to the inclusion of the block after them
abbrev pub stop_bits : Stop → List Bool
stop_bits stop =
    true ∷ (bands_bits stop.before ++ (blocks_bits stop.trees [] stop.blocks
    ++ inclusion_bits stop.trees stop.blocks))

-- the number of zero planes of that block
abbrev pub stop_zero_planes : Stop → ℕ
stop_zero_planes stop = stop.trees.zero_planes (leaf_at stop.trees.width (length stop.blocks))

-- up to there all is as the shapes want, and the block is included
pub record StopFits (shapes : List BandShape) (stop : Stop) : Type 0 where
  pub first : List BandShape
  pub shape : BandShape
  pub later : List BandShape
  pub shapes_are : shapes ≡ first ++ shape ∷ later
  pub bands : BandsFit first stop.before
  pub trees : TreesFit shape stop.trees
  pub planes : stop.planes ≡ shape.planes
  pub within : length stop.blocks < shape.width * shape.height
  pub blocks : BlocksFit stop.trees stop.planes 0 stop.blocks
  pub included : stop.trees.inclusion (leaf_at stop.trees.width (length stop.blocks)) ≡ 0

-- these bits end where a block's zero planes turn out to be all of the band's
pub record ZeroStop (shapes : List BandShape) (bits : List Bool) : Type 0 where
  pub stop : Stop
  pub fits : StopFits shapes stop
  pub all : stop.planes ≤ stop_zero_planes stop
  pub bits_are : bits ≡ stop_bits stop ++ zero_plane_bits stop.trees stop.blocks stop.planes

-- these bits end in a number of passes that is too large
pub record PassStop (shapes : List BandShape) (bits : List Bool) : Type 0 where
  pub stop : Stop
  pub passes : ℕ
  pub fits : StopFits shapes stop
  pub fewer : stop_zero_planes stop < stop.planes
  pub too_many : most_passes stop.planes (stop_zero_planes stop) < passes
  pub coded : passes ≤ 164
  pub bits_are : bits ≡ stop_bits stop
      ++ (zero_plane_bits stop.trees stop.blocks (stop_zero_planes stop + 1) ++ pass_bits passes)
