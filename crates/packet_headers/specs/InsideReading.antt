-- What the steps of a reading promise.
use Rattle.std.specs.Prelude.{◌≡◌, ℕ, ◌+◌, ◌*◌, ◌<◌, ◌≤◌, [], ◌∷◌, ◌++◌, List, Bool, true, false}
use Rattle.std.specs.Prelude.{length, map, min, replicate, Result, Ok, Err, MatchResult}
use Rattle.tag_trees.specs.TagTree.{Writing, leaf_node, IsNumbering, bits_of_writing}
use Rattle.tag_trees.specs.TreeState.{width_of, height_of, levels_of, Stands, Allows}
use Rattle.bit_stuffing.specs.Source.{BitSource, Took}
use Rattle.bit_stuffing.specs.Stuffing.{place_of}
use Rattle.tag_trees.specs.declared.tree.Tree.{Tree}
use Rattle.packet_headers.specs.declared.entry.Entry.{Entry}
use Rattle.packet_headers.specs.declared.packet.BandShape.{BandShape}
use Rattle.packet_headers.specs.declared.packet.PacketBand.{PacketBand}
use Rattle.packet_headers.specs.declared.packet.Packet.{Packet}
use Rattle.packet_headers.specs.declared.refusal.PacketRefusal.{PacketRefusal}
use Rattle.packet_headers.specs.declared.refusal.PacketRefusal.TheVariants.{ZeroPlanesTooMany}
use Rattle.packet_headers.specs.declared.refusal.PacketRefusal.TheVariants.{PassesTooMany}
use Rattle.packet_headers.specs.declared.refusal.PacketRefusal.TheVariants.{BodyTruncated}
use Rattle.packet_headers.specs.Codewords.{pass_bits}
use Rattle.packet_headers.specs.Words.{BlockWords, BandTrees, BandWords, PacketWords, leaf_at}
use Rattle.packet_headers.specs.Words.{leaf_writing, inclusion_writings, zero_plane_writings}
use Rattle.packet_headers.specs.Words.{inclusion_bits, zero_plane_bits, included_bits, block_bits}
use Rattle.packet_headers.specs.Words.{blocks_bits, bands_bits, header_words}
use Rattle.packet_headers.specs.Grammar.{most_passes, FitsAs, BlocksFit, TreesFit, BandsFit}
use Rattle.packet_headers.specs.Grammar.{WordsFit, Stop, StopFits, ZeroStop, PassStop}

-- the place of the last bit that was taken
abbrev pub last_place : BitSource → ℕ
last_place bits = place_of bits.bytes (length bits.taken)

-- A block's zero planes were read, or turn out to be all planes of the band.
pub record FoundZeroPlanes (old new : Tree) (from to : BitSource) (x y planes : ℕ)
    (earlier : List Writing) (result : Result ℕ PacketRefusal) : Type 0 where
  pub asked : ℕ
  pub stands : Stands new (earlier ++ record { column = x; row = y; threshold = asked } ∷ [])
  pub ending : MatchResult result (λ zero_planes. asked ≡ zero_planes + 1)
      (λ refusal. (asked ≡ planes) × (refusal ≡ ZeroPlanesTooMany (last_place to)))
  pub read : (value : ℕ → ℕ) → IsNumbering (width_of old) (height_of old) value → Allows new value
      → MatchResult result (λ zero_planes. value (leaf_node x y) ≡ zero_planes)
      (λ refusal. planes ≤ value (leaf_node x y))
      × Allows old value × Took from (bits_of_writing (levels_of old) value earlier
      (record { column = x; row = y; threshold = asked })) to

-- an entry as it is kept: a length of 2^32 or more is the largest number of 32 bits
abbrev pub kept_entry : Entry → Entry
kept_entry entry = record {
  included = entry.included;
  zero_planes = entry.zero_planes;
  passes =
      entry.passes;
  len = min entry.len 4294967295;
}

-- How the reading of a block ends: with its words, at all zero planes, or at a number of passes
-- that is too large.
pub data Ending : Type 0 where
  block : BlockWords → Ending
  all_zero : Ending
  too_many : ℕ → Ending

-- the number of zero planes of the block after these
abbrev pub zero_planes_at : BandTrees → ℕ → ℕ
zero_planes_at trees place = trees.zero_planes (leaf_at trees.width place)

-- it ends so by these trees
abbrev pub EndingFits : BandTrees → ℕ → ℕ → Ending → Type 0
EndingFits trees planes place (block words) = FitsAs words.entry.included trees planes place words
EndingFits trees planes place all_zero = (trees.inclusion (leaf_at trees.width place) ≡ 0)
    × (planes ≤ zero_planes_at trees place)
EndingFits trees planes place (too_many passes) =
    (trees.inclusion (leaf_at trees.width place) ≡ 0) × (zero_planes_at trees place < planes)
    × (most_passes planes (zero_planes_at trees place) < passes) × (passes ≤ 164)

-- the block is included
abbrev pub IsInside : Ending → Type 0
IsInside (block words) = words.entry.included ≡ true
IsInside all_zero = Unit {0}
IsInside (too_many passes) = Unit {0}

-- the bits after its inclusion
abbrev pub inside_bits : BandTrees → List BlockWords → ℕ → Ending → List Bool
inside_bits trees before planes (block words) = included_bits trees before words
inside_bits trees before planes all_zero = zero_plane_bits trees before planes
inside_bits trees before planes (too_many passes) =
    zero_plane_bits trees before (zero_planes_at trees (length before) + 1) ++ pass_bits passes

-- its bits
abbrev pub ending_bits : BandTrees → List BlockWords → ℕ → Ending → List Bool
ending_bits trees before planes (block words) = block_bits trees before words
ending_bits trees before planes all_zero = inclusion_bits trees before
    ++ inside_bits trees before planes all_zero
ending_bits trees before planes (too_many passes) = inclusion_bits trees before
    ++ inside_bits trees before planes (too_many passes)

-- the result
abbrev pub Gives : Ending → BitSource → Result Entry PacketRefusal → Type 0
Gives (block words) bits result = result ≡ Ok (kept_entry words.entry)
Gives all_zero bits result = result ≡ Err (ZeroPlanesTooMany (last_place bits))
Gives (too_many passes) bits result = result ≡ Err (PassesTooMany (last_place bits))

-- the zero plane tree afterwards
abbrev pub ZeroPlanesStand : ℕ → Tree → List BlockWords → Ending → Type 0
ZeroPlanesStand width tree before (block words) =
    Stands tree (zero_plane_writings width 0 (before ++ words ∷ []))
ZeroPlanesStand width tree before all_zero = (earlier : List Writing) × Stands tree earlier
ZeroPlanesStand width tree before (too_many passes) = (earlier : List Writing) × Stands tree earlier

-- a tree of these sides
pub record OfSides (tree : Tree) (shape : BandShape) : Type 0 where
  pub width : width_of tree ≡ shape.width
  pub height : height_of tree ≡ shape.height

-- An included block was read, or its reading stopped.
pub record FoundInside (shape : BandShape) (before : List BlockWords) (old new : Tree)
    (from to : BitSource) (result : Result Entry PacketRefusal) : Type 0 where
  pub ending : Ending
  pub inside : IsInside ending
  pub gives : Gives ending to result
  pub stands : ZeroPlanesStand shape.width new before ending
  pub read : (trees : BandTrees) → TreesFit shape trees
      → trees.inclusion (leaf_at trees.width (length before)) ≡ 0 → Allows new trees.zero_planes
      → EndingFits trees shape.planes (length before) ending × Allows old trees.zero_planes
      × Took from (inside_bits trees before shape.planes ending) to

-- A block was read, or its reading stopped.
pub record FoundBlock (shape : BandShape) (before : List BlockWords)
    (inclusion inclusion' zero_planes zero_planes' : Tree) (from to : BitSource)
    (result : Result Entry PacketRefusal) : Type 0 where
  pub ending : Ending
  pub gives : Gives ending to result
  pub inclusion_stands : Stands inclusion' (inclusion_writings shape.width 0 before
      ++ leaf_writing shape.width (length before) 1 ∷ [])
  pub zero_planes_stand : ZeroPlanesStand shape.width zero_planes' before ending
  pub read : (trees : BandTrees) → TreesFit shape trees → Allows inclusion' trees.inclusion
      → Allows zero_planes' trees.zero_planes
      → EndingFits trees shape.planes (length before) ending × Allows inclusion trees.inclusion
      × Allows zero_planes trees.zero_planes
      × Took from (ending_bits trees before shape.planes ending) to

-- How the reading of a band ends: with its blocks, or at a stop after some of them.
pub data BandEnding : Type 0 where
  whole : List BlockWords → BandEnding
  stopped : List BlockWords → Ending → BandEnding

-- the reading of a block stops
abbrev pub IsStop : Ending → Type 0
IsStop (block words) = ⊥
IsStop all_zero = Unit {0}
IsStop (too_many passes) = Unit {0}

-- it ends so by these trees
abbrev pub BandEndingFits : BandShape → BandTrees → BandEnding → Type 0
BandEndingFits shape trees (whole blocks) = (length blocks ≡ shape.width * shape.height)
    × BlocksFit trees shape.planes 0 blocks
BandEndingFits shape trees (stopped blocks ending) =
    (length blocks < shape.width * shape.height) × BlocksFit trees shape.planes 0 blocks
    × IsStop ending × EndingFits trees shape.planes (length blocks) ending

-- its bits
abbrev pub band_ending_bits : BandTrees → ℕ → BandEnding → List Bool
band_ending_bits trees planes (whole blocks) = blocks_bits trees [] blocks
band_ending_bits trees planes (stopped blocks ending) = blocks_bits trees [] blocks
    ++ ending_bits trees blocks planes ending

-- the refusal of a stop
abbrev pub stop_refusal : Ending → BitSource → PacketRefusal
stop_refusal (block words) bits = BodyTruncated 0
stop_refusal all_zero bits = ZeroPlanesTooMany (last_place bits)
stop_refusal (too_many passes) bits = PassesTooMany (last_place bits)

-- the entries of blocks, as they are kept
abbrev pub kept_entries : List BlockWords → List Entry
kept_entries blocks = map (λ words. kept_entry words.entry) blocks

abbrev pub kept_band : BandShape → List BlockWords → PacketBand
kept_band shape blocks = record {
  width = shape.width;
  height = shape.height;
  planes = shape.planes;
  entries = record { items = kept_entries blocks };
}

-- the result
abbrev pub GivesBand : BandShape → BandEnding → BitSource → Result PacketBand PacketRefusal → Type 0
GivesBand shape (whole blocks) bits result = result ≡ Ok (kept_band shape blocks)
GivesBand shape (stopped blocks ending) bits result = result ≡ Err (stop_refusal ending bits)

-- A band was read, or its reading stopped.
pub record FoundBand (shape : BandShape) (from to : BitSource)
    (result : Result PacketBand PacketRefusal) : Type 0 where
  pub ending : BandEnding
  pub gives : GivesBand shape ending to result
  pub trees : BandTrees
  pub trees_fit : TreesFit shape trees
  pub fits : BandEndingFits shape trees ending
  pub took : Took from (band_ending_bits trees shape.planes ending) to

-- How the reading of the bands ends: with their words, or at a stop.
pub data BandsEnding : Type 0 where
  wholes : List BandWords → BandsEnding
  halted : Stop → Ending → BandsEnding

-- it ends so in bands of these shapes
abbrev pub BandsEndingFits : List BandShape → BandsEnding → Type 0
BandsEndingFits shapes (wholes bands) = BandsFit shapes bands
BandsEndingFits shapes (halted stop ending) = StopFits shapes stop × IsStop ending
    × EndingFits stop.trees stop.planes (length stop.blocks) ending

-- its bits
abbrev pub bands_ending_bits : BandsEnding → List Bool
bands_ending_bits (wholes bands) = bands_bits bands
bands_ending_bits (halted stop ending) = bands_bits stop.before
    ++ (blocks_bits stop.trees [] stop.blocks
    ++ ending_bits stop.trees stop.blocks stop.planes ending)

-- the bands of these words, as they are kept
abbrev pub kept_words : BandWords → PacketBand
kept_words band = record {
  width = band.trees.width;
  height = band.trees.height;
  planes =
      band.planes;
  entries = record { items = kept_entries band.blocks };
}

-- the result
abbrev pub GivesBands : BandsEnding → BitSource → Result Packet PacketRefusal → Type 0
GivesBands (wholes bands) bits result =
    result ≡ Ok (record { bands = record { items = map kept_words bands } })
GivesBands (halted stop ending) bits result = result ≡ Err (stop_refusal ending bits)

-- The bands were read, or their reading stopped.
pub record FoundBands (shapes : List BandShape) (from to : BitSource)
    (result : Result Packet PacketRefusal) : Type 0 where
  pub ending : BandsEnding
  pub gives : GivesBands ending to result
  pub fits : BandsEndingFits shapes ending
  pub took : Took from (bands_ending_bits ending) to

-- a packet as it is kept
abbrev pub kept_packet : PacketWords → Packet
kept_packet words = record { bands = record { items = map kept_words words.bands } }

-- the words of a band without an included block, and of a packet whose first bit is 0
abbrev pub no_entry : Entry
no_entry = record { included = false; zero_planes = 0; passes = 0; len = 0 }

abbrev pub empty_band : BandShape → BandWords
empty_band shape = record {
  trees = record {
    width = shape.width;
    height = shape.height;
    inclusion = λ node. 1;
    zero_planes =
        λ node. 0;
  };
  planes = shape.planes;
  blocks = replicate (shape.width * shape.height) (record { entry = no_entry; raise = 0 });
}

abbrev pub empty_words : List BandShape → PacketWords
empty_words shapes = record { begins = false; bands = map empty_band shapes }

-- A header was read, or its reading stopped.
pub data FoundHeader (shapes : List BandShape) (from to : BitSource)
    (result : Result Packet PacketRefusal) : Type 0 where
  packet : (words : PacketWords) → WordsFit shapes words → Took from (header_words words) to
      → result ≡ Ok (kept_packet words) → FoundHeader shapes from to result
  zero_stop : (bits : List Bool) → ZeroStop shapes bits → Took from bits to
      → result ≡ Err (ZeroPlanesTooMany (last_place to)) → FoundHeader shapes from to result
  pass_stop : (bits : List Bool) → PassStop shapes bits → Took from bits to
      → result ≡ Err (PassesTooMany (last_place to)) → FoundHeader shapes from to result
