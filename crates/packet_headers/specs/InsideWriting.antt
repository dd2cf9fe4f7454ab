-- What the writer of a band keeps of the nodes above the leaves.
use Rattle.std.specs.Prelude.{◌≡◌, ℕ, suc, zero, ◌+◌, ◌-◌, ◌*◌, ◌/◌, ◌%◌, ◌<◌, ◌≤◌, Bool, true}
use Rattle.std.specs.Prelude.{false, not, ◌&&◌, ◌==◌, nat_lt, if◌then◌else◌, List, [], ◌∷◌, ◌++◌}
use Rattle.std.specs.Prelude.{get_or}
use Rattle.bit_stuffing.specs.Bits.{number, bit_value}
use Rattle.tag_trees.specs.TagTree.{middle_node, levels_above, largest}
use Rattle.packet_headers.specs.declared.entry.Entry.{Entry}
use Rattle.packet_headers.specs.declared.writing.inner_nodes.InnerNode.{InnerNode}
use Rattle.packet_headers.specs.declared.writing.inner_nodes.Marks.{Marks}
use Rattle.packet_headers.specs.Codewords.{pass_bits, length_bits, least_raise}
use Rattle.packet_headers.specs.Words.{BlockWords, BandTrees, inclusion_writings}
use Rattle.packet_headers.specs.Words.{zero_plane_writings}

-- whether the value of a node of the inclusion tree is 0, so that a block under it is included
abbrev pub Includes : Bool → ℕ → Type 0
Includes true value = value ≡ 0
Includes false value = 1 ≤ value

-- whether a node has been written beyond its value
abbrev pub IsPastValue : Bool → ℕ → ℕ → Type 0
IsPastValue true value earlier = value < earlier
IsPastValue false value earlier = earlier ≡ 0

-- The node above the middle ones, and the middle ones, of both trees: whether a block under it is
-- included, the least zero planes under it, and whether it has been written. Where there is no such
-- node, nothing of it is left to write.
abbrev pub TopIncludes : ℕ → (ℕ → ℕ) → Bool → Type 0
TopIncludes (suc (suc _)) value includes = Includes includes (value 20)
TopIncludes zero value includes = includes ≡ true
TopIncludes (suc zero) value includes = includes ≡ true

abbrev pub TopInclusion : ℕ → (ℕ → ℕ) → Bool → Type 0
TopInclusion (suc (suc _)) earlier inclusion = earlier 20 ≡ bit_value inclusion
TopInclusion zero earlier inclusion = inclusion ≡ true
TopInclusion (suc zero) earlier inclusion = inclusion ≡ true

abbrev pub TopLeast : ℕ → (ℕ → ℕ) → ℕ → Type 0
TopLeast (suc (suc _)) value least = least ≡ value 20
TopLeast zero value least = least ≡ 0
TopLeast (suc zero) value least = least ≡ 0

abbrev pub TopZeroPlanes : ℕ → (ℕ → ℕ) → (ℕ → ℕ) → Bool → Type 0
TopZeroPlanes (suc (suc _)) value earlier zero_planes =
    IsPastValue zero_planes (value 20) (earlier 20)
TopZeroPlanes zero value earlier zero_planes = zero_planes ≡ true
TopZeroPlanes (suc zero) value earlier zero_planes = zero_planes ≡ true

-- the same of a middle node, which is over a quarter of at most 2 by 2 leaves
abbrev pub MiddleIncludes : ℕ → (ℕ → ℕ) → ℕ → Bool → Type 0
MiddleIncludes zero value quarter includes = includes ≡ true
MiddleIncludes (suc _) value quarter includes = Includes includes (value (16 + quarter))

abbrev pub MiddleInclusion : ℕ → (ℕ → ℕ) → ℕ → Bool → Type 0
MiddleInclusion zero earlier quarter inclusion = inclusion ≡ true
MiddleInclusion (suc _) earlier quarter inclusion = earlier (16 + quarter) ≡ bit_value inclusion

abbrev pub MiddleLeast : ℕ → (ℕ → ℕ) → ℕ → ℕ → Type 0
MiddleLeast zero value quarter least = least ≡ 0
MiddleLeast (suc _) value quarter least = least ≡ value (16 + quarter)

abbrev pub MiddleZeroPlanes : ℕ → (ℕ → ℕ) → (ℕ → ℕ) → ℕ → Bool → Type 0
MiddleZeroPlanes zero value earlier quarter zero_planes = zero_planes ≡ true
MiddleZeroPlanes (suc _) value earlier quarter zero_planes =
    IsPastValue zero_planes (value (16 + quarter)) (earlier (16 + quarter))

-- the inclusion bits of a block, where these nodes above it include a block, and are visited
abbrev pub bit_if : Bool → Bool → List Bool
bit_if put bit = if put then bit ∷ [] else []

-- a node's zeros and its 1, where it isn't beyond
abbrev pub zeros_if : Bool → ℕ → List Bool
zeros_if put zeros = if put then number (zeros + 1) 1 else []

abbrev pub inclusion_list : Bool → Bool → Bool → Bool → Bool → List Bool
inclusion_list top_done top middle_done middle includes =
    bit_if (not top_done) top ++ (bit_if (not middle_done && top) middle ++ bit_if middle includes)

abbrev pub zero_plane_list : Bool → ℕ → Bool → ℕ → ℕ → List Bool
zero_plane_list top_done top middle_done middle zeros =
    zeros_if (not top_done) top
    ++ (zeros_if (not middle_done) (middle - top) ++ number (zeros - middle + 1) 1)

-- a node of a band of so many planes, by its least zero planes: those of an included block are
-- fewer than the planes
abbrev pub inner_node_at : ℕ → ℕ → InnerNode
inner_node_at planes least = record { included = nat_lt least planes; zero_planes = least }

-- the quarters of the places of a band of this width: which middle node is above a place
pub record AreQuarters (width : ℕ) (quarters : List ℕ) : Type 0 where
  pub node : (place : ℕ) → place < 4 * width → middle_node (place % width) (place / width) ≡ 16
      + get_or quarters place 0
  pub below : (place : ℕ) → place < 4 * width → get_or quarters place 0 < 4

-- a node that is kept for a quarter; there are four
abbrev pub kept_of : List InnerNode → ℕ → InnerNode
kept_of middle quarter = get_or middle quarter (record { included = false; zero_planes = 0 })

abbrev pub mark_of : Marks → ℕ → Bool
mark_of marks quarter = get_or marks.middle quarter false

-- the bits that are put for an entry in a quarter
abbrev pub entry_list : Marks → Marks → ℕ → InnerNode → InnerNode → Entry → List Bool
entry_list inclusion zero_planes quarter top middle entry =
    inclusion_list inclusion.top top.included (mark_of inclusion quarter) middle.included
    entry.included
    ++ (if entry.included
    then zero_plane_list zero_planes.top top.zero_planes (mark_of zero_planes quarter)
    middle.zero_planes entry.zero_planes
    ++ (pass_bits entry.passes ++ length_bits entry.passes (least_raise entry.passes entry.len)
    entry.len)
    else [])

-- where a middle node is marked, so is the one above it
abbrev pub TopFirst : Marks → Type 0
TopFirst marks = (q : ℕ) → q < 4 → mark_of marks q ≡ true → marks.top ≡ true

-- the nodes above a quarter have been marked
pub record Marked (old : Marks) (quarter : ℕ) (new : Marks) : Type 0 where
  pub top : new.top ≡ true
  pub middle : (n : ℕ) → n < 4 → mark_of new n ≡ (if quarter == n then true else mark_of old n)

-- what has been written in the zero plane tree has been in the inclusion tree
abbrev pub InclusionFirst : Marks → Marks → Type 0
InclusionFirst inclusion zero_planes = (q : ℕ) → q < 4 → mark_of zero_planes q ≡ true
    → mark_of inclusion q ≡ true

abbrev pub MarkedIf : Bool → Marks → ℕ → Marks → Type 0
MarkedIf true old quarter new = Marked old quarter new
MarkedIf false old quarter new = new ≡ old

-- the nodes above the leaves have these words' numbers
pub record InnerNodesStand (words : BandTrees) (top : InnerNode) (middle : List InnerNode) : Type 0
  where
    pub top_includes : TopIncludes (levels_above words.width words.height) words.inclusion
        top.included
    pub top_least : TopLeast (levels_above words.width words.height) words.zero_planes
        top.zero_planes
    pub middle_includes : (q : ℕ) → q < 4 → MiddleIncludes (levels_above words.width words.height)
        words.inclusion q (kept_of middle q).included
    pub middle_least : (q : ℕ) → q < 4 → MiddleLeast (levels_above words.width words.height)
        words.zero_planes q (kept_of middle q).zero_planes

-- the writings of the inclusion tree, and of the zero plane tree, that these blocks have had
abbrev pub inclusion_thresholds : BandTrees → List BlockWords → ℕ → ℕ
inclusion_thresholds words before = largest (levels_above words.width words.height)
    (inclusion_writings words.width 0 before)

abbrev pub zero_plane_thresholds : BandTrees → List BlockWords → ℕ → ℕ
zero_plane_thresholds words before = largest (levels_above words.width words.height)
    (zero_plane_writings words.width 0 before)

-- the marks are those of these blocks
pub record MarksStand (words : BandTrees) (before : List BlockWords) (inclusion zero_planes : Marks)
    : Type 0 where
  pub top_inclusion : TopInclusion (levels_above words.width words.height)
      (inclusion_thresholds words before) inclusion.top
  pub top_zero_planes : TopZeroPlanes (levels_above words.width words.height) words.zero_planes
      (zero_plane_thresholds words before) zero_planes.top
  pub middle_inclusion : (q : ℕ) → q < 4 → MiddleInclusion (levels_above words.width words.height)
      (inclusion_thresholds words before) q (mark_of inclusion q)
  pub middle_zero_planes : (q : ℕ) → q < 4
      → MiddleZeroPlanes (levels_above words.width words.height) words.zero_planes
      (zero_plane_thresholds words before) q (mark_of zero_planes q)
