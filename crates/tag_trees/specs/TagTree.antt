-- Tag trees (ISO/IEC 15444-1, B.10.2) of at most 4 by 4 leaves: their nodes, the bits of a writing
-- as a function of the earlier writings, and the writer's numbering.
use Rattle.std.specs.Prelude.{ℕ, suc, zero, ◌+◌, ◌-◌, ◌*◌, ◌/◌, ◌%◌, ◌<◌, ◌≤◌, ◌==◌, ◌||◌, min, max}
use Rattle.std.specs.Prelude.{nat_lt, nat_le, Bool, true, false, if◌then◌else◌, List, [], ◌∷◌, ◌++◌}
use Rattle.std.specs.Prelude.{replicate}

-- Nodes are numbered. The leaf of a column and a row; the node of the level above, over 2 by 2
-- leaves; and the one over 2 by 2 of these.
abbrev pub leaf_node : ℕ → ℕ → ℕ
leaf_node column row = 4 * row + column

abbrev pub middle_node : ℕ → ℕ → ℕ
middle_node column row = 16 + (2 * (row / 2) + column / 2)

abbrev pub top_node : ℕ
top_node = 20

-- how many levels of nodes stand above the leaves: each has half the sides, rounded up, until one
-- node is left
unfoldable pub levels_above : ℕ → ℕ → ℕ
levels_above width height = if nat_le (max width height) 1 then 0
    else (if nat_le (max width height) 2 then 1 else 2)

-- the nodes on the way from the root to a leaf
unfoldable pub path_of : ℕ → ℕ → ℕ → List ℕ
path_of zero column row = leaf_node column row ∷ []
path_of (suc zero) column row = middle_node column row ∷ leaf_node column row ∷ []
path_of (suc (suc _)) column row = top_node ∷ middle_node column row ∷ leaf_node column row ∷ []

-- whether a node is among these
abbrev pub is_among : List ℕ → ℕ → Bool
is_among [] node = false
is_among (n ∷ nodes) node = (n == node) || is_among nodes node

-- a writing of a leaf up to a threshold, or a reading
pub record Writing : Type 0 where
  pub column : ℕ
  pub row : ℕ
  pub threshold : ℕ

-- the largest threshold of the writings of leaves under a node, 0 where there is none
unfoldable pub largest : ℕ → List Writing → ℕ → ℕ
largest levels [] node = 0
largest levels (writing ∷ writings) node =
    if is_among (path_of levels writing.column writing.row) node
    then max writing.threshold (largest levels writings node)
    else largest levels writings node

-- The bits that a node of this value gives up to a threshold: `start` is where its zeros begin at
-- the earliest, and `earlier` the largest threshold so far of leaves under it.
unfoldable pub node_bits : ℕ → ℕ → ℕ → ℕ → List Bool
node_bits start value earlier threshold =
    if nat_lt value earlier then []
    else replicate (min threshold value - max (min earlier value) start) false
    ++ (if nat_lt value threshold then true ∷ [] else [])

-- the bits of the nodes of a path, one after the other, where `value` and `earlier` give each
-- node's; the zeros of a node begin where its parent's bound is then known to be
unfoldable pub path_bits : (ℕ → ℕ) → (ℕ → ℕ) → ℕ → ℕ → List ℕ → List Bool
path_bits value earlier threshold start [] = []
path_bits value earlier threshold start (node ∷ path) =
    node_bits start (value node) (earlier node) threshold
    ++ path_bits value earlier threshold (min (max threshold (earlier node)) (value node)) path

-- The bits of a writing, in a tree of so many levels above the leaves whose nodes have these
-- values, after the earlier writings.
abbrev pub bits_of_writing : ℕ → (ℕ → ℕ) → List Writing → Writing → List Bool
bits_of_writing levels value earlier writing =
    path_bits value (largest levels earlier) writing.threshold 0
    (path_of levels writing.column writing.row)

-- the values never fall on the way down
abbrev pub Ascends : (ℕ → ℕ) → List ℕ → Type 0
Ascends value [] = Unit {0}
Ascends value (node ∷ []) = Unit {0}
Ascends value (node ∷ below ∷ path) = (value node ≤ value below) × Ascends value (below ∷ path)

-- a numbering of a tree of these sides: no node's value is below its parent's
abbrev pub IsNumbering : ℕ → ℕ → (ℕ → ℕ) → Type 0
IsNumbering width height value =
    (column row : ℕ) → column < width → row < height
    → Ascends value (path_of (levels_above width height) column row)

-- The writer's numbering: the least value of the leaves under a node, where `values` are those of
-- the leaves from this place on, in raster order; 255 where there is none.
unfoldable pub least_from : ℕ → ℕ → List ℕ → ℕ → ℕ
least_from width place [] node = 255
least_from width place (value ∷ values) node =
    if is_among (path_of 2 (place % width) (place / width)) node
    then min value (least_from width (place + 1) values node)
    else least_from width (place + 1) values node

-- the writer's numbering of a tree of this width, whose leaves have these values in raster order
abbrev pub least : ℕ → List ℕ → ℕ → ℕ
least width values node = least_from width 0 values node
