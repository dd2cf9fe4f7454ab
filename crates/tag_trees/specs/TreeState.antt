-- What a tag tree of bounds stands for.
use Rattle.std.specs.Prelude.{◌≡◌, ℕ, suc, zero, ◌+◌, ◌*◌, ◌/◌, ◌%◌, ◌<◌, ◌≤◌, ◌==◌, max, nat_lt}
use Rattle.std.specs.Prelude.{Bool, true, false, if◌then◌else◌, List, get_or}
use Rattle.tag_trees.specs.TagTree.{Writing, levels_above, largest, IsNumbering}
use Rattle.tag_trees.specs.declared.tree.Tree.{Tree}
use Rattle.tag_trees.specs.declared.node.Node.{Node}

-- the sides, in leaves, and the levels above the leaves
abbrev pub width_of : Tree → ℕ
width_of tree = tree.width

abbrev pub height_of : Tree → ℕ
height_of tree = tree.height

abbrev pub levels_of : Tree → ℕ
levels_of tree = levels_above tree.width tree.height

-- what a tree keeps of a node; past its nodes nothing is known
abbrev pub node_of : Tree → ℕ → Node
node_of tree node = get_or tree.nodes node (record { value = 255; bound = 0; known = false })

abbrev pub bound_of : Tree → ℕ → ℕ
bound_of tree node = (node_of tree node).bound

abbrev pub known_of : Tree → ℕ → Bool
known_of tree node = (node_of tree node).known

abbrev pub value_of : Tree → ℕ → ℕ
value_of tree node = (node_of tree node).value

-- the root, and the parent of another node
unfoldable pub root_of : ℕ → ℕ
root_of zero = 0
root_of (suc zero) = 16
root_of (suc (suc _)) = 20

unfoldable pub parent_of : ℕ → ℕ
parent_of node = if nat_lt node 16 then 16 + (2 * (node / 8) + node % 4 / 2) else 20

-- what a parent has, and at the root this
abbrev pub of_parent : {A : Type 0} → ℕ → A → (ℕ → A) → ℕ → A
of_parent levels none of node = if node == root_of levels then none else of (parent_of node)

-- What a node keeps whose largest threshold is `earlier`: its value where that is known, which
-- comes only below a known parent; else a bound that reaches the threshold, and no further than the
-- parent's bound does.
abbrev pub NodeStands : ℕ → Bool → ℕ → Bool → ℕ → Type 0
NodeStands above_bound above_known bound true earlier = (bound < earlier) × (above_bound ≤ bound)
    × (above_known ≡ true)
NodeStands above_bound above_known bound false earlier = (earlier ≤ bound)
    × (bound ≤ max earlier above_bound)

-- the same at all nodes
abbrev pub BoundsStand : ℕ → (ℕ → ℕ) → (ℕ → Bool) → (ℕ → ℕ) → Type 0
BoundsStand levels bound known earlier =
    (node : ℕ) → NodeStands (of_parent levels 0 bound node) (of_parent levels true known node)
    (bound node)
    (known node) (earlier node)

-- the tree's bounds are those of these writings or readings, whatever the numbering
abbrev pub Stands : Tree → List Writing → Type 0
Stands tree earlier = BoundsStand (levels_of tree) (bound_of tree) (known_of tree)
    (largest (levels_of tree) earlier)

-- a node's value may be this
abbrev pub AllowsValue : Bool → ℕ → ℕ → Type 0
AllowsValue true bound value = value ≡ bound
AllowsValue false bound value = bound ≤ value

-- the nodes' values may be these: a known value is this one, another is at least its bound
abbrev pub Allows : Tree → (ℕ → ℕ) → Type 0
Allows tree value = (node : ℕ) → AllowsValue (known_of tree node) (bound_of tree node) (value node)

-- a tree that writes this numbering, after these writings
pub record IsWritten (tree : Tree) (value : ℕ → ℕ) (earlier : List Writing) : Type 0 where
  pub values : (node : ℕ) → value_of tree node ≡ value node
  pub rising : IsNumbering (width_of tree) (height_of tree) value
  pub stands : Stands tree earlier
  pub allows : Allows tree value
