-- One node's part of a writing or a reading: the inside of this crate.
use Rattle.std.specs.Prelude.{◌≡◌, ℕ, ◌+◌, ◌-◌, ◌<◌, ◌≤◌, max, Bool, true, false, if◌then◌else◌}
use Rattle.std.specs.Prelude.{List, [], ◌∷◌, ◌++◌, length, replicate}
use Rattle.tag_trees.specs.TreeState.{node_of, bound_of, known_of, value_of}
use Rattle.tag_trees.specs.declared.tree.Tree.{Tree}

-- One node's step up to a threshold, from the bound `from`: what it keeps afterwards.
abbrev pub IsStep : ℕ → ℕ → Bool → ℕ → Bool → Type 0
IsStep from threshold true bound known = (bound ≡ from) × (known ≡ true)
IsStep from threshold false bound true = (from ≤ bound) × (bound < threshold)
IsStep from threshold false bound false = bound ≡ max from threshold

-- the bits of such a step
abbrev pub step_bits : ℕ → Bool → ℕ → Bool → List Bool
step_bits from true bound known = []
step_bits from false bound known = replicate (bound - from) false
    ++ (if known then true ∷ [] else [])

-- the bits end in a node's zeros, before its bound reaches the threshold
pub record RunsOut (ahead : List Bool) (from threshold : ℕ) (known : Bool) : Type 0 where
  pub unknown : known ≡ false
  pub zeros : ahead ≡ replicate (length ahead) false
  pub short : from + length ahead < threshold

-- one node of the tree has made a step, and nothing else has changed
pub record NodeStep (old : Tree) (node start threshold : ℕ) (new : Tree) : Type 0 where
  pub width : new.width ≡ old.width
  pub height : new.height ≡ old.height
  pub others : (n : ℕ) → (n ≡ node → ⊥) → node_of new n ≡ node_of old n
  pub value : value_of new node ≡ value_of old node
  pub step : IsStep (max (bound_of old node) start) threshold (known_of old node)
      (bound_of new node) (known_of new node)

-- its bits
abbrev pub bits_of_step : Tree → ℕ → ℕ → Tree → List Bool
bits_of_step old node start new = step_bits (max (bound_of old node) start) (known_of old node)
    (bound_of new node) (known_of new node)
