-- What a reader of headers composes: a numbering that a tree allows, thresholds asked one after the
-- other, and the bits of a header's bytes.
use Rattle.std.proofs.Common.{◌≡◌, ℕ, suc, zero, ◌+◌, ◌-◌, ◌*◌, ◌/◌, ◌%◌, ◌<◌, ◌≤◌, min, Bool, true}
use Rattle.std.proofs.Common.{false, List, [], ◌∷◌, ◌++◌, length, get_or, refl, sym, ap, ◌∙◌, inl}
use Rattle.std.proofs.Common.{inr, arith, append_assoc, ltb, eqb}
use Rattle.std.specs.Prelude.{◌||◌, max, nat_lt, if◌then◌else◌, replicate}
use Rattle.std.proofs.lemmas.Bool.{cases_Bool, eqb-true, ltb-true, ltb-false, lt-ltb, le-ltb}
use Rattle.std.proofs.lemmas.Bool.{cases_lt, eq-eqb, ne_eqb}
use Rattle.std.proofs.lemmas.List.{append-nil, replicate-append-replicate}
use Rattle.tag_trees.specs.TagTree.{Writing, leaf_node, middle_node, levels_above, path_of}
use Rattle.tag_trees.specs.TagTree.{is_among, largest, node_bits, path_bits, bits_of_writing}
use Rattle.tag_trees.specs.TagTree.{Ascends, IsNumbering, least_from, least}
use Rattle.tag_trees.specs.TreeState.{AllowsValue}
use Rattle.tag_trees.specs.TreeState.{width_of, height_of, levels_of, bound_of, known_of, root_of}
use Rattle.tag_trees.specs.TreeState.{parent_of, of_parent, NodeStands, BoundsStand, Stands, Allows}
use Rattle.tag_trees.specs.declared.tree.Tree.{Tree}
use Rattle.tag_trees.proofs.TreeLemmas.{above_child}
use Rattle.tag_trees.proofs.LeastLemmas.{or_true, or_false, small_column}
use Rattle.std.proofs.lemmas.Nat.{div-mul-add, mod-mul-add}
use Rattle.std.proofs.Math.Nat.{div-add-mod', mul-le-mul_right, mul_comm}
use Rattle.tag_trees.proofs.TreePaths.{Inside, inside, parent_leaf, parent_middle, largest_push}

-- a value that a node allows, no smaller than this one
pick : Bool → ℕ → ℕ → ℕ
pick true bound up = bound
pick false bound up = max bound up

pick_allowed : (known : Bool) (bound up : ℕ) → AllowsValue known bound (pick known bound up)
unfolding pick
pick_allowed true bound up = refl
pick_allowed false bound up = omega arith

-- a child's value is no smaller than its parent's
pick_rises : (up_known known : Bool) (up_bound bound earlier up : ℕ)
    → NodeStands up_bound up_known bound known earlier → AllowsValue up_known up_bound up
    → up ≤ pick known bound up
unfolding pick
pick_rises true true up_bound bound earlier up s a = let b : up_bound ≤ bound = s.1 in
    let e : up ≡ up_bound = a in omega arith
pick_rises false true up_bound bound earlier up s a = absurd (let e : false ≡ true = s.2 in cc)
pick_rises up_known false up_bound bound earlier up s a = omega arith

-- the least numbering that a tree allows, from the root down
module _ (levels : ℕ) (b : ℕ → ℕ) (k : ℕ → Bool) where
  top_value : ℕ → ℕ
  top_value n = pick (k n) (b n) 0

  middle_value : ℕ → ℕ
  middle_value n = pick (k n) (b n) (of_parent levels 0 top_value n)

  leaf_value : ℕ → ℕ
  leaf_value n = pick (k n) (b n) (of_parent levels 0 middle_value n)

  chosen : ℕ → ℕ
  chosen n = if nat_lt n 16 then leaf_value n else (if nat_lt n 20 then middle_value n
      else top_value n)

  chosen_by : (p q : Bool) (n : ℕ) → AllowsValue (k n) (b n) (if p then leaf_value n
      else (if q then middle_value n else top_value n))
  unfolding top_value middle_value leaf_value
  chosen_by true q n = pick_allowed (k n) (b n) (of_parent levels 0 middle_value n)
  chosen_by false true n = pick_allowed (k n) (b n) (of_parent levels 0 top_value n)
  chosen_by false false n = pick_allowed (k n) (b n) 0

  chosen_allowed : (n : ℕ) → AllowsValue (k n) (b n) (chosen n)
  unfolding chosen
  chosen_allowed n = chosen_by (nat_lt n 16) (nat_lt n 20) n

  chosen_top : chosen 20 ≡ top_value 20
  unfolding chosen
  chosen_top = refl

  chosen_middle : (n : ℕ) → 16 ≤ n → n < 20 → chosen n ≡ middle_value n
  unfolding chosen
  chosen_middle n h l = let e = le-ltb n 16 h in let f = lt-ltb n 20 l in rw (e, f) refl

  chosen_leaf : (n : ℕ) → n < 16 → chosen n ≡ leaf_value n
  unfolding chosen
  chosen_leaf n h = let e = lt-ltb n 16 h in rw e refl

  -- below the top node, and below a middle one
  middle_rises : (s : ℕ → ℕ) → BoundsStand levels b k s → (n : ℕ) → (n ≡ root_of levels → ⊥)
      → parent_of n ≡ 20 → top_value 20 ≤ middle_value n
  unfolding top_value middle_value
  middle_rises s stands n r p =
      let was = stands n in
      let was' = rw (above_child levels 0 b n 20 r p, above_child levels true k n 20 r p) at was in
      rw (above_child levels 0 top_value n 20 r p) (pick_rises (k 20) (k n) (b 20) (b n) (s n)
      (top_value 20) was' (pick_allowed (k 20) (b 20) 0))

  leaf_rises : (s : ℕ → ℕ) → BoundsStand levels b k s → (n m : ℕ) → (n ≡ root_of levels → ⊥)
      → parent_of n ≡ m → middle_value m ≤ leaf_value n
  unfolding middle_value leaf_value
  leaf_rises s stands n m r p =
      let was = stands n in
      let was' = rw (above_child levels 0 b n m r p, above_child levels true k n m r p) at was in
      rw (above_child levels 0 middle_value n m r p) (pick_rises (k m) (k n) (b m) (b n) (s n)
      (middle_value m) was' (pick_allowed (k m) (b m) (of_parent levels 0 top_value m)))

chosen_ascends : (levels : ℕ) (b : ℕ → ℕ) (k : ℕ → Bool) (s : ℕ → ℕ) (x y : ℕ)
    → BoundsStand levels b k s → Inside levels x y
    → Ascends (chosen levels b k) (path_of levels x y)
unfolding path_of root_of
chosen_ascends zero b k s x y stands h = tt
chosen_ascends (suc zero) b k s x y stands h =
    let hx : x ≤ 1 = h.0 in
    let hy : y ≤ 1 = h.1 in
    let r = leaf_rises 1 b k s stands (leaf_node x y) (middle_node x y) (λ e. omega arith)
    (parent_leaf x y (omega arith) (omega arith)) in (
      rw (
        chosen_middle 1 b k (middle_node x y) (omega arith) (omega arith),
        chosen_leaf 1 b k (leaf_node x y) (omega arith),
      ) r,
      tt,
    )
chosen_ascends (suc (suc levels)) b k s x y stands h =
    let hx : x ≤ 3 = h.0 in
    let hy : y ≤ 3 = h.1 in
    let r = leaf_rises (suc (suc levels)) b k s stands (leaf_node x y) (middle_node x y)
    (λ e. omega arith) (parent_leaf x y hx hy) in
    let q = middle_rises (suc (suc levels)) b k s stands (middle_node x y) (λ e. omega arith)
    (parent_middle x y) in
    let m = chosen_middle (suc (suc levels)) b k (middle_node x y) (omega arith) (omega arith) in (
      rw (chosen_top (suc (suc levels)) b k, m) q,
      (rw (m, chosen_leaf (suc (suc levels)) b k (leaf_node x y) (omega arith)) r, tt),
    )

-- a tree that stands for some readings allows some numbering
pub numbering_exists : (tree : Tree) (earlier : List Writing) → Stands tree earlier → (v : ℕ → ℕ)
    × IsNumbering (width_of tree) (height_of tree) v × Allows tree v
numbering_exists tree earlier stands = (
  chosen (levels_of tree) (bound_of tree) (known_of tree),
  λ column row c r. chosen_ascends (levels_of tree) (bound_of tree) (known_of tree)
      (largest (levels_of tree) earlier) column row stands
      (inside (width_of tree) (height_of tree) column row c r tree.sides.0 tree.sides.1),
  chosen_allowed (levels_of tree) (bound_of tree) (known_of tree),
)

-- A node's bits, where its zeros begin no later than at its parent's value: it makes no difference
-- what the parent's threshold was.
node_normal_by : (p : Bool) (t e up v s : ℕ) → ltb v s ≡ p
    → node_bits (min (max t e) up) v s t ≡ node_bits (min t up) v s t
unfolding node_bits
node_normal_by true t e up v s h = rw h refl
node_normal_by false t e up v s h =
    let z : min t v - max (min s v) (min (max t e) up) ≡ min t v - max (min s v) (min t up) =
    elim (cases_lt up t) [
      | inl l ↦ (let a : min (max t e) up ≡ up = omega arith in let b : min t up ≡ up =
          omega arith in ap (λ k. min t v - max (min s v) k) (a ∙ sym b))
      | inr l ↦ (let a : t ≤ min (max t e) up = omega arith in let b : min t up ≡ t = omega arith in
          omega arith)
    ] in
    rw (h, z) refl

node_normal : (t e up v s : ℕ) → node_bits (min (max t e) up) v s t ≡ node_bits (min t up) v s t
node_normal t e up v s = node_normal_by (ltb v s) t e up v s refl

-- nothing is written up to a threshold that the parent's value reaches
node_silent_by : (p : Bool) (t up v s : ℕ) → ltb v s ≡ p → t ≤ up → up ≤ v
    → node_bits (min t up) v s t ≡ []
unfolding node_bits
node_silent_by true t up v s h a b = rw h refl
node_silent_by false t up v s h a b =
    let z : min t v - max (min s v) (min t up) ≡ 0 = omega arith in
    let l : ltb v t ≡ false = le-ltb v t (omega arith) in rw (h, z, l) refl

-- a value below the first threshold gives all its bits the first time
node_whole_by : (p : Bool) (t u up v s : ℕ) → ltb v s ≡ p → v < t → t ≤ u → up ≤ v
    → node_bits (min t up) v s t ≡ node_bits (min u up) v s u
unfolding node_bits
node_whole_by true t u up v s h a b c = rw h refl
node_whole_by false t u up v s h a b c =
    let z : min t v - max (min s v) (min t up) ≡ min u v - max (min s v) (min u up) =
    (let x : min t v ≡ min u v = omega arith in let y : min t up ≡ min u up = omega arith in
    ap (λ k. k - max (min s v) (min t up)) x ∙ ap (λ k. min u v - max (min s v) k) y) in
    let l : ltb v t ≡ true = lt-ltb v t a in
    let m : ltb v u ≡ true = lt-ltb v u (omega arith) in rw (h, z, l, m) refl

-- and none the second time
node_spent : (t u up v s : ℕ) → v < t → node_bits (min u up) v (max s t) u ≡ []
unfolding node_bits
node_spent t u up v s a = let l : ltb v (max s t) ≡ true = lt-ltb v (max s t) (omega arith) in
    rw l refl

-- another gives its zeros in two parts
zeros_two : (t u up v s : ℕ) → s ≤ v → t ≤ v → t ≤ u → up ≤ v
    → (min t v - max (min s v) (min t up)) + (min u v - max (min (max s t) v) (min u up))
    ≡ min u v - max (min s v) (min u up)
zeros_two t u up v s a b c d = elim (cases_lt up t) [
  | inl l ↦ (let x : min t up ≡ up = omega arith in let y : min u up ≡ up = omega arith in
      let z : min t v ≡ t = omega arith in
      let w : min s v ≡ s = omega arith in let k : min (max s t) v ≡ max s t = omega arith in
      rw (x, y, z, w, k) (omega arith))
  | inr l ↦ (let x : min t up ≡ t = omega arith in let z : min t v ≡ t = omega arith in
      let w : min s v ≡ s = omega arith in let k : min (max s t) v ≡ max s t = omega arith in
      let m : t ≤ min u up = omega arith in rw (x, z, w, k) (omega arith))
]

node_two_by : (p : Bool) (t u up v s : ℕ) → ltb v s ≡ p → t ≤ v → t ≤ u → up ≤ v
    → node_bits (min t up) v s t ++ node_bits (min u up) v (max s t) u ≡ node_bits (min u up) v s u
unfolding node_bits
node_two_by true t u up v s h a b c =
    let low : v < s = ltb-true v s h in
    let l : ltb v (max s t) ≡ true = lt-ltb v (max s t) (omega arith) in rw (h, l) refl
node_two_by false t u up v s h a b c =
    let low : s ≤ v = ltb-false v s h in
    let l : ltb v (max s t) ≡ false = le-ltb v (max s t) (omega arith) in
    let m : ltb v t ≡ false = le-ltb v t a in
    let z = zeros_two t u up v s low a b c in
    let r = replicate-append-replicate (min t v - max (min s v) (min t up))
    (min u v - max (min (max s t) v) (min u up)) false in
    let tail = if nat_lt v u then true ∷ [] else [] in
    rw (h, l, m) (
    ap (λ q. q ++ (replicate (min u v - max (min (max s t) v) (min u up)) false
    ++ (if nat_lt v u then true ∷ [] else [])))
    (append-nil (replicate (min t v - max (min s v) (min t up)) false))
    ∙ sym (append_assoc (replicate (min t v - max (min s v) (min t up)) false)
    (replicate (min u v - max (min (max s t) v) (min u up)) false)
    (if nat_lt v u then true ∷ [] else []))
    ∙ ap (λ q. q ++ (if nat_lt v u then true ∷ [] else [])) (r ∙ ap (λ n. replicate n false) z))

-- the bits of a path below this value
walk : (ℕ → ℕ) → (ℕ → ℕ) → ℕ → ℕ → List ℕ → List Bool
walk v s t up [] = []
walk v s t up (n ∷ path) = node_bits (min t up) (v n) (s n) t ++ walk v s t (v n) path

abbrev From : (ℕ → ℕ) → ℕ → List ℕ → Type 0
From v up [] = Unit {0}
From v up (n ∷ path) = (up ≤ v n) × From v (v n) path

from_ascends : (v : ℕ → ℕ) (n : ℕ) (path : List ℕ) → Ascends v (n ∷ path) → From v (v n) path
from_ascends v n [] c = tt
from_ascends v n (m ∷ path) c = (c.0, from_ascends v m path c.1)

from_root : (v : ℕ → ℕ) (path : List ℕ) → Ascends v path → From v 0 path
from_root v [] c = tt
from_root v (n ∷ path) c = (omega arith, from_ascends v n path c)

walk_is : (v s : ℕ → ℕ) (t e up : ℕ) (path : List ℕ) → path_bits v s t (min (max t e) up) path
    ≡ walk v s t up path
unfolding path_bits walk
walk_is v s t e up [] = refl
walk_is v s t e up (n ∷ path) =
    ap (λ b. b ++ path_bits v s t (min (max t (s n)) (v n)) path) (node_normal t e up (v n) (s n))
    ∙ ap (λ b. node_bits (min t up) (v n) (s n) t ++ b) (walk_is v s t (s n) (v n) path)

walk_root : (v s : ℕ → ℕ) (t : ℕ) (path : List ℕ) → path_bits v s t 0 path ≡ walk v s t 0 path
walk_root v s t path = let e : 0 ≡ min (max t 0) 0 = omega arith in
    ap (λ a. path_bits v s t a path) e ∙ walk_is v s t 0 0 path

walk_silent : (v s : ℕ → ℕ) (t up : ℕ) (path : List ℕ) → t ≤ up → From v up path
    → walk v s t up path ≡ []
unfolding walk
walk_silent v s t up [] h f = refl
walk_silent v s t up (n ∷ path) h f =
    ap (λ b. b ++ walk v s t (v n) path) (node_silent_by (ltb (v n) (s n)) t up (v n) (s n) refl h
    f.0)
    ∙ walk_silent v s t (v n) path (let r : up ≤ v n = f.0 in omega arith) f.1

-- the thresholds of a path's nodes, raised
abbrev Raised : (ℕ → ℕ) → (ℕ → ℕ) → ℕ → List ℕ → Type 0
Raised s s' t [] = Unit {0}
Raised s s' t (n ∷ path) = (s' n ≡ max (s n) t) × Raised s s' t path

raised_by : (s s' : ℕ → ℕ) (t : ℕ) (path : List ℕ) → ((n : ℕ) → is_among path n ≡ true
    → s' n ≡ max (s n) t) → Raised s s' t path
raised_by s s' t [] h = tt
raised_by s s' t (n ∷ path) h = (
  h n (let e = eq-eqb n n refl in rw e refl),
  raised_by s s' t path
      (λ m a. h m (rw a (or_true (eqb n m)))),
)

walk_split : (v s s' : ℕ → ℕ) (t u up : ℕ) (path : List ℕ) → t ≤ u → From v up path
    → Raised s s' t path
    → walk v s t up path ++ walk v s' u up path ≡ walk v s u up path
unfolding walk
walk_split v s s' t u up [] h f r = refl
walk_split v s s' t u up (n ∷ path) h f r =
    let ih = walk_split v s s' t u (v n) path h f.1 r.1 in
    let p = node_bits (min t up) (v n) (s n) t in
    elim (cases_lt (v n) t) [
      | inl l ↦ (let whole = node_whole_by (ltb (v n) (s n)) t u up (v n) (s n) refl l h f.0 in
          let spent = node_spent t u up (v n) (s n) l in
          ap (λ k. (node_bits (min t up) (v n) (s n) t ++ walk v s t (v n) path)
          ++ (node_bits (min u up) (v n) k u ++ walk v s' u (v n) path)) r.0
          ∙ ap (λ b. (node_bits (min t up) (v n) (s n) t ++ walk v s t (v n) path)
          ++ (b ++ walk v s' u (v n) path)) spent
          ∙ append_assoc (node_bits (min t up) (v n) (s n) t) (walk v s t (v n) path)
          (walk v s' u (v n) path)
          ∙ ap (λ b. node_bits (min t up) (v n) (s n) t ++ b) ih
          ∙ ap (λ b. b ++ walk v s u (v n) path) whole)
      | inr l ↦ (let silent = walk_silent v s t (v n) path l f.1 in
          let rest = ap (λ b. b ++ walk v s' u (v n) path) (sym silent) ∙ ih in
          let two = node_two_by (ltb (v n) (s n)) t u up (v n) (s n) refl l h f.0 in
          ap (λ k. (node_bits (min t up) (v n) (s n) t ++ walk v s t (v n) path)
          ++ (node_bits (min u up) (v n) k u ++ walk v s' u (v n) path)) r.0
          ∙ ap (λ b. (node_bits (min t up) (v n) (s n) t ++ b)
          ++ (node_bits (min u up) (v n) (max (s n) t) u ++ walk v s' u (v n) path)) silent
          ∙ ap (λ b. b ++ (node_bits (min u up) (v n) (max (s n) t) u ++ walk v s' u (v n) path))
          (append-nil (node_bits (min t up) (v n) (s n) t))
          ∙ sym (append_assoc (node_bits (min t up) (v n) (s n) t)
          (node_bits (min u up) (v n) (max (s n) t) u) (walk v s' u (v n) path))
          ∙ ap (λ b. b ++ walk v s' u (v n) path) two
          ∙ ap (λ b. node_bits (min u up) (v n) (s n) u ++ b) rest)
    ]

largest_raised : (levels : ℕ) (earlier : List Writing) (w : Writing) (n : ℕ)
    → is_among (path_of levels w.column w.row) n ≡ true
    → largest levels (earlier ++ w ∷ []) n ≡ max (largest levels earlier n) w.threshold
largest_raised levels earlier w n h = largest_push levels earlier w n ∙ rw h refl

-- Two thresholds of one leaf, one after the other: the bits are those of the larger alone.
pub split_thresholds : (width height : ℕ) (v : ℕ → ℕ) (earlier : List Writing) (x y t u : ℕ)
    → IsNumbering width height v → x < width → y < height → t ≤ u
    → bits_of_writing (levels_above width height) v earlier (record {
      column = x;
      row = y;
      threshold = t;
    })
    ++ bits_of_writing (levels_above width height) v (earlier
    ++ record { column = x; row = y; threshold = t } ∷ []) (record {
      column = x;
      row = y;
      threshold = u;
    })
    ≡ bits_of_writing (levels_above width height) v earlier (record {
      column = x;
      row = y;
      threshold = u;
    })
split_thresholds width height v earlier x y t u rising column row h =
    let levels = levels_above width height in
    let w : Writing = record { column = x; row = y; threshold = t } in
    let path = path_of (levels_above width height) x y in
    let s = largest (levels_above width height) earlier in
    let s' = largest (levels_above width height) (earlier
    ++ record { column = x; row = y; threshold = t } ∷ []) in
    let raised = raised_by (largest (levels_above width height) earlier)
    (largest (levels_above width height) (earlier ++ record {
      column = x;
      row = y;
      threshold =
          t;
    } ∷ [])) t
    (path_of (levels_above width height) x y) (λ n a. largest_raised (levels_above width height)
    earlier (record { column = x; row = y; threshold = t }) n a) in
    ap (λ b. b ++ path_bits v (largest (levels_above width height) (earlier
    ++ record { column = x; row = y; threshold = t } ∷ [])) u 0
    (path_of (levels_above width height) x y))
    (walk_root v (largest (levels_above width height) earlier) t
    (path_of (levels_above width height) x y))
    ∙ ap (λ b. walk v (largest (levels_above width height) earlier) t 0
    (path_of (levels_above width height) x y) ++ b)
    (walk_root v (largest (levels_above width height) (earlier
    ++ record { column = x; row = y; threshold = t } ∷ [])) u
    (path_of (levels_above width height) x y))
    ∙ walk_split v (largest (levels_above width height) earlier)
    (largest (levels_above width height) (earlier ++ record {
      column = x;
      row = y;
      threshold =
          t;
    } ∷ [])) t u 0
    (path_of (levels_above width height) x y) h
    (from_root v (path_of (levels_above width height) x y) (rising x y column row)) raised
    ∙ sym (walk_root v (largest (levels_above width height) earlier) u
    (path_of (levels_above width height) x y))

twice_by : (b : Bool) (l t u : ℕ) → t ≤ u
    → (if b then max (if b then max l t else l) u else (if b then max l t else l))
    ≡ (if b then max l u else l)
twice_by true l t u h = omega arith
twice_by false l t u h = refl

-- and so are the largest thresholds afterwards
pub largest_split : (levels : ℕ) (earlier : List Writing) (x y t u n : ℕ) → t ≤ u
    → largest levels (earlier ++ record { column = x; row = y; threshold = t } ∷ []
    ++ record { column = x; row = y; threshold = u } ∷ []) n
    ≡ largest levels (earlier ++ record { column = x; row = y; threshold = u } ∷ []) n
largest_split levels earlier x y t u n h =
    largest_push levels (earlier ++ record { column = x; row = y; threshold = t } ∷ [])
    (record { column = x; row = y; threshold = u }) n
    ∙ ap (λ l. if is_among (path_of levels x y) n then max l u else l)
    (largest_push levels earlier (record { column = x; row = y; threshold = t }) n)
    ∙ twice_by (is_among (path_of levels x y) n) (largest levels earlier n) t u h
    ∙ sym (largest_push levels earlier (record { column = x; row = y; threshold = u }) n)

-- so a tree that stands for both readings stands for the larger
pub stands_split : (tree : Tree) (earlier : List Writing) (x y t u : ℕ) → t ≤ u
    → Stands tree (earlier ++ record { column = x; row = y; threshold = t } ∷ []
    ++ record { column = x; row = y; threshold = u } ∷ [])
    → Stands tree (earlier ++ record { column = x; row = y; threshold = u } ∷ [])
stands_split tree earlier x y t u h stands n =
    rw (sym (largest_split (levels_of tree) earlier x y t u n h)) (stands n)

-- only one place is that of a leaf
among_leaf : (c r x y : ℕ) → c ≤ 3 → x ≤ 3 → y ≤ 3 → is_among (path_of 2 c r) (leaf_node x y) ≡ true
    → (c ≡ x) × (r ≡ y)
unfolding path_of
among_leaf c r x y hc hx hy h =
    let t : eqb 20 (leaf_node x y) ≡ false = ne_eqb 20 (leaf_node x y) (λ k. omega arith) in
    let m : eqb (middle_node c r) (leaf_node x y) ≡ false =
    ne_eqb (middle_node c r) (leaf_node x y) (λ k. omega arith) in
    let h' = rw (t, m) at h in
    let e = eqb-true (leaf_node c r) (leaf_node x y) (or_false (eqb (leaf_node c r) (leaf_node x y))
    h') in
    (omega arith, omega arith)

place_of_leaf : (width k x y : ℕ) → k % width ≡ x → k / width ≡ y → k ≡ y * width + x
place_of_leaf width k x y c r = let e = div-add-mod' k width in let e' = rw (c, r) at e in sym e'

pub leaf_apart : (width k x y : ℕ) → k % width ≤ 3 → x ≤ 3 → y ≤ 3 → (k ≡ y * width + x → ⊥)
    → is_among (path_of 2 (k % width) (k / width)) (leaf_node x y) ≡ false
leaf_apart width k x y hk hx hy ne =
    elim (cases_Bool (is_among (path_of 2 (k % width) (k / width)) (leaf_node x y))) [
      | inl t ↦ absurd (let b = among_leaf (k % width) (k / width) x y hk hx hy t in
          ne (place_of_leaf width k x y b.0 b.1))
      | inr f ↦ f
    ]

leaf_there : (width k x y : ℕ) → x < width → k ≡ y * width + x
    → is_among (path_of 2 (k % width) (k / width)) (leaf_node x y) ≡ true
unfolding path_of
leaf_there width k x y h e =
    let c : k % width ≡ x = ap (λ n. n % width) e ∙ mod-mul-add y width x h in
    let r : k / width ≡ y = ap (λ n. n / width) e ∙ div-mul-add y width x h in
    let l : eqb (leaf_node (k % width) (k / width)) (leaf_node x y) ≡ true =
    eq-eqb (leaf_node (k % width) (k / width)) (leaf_node x y)
    (ap (λ n. leaf_node n (k / width)) c ∙ ap (leaf_node x) r) in
    rw l (ap (λ b. eqb 20 (leaf_node x y) || b)
    (or_true (eqb (middle_node (k % width) (k / width)) (leaf_node x y)))
    ∙ or_true (eqb 20 (leaf_node x y)))

-- after a leaf's place nothing is its own
least_past : (width place : ℕ) (values : List ℕ) (x y : ℕ) → x < width → width ≤ 4 → y ≤ 3
    → y * width + x < place → least_from width place values (leaf_node x y) ≡ 255
unfolding least_from
least_past width place [] x y h w hy l = refl
least_past width place (v ∷ values) x y h w hy l =
    let a = leaf_apart width place x y (small_column width place (omega arith) w) (omega arith) hy
    (λ e. omega arith) in
    rw a (least_past width (place + 1) values x y h w hy (omega arith))

least_at : (width place : ℕ) (values : List ℕ) (x y i : ℕ) → x < width → width ≤ 4 → y ≤ 3
    → y * width + x ≡ place + i → i < length values → get_or values i 0 ≤ 255
    → least_from width place values (leaf_node x y) ≡ get_or values i 0
unfolding least_from
least_at width place [] x y i h w hy e l m = absurd (omega arith)
least_at width place (v ∷ values) x y zero h w hy e l m =
    let a = leaf_there width place x y h (omega arith) in
    let p = least_past width (place + 1) values x y h w hy (omega arith) in
    rw (a, p) (omega arith)
least_at width place (v ∷ values) x y (suc i) h w hy e l m =
    let a = leaf_apart width place x y (small_column width place (omega arith) w) (omega arith) hy
    (λ k. omega arith) in
    rw a (least_at width (place + 1) values x y i h w hy (omega arith) (omega arith) m)

-- The writer's numbering has at each leaf the leaf's own value.
pub least_leaf : (width height : ℕ) (values : List ℕ) (x y : ℕ) → x < width → y < height → width ≤ 4
    → height ≤ 4 → length values ≡ width * height
    → get_or values (y * width + x) 0 ≤ 255 → least width values (leaf_node x y)
    ≡ get_or values (y * width + x) 0
least_leaf width height values x y c r w h l m =
    let rows : (y + 1) * width ≤ height * width = mul-le-mul_right width (let k : y + 1 ≤ height =
    omega arith in k) in
    let sum : (y + 1) * width ≡ y * width + width = omega arith in
    let whole : height * width ≡ width * height = mul_comm height width in
    least_at width 0 values x y (y * width + x) c w (omega arith) (omega arith) (omega arith) m
