-- The paths of a tag tree, and what a whole writing or reading does.
use Rattle.std.proofs.Common.{◌≡◌, ℕ, suc, zero, ◌+◌, ◌-◌, ◌*◌, ◌/◌, ◌%◌, ◌<◌, ◌≤◌, min, Bool, true}
use Rattle.std.proofs.Common.{false, List, [], ◌∷◌, ◌++◌, length, refl, sym, ap, subst, ◌∙◌, inl}
use Rattle.std.proofs.Common.{inr, arith, leb, ltb, length-append}
use Rattle.std.specs.Prelude.{◌==◌, ◌||◌, max, if◌then◌else◌, replicate}
use Rattle.std.proofs.lemmas.Bool.{lt-ltb, le-ltb, leb-true, cases_eq}
use Rattle.std.proofs.lemmas.List.{length-replicate}
use Rattle.tag_trees.specs.TagTree.{Writing, leaf_node, middle_node, levels_above, path_of}
use Rattle.tag_trees.specs.TagTree.{is_among, largest, node_bits, path_bits, bits_of_writing}
use Rattle.tag_trees.specs.TagTree.{Ascends, IsNumbering}
use Rattle.tag_trees.specs.TreeState.{AllowsValue}
use Rattle.tag_trees.specs.TreeState.{width_of, height_of, levels_of, bound_of, known_of, value_of}
use Rattle.tag_trees.specs.TreeState.{root_of, parent_of, of_parent, BoundsStand, Stands, Allows}
use Rattle.tag_trees.specs.TreeState.{IsWritten}
use Rattle.tag_trees.specs.Inside.{NodeStep, bits_of_step}
use Rattle.tag_trees.specs.declared.tree.Tree.{Tree}
use Rattle.tag_trees.specs.declared.node.Node.{Node}
use Rattle.tag_trees.proofs.TreeLemmas.{Before, raise, above_root, above_child, from_allowed}
use Rattle.tag_trees.proofs.TreeLemmas.{later_allows, child_before}
use Rattle.tag_trees.proofs.PathLemmas.{Steps, Fails, Hangs, raise_all, path_stands, path_earlier}
use Rattle.tag_trees.proofs.PathLemmas.{path_bits_are, path_reads, path_ends}

-- the leaf lies in a tree of so many levels
abbrev pub Inside : ℕ → ℕ → ℕ → Type 0
Inside zero x y = (x ≡ 0) × (y ≡ 0)
Inside (suc zero) x y = (x ≤ 1) × (y ≤ 1)
Inside (suc (suc _)) x y = (x ≤ 3) × (y ≤ 3)

inside_by : (one two : Bool) (m x y : ℕ) → leb m 1 ≡ one → leb m 2 ≡ two → x < m → y < m → m ≤ 4
    → Inside (if one then 0 else (if two then 1 else 2)) x y
inside_by true two m x y o t h k l = let a : m ≤ 1 = leb-true m 1 o in (omega arith, omega arith)
inside_by false true m x y o t h k l = let a : m ≤ 2 = leb-true m 2 t in (omega arith, omega arith)
inside_by false false m x y o t h k l = (omega arith, omega arith)

pub inside : (w h x y : ℕ) → x < w → y < h → w ≤ 4 → h ≤ 4 → Inside (levels_above w h) x y
unfolding levels_above
inside w h x y a b c d = inside_by (leb (max w h) 1) (leb (max w h) 2) (max w h) x y refl refl
    (omega arith) (omega arith) (omega arith)

-- a path that begins at the root, in a tree that stands for these thresholds
abbrev pub Ready : ℕ → Tree → (ℕ → ℕ) → ℕ → List ℕ → Type 0
Ready levels tree s t [] = ⊥
Ready levels tree s t (node ∷ path) = Before levels tree s t node 0 × Hangs levels node path
    × (node ≡ root_of levels)

root_before : (levels : ℕ) (tree : Tree) (s : ℕ → ℕ) (t node : ℕ) → node ≡ root_of levels
    → BoundsStand levels (bound_of tree) (known_of tree) s → Before levels tree s t node 0
root_before levels tree s t node e stands = record {
  stands = stands;
  start_is = sym (above_root levels 0 (bound_of tree) node e);
  reaches = inl (above_root levels true (known_of tree) node e);
  apart = inl e;
}

pub parent_leaf : (x y : ℕ) → x ≤ 3 → y ≤ 3 → parent_of (leaf_node x y) ≡ middle_node x y
unfolding parent_of
parent_leaf x y h k =
    let l : ltb (4 * y + x) 16 ≡ true = lt-ltb (4 * y + x) 16 (omega arith) in
    let d : (4 * y + x) / 8 ≡ y / 2 = omega arith in
    let m : (4 * y + x) % 4 ≡ x = omega arith in
    rw (l, d, m) refl

pub parent_middle : (x y : ℕ) → parent_of (middle_node x y) ≡ 20
unfolding parent_of
parent_middle x y = let l : ltb (16 + (2 * (y / 2) + x / 2)) 16 ≡ false =
    le-ltb (16 + (2 * (y / 2) + x / 2)) 16 (omega arith) in rw l refl

pub ready : (levels : ℕ) (tree : Tree) (s : ℕ → ℕ) (t x y : ℕ) → Inside levels x y
    → BoundsStand levels (bound_of tree) (known_of tree) s
    → Ready levels tree s t (path_of levels x y)
unfolding path_of root_of
ready zero tree s t x y within stands =
    let e : leaf_node x y ≡ root_of 0 = (let a : x ≡ 0 = within.0 in let b : y ≡ 0 = within.1 in
    omega arith) in
    (root_before 0 tree s t (leaf_node x y) e stands, tt, e)
ready (suc zero) tree s t x y within stands =
    let a : x ≤ 1 = within.0 in
    let b : y ≤ 1 = within.1 in
    let e : middle_node x y ≡ 16 = omega arith in
    let p = parent_leaf x y (omega arith) (omega arith) in (
      root_before 1 tree s t (middle_node x y) e stands,
      (λ k. omega arith, p, λ k. omega arith, (λ k. omega arith, tt), tt),
      e,
    )
ready (suc (suc n)) tree s t x y within stands =
    let a : x ≤ 3 = within.0 in
    let b : y ≤ 3 = within.1 in
    let p = parent_leaf x y a b in
    let q = parent_middle x y in (
      root_before (suc (suc n)) tree s t 20 refl stands,
      (
        λ k. omega arith,
        q,
        λ k. omega arith,
        (λ k. omega arith, (λ k. omega arith, tt)),
        (λ k. omega arith, p, λ k. omega arith, (λ k. omega arith, tt), tt),
      ),
      refl,
    )

root_start : (levels t e node : ℕ) (v : ℕ → ℕ) → node ≡ root_of levels
    → min (max t e) (of_parent levels 0 v node) ≡ 0
root_start levels t e node v h = let r = above_root levels 0 v node h in omega arith

-- a whole path
module _ (levels : ℕ) (old : Tree) (s : ℕ → ℕ) (t : ℕ) where
  pub tree_stands : (new : Tree) (p : List ℕ) (bits : List Bool) → Ready levels old s t p
      → Steps t old 0 p new bits → BoundsStand levels (bound_of new) (known_of new)
      (raise_all p t s)
  tree_stands new [] bits r h = absurd r
  tree_stands new (node ∷ path) bits r h = path_stands levels old new s t node 0 path bits r.0 r.1 h

  pub tree_earlier : (new : Tree) (p : List ℕ) (bits : List Bool) (v : ℕ → ℕ)
      → Ready levels old s t p → Steps t old 0 p new bits → Allows new v → Allows old v
  tree_earlier new [] bits v r h a = absurd r
  tree_earlier new (node ∷ path) bits v r h a =
      path_earlier levels old new s t node 0 path bits v r.0 r.1 h a

  root_rises : (node : ℕ) (v : ℕ → ℕ) → node ≡ root_of levels → of_parent levels 0 v node ≤ v node
  root_rises node v e = rw (above_root levels 0 v node e) (omega arith)

  pub tree_bits : (new : Tree) (p : List ℕ) (bits : List Bool) (v : ℕ → ℕ) → Ready levels old s t p
      → Steps t old 0 p new bits → Allows new v → Ascends v p
      → bits ≡ path_bits v s t 0 p
  tree_bits new [] bits v r h a c = absurd r
  tree_bits new (node ∷ path) bits v r h a c =
      path_bits_are levels old new s t node 0 0 path bits v r.0 r.1 h a (root_rises node v r.2) c
      ∙ ap (λ k. path_bits v s t k (node ∷ path)) (root_start levels t 0 node v r.2)

  pub tree_reads : (new : Tree) (p : List ℕ) (bits : List Bool) (v : ℕ → ℕ) (rest to : List Bool)
      → Ready levels old s t p → Steps t old 0 p new bits → Allows old v → Ascends v p
      → path_bits v s t 0 p ++ rest ≡ bits ++ to → Allows new v × (rest ≡ to)
  tree_reads new [] bits v rest to r h a c e = absurd r
  tree_reads new (node ∷ path) bits v rest to r h a c e =
      path_reads levels old new s t node 0 0 path bits v rest to r.0 r.1 h a (root_rises node v r.2)
      c
      (ap (λ k. path_bits v s t k (node ∷ path) ++ rest) (root_start levels t 0 node v r.2) ∙ e)

  pub tree_ends : (p : List ℕ) (v : ℕ → ℕ) (rest ahead : List Bool) → Ready levels old s t p
      → Fails t old 0 p ahead → Allows old v → Ascends v p
      → ahead ≡ path_bits v s t 0 p ++ rest → ⊥
  tree_ends [] v rest ahead r h a c e = absurd r
  tree_ends (node ∷ path) v rest ahead r h a c e =
      path_ends levels old s t node 0 0 path v rest ahead r.0 r.1 h a (root_rises node v r.2) c
      (e ∙ ap (λ k. path_bits v s t k (node ∷ path)
      ++ rest) (sym (root_start levels t 0 node v r.2)))

-- the thresholds after one more writing
raise_by : (m : ℕ) (p : List ℕ) (t n : ℕ) (s : ℕ → ℕ) (b c : Bool)
    → (if c then max (if b then max (s n) t else s n) t else (if b then max (s n) t else s n))
    ≡ (if b || c then max (s n) t else s n)
raise_by m p t n s true true = omega arith
raise_by m p t n s true false = refl
raise_by m p t n s false c = refl

pub raise_all_is : (p : List ℕ) (t : ℕ) (s : ℕ → ℕ) (n : ℕ)
    → raise_all p t s n ≡ (if is_among p n then max (s n) t else s n)
raise_all_is [] t s n = refl
raise_all_is (m ∷ p) t s n = raise_all_is p t (raise m t s) n
    ∙ raise_by m p t n s (m == n) (is_among p n)

largest_by : (a b : Bool) (x l t : ℕ) → (if a then max x (if b then max l t else l)
    else (if b then max l t else l)) ≡ (if b then max (if a then max x l else l) t
    else (if a then max x l else l))
largest_by true true x l t = omega arith
largest_by true false x l t = refl
largest_by false b x l t = refl

largest_one : (b : Bool) (t : ℕ) → (if b then max t 0 else 0) ≡ (if b then max 0 t else 0)
largest_one true t = omega arith
largest_one false t = refl

pub largest_push : (levels : ℕ) (earlier : List Writing) (w : Writing) (n : ℕ)
    → largest levels (earlier ++ w ∷ []) n ≡ (if is_among (path_of levels w.column w.row) n
    then max (largest levels earlier n) w.threshold else largest levels earlier n)
unfolding largest
largest_push levels [] w n = largest_one (is_among (path_of levels w.column w.row) n) w.threshold
largest_push levels (x ∷ earlier) w n =
    ap (λ l. if is_among (path_of levels x.column x.row) n then max x.threshold l else l)
    (largest_push levels earlier w n)
    ∙ largest_by (is_among (path_of levels x.column x.row) n)
    (is_among (path_of levels w.column w.row) n) x.threshold (largest levels earlier n)
    w.threshold

stands_along : (levels : ℕ) (b : ℕ → ℕ) (k : ℕ → Bool) (s s' : ℕ → ℕ) → ((n : ℕ) → s' n ≡ s n)
    → BoundsStand levels b k s → BoundsStand levels b k s'
stands_along levels b k s s' e h n = rw (e n) (h n)

-- sides and values stay
pub steps_sides : (t : ℕ) (old : Tree) (start : ℕ) (p : List ℕ) (new : Tree) (bits : List Bool)
    → Steps t old start p new bits → (width_of new ≡ width_of old) × (height_of new ≡ height_of old)
steps_sides t old start [] new bits h = (ap width_of h.0, ap height_of h.0)
steps_sides t old start (n ∷ p) new bits (mid, rest, step, more, eq) =
    let r = steps_sides t mid (bound_of mid n) p new rest more in
    (r.0 ∙ step.width, r.1 ∙ step.height)

step_values : (old new : Tree) (node start t : ℕ) → NodeStep old node start t new → (n : ℕ)
    → value_of new n ≡ value_of old n
step_values old new node start t step n = elim (cases_eq n node) [
  | inl e ↦ rw e step.value
  | inr h ↦ ap (λ (k : Node). k.value) (step.others n h)
]

pub steps_values : (t : ℕ) (old : Tree) (start : ℕ) (p : List ℕ) (new : Tree) (bits : List Bool)
    → Steps t old start p new bits → (n : ℕ) → value_of new n ≡ value_of old n
steps_values t old start [] new bits h n = ap (λ (k : Tree). value_of k n) h.0
steps_values t old start (m ∷ p) new bits (mid, rest, step, more, eq) n =
    steps_values t mid (bound_of mid m) p new rest more n ∙ step_values old mid m start t step n

-- A whole writing or reading of a leaf.
module _ (old : Tree) (x y t : ℕ) (column : x < width_of old) (row : y < height_of old)
    (wide : width_of old ≤ 4) (high : height_of old ≤ 4) where
  pub ready_for : (earlier : List Writing) → Stands old earlier
      → Ready (levels_of old) old (largest (levels_of old) earlier) t (path_of (levels_of old) x y)
  ready_for earlier stands = ready (levels_of old) old (largest (levels_of old) earlier) t x y
      (inside (width_of old) (height_of old) x y column row wide high) stands

  pub stands_for : (new : Tree) (bits : List Bool) (earlier : List Writing) → Stands old earlier
      → Steps t old 0 (path_of (levels_of old) x y) new bits
      → Stands new (earlier ++ record { column = x; row = y; threshold = t } ∷ [])
  stands_for new bits earlier stands steps =
      let w : Writing = record { column = x; row = y; threshold = t } in
      let sides = steps_sides t old 0 (path_of (levels_of old) x y) new bits steps in
      let P : ℕ → ℕ → Type 0 = λ a b. BoundsStand (levels_above a b) (bound_of new) (known_of new)
      (largest (levels_above a b) (earlier ++ record { column = x; row = y; threshold = t }
      ∷ [])) in
      let here : P (width_of old) (height_of old) =
      stands_along (levels_of old) (bound_of new) (known_of new)
      (raise_all (path_of (levels_of old) x y) t (largest (levels_of old) earlier))
      (largest (levels_of old) (earlier ++ record { column = x; row = y; threshold = t } ∷ []))
      (λ n. largest_push (levels_of old) earlier (record { column = x; row = y; threshold = t }) n
      ∙ sym (raise_all_is (path_of (levels_of old) x y) t (largest (levels_of old) earlier) n))
      (tree_stands (levels_of old) old (largest (levels_of old) earlier) t new
      (path_of (levels_of old) x y) bits (ready_for earlier stands) steps) in
      subst (λ a. P a (height_of new)) (sym sides.0) (subst (λ b. P (width_of old) b) (sym sides.1)
      here)

  pub allows_before : (new : Tree) (bits : List Bool) (v : ℕ → ℕ) (earlier : List Writing)
      → Stands old earlier → Steps t old 0 (path_of (levels_of old) x y) new bits → Allows new v
      → Allows old v
  allows_before new bits v earlier stands steps allows =
      tree_earlier (levels_of old) old (largest (levels_of old) earlier) t new
      (path_of (levels_of old) x y) bits v (ready_for earlier stands) steps allows

  pub bits_for : (new : Tree) (bits : List Bool) (v : ℕ → ℕ) (earlier : List Writing)
      → IsNumbering (width_of old) (height_of old) v → Stands old earlier
      → Steps t old 0 (path_of (levels_of old) x y) new bits → Allows new v
      → bits ≡ bits_of_writing (levels_of old) v earlier (record {
        column = x;
        row = y;
        threshold =
            t;
      })
  bits_for new bits v earlier rising stands steps allows =
      tree_bits (levels_of old) old (largest (levels_of old) earlier) t new
      (path_of (levels_of old) x y) bits v (ready_for earlier stands) steps allows
      (rising x y column row)

  pub reads_for : (new : Tree) (bits : List Bool) (v : ℕ → ℕ) (earlier : List Writing)
      (rest to : List Bool) → IsNumbering (width_of old) (height_of old) v → Stands old earlier
      → Steps t old 0 (path_of (levels_of old) x y) new bits → Allows old v
      → bits_of_writing (levels_of old) v earlier (record { column = x; row = y; threshold = t })
      ++ rest ≡ bits ++ to → Allows new v × (rest ≡ to)
  reads_for new bits v earlier rest to rising stands steps allows eq =
      tree_reads (levels_of old) old (largest (levels_of old) earlier) t new
      (path_of (levels_of old) x y) bits v rest to (ready_for earlier stands) steps allows
      (rising x y column row) eq

  pub ends_for : (v : ℕ → ℕ) (earlier : List Writing) (rest ahead : List Bool)
      → IsNumbering (width_of old) (height_of old) v → Stands old earlier
      → Fails t old 0 (path_of (levels_of old) x y) ahead → Allows old v
      → ahead ≡ bits_of_writing (levels_of old) v earlier (record {
        column = x;
        row = y;
        threshold =
            t;
      }) ++ rest → ⊥
  ends_for v earlier rest ahead rising stands fails allows eq =
      tree_ends (levels_of old) old (largest (levels_of old) earlier) t
      (path_of (levels_of old) x y) v rest ahead (ready_for earlier stands) fails allows
      (rising x y column row) eq

-- steps of a writing: each makes its node's value known where it is below the threshold, and keeps
-- it allowed
abbrev pub WriteSteps : ℕ → Tree → ℕ → List ℕ → Tree → List Bool → Type 0
WriteSteps t old start [] new bits = (new ≡ old) × (bits ≡ [])
WriteSteps t old start (node ∷ path) new bits =
    (mid : Tree) × (rest : List Bool) × NodeStep old node start t mid
    × (AllowsValue (known_of old node) (max (bound_of old node) start) (value_of old node)
    → AllowsValue (known_of mid node) (bound_of mid node) (value_of old node))
    × WriteSteps t mid (bound_of mid node) path new rest
    × (bits ≡ bits_of_step old node start mid ++ rest)

pub steps_of : (t : ℕ) (old : Tree) (start : ℕ) (p : List ℕ) (new : Tree) (bits : List Bool)
    → WriteSteps t old start p new bits → Steps t old start p new bits
steps_of t old start [] new bits h = h
steps_of t old start (n ∷ p) new bits (mid, rest, step, allowed, more, eq) =
    (mid, rest, step, steps_of t mid (bound_of mid n) p new rest more, eq)

path_writes : (levels : ℕ) (old new : Tree) (s : ℕ → ℕ) (t node start : ℕ) (path : List ℕ)
    (bits : List Bool) (v : ℕ → ℕ) → Before levels old s t node start → Hangs levels node path
    → WriteSteps t old start (node ∷ path) new bits → ((n : ℕ) → value_of old n ≡ v n)
    → Allows old v → of_parent levels 0 v node ≤ v node → Ascends v (node ∷ path) → Allows new v
path_writes levels old new s t node start [] bits v before hangs (
  mid,
  rest,
  step,
  allowed,
  last,
  eq,
) values allows rising ascends =
    let f = from_allowed levels old s t node start before v allows rising in
    let is : value_of old node ≡ v node = values node in
    let here = rw is at allowed in
    rw last.0 (later_allows levels old mid s t node start before step v allows (here f))
path_writes levels old new s t node start (n ∷ path) bits v before hangs
    (mid, rest, step, allowed, more, eq) values allows rising ascends =
    let f = from_allowed levels old s t node start before v allows rising in
    let is : value_of old node ≡ v node = values node in
    let here = rw is at allowed in
    let next = child_before levels old mid s t node start before step n (bound_of mid node) hangs.0
    hangs.1 hangs.2 refl in
    let up = above_child levels 0 v n node hangs.0 hangs.1 in
    let rise : of_parent levels 0 v n ≤ v n = rw up ascends.0 in
    path_writes levels mid new (raise node t s) t n (bound_of mid node) path rest v next hangs.4
    more
    (λ k. step_values old mid node start t step k ∙ values k)
    (later_allows levels old mid s t node start before step v allows (here f)) rise ascends.1

tree_writes : (levels : ℕ) (old new : Tree) (s : ℕ → ℕ) (t : ℕ) (p : List ℕ) (bits : List Bool)
    (v : ℕ → ℕ) → Ready levels old s t p → WriteSteps t old 0 p new bits
    → ((n : ℕ) → value_of old n ≡ v n) → Allows old v → Ascends v p → Allows new v
tree_writes levels old new s t [] bits v r h values allows c = absurd r
tree_writes levels old new s t (node ∷ path) bits v r h values allows c =
    path_writes levels old new s t node 0 path bits v r.0 r.1 h values allows
    (root_rises levels old s t node v r.2) c

-- the length of a path's bits: what is left of the threshold above the parent's value, and a one
-- for each node
node_length_by : (b c : Bool) (a up v s t : ℕ) → up ≤ v → min t up ≤ a
    → length (if b then [] else replicate (min t v - max (min s v) a) false
    ++ (if c then true ∷ [] else [])) + min t up ≤ min t v + 1
node_length_by true c a up v s t h k = omega arith
node_length_by false true a up v s t h k =
    let l = length-append (replicate (min t v - max (min s v) a) false) (true ∷ []) in
    let m = length-replicate (min t v - max (min s v) a) false in omega arith
node_length_by false false a up v s t h k =
    let l = length-append (replicate (min t v - max (min s v) a) false) [] in
    let m = length-replicate (min t v - max (min s v) a) false in omega arith

node_length : (a up v s t : ℕ) → up ≤ v → min t up ≤ a → length (node_bits a v s t) + min t up
    ≤ min t v + 1
unfolding node_bits
node_length a up v s t h k = node_length_by (ltb v s) (ltb v t) a up v s t h k

pub path_length : (v s : ℕ → ℕ) (t a up node : ℕ) (path : List ℕ) → up ≤ v node → min t up ≤ a
    → Ascends v (node ∷ path)
    → length (path_bits v s t a (node ∷ path)) + min t up ≤ t + length (node ∷ path)
unfolding path_bits
path_length v s t a up node [] h k c =
    let n = node_length a up (v node) (s node) t h k in
    let l = length-append (node_bits a (v node) (s node) t) [] in omega arith
path_length v s t a up node (m ∷ path) h k c =
    let n = node_length a up (v node) (s node) t h k in
    let l = length-append (node_bits a (v node) (s node) t)
    (path_bits v s t (min (max t (s node)) (v node)) (m ∷ path)) in
    let r = path_length v s t (min (max t (s node)) (v node)) (v node) m path c.0 (omega arith) c.1
    in omega arith

pub writing_length_by : (v s : ℕ → ℕ) (t : ℕ) (p : List ℕ) → Ascends v p
    → length (path_bits v s t 0 p) ≤ t + length p
unfolding path_bits
writing_length_by v s t [] c = omega arith
writing_length_by v s t (n ∷ p) c = let r =
    path_length v s t 0 0 n p (omega arith) (omega arith) c in omega arith

path_few : (levels x y : ℕ) → length (path_of levels x y) ≤ 3
unfolding path_of
path_few zero x y = omega arith
path_few (suc zero) x y = omega arith
path_few (suc (suc n)) x y = omega arith

-- the bits of a writing are at most three more than its threshold
pub writing_length : (width height : ℕ) (v : ℕ → ℕ) (earlier : List Writing) (x y t : ℕ)
    → IsNumbering width height v → x < width → y < height
    → length (bits_of_writing (levels_above width height) v earlier
    (record { column = x; row = y; threshold = t })) ≤ t + 3
writing_length width height v earlier x y t rising column row =
    let a = writing_length_by v (largest (levels_above width height) earlier) t
    (path_of (levels_above width height) x y) (rising x y column row) in
    omega (arith, path_few (levels_above width height) x y)

pub numbering_along : (w h w' h' : ℕ) (v : ℕ → ℕ) → w' ≡ w → h' ≡ h → IsNumbering w h v
    → IsNumbering w' h' v
numbering_along w h w' h' v a b r = rw (a, b) r

-- a writing
module _ (old new : Tree) (x y t : ℕ) (bits : List Bool) (column : x < width_of old)
    (row : y < height_of old) (wide : width_of old ≤ 4) (high : height_of old ≤ 4)
    (steps : WriteSteps t old 0 (path_of (levels_of old) x y) new bits) (v : ℕ
    → ℕ) (earlier : List Writing) (written : IsWritten old v earlier) where
  plain : Steps t old 0 (path_of (levels_of old) x y) new bits
  plain = steps_of t old 0 (path_of (levels_of old) x y) new bits steps

  allows_written : Allows new v
  allows_written = tree_writes (levels_of old) old new (largest (levels_of old) earlier) t
      (path_of (levels_of old) x y) bits v
      (ready_for old x y t column row wide high earlier written.stands) steps written.values
      written.allows (written.rising x y column row)

  pub writes_bits : bits ≡ bits_of_writing (levels_of old) v earlier
      (record { column = x; row = y; threshold = t })
  writes_bits = bits_for old x y t column row wide high new bits v earlier written.rising
      written.stands plain allows_written

  pub writes_few : length bits ≤ t + 3
  writes_few = rw writes_bits (writing_length (width_of old) (height_of old) v earlier x y t
      written.rising column row)

  pub writes_on : IsWritten new v (earlier ++ record { column = x; row = y; threshold = t } ∷ [])
  writes_on =
      let sides = steps_sides t old 0 (path_of (levels_of old) x y) new bits plain in
      record {
        values = λ n. steps_values t old 0 (path_of (levels_of old) x y) new bits plain n
            ∙ written.values n;
        rising = numbering_along (width_of old) (height_of old) (width_of new) (height_of new) v
            sides.0 sides.1 written.rising;
        stands = stands_for old x y t column row wide high new bits earlier written.stands plain;
        allows = allows_written;
      }

-- the steps of a writing, one level after the other
abbrev pub Allowed : Tree → ℕ → ℕ → Tree → Type 0
Allowed old node start new =
    AllowsValue (known_of old node) (max (bound_of old node) start) (value_of old node)
    → AllowsValue (known_of new node) (bound_of new node) (value_of old node)

pub path_zero : (levels x y : ℕ) → levels ≡ 0 → path_of levels x y ≡ leaf_node x y ∷ []
unfolding path_of
path_zero levels x y h = rw h refl

pub path_one : (levels x y : ℕ) → levels ≡ 1 → path_of levels x y ≡ middle_node x y ∷ leaf_node x y
    ∷ []
unfolding path_of
path_one levels x y h = rw h refl

pub path_two : (levels x y : ℕ) → levels ≡ 2 → path_of levels x y ≡ 20 ∷ middle_node x y
    ∷ leaf_node x y ∷ []
unfolding path_of
path_two levels x y h = rw h refl

module _ (old new : Tree) (x y t : ℕ) where
  pub write_zero : levels_of old ≡ 0 → NodeStep old (leaf_node x y) 0 t new
      → Allowed old (leaf_node x y) 0 new
      → WriteSteps t old 0 (path_of (levels_of old) x y) new (bits_of_step old (leaf_node x y) 0 new
      ++ [])
  write_zero e s a = let P : List ℕ → Type 0 =
      λ p. WriteSteps t old 0 p new (bits_of_step old (leaf_node x y) 0 new ++ []) in
      subst P (sym (path_zero (levels_of old) x y e)) (new, [], s, a, (refl, refl), refl)

  pub write_one : (mid : Tree) (start : ℕ) → levels_of old ≡ 1
      → NodeStep old (middle_node x y) 0 t mid → Allowed old (middle_node x y) 0 mid
      → start ≡ bound_of mid (middle_node x y) → NodeStep mid (leaf_node x y) start t new
      → Allowed mid (leaf_node x y) start new
      → WriteSteps t old 0 (path_of (levels_of old) x y) new
      (bits_of_step old (middle_node x y) 0 mid ++ (bits_of_step mid (leaf_node x y) start new
      ++ []))
  write_one mid start e s a b r c =
      let P : List ℕ → Type 0 = λ p. WriteSteps t old 0 p new
      (bits_of_step old (middle_node x y) 0 mid ++ (bits_of_step mid (leaf_node x y) start new
      ++ [])) in
      let Q : ℕ → Type 0 = λ k. WriteSteps t mid k (leaf_node x y ∷ []) new
      (bits_of_step mid (leaf_node x y) start new ++ []) in
      subst P (sym (path_one (levels_of old) x y e)) (
        mid,
        bits_of_step mid (leaf_node x y) start new
            ++ [],
        s,
        a,
        subst Q b (new, [], r, c, (refl, refl), refl),
        refl,
      )

  pub write_two : (top mid : Tree) (start next : ℕ) → levels_of old ≡ 2 → NodeStep old 20 0 t top
      → Allowed old 20 0 top
      → start ≡ bound_of top 20 → NodeStep top (middle_node x y) start t mid
      → Allowed top (middle_node x y) start mid
      → next ≡ bound_of mid (middle_node x y) → NodeStep mid (leaf_node x y) next t new
      → Allowed mid (leaf_node x y) next new
      → WriteSteps t old 0 (path_of (levels_of old) x y) new
      (bits_of_step old 20 0 top ++ (bits_of_step top (middle_node x y) start mid
      ++ (bits_of_step mid (leaf_node x y) next new ++ [])))
  write_two top mid start next e s a b r c d u w =
      let P : List ℕ → Type 0 = λ p. WriteSteps t old 0 p new (bits_of_step old 20 0 top
      ++ (bits_of_step top (middle_node x y) start mid
      ++ (bits_of_step mid (leaf_node x y) next new ++ []))) in
      let Q : ℕ → Type 0 = λ k. WriteSteps t top k (middle_node x y ∷ leaf_node x y ∷ []) new
      (bits_of_step top (middle_node x y) start mid
      ++ (bits_of_step mid (leaf_node x y) next new ++ [])) in
      let R : ℕ → Type 0 = λ k. WriteSteps t mid k (leaf_node x y ∷ []) new
      (bits_of_step mid (leaf_node x y) next new ++ []) in
      subst P (sym (path_two (levels_of old) x y e)) (
        top,
        bits_of_step top (middle_node x y) start mid ++ (bits_of_step mid (leaf_node x y) next new
            ++ []),
        s,
        a,
        subst Q b (
          mid,
          bits_of_step mid (leaf_node x y) next new
              ++ [],
          r,
          c,
          subst R d (new, [], u, w, (refl, refl), refl),
          refl,
        ),
        refl,
      )

  -- and of a reading
  pub read_zero : levels_of old ≡ 0 → NodeStep old (leaf_node x y) 0 t new
      → Steps t old 0 (path_of (levels_of old) x y) new (bits_of_step old (leaf_node x y) 0 new
      ++ [])
  read_zero e s = let P : List ℕ → Type 0 =
      λ p. Steps t old 0 p new (bits_of_step old (leaf_node x y) 0 new ++ []) in
      subst P (sym (path_zero (levels_of old) x y e)) (new, [], s, (refl, refl), refl)

  pub read_one : (mid : Tree) (start : ℕ) → levels_of old ≡ 1
      → NodeStep old (middle_node x y) 0 t mid
      → start ≡ bound_of mid (middle_node x y) → NodeStep mid (leaf_node x y) start t new
      → Steps t old 0 (path_of (levels_of old) x y) new (bits_of_step old (middle_node x y) 0 mid
      ++ (bits_of_step mid (leaf_node x y) start new ++ []))
  read_one mid start e s b r =
      let P : List ℕ → Type 0 = λ p. Steps t old 0 p new (bits_of_step old (middle_node x y) 0 mid
      ++ (bits_of_step mid (leaf_node x y) start new ++ [])) in
      let Q : ℕ → Type 0 = λ k. Steps t mid k (leaf_node x y ∷ []) new
      (bits_of_step mid (leaf_node x y) start new ++ []) in
      subst P (sym (path_one (levels_of old) x y e)) (
        mid,
        bits_of_step mid (leaf_node x y) start new
            ++ [],
        s,
        subst Q b (new, [], r, (refl, refl), refl),
        refl,
      )

  pub read_two : (top mid : Tree) (start next : ℕ) → levels_of old ≡ 2 → NodeStep old 20 0 t top
      → start ≡ bound_of top 20 → NodeStep top (middle_node x y) start t mid
      → next ≡ bound_of mid (middle_node x y) → NodeStep mid (leaf_node x y) next t new
      → Steps t old 0 (path_of (levels_of old) x y) new
      (bits_of_step old 20 0 top ++ (bits_of_step top (middle_node x y) start mid
      ++ (bits_of_step mid (leaf_node x y) next new ++ [])))
  read_two top mid start next e s b r d u =
      let P : List ℕ → Type 0 = λ p. Steps t old 0 p new (bits_of_step old 20 0 top
      ++ (bits_of_step top (middle_node x y) start mid
      ++ (bits_of_step mid (leaf_node x y) next new ++ []))) in
      let Q : ℕ → Type 0 = λ k. Steps t top k (middle_node x y ∷ leaf_node x y ∷ []) new
      (bits_of_step top (middle_node x y) start mid
      ++ (bits_of_step mid (leaf_node x y) next new ++ [])) in
      let R : ℕ → Type 0 = λ k. Steps t mid k (leaf_node x y ∷ []) new
      (bits_of_step mid (leaf_node x y) next new ++ []) in
      subst P (sym (path_two (levels_of old) x y e)) (
        top,
        bits_of_step top (middle_node x y) start mid ++ (bits_of_step mid (leaf_node x y) next new
            ++ []),
        s,
        subst Q b (
          mid,
          bits_of_step mid (leaf_node x y) next new
              ++ [],
          r,
          subst R d (new, [], u, (refl, refl), refl),
          refl,
        ),
        refl,
      )
