-- A new tree, and the writer's numbering.
use Rattle.std.proofs.Common.{◌≡◌, ℕ, suc, zero, ◌+◌, ◌/◌, ◌%◌, ◌<◌, ◌≤◌, min, Bool, true, false}
use Rattle.std.proofs.Common.{List, [], ◌∷◌, ◌++◌, length, get_or, take, refl, sym, ap, subst, ◌∙◌}
use Rattle.std.proofs.Common.{arith, eqb}
use Rattle.std.specs.Prelude.{◌==◌, ◌||◌, max, if◌then◌else◌, replicate}
use Rattle.std.proofs.Math.Nat.{mod-lt}
use Rattle.std.proofs.lemmas.List.{take_more, take_all, length-take-le}
use Rattle.std.proofs.lemmas.Bool.{eq-eqb, ne_eqb, eqb-true}
use Rattle.tag_trees.specs.TagTree.{leaf_node, middle_node, levels_above, path_of, is_among}
use Rattle.tag_trees.specs.TagTree.{largest, Ascends, IsNumbering, least_from, least}
use Rattle.tag_trees.specs.TreeState.{AllowsValue}
use Rattle.tag_trees.specs.TreeState.{width_of, height_of, levels_of, bound_of, known_of, value_of}
use Rattle.tag_trees.specs.TreeState.{of_parent, BoundsStand, IsWritten}
use Rattle.tag_trees.specs.declared.tree.Tree.{Tree}
use Rattle.tag_trees.specs.declared.node.Node.{Node}
use Rattle.tag_trees.proofs.TreePaths.{numbering_along}

-- a tree of which nothing is known
pub fresh_stands : (levels : ℕ) (b : ℕ → ℕ) (k : ℕ → Bool) → ((n : ℕ) → b n ≡ 0)
    → ((n : ℕ) → k n ≡ false) → BoundsStand levels b k (largest levels [])
unfolding largest
fresh_stands levels b k bz kf n =
    let low : 0 ≤ max 0 (of_parent levels 0 b n) = omega arith in
    rw (kf n, bz n) (omega arith, low)

pub fresh_allows : (b : ℕ → ℕ) (k : ℕ → Bool) (v : ℕ → ℕ) → ((n : ℕ) → b n ≡ 0)
    → ((n : ℕ) → k n ≡ false) → (n : ℕ) → AllowsValue (k n) (b n) (v n)
fresh_allows b k v bz kf n = rw (kf n, bz n) (omega arith)

pub same_everywhere : {A : Type 0} (f : Node → A) (a : A) (k : ℕ) (x d : Node) (n : ℕ) → f x ≡ a
    → f d ≡ a → f (get_or (replicate k x) n d) ≡ a
same_everywhere f a zero x d n e g = g
same_everywhere f a (suc k) x d zero e g = e
same_everywhere f a (suc k) x d (suc n) e g = same_everywhere f a k x d n e g

-- the least value, one leaf more
least_by : (a b : Bool) (x l v : ℕ) → (if a then min x (if b then min v l else l)
    else (if b then min v l else l)) ≡ (if b then min v (if a then min x l else l)
    else (if a then min x l else l))
least_by true true x l v = omega arith
least_by true false x l v = refl
least_by false b x l v = refl

pub least_push : (width place : ℕ) (values : List ℕ) (v n : ℕ)
    → least_from width place (values ++ v ∷ []) n
    ≡ (if is_among (path_of 2 ((place + length values) % width) ((place + length values) / width)) n
    then min v (least_from width place values n) else least_from width place values n)
unfolding least_from
least_push width place [] v n = let e : place + 0 ≡ place = omega arith in rw e refl
least_push width place (x ∷ values) v n =
    let e : place + suc (length values) ≡ place + 1 + length values = omega arith in
    ap (λ l. if is_among (path_of 2 (place % width) (place / width)) n then min x l else l)
    (least_push width (place + 1) values v n)
    ∙ least_by (is_among (path_of 2 (place % width) (place / width)) n)
    (is_among (path_of 2 ((place + 1 + length values) % width)
    ((place + 1 + length values) / width)) n) x (least_from width (place + 1) values n) v
    ∙ ap (λ k. if is_among (path_of 2 (k % width) (k / width)) n
    then min v (if is_among (path_of 2 (place % width) (place / width)) n
    then min x (least_from width (place + 1) values n)
    else least_from width (place + 1) values n)
    else (if is_among (path_of 2 (place % width) (place / width)) n
    then min x (least_from width (place + 1) values n)
    else least_from width (place + 1) values n)) (sym e)

-- a node that stands above all leaves of another has no larger value
least_if : (a b : Bool) (x l m : ℕ) → (b ≡ true → a ≡ true) → l ≤ m
    → (if a then min x l else l) ≤ (if b then min x m else m)
least_if true true x l m h k = omega arith
least_if true false x l m h k = omega arith
least_if false true x l m h k = absurd (let e : false ≡ true = h refl in cc)
least_if false false x l m h k = k

pub least_le : (width place : ℕ) (values : List ℕ) (m n : ℕ)
    → ((k : ℕ) → is_among (path_of 2 (k % width) (k / width)) n ≡ true
    → is_among (path_of 2 (k % width) (k / width)) m ≡ true)
    → least_from width place values m ≤ least_from width place values n
unfolding least_from
least_le width place [] m n h = omega arith
least_le width place (x ∷ values) m n h =
    least_if (is_among (path_of 2 (place % width) (place / width)) m)
    (is_among (path_of 2 (place % width) (place / width)) n) x
    (least_from width (place + 1) values m) (least_from width (place + 1) values n) (h place)
    (least_le width (place + 1) values m n h)

among_top : (x y : ℕ) → is_among (path_of 2 x y) 20 ≡ true
unfolding path_of
among_top x y = refl

pub or_false : (b : Bool) → (b || false) ≡ true → b ≡ true
or_false true h = refl
or_false false h = h

pub or_true : (b : Bool) → (b || true) ≡ true
or_true true = refl
or_true false = refl

-- the node above a leaf is above no other node's leaves but its own
among_middle : (c r x y : ℕ) → c ≤ 3 → x ≤ 3 → y ≤ 3 → is_among (path_of 2 c r) (leaf_node x y)
    ≡ true → is_among (path_of 2 c r) (middle_node x y) ≡ true
unfolding path_of
among_middle c r x y hc hx hy h =
    let t : eqb 20 (leaf_node x y) ≡ false = ne_eqb 20 (leaf_node x y) (λ k. omega arith) in
    let m : eqb (middle_node c r) (leaf_node x y) ≡ false =
    ne_eqb (middle_node c r) (leaf_node x y) (λ k. omega arith) in
    let h' = rw (t, m) at h in
    let e = eqb-true (leaf_node c r) (leaf_node x y) (or_false (eqb (leaf_node c r) (leaf_node x y))
    h') in
    let col : c ≡ x = omega arith in
    let rows : r ≡ y = omega arith in
    let s : eqb (middle_node c r) (middle_node x y) ≡ true =
    eq-eqb (middle_node c r) (middle_node x y) (ap (λ k. middle_node k r) col
    ∙ ap (middle_node x) rows) in
    rw s (or_true (eqb 20 (middle_node x y)))

-- the writer's numbering rises
rising_by : (levels width : ℕ) (values : List ℕ) (x y : ℕ) → ((k : ℕ) → k % width ≤ 3) → x ≤ 3
    → y ≤ 3 → Ascends (least width values) (path_of levels x y)
unfolding path_of
rising_by zero width values x y small hx hy = tt
rising_by (suc zero) width values x y small hx hy = (
  least_le width 0 values (middle_node x y) (leaf_node x y) (λ k h.
      among_middle (k % width) (k / width) x y (small k) hx hy h),
  tt,
)
rising_by (suc (suc levels)) width values x y small hx hy = (
  least_le width 0 values 20 (middle_node x y) (λ k h. among_top (k % width) (k / width)),
  (
    least_le width 0 values (middle_node x y) (leaf_node x y) (λ k h.
        among_middle (k % width) (k / width) x y (small k) hx hy h),
    tt,
  ),
)

pub small_column : (width k : ℕ) → 0 < width → width ≤ 4 → k % width ≤ 3
small_column width k p h = let r : k % width < width = mod-lt k p in omega arith

pub least_rises : (width height : ℕ) (values : List ℕ) → width ≤ 4 → height ≤ 4
    → IsNumbering width height (least width values)
least_rises width height values w h column row c r =
    rising_by (levels_above width height) width values column row (λ k.
    small_column width k (omega arith) w) (omega arith) (omega arith)

-- a new tree whose leaves have these values so far
pub record Starts (tree : Tree) (width height : ℕ) (values : List ℕ) : Type 0 where
  pub width_is : tree.width ≡ width
  pub height_is : tree.height ≡ height
  pub values_are : (node : ℕ) → value_of tree node ≡ least width values node
  pub bounds : (node : ℕ) → bound_of tree node ≡ 0
  pub unknown : (node : ℕ) → known_of tree node ≡ false

-- a new tree to write
pub started : (tree : Tree) (width height : ℕ) (values : List ℕ) → Starts tree width height values
    → width ≤ 4 → height ≤ 4 → IsWritten tree (least width values) []
started tree width height values s w h = record {
  values = s.values_are;
  rising = numbering_along width height (width_of tree) (height_of tree) (least width values)
      s.width_is s.height_is (least_rises width height values w h);
  stands = fresh_stands (levels_of tree) (bound_of tree) (known_of tree) s.bounds s.unknown;
  allows = fresh_allows (bound_of tree) (known_of tree) (least width values) s.bounds s.unknown;
}

pub started_all : (tree : Tree) (width height n : ℕ) (values : List ℕ)
    → Starts tree width height (take n values) → length values ≤ n → width ≤ 4 → height ≤ 4
    → IsWritten tree (least width values) []
started_all tree width height n values s l w h =
    let P : List ℕ → Type 0 = λ vs. Starts tree width height vs in
    started tree width height values (subst P (take_all n values l) s) w h

-- three nodes' values, each brought down
lower_by : (a b c : Bool) (v o : ℕ)
    → (if a then min v (if b then min v (if c then min v o else o) else (if c then min v o else o))
    else (if b then min v (if c then min v o else o) else (if c then min v o else o)))
    ≡ (if a || (b || (c || false)) then min v o else o)
lower_by true true true v o = omega arith
lower_by true true false v o = omega arith
lower_by true false true v o = omega arith
lower_by true false false v o = refl
lower_by false true true v o = omega arith
lower_by false true false v o = refl
lower_by false false true v o = refl
lower_by false false false v o = refl

pub lower_path : (column row v n o a b c : ℕ)
    → a ≡ (if leaf_node column row == n then min v o else o)
    → b ≡ (if middle_node column row == n then min v a else a)
    → c ≡ (if 20 == n then min v b else b)
    → c ≡ (if is_among (path_of 2 column row) n then min v o else o)
unfolding path_of
lower_path column row v n o a b c ea eb ec =
    ec ∙ ap (λ k. if 20 == n then min v k else k) (eb
    ∙ ap (λ k. if middle_node column row == n then min v k else k) ea)
    ∙ lower_by (20 == n) (middle_node column row == n) (leaf_node column row == n) v o

-- one leaf more in the loop
pub least_more : (width : ℕ) (values : List ℕ) (i v n old new : ℕ) → i < length values
    → v ≡ get_or values i 0 → old ≡ least width (take i values) n
    → new ≡ (if is_among (path_of 2 (i % width) (i / width)) n then min v old else old)
    → new ≡ least width (take (i + 1) values) n
least_more width values i v n old new h vi o e =
    let l : 0 + length (take i values) ≡ i = omega (arith, length-take-le i values (omega arith)) in
    let push = least_push width 0 (take i values) v n in
    let push' = rw l at push in
    e ∙ ap (λ k. if is_among (path_of 2 (i % width) (i / width)) n then min v k else k) o
    ∙ sym push'
    ∙ ap (λ k. least_from width 0 (take i values ++ k ∷ []) n) vi
    ∙ ap (λ vs. least_from width 0 vs n) (sym (take_more values i 0 h))
