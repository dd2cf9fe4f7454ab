-- One node's step within a tree.
use Rattle.std.proofs.Common.{◌≡◌, ℕ, ◌≤◌, min, Bool, true, List, ◌++◌, refl, sym, ap, subst, ◌∙◌}
use Rattle.std.proofs.Common.{inl, inr}
use Rattle.std.specs.Prelude.{◌⊎◌, ◌==◌, max, if◌then◌else◌}
use Rattle.std.proofs.lemmas.Bool.{eq-eqb, ne_eqb, cases_eq}
use Rattle.std.proofs.lemmas.Bool.Decides.{eqb_tells}
use Rattle.tag_trees.specs.TagTree.{node_bits}
use Rattle.tag_trees.specs.TreeState.{AllowsValue}
use Rattle.tag_trees.specs.Inside.{RunsOut}
use Rattle.tag_trees.specs.TreeState.{bound_of, known_of, root_of, parent_of, of_parent, NodeStands}
use Rattle.tag_trees.specs.TreeState.{BoundsStand, Allows}
use Rattle.tag_trees.specs.Inside.{NodeStep, bits_of_step}
use Rattle.tag_trees.specs.declared.tree.Tree.{Tree}
use Rattle.tag_trees.specs.declared.node.Node.{Node}
use Rattle.tag_trees.proofs.NodeLemmas.{Reaches, step_reaches, stands_step, stands_below}
use Rattle.tag_trees.proofs.NodeLemmas.{step_rises, allowed_before, allowed_from, step_bits_are}
use Rattle.tag_trees.proofs.NodeLemmas.{node_reads, node_ends}

-- the largest thresholds, one node's raised
abbrev pub raise : ℕ → ℕ → (ℕ → ℕ) → ℕ → ℕ
raise m t s n = if m == n then max (s n) t else s n

pub raise_other : (m t n : ℕ) (s : ℕ → ℕ) → (n ≡ m → ⊥) → raise m t s n ≡ s n
raise_other m t n s h = let e = ne_eqb m n (λ k. h (sym k)) in rw e refl

raise_same : (m t n : ℕ) (s : ℕ → ℕ) → n ≡ m → raise m t s n ≡ max (s n) t
raise_same m t n s h = let e = eq-eqb m n (sym h) in rw e refl

-- Before a node's step: what the bounds stand for, and what is known above the node.
pub record Before (levels : ℕ) (tree : Tree) (s : ℕ → ℕ) (t node start : ℕ) : Type 0 where
  pub stands : BoundsStand levels (bound_of tree) (known_of tree) s
  pub start_is : start ≡ of_parent levels 0 (bound_of tree) node
  pub reaches : Reaches (of_parent levels true (known_of tree) node) start t
  pub apart : (node ≡ root_of levels) ⊎ (parent_of node ≡ node → ⊥)

-- a function of the nodes above another node, before and after
above_same : {A : Type 0} (levels : ℕ) (x : A) (f g : ℕ → A) (n m : ℕ)
    → ((k : ℕ) → (k ≡ m → ⊥) → g k ≡ f k)
    → (n ≡ root_of levels) ⊎ (parent_of n ≡ m → ⊥) → of_parent levels x g n ≡ of_parent levels x f n
above_same levels x f g n m same (inl h) = let e = eq-eqb n (root_of levels) h in rw e refl
above_same levels x f g n m same (inr h) = elim (eqb_tells n (root_of levels)) [
  | inl e ↦ (let l = e.0 in rw l refl)
  | inr e ↦ (let l = e.0 in rw l (same (parent_of n) h))
]

pub above_child : {A : Type 0} (levels : ℕ) (x : A) (f : ℕ → A) (n m : ℕ) → (n ≡ root_of levels → ⊥)
    → parent_of n ≡ m → of_parent levels x f n ≡ f m
above_child levels x f n m h e = let l = ne_eqb n (root_of levels) h in rw l (ap f e)

pub above_root : {A : Type 0} (levels : ℕ) (x : A) (f : ℕ → A) (n : ℕ) → n ≡ root_of levels
    → of_parent levels x f n ≡ x
above_root levels x f n h = let l = eq-eqb n (root_of levels) h in rw l refl

stands_of : (a b c d e : ℕ) (p q : Bool) (x y : Bool) (s t : ℕ) → a ≡ b → p ≡ q → c ≡ d → x ≡ y
    → s ≡ t → NodeStands b q d y t → NodeStands a p c x s
stands_of a b c d e p q x y s t ea ep ec ex es h = rw (ea, ep, ec, ex, es) h

-- What is known before a step.
module _ (levels : ℕ) (old : Tree) (s : ℕ → ℕ) (t node start : ℕ)
    (before : Before levels old s t node start) where
  -- what stands at the node itself, from its parent's bound
  at_node : NodeStands start (of_parent levels true (known_of old) node) (bound_of old node)
      (known_of old node) (s node)
  at_node = rw before.start_is (before.stands node)

  -- the parent's value
  up_allowed : (v : ℕ → ℕ) → Allows old v → AllowsValue (of_parent levels true (known_of old) node)
      start (of_parent levels 0 v node)
  up_allowed v allows = elim (cases_eq node (root_of levels)) [
    | inl e ↦ rw (
      before.start_is,
      above_root levels true (known_of old) node e,
      above_root levels 0 (bound_of old) node e,
      above_root levels 0 v node e,
    ) refl
    | inr h ↦ rw (
      before.start_is,
      above_child levels true (known_of old) node (parent_of node) h refl,
      above_child levels 0 (bound_of old) node (parent_of node) h refl,
      above_child levels 0 v node (parent_of node) h refl,
    ) (allows (parent_of node))
  ]

  -- the value is allowed where the step begins
  pub from_allowed : (v : ℕ → ℕ) → Allows old v → of_parent levels 0 v node ≤ v node
      → AllowsValue (known_of old node) (max (bound_of old node) start) (v node)
  from_allowed v allows rising =
      allowed_from start (of_parent levels true (known_of old) node) (bound_of old node) (s node)
      (v node) (of_parent levels 0 v node) (known_of old node)
      at_node (allows node) (up_allowed v allows) rising

  -- bits that end among the node's zeros are not its bits
  pub ends_not : (v : ℕ → ℕ) (e : ℕ) (ahead rest : List Bool) → Allows old v
      → of_parent levels 0 v node ≤ v node
      → RunsOut ahead (max (bound_of old node) start) t (known_of old node)
      → ahead ≡ node_bits (min (max t e) (of_parent levels 0 v node)) (v node) (s node) t ++ rest
      → ⊥
  ends_not v e ahead rest allows rising out eq =
      node_ends start (of_parent levels true (known_of old) node) (bound_of old node) (s node) t
      (v node) (of_parent levels 0 v node) e (known_of old node) ahead rest
      at_node out (allows node) (up_allowed v allows) rising before.reaches eq

-- A step of one node of a tree.
module _ (levels : ℕ) (old new : Tree) (s : ℕ → ℕ) (t node start : ℕ)
    (before : Before levels old s t node start) (step : NodeStep old node start t new) where
  others_bound : (k : ℕ) → (k ≡ node → ⊥) → bound_of new k ≡ bound_of old k
  others_bound k h = ap (λ (n : Node). n.bound) (step.others k h)

  others_known : (k : ℕ) → (k ≡ node → ⊥) → known_of new k ≡ known_of old k
  others_known k h = ap (λ (n : Node). n.known) (step.others k h)

  pub rises : (bound_of old node ≤ bound_of new node) × (known_of old node ≡ true
      → (known_of new node ≡ true) × (bound_of new node ≡ bound_of old node))
  rises = step_rises start (of_parent levels true (known_of old) node) (bound_of old node) (s node)
      t
      (bound_of new node) (known_of old node) (known_of new node)
      (at_node levels old s t node start before) step.step

  stands_here : NodeStands (of_parent levels 0 (bound_of new) node)
      (of_parent levels true (known_of new) node) (bound_of new node) (known_of new node)
      (raise node t s node)
  stands_here =
      stands_of _ _ _ _ 0 _ _ _ _ _ _
      (above_same levels 0 (bound_of old) (bound_of new) node node others_bound before.apart
      ∙ sym before.start_is)
      (above_same levels true (known_of old) (known_of new) node node others_known before.apart)
      refl refl (raise_same node t node s refl)
      (stands_step start (of_parent levels true (known_of old) node) (bound_of old node) (s node) t
      (bound_of new node) (known_of old node) (known_of new node)
      (at_node levels old s t node start before) step.step before.reaches)

  stands_child : (n : ℕ) → (n ≡ node → ⊥) → (n ≡ root_of levels → ⊥) → parent_of n ≡ node
      → NodeStands (of_parent levels 0 (bound_of new) n) (of_parent levels true (known_of new) n)
      (bound_of new n) (known_of new n) (raise node t s n)
  stands_child n h r p =
      let was = before.stands n in
      let was' = rw (
        above_child levels 0 (bound_of old) n node r p,
        above_child levels true (known_of old) n node r p,
      ) at was in
      stands_of _ _ _ _ 0 _ _ _ _ _ _
      (above_child levels 0 (bound_of new) n node r p)
      (above_child levels true (known_of new) n node r p)
      (others_bound n h) (others_known n h) (raise_other node t n s h)
      (stands_below (bound_of old node) (bound_of new node) (known_of old node) (known_of new node)
      (bound_of old n) (s n) (known_of old n)
      rises.0 rises.1 was')

  stands_else : (n : ℕ) → (n ≡ node → ⊥) → (n ≡ root_of levels) ⊎ (parent_of n ≡ node → ⊥)
      → NodeStands (of_parent levels 0 (bound_of new) n) (of_parent levels true (known_of new) n)
      (bound_of new n) (known_of new n) (raise node t s n)
  stands_else n h r =
      stands_of _ _ _ _ 0 _ _ _ _ _ _
      (above_same levels 0 (bound_of old) (bound_of new) n node others_bound r)
      (above_same levels true (known_of old) (known_of new) n node others_known r)
      (others_bound n h) (others_known n h) (raise_other node t n s h)
      (before.stands n)

  -- the bounds stand for the raised thresholds
  pub stands_after : BoundsStand levels (bound_of new) (known_of new) (raise node t s)
  stands_after n = elim (cases_eq n node) [
    | inl e ↦ (let P : ℕ → Type 0 = λ k. NodeStands (of_parent levels 0 (bound_of new) k)
        (of_parent levels true (known_of new) k) (bound_of new k) (known_of new k)
        (raise node t s k) in
        subst P (sym e) stands_here)
    | inr h ↦ elim (cases_eq n (root_of levels)) [
      | inl r ↦ stands_else n h (inl r)
      | inr r ↦ elim (cases_eq (parent_of n) node) [
        | inl p ↦ stands_child n h r p
        | inr p ↦ stands_else n h (inr p)
      ]
    ]
  ]

  -- what is allowed afterwards was allowed before
  pub earlier_allows : (v : ℕ → ℕ) → Allows new v → Allows old v
  earlier_allows v allows n = elim (cases_eq n node) [
    | inl e ↦ (let P : ℕ → Type 0 = λ k. AllowsValue (known_of old k) (bound_of old k) (v k) in
        subst P (sym e) (allowed_before start (of_parent levels true (known_of old) node)
        (bound_of old node) (s node) t (bound_of new node) (v node) (known_of old node)
        (known_of new node)
        (at_node levels old s t node start before) step.step (allows node)))
    | inr h ↦ (let a = allows n in rw (others_bound n h, others_known n h) at a)
  ]

  -- the other way round, where the node's value is allowed
  pub later_allows : (v : ℕ → ℕ) → Allows old v
      → AllowsValue (known_of new node) (bound_of new node) (v node) → Allows new v
  later_allows v allows here n = elim (cases_eq n node) [
    | inl e ↦ (let P : ℕ → Type 0 = λ k. AllowsValue (known_of new k) (bound_of new k) (v k) in
        subst P (sym e) here)
    | inr h ↦ rw (others_bound n h, others_known n h) (allows n)
  ]

  -- the step's bits are the node's
  pub bits_are : (v : ℕ → ℕ) (e : ℕ) → Allows new v → of_parent levels 0 v node ≤ v node
      → bits_of_step old node start new ≡ node_bits (min (max t e) (of_parent levels 0 v node))
      (v node)
      (s node) t
  bits_are v e allows rising =
      step_bits_are start (of_parent levels true (known_of old) node) (bound_of old node) (s node) t
      (bound_of new node) (v node) (of_parent levels 0 v node) e
      (known_of old node) (known_of new node) (at_node levels old s t node start before) step.step
      (allows node) (up_allowed levels old s t node start before v (earlier_allows v allows))
      rising before.reaches

  -- the node's bits are read
  pub reads_back : (v : ℕ → ℕ) (e : ℕ) (rest to : List Bool) → Allows old v
      → of_parent levels 0 v node ≤ v node
      → node_bits (min (max t e) (of_parent levels 0 v node)) (v node) (s node) t
      ++ rest ≡ bits_of_step old node start new ++ to
      → Allows new v × (rest ≡ to)
  reads_back v e rest to allows rising eq =
      let r = node_reads start (of_parent levels true (known_of old) node) (bound_of old node)
      (s node)
      t (bound_of new node) (v node) (of_parent levels 0 v node) e
      (known_of old node) (known_of new node) rest to (at_node levels old s t node start before)
      step.step (allows node)
      (up_allowed levels old s t node start before v allows) rising before.reaches eq in
      (later_allows v allows r.0, r.1)

  -- the node may be followed by a child
  pub child_before : (child child_start : ℕ) → (child ≡ root_of levels → ⊥) → parent_of child ≡ node
      → (parent_of child ≡ child → ⊥)
      → child_start ≡ bound_of new node → Before levels new (raise node t s) t child child_start
  child_before child child_start r p a e = record {
    stands = stands_after;
    start_is = e ∙ sym (above_child levels 0 (bound_of new) child node r p);
    reaches = rw (e, above_child levels true (known_of new) child node r p)
        (step_reaches (max (bound_of old node) start) t (bound_of new node) (known_of new node)
        (known_of old node) step.step);
    apart = inr a;
  }
