-- The nodes of a path, one after the other.
use Rattle.std.proofs.Common.{◌≡◌, ℕ, ◌≤◌, min, Bool, List, [], ◌∷◌, ◌++◌, refl, sym, ap, ◌∙◌, inl}
use Rattle.std.proofs.Common.{inr, append_assoc}
use Rattle.std.specs.Prelude.{◌⊎◌, max}
use Rattle.tag_trees.specs.TagTree.{node_bits, path_bits, Ascends}
use Rattle.tag_trees.specs.Inside.{RunsOut}
use Rattle.tag_trees.specs.TreeState.{bound_of, known_of, root_of, parent_of, of_parent}
use Rattle.tag_trees.specs.TreeState.{BoundsStand}
use Rattle.tag_trees.specs.TreeState.{Allows}
use Rattle.tag_trees.specs.Inside.{NodeStep, bits_of_step}
use Rattle.tag_trees.specs.declared.tree.Tree.{Tree}
use Rattle.tag_trees.proofs.TreeLemmas.{Before, raise, raise_other, above_child, stands_after}
use Rattle.tag_trees.proofs.TreeLemmas.{earlier_allows, bits_are, reads_back, ends_not}
use Rattle.tag_trees.proofs.TreeLemmas.{child_before}

-- steps along a path, and their bits
abbrev pub Steps : ℕ → Tree → ℕ → List ℕ → Tree → List Bool → Type 0
Steps t old start [] new bits = (new ≡ old) × (bits ≡ [])
Steps t old start (node ∷ path) new bits =
    (mid : Tree) × (rest : List Bool) × NodeStep old node start t mid
    × Steps t mid (bound_of mid node) path new rest
    × (bits ≡ bits_of_step old node start mid ++ rest)

-- steps along the beginning of a path, after which the bits end
abbrev pub Fails : ℕ → Tree → ℕ → List ℕ → List Bool → Type 0
Fails t old start [] ahead = ⊥
Fails t old start (node ∷ path) ahead =
    RunsOut ahead (max (bound_of old node) start) t (known_of old node)
    ⊎ ((mid : Tree) × (to : List Bool) × NodeStep old node start t mid
    × (ahead ≡ bits_of_step old node start mid ++ to) × Fails t mid (bound_of mid node) path to)

-- none of these nodes is that one
abbrev pub NoneIs : ℕ → List ℕ → Type 0
NoneIs node [] = Unit {0}
NoneIs node (n ∷ path) = (n ≡ node → ⊥) × NoneIs node path

-- these nodes hang below that one, each below the one before
abbrev pub Hangs : ℕ → ℕ → List ℕ → Type 0
Hangs levels node [] = Unit {0}
Hangs levels node (n ∷ path) =
    (n ≡ root_of levels → ⊥) × (parent_of n ≡ node) × (parent_of n ≡ n → ⊥) × NoneIs node (n ∷ path)
    × Hangs levels n path

abbrev pub raise_all : List ℕ → ℕ → (ℕ → ℕ) → ℕ → ℕ
raise_all [] t s = s
raise_all (node ∷ path) t s = raise_all path t (raise node t s)

-- what the bits of a path depend on
path_same : (v s s' : ℕ → ℕ) (t a node : ℕ) (path : List ℕ) → NoneIs node path
    → ((n : ℕ) → (n ≡ node → ⊥) → s' n ≡ s n)
    → path_bits v s' t a path ≡ path_bits v s t a path
unfolding path_bits
path_same v s s' t a node [] none same = refl
path_same v s s' t a node (n ∷ path) none same =
    rw (same n none.0) (ap (λ b. node_bits a (v n) (s n) t
    ++ b) (path_same v s s' t (min (max t (s n)) (v n)) node path none.1 same))

pub path_stands : (levels : ℕ) (old new : Tree) (s : ℕ → ℕ) (t node start : ℕ) (path : List ℕ)
    (bits : List Bool) → Before levels old s t node start → Hangs levels node path
    → Steps t old start (node ∷ path) new bits
    → BoundsStand levels (bound_of new) (known_of new) (raise_all (node ∷ path) t s)
path_stands levels old new s t node start [] bits before hangs (mid, rest, step, last, eq) =
    rw last.0 (stands_after levels old mid s t node start before step)
path_stands levels old new s t node start (n ∷ path) bits before hangs (mid, rest, step, more, eq) =
    path_stands levels mid new (raise node t s) t n (bound_of mid node) path rest
    (child_before levels old mid s t node start before step n (bound_of mid node) hangs.0 hangs.1
    hangs.2 refl) hangs.4 more

pub path_earlier : (levels : ℕ) (old new : Tree) (s : ℕ → ℕ) (t node start : ℕ) (path : List ℕ)
    (bits : List Bool) (v : ℕ → ℕ) → Before levels old s t node start → Hangs levels node path
    → Steps t old start (node ∷ path) new bits → Allows new v → Allows old v
path_earlier levels old new s t node start [] bits v before hangs (mid, rest, step, last, eq)
    allows =
    earlier_allows levels old mid s t node start before step v (rw (sym last.0) allows)
path_earlier levels old new s t node start (n ∷ path) bits v before hangs
    (mid, rest, step, more, eq) allows =
    earlier_allows levels old mid s t node start before step v
    (path_earlier levels mid new (raise node t s) t n (bound_of mid node) path rest v
    (child_before levels old mid s t node start before step n (bound_of mid node) hangs.0 hangs.1
    hangs.2 refl) hangs.4 more allows)

-- The bits of the steps are the path's. A path begins where its first node's zeros do, by the
-- parent's threshold.
pub path_bits_are : (levels : ℕ) (old new : Tree) (s : ℕ → ℕ) (t node start e : ℕ) (path : List ℕ)
    (bits : List Bool) (v : ℕ → ℕ) → Before levels old s t node start → Hangs levels node path
    → Steps t old start (node ∷ path) new bits → Allows new v → of_parent levels 0 v node ≤ v node
    → Ascends v (node ∷ path)
    → bits ≡ path_bits v s t (min (max t e) (of_parent levels 0 v node)) (node ∷ path)
unfolding path_bits
path_bits_are levels old new s t node start e [] bits v before hangs (mid, rest, step, last, eq)
    allows rising ascends =
    eq ∙ ap (λ b. b ++ rest) (bits_are levels old mid s t node start before step v e
    (rw (sym last.0) allows) rising)
    ∙ ap (λ r. node_bits (min (max t e) (of_parent levels 0 v node)) (v node) (s node) t
    ++ r) last.1
path_bits_are levels old new s t node start e (n ∷ path) bits v before hangs
    (mid, rest, step, more, eq) allows rising ascends =
    let next = child_before levels old mid s t node start before step n (bound_of mid node) hangs.0
    hangs.1 hangs.2 refl in
    let earlier = path_earlier levels mid new (raise node t s) t n (bound_of mid node) path rest v
    next hangs.4 more allows in
    let up = above_child levels 0 v n node hangs.0 hangs.1 in
    let rise : of_parent levels 0 v n ≤ v n = rw up ascends.0 in
    let ih = path_bits_are levels mid new (raise node t s) t n (bound_of mid node) (s node) path
    rest v next hangs.4 more allows rise ascends.1 in
    let ih' = rw up at ih in
    eq ∙ ap (λ b. b ++ rest) (bits_are levels old mid s t node start before step v e earlier rising)
    ∙ ap (λ r. node_bits (min (max t e) (of_parent levels 0 v node)) (v node) (s node) t ++ r)
    (ih' ∙ path_same v s (raise node t s) t (min (max t (s node)) (v node)) node (n ∷ path) hangs.3
    (λ k h. raise_other node t k s h))

-- what was written along a path is read back
pub path_reads : (levels : ℕ) (old new : Tree) (s : ℕ → ℕ) (t node start e : ℕ) (path : List ℕ)
    (bits : List Bool) (v : ℕ → ℕ) (rest to : List Bool) → Before levels old s t node start
    → Hangs levels node path
    → Steps t old start (node ∷ path) new bits → Allows old v → of_parent levels 0 v node ≤ v node
    → Ascends v (node ∷ path)
    → path_bits v s t (min (max t e) (of_parent levels 0 v node)) (node ∷ path) ++ rest ≡ bits ++ to
    → Allows new v × (rest ≡ to)
unfolding path_bits
path_reads levels old new s t node start e [] bits v rest to before hangs
    (mid, more, step, last, eq) allows rising ascends ahead =
    let whole =
    sym (append_assoc (node_bits (min (max t e) (of_parent levels 0 v node)) (v node) (s node) t) []
    rest) ∙ ahead
    ∙ ap (λ b. b ++ to) (eq ∙ ap (λ r. bits_of_step old node start mid ++ r) last.1)
    ∙ append_assoc (bits_of_step old node start mid) [] to in
    let r = reads_back levels old mid s t node start before step v e rest to allows rising whole in
    (rw last.0 r.0, r.1)
path_reads levels old new s t node start e (n ∷ path) bits v rest to before hangs
    (mid, more_bits, step, more, eq) allows rising ascends ahead =
    let next = child_before levels old mid s t node start before step n (bound_of mid node) hangs.0
    hangs.1 hangs.2 refl in
    let up = above_child levels 0 v n node hangs.0 hangs.1 in
    let rise : of_parent levels 0 v n ≤ v n = rw up ascends.0 in
    let same = path_same v s (raise node t s) t (min (max t (s node)) (v node)) node (n ∷ path)
    hangs.3 (λ k h. raise_other node t k s h) in
    let whole =
    sym (append_assoc (node_bits (min (max t e) (of_parent levels 0 v node)) (v node) (s node) t)
    (path_bits v s t (min (max t (s node)) (v node)) (n ∷ path)) rest) ∙ ahead
    ∙ ap (λ b. b ++ to) eq ∙ append_assoc (bits_of_step old node start mid) more_bits to in
    let r = reads_back levels old mid s t node start before step v e
    (path_bits v s t (min (max t (s node)) (v node)) (n ∷ path) ++ rest) (more_bits
    ++ to) allows rising whole in
    path_reads levels mid new (raise node t s) t n (bound_of mid node) (s node) path more_bits v
    rest to next hangs.4 more r.0 rise ascends.1
    (ap (λ a. path_bits v (raise node t s) t (min (max t (s node)) a) (n ∷ path) ++ rest) up
    ∙ ap (λ b. b ++ rest) same ∙ r.1)

-- and the bits don't end before
pub path_ends : (levels : ℕ) (old : Tree) (s : ℕ → ℕ) (t node start e : ℕ) (path : List ℕ) (v : ℕ
    → ℕ) (rest ahead : List Bool) → Before levels old s t node start → Hangs levels node path
    → Fails t old start (node ∷ path) ahead → Allows old v → of_parent levels 0 v node ≤ v node
    → Ascends v (node ∷ path)
    → ahead ≡ path_bits v s t (min (max t e) (of_parent levels 0 v node)) (node ∷ path) ++ rest → ⊥
unfolding path_bits
path_ends levels old s t node start e path v rest ahead before hangs (inl out) allows rising ascends
    eq =
    ends_not levels old s t node start before v e ahead
    (path_bits v s t (min (max t (s node)) (v node)) path ++ rest) allows rising out
    (eq ∙ append_assoc (node_bits (min (max t e) (of_parent levels 0 v node)) (v node) (s node) t)
    (path_bits v s t (min (max t (s node)) (v node)) path) rest)
path_ends levels old s t node start e [] v rest ahead before hangs
    (inr (mid, to, step, took, fails)) allows rising ascends eq = absurd fails
path_ends levels old s t node start e (n ∷ path) v rest ahead before hangs
    (inr (mid, to, step, took, fails)) allows rising ascends eq =
    let next = child_before levels old mid s t node start before step n (bound_of mid node) hangs.0
    hangs.1 hangs.2 refl in
    let up = above_child levels 0 v n node hangs.0 hangs.1 in
    let rise : of_parent levels 0 v n ≤ v n = rw up ascends.0 in
    let same = path_same v s (raise node t s) t (min (max t (s node)) (v node)) node (n ∷ path)
    hangs.3 (λ k h. raise_other node t k s h) in
    let whole =
    sym (append_assoc (node_bits (min (max t e) (of_parent levels 0 v node)) (v node) (s node) t)
    (path_bits v s t (min (max t (s node)) (v node)) (n ∷ path)) rest)
    ∙ sym eq ∙ took in
    let r = reads_back levels old mid s t node start before step v e
    (path_bits v s t (min (max t (s node)) (v node)) (n ∷ path)
    ++ rest) to allows rising whole in
    path_ends levels mid (raise node t s) t n (bound_of mid node) (s node) path v rest to next
    hangs.4 fails r.0 rise ascends.1
    (sym r.1 ∙ ap (λ b. b ++ rest) (sym same)
    ∙ ap (λ a. path_bits v (raise node t s) t (min (max t (s node)) a) (n ∷ path)
    ++ rest) (sym up))
