-- A whole writing of a leaf, and a whole reading.
use Rattle.std.proofs.Common.{◌≡◌, ℕ, ◌+◌, ◌<◌, ◌≤◌, Bool, true, false, List, [], ◌∷◌, ◌++◌, length}
use Rattle.std.proofs.Common.{refl, sym, ap, subst, ◌∙◌, inl, inr, arith, append_assoc}
use Rattle.std.proofs.Common.{length-append, leb, ltb, Ok, Err, Result}
use Rattle.std.specs.Prelude.{◌&&◌, max, nat_lt, if◌then◌else◌, IfOk, IfErr, OnOk, IsOkAnd}
use Rattle.std.proofs.lemmas.List.{append-nil}
use Rattle.std.proofs.lemmas.Bool.{le-ltb}
use Rattle.bit_stuffing.specs.Source.{BitSource, Took}
use Rattle.tag_trees.specs.TagTree.{Writing, leaf_node, middle_node, levels_above, path_of}
use Rattle.tag_trees.specs.TagTree.{bits_of_writing, IsNumbering}
use Rattle.tag_trees.specs.TreeState.{AllowsValue}
use Rattle.tag_trees.specs.Inside.{RunsOut}
use Rattle.tag_trees.specs.TreeState.{width_of, height_of, levels_of, bound_of, known_of, Stands}
use Rattle.tag_trees.specs.TreeState.{Allows, IsWritten}
use Rattle.tag_trees.specs.Inside.{NodeStep, bits_of_step}
use Rattle.std.specs.Prelude.{MatchResult}
use Rattle.tag_trees.specs.declared.tree.Tree.{Tree}
use Rattle.bit_stuffing.specs.declared.fault.BitFault.{BitFault}
use Rattle.bit_stuffing.proofs.SourceLemmas.{took_more}
use Rattle.tag_trees.proofs.NodeLemmas.{Reaches, step_reaches}
use Rattle.tag_trees.proofs.PathLemmas.{Steps, Fails}
use Rattle.tag_trees.proofs.TreePaths.{WriteSteps, Allowed, writes_bits, writes_few, writes_on}
use Rattle.tag_trees.proofs.TreePaths.{write_zero, write_one, write_two, read_zero, read_one}
use Rattle.tag_trees.proofs.TreePaths.{read_two, stands_for, allows_before, bits_for, reads_for}
use Rattle.tag_trees.proofs.TreePaths.{ends_for, path_zero, path_one, path_two}

choice : Bool → Bool → ℕ
choice one two = if one then 0 else (if two then 1 else 2)

two_by : (one two : Bool) → (choice one two ≡ 0 → ⊥) → (choice one two ≡ 1 → ⊥) → choice one two ≡ 2
unfolding choice
two_by true two h k = absurd (h refl)
two_by false true h k = absurd (k refl)
two_by false false h k = refl

-- where it is neither none nor one, two levels stand above the leaves
pub two_levels : (w h : ℕ) → (levels_above w h ≡ 0 → ⊥) → (levels_above w h ≡ 1 → ⊥)
    → levels_above w h ≡ 2
unfolding levels_above choice
two_levels w h a b = two_by (leb (max w h) 1) (leb (max w h) 2) a b

-- what a writing promises
pub record WritesLeaf (old new : Tree) (out out' : List Bool) (x y t : ℕ) : Type 0 where
  pub bits : (v : ℕ → ℕ) (earlier : List Writing) → IsWritten old v earlier → out' ≡ out
      ++ bits_of_writing (levels_of old) v earlier (record { column = x; row = y; threshold = t })
  pub written : (v : ℕ → ℕ) (earlier : List Writing) → IsWritten old v earlier
      → IsWritten new v (earlier ++ record { column = x; row = y; threshold = t } ∷ [])
  pub few : (v : ℕ → ℕ) (earlier : List Writing) → IsWritten old v earlier
      → length out' ≤ length out + (t + 3)

writes_leaf : (old new : Tree) (out out' : List Bool) (x y t : ℕ) (bits : List Bool)
    → x < width_of old → y < height_of old → width_of old ≤ 4 → height_of old ≤ 4
    → WriteSteps t old 0 (path_of (levels_of old) x y) new bits → out' ≡ out ++ bits
    → WritesLeaf old new out out' x y t
writes_leaf old new out out' x y t bits column row wide high steps e = record {
  bits = λ v earlier w. e ∙ ap (λ b. out ++ b) (writes_bits old new x y t bits column row wide high
      steps v earlier w);
  written = λ v earlier w. writes_on old new x y t bits column row wide high steps v earlier w;
  few = λ v earlier w. (let l = writes_few old new x y t bits column row wide high steps v earlier
      w in
      let m = ap length e ∙ length-append out bits in omega arith);
}

module _ (old new : Tree) (x y t : ℕ) (column : x < width_of old) (row : y < height_of old)
    (wide : width_of old ≤ 4) (high : height_of old ≤ 4) (out out' : List Bool) where
  pub leaf_zero : levels_of old ≡ 0 → NodeStep old (leaf_node x y) 0 t new
      → Allowed old (leaf_node x y) 0 new
      → out' ≡ out ++ bits_of_step old (leaf_node x y) 0 new → WritesLeaf old new out out' x y t
  leaf_zero e s a b =
      writes_leaf old new out out' x y t (bits_of_step old (leaf_node x y) 0 new
      ++ []) column row wide high (write_zero old new x y t e s a)
      (b ∙ ap (λ r. out ++ r) (sym (append-nil (bits_of_step old (leaf_node x y) 0 new))))

  pub leaf_one : (mid : Tree) (start : ℕ) (out1 : List Bool) → levels_of old ≡ 1
      → NodeStep old (middle_node x y) 0 t mid → Allowed old (middle_node x y) 0 mid
      → start ≡ bound_of mid (middle_node x y) → NodeStep mid (leaf_node x y) start t new
      → Allowed mid (leaf_node x y) start new
      → out1 ≡ out ++ bits_of_step old (middle_node x y) 0 mid → out' ≡ out1
      ++ bits_of_step mid (leaf_node x y) start new → WritesLeaf old new out out' x y t
  leaf_one mid start out1 e s a b r c o o' =
      let one = bits_of_step old (middle_node x y) 0 mid in
      let two = bits_of_step mid (leaf_node x y) start new in
      writes_leaf old new out out' x y t (bits_of_step old (middle_node x y) 0 mid
      ++ (bits_of_step mid (leaf_node x y) start new ++ [])) column row wide high
      (write_one old new x y t mid start e s a b r c)
      (o' ∙ ap (λ k. k ++ bits_of_step mid (leaf_node x y) start new) o
      ∙ append_assoc out (bits_of_step old (middle_node x y) 0 mid)
      (bits_of_step mid (leaf_node x y) start new)
      ∙ ap (λ k. out ++ (bits_of_step old (middle_node x y) 0 mid ++ k))
      (sym (append-nil (bits_of_step mid (leaf_node x y) start new))))

  pub leaf_two : (top mid : Tree) (start next : ℕ) (out1 out2 : List Bool) → levels_of old ≡ 2
      → NodeStep old 20 0 t top → Allowed old 20 0 top
      → start ≡ bound_of top 20 → NodeStep top (middle_node x y) start t mid
      → Allowed top (middle_node x y) start mid
      → next ≡ bound_of mid (middle_node x y) → NodeStep mid (leaf_node x y) next t new
      → Allowed mid (leaf_node x y) next new
      → out1 ≡ out ++ bits_of_step old 20 0 top → out2 ≡ out1
      ++ bits_of_step top (middle_node x y) start mid → out' ≡ out2
      ++ bits_of_step mid (leaf_node x y) next new
      → WritesLeaf old new out out' x y t
  leaf_two top mid start next out1 out2 e s a b r c d u w o o1 o2 =
      let whole : (p q r : List Bool) → ((out ++ p) ++ q) ++ r ≡ out ++ (p ++ (q ++ (r ++ []))) =
      λ p q r. append_assoc (out ++ p) q r ∙ append_assoc out p (q ++ r)
      ∙ ap (λ k. out ++ (p ++ (q ++ k))) (sym (append-nil r)) in
      writes_leaf old new out out' x y t (bits_of_step old 20 0 top
      ++ (bits_of_step top (middle_node x y) start mid
      ++ (bits_of_step mid (leaf_node x y) next new ++ []))) column row wide high
      (write_two old new x y t top mid start next e s a b r c d u w)
      (o2 ∙ ap (λ k. k ++ bits_of_step mid (leaf_node x y) next new) (o1
      ∙ ap (λ k. k ++ bits_of_step top (middle_node x y) start mid) o)
      ∙ whole (bits_of_step old 20 0 top) (bits_of_step top (middle_node x y) start mid)
      (bits_of_step mid (leaf_node x y) next new))

-- What a reading's code has done: the steps of the whole path, and the leaf's answer; or those up
-- to where the bits end.
abbrev pub Outcome : Tree → Tree → BitSource → BitSource → ℕ → ℕ → ℕ → Result Bool BitFault → Type 0
Outcome old new from to x y t r = MatchResult r
    (λ below. (bits : List Bool) × Steps t old 0 (path_of (levels_of old) x y) new bits
    × Took from bits to
    × (below ≡ (known_of new (leaf_node x y) && nat_lt (bound_of new (leaf_node x y)) t))
    × Reaches (known_of new (leaf_node x y)) (bound_of new (leaf_node x y)) t)
    (λ fault. Fails t old 0 (path_of (levels_of old) x y) from.ahead)

-- what a reading promises
pub record ReadsLeaf (old new : Tree) (from to : BitSource) (x y t : ℕ) (r : Result Bool BitFault) :
    Type 0 where
  pub stands : (earlier : List Writing) → Stands old earlier
      → OnOk r (Stands new (earlier ++ record { column = x; row = y; threshold = t } ∷ []))
  pub reads : (v : ℕ → ℕ) (earlier : List Writing) (rest : List Bool)
      → IsNumbering (width_of old) (height_of old) v → Stands old earlier → Allows old v
      → from.ahead ≡ bits_of_writing (levels_of old) v earlier (record {
        column = x;
        row = y;
        threshold = t;
      }) ++ rest
      → IsOkAnd r (λ below. (below ≡ nat_lt (v (leaf_node x y)) t) × (to.ahead ≡ rest)
      × Allows new v)
  pub read : (v : ℕ → ℕ) (earlier : List Writing) → IsNumbering (width_of old) (height_of old) v
      → Stands old earlier → OnOk r (Allows new v)
      → IfOk r (λ below. (below ≡ nat_lt (v (leaf_node x y)) t) × Allows old v
      × Took from (bits_of_writing (levels_of old) v earlier (record {
        column = x;
        row = y;
        threshold = t;
      })) to)

-- the result is whether the value is below the threshold
answer_is : (known : Bool) (bound value t : ℕ) → AllowsValue known bound value
    → Reaches known bound t → (known && nat_lt bound t) ≡ nat_lt value t
answer_is true bound value t a r = let e : value ≡ bound = a in ap (λ k. ltb k t) (sym e)
answer_is false bound value t a (inl r) = cc
answer_is false bound value t a (inr r) = let e : bound ≤ value = a in
    sym (le-ltb value t (omega arith))

module _ (old new : Tree) (from to : BitSource) (x y t : ℕ) (column : x < width_of old)
    (row : y < height_of old) (wide : width_of old ≤ 4) (high : height_of old ≤ 4) where
  stands_leaf : (earlier : List Writing) → Stands old earlier → (r : Result Bool BitFault)
      → Outcome old new from to x y t r
      → OnOk r (Stands new (earlier ++ record { column = x; row = y; threshold = t } ∷ []))
  stands_leaf earlier stands (Ok below) (bits, steps, took, answer, reaches) =
      stands_for old x y t column row wide high new bits earlier stands steps
  stands_leaf earlier stands (Err fault) h = tt

  back_leaf : (v : ℕ → ℕ) (earlier : List Writing) (rest : List Bool)
      → IsNumbering (width_of old) (height_of old) v → Stands old earlier → Allows old v
      → from.ahead ≡ bits_of_writing (levels_of old) v earlier (record {
        column = x;
        row = y;
        threshold = t;
      }) ++ rest
      → (r : Result Bool BitFault) → Outcome old new from to x y t r
      → IsOkAnd r (λ below. (below ≡ nat_lt (v (leaf_node x y)) t) × (to.ahead ≡ rest)
      × Allows new v)
  back_leaf v earlier rest rising stands allows ahead (Ok below) (
    bits,
    steps,
    took,
    answer,
    reaches,
  ) =
      let r = reads_for old x y t column row wide high new bits v earlier rest to.ahead rising
      stands steps allows (sym ahead ∙ took.ahead) in (
        answer ∙ answer_is (known_of new (leaf_node x y)) (bound_of new (leaf_node x y))
            (v (leaf_node x y)) t (r.0 (leaf_node x y)) reaches,
        sym r.1,
        r.0,
      )
  back_leaf v earlier rest rising stands allows ahead (Err fault) h =
      absurd (ends_for old x y t column row wide high v earlier rest from.ahead rising stands h
      allows ahead)

  read_leaf_by : (v : ℕ → ℕ) (earlier : List Writing) → IsNumbering (width_of old) (height_of old) v
      → Stands old earlier
      → (r : Result Bool BitFault) → OnOk r (Allows new v) → Outcome old new from to x y t r
      → IfOk r (λ below. (below ≡ nat_lt (v (leaf_node x y)) t) × Allows old v
      × Took from (bits_of_writing (levels_of old) v earlier (record {
        column = x;
        row = y;
        threshold = t;
      })) to)
  read_leaf_by v earlier rising stands (Ok below) allows (bits, steps, took, answer, reaches) =
      let bits_are = bits_for old x y t column row wide high new bits v earlier rising stands steps
      allows in
      let P : List Bool → Type 0 = λ b. Took from b to in (
        answer ∙ answer_is (known_of new (leaf_node x y)) (bound_of new (leaf_node x y))
            (v (leaf_node x y)) t (allows (leaf_node x y)) reaches,
        allows_before old x y t column row wide high new bits v earlier stands steps allows,
        subst P bits_are took,
      )
  read_leaf_by v earlier rising stands (Err fault) allows h = tt

  pub reads_leaf : (r : Result Bool BitFault) → Outcome old new from to x y t r
      → ReadsLeaf old new from to x y t r
  reads_leaf r h = record {
    stands = λ earlier s. stands_leaf earlier s r h;
    reads = λ v earlier rest n s a e. back_leaf v earlier rest n s a e r h;
    read = λ v earlier n s a. read_leaf_by v earlier n s r a h;
  }

took_end : (a b : BitSource) (p : List Bool) → Took a p b → Took a (p ++ []) b
took_end a b p h = rw (append-nil p) h

leaf_reaches : (old new : Tree) (node start t : ℕ) → NodeStep old node start t new
    → Reaches (known_of new node) (bound_of new node) t
leaf_reaches old new node start t step = step_reaches (max (bound_of old node) start) t
    (bound_of new node) (known_of new node) (known_of old node) step.step

-- the three ways, by the levels above the leaves
module _ (old new : Tree) (from to : BitSource) (x y t : ℕ) where
  pub outcome_zero : (r : Result Bool BitFault) → levels_of old ≡ 0
      → OnOk r (NodeStep old (leaf_node x y) 0 t new)
      → OnOk r (Took from (bits_of_step old (leaf_node x y) 0 new) to)
      → IfOk r (λ below. below ≡ (known_of new (leaf_node x y)
      && nat_lt (bound_of new (leaf_node x y)) t))
      → IfErr r (λ fault. RunsOut from.ahead (max (bound_of old (leaf_node x y)) 0) t
      (known_of old (leaf_node x y))) → Outcome old new from to x y t r
  outcome_zero (Ok below) e step took answer ends = (
    bits_of_step old (leaf_node x y) 0 new ++ [],
    read_zero old new x y t e step,
    took_end from to (bits_of_step old (leaf_node x y) 0 new) took,
    answer,
    leaf_reaches old new (leaf_node x y) 0 t step,
  )
  outcome_zero (Err fault) e step took answer ends =
      let P : List ℕ → Type 0 = λ p. Fails t old 0 p from.ahead in
      subst P (sym (path_zero (levels_of old) x y e)) (inl ends)

  pub fails_one : levels_of old ≡ 1 → RunsOut from.ahead (max (bound_of old (middle_node x y)) 0) t
      (known_of old (middle_node x y)) → Fails t old 0 (path_of (levels_of old) x y) from.ahead
  fails_one e ends = let P : List ℕ → Type 0 = λ p. Fails t old 0 p from.ahead in
      subst P (sym (path_one (levels_of old) x y e)) (inl ends)

  pub fails_two : levels_of old ≡ 2 → RunsOut from.ahead (max (bound_of old 20) 0) t
      (known_of old 20) → Fails t old 0 (path_of (levels_of old) x y) from.ahead
  fails_two e ends = let P : List ℕ → Type 0 = λ p. Fails t old 0 p from.ahead in
      subst P (sym (path_two (levels_of old) x y e)) (inl ends)

  pub fails_three : (top : Tree) (via : BitSource) (start : ℕ) → levels_of old ≡ 2
      → NodeStep old 20 0 t top → Took from (bits_of_step old 20 0 top) via
      → start ≡ bound_of top 20
      → RunsOut via.ahead (max (bound_of top (middle_node x y)) start) t
      (known_of top (middle_node x y)) → Fails t old 0 (path_of (levels_of old) x y) from.ahead
  fails_three top via start e step took is ends =
      let P : List ℕ → Type 0 = λ p. Fails t old 0 p from.ahead in
      let Q : ℕ → Type 0 = λ k. Fails t top k (middle_node x y ∷ leaf_node x y ∷ []) via.ahead in
      subst P (sym (path_two (levels_of old) x y e))
      (inr (top, via.ahead, step, took.ahead, subst Q is (inl ends)))

  pub outcome_one : (mid : Tree) (via : BitSource) (start : ℕ) (r : Result Bool BitFault)
      → levels_of old ≡ 1
      → NodeStep old (middle_node x y) 0 t mid
      → Took from (bits_of_step old (middle_node x y) 0 mid) via
      → start ≡ bound_of mid (middle_node x y)
      → OnOk r (NodeStep mid (leaf_node x y) start t new)
      → OnOk r (Took via (bits_of_step mid (leaf_node x y) start new) to)
      → IfOk r (λ below. below ≡ (known_of new (leaf_node x y)
      && nat_lt (bound_of new (leaf_node x y)) t))
      → IfErr r (λ fault. RunsOut via.ahead (max (bound_of mid (leaf_node x y)) start) t
      (known_of mid (leaf_node x y))) → Outcome old new from to x y t r
  outcome_one mid via start (Ok below) e first took1 is step took answer ends = (
    bits_of_step old (middle_node x y) 0 mid ++ (bits_of_step mid (leaf_node x y) start new ++ []),
    read_one old new x y t mid start e first is step,
    took_more from via to (bits_of_step old (middle_node x y) 0 mid)
        (bits_of_step mid (leaf_node x y) start new ++ []) took1
        (took_end via to (bits_of_step mid (leaf_node x y) start new) took),
    answer,
    leaf_reaches mid new (leaf_node x y) start t step,
  )
  outcome_one mid via start (Err fault) e first took1 is step took answer ends =
      let P : List ℕ → Type 0 = λ p. Fails t old 0 p from.ahead in
      let Q : ℕ → Type 0 = λ k. Fails t mid k (leaf_node x y ∷ []) via.ahead in
      subst P (sym (path_one (levels_of old) x y e))
      (inr (mid, via.ahead, first, took1.ahead, subst Q is (inl ends)))

  pub outcome_two : (top mid : Tree) (one two : BitSource) (start next : ℕ)
      (r : Result Bool BitFault) → levels_of old ≡ 2
      → NodeStep old 20 0 t top → Took from (bits_of_step old 20 0 top) one
      → start ≡ bound_of top 20
      → NodeStep top (middle_node x y) start t mid
      → Took one (bits_of_step top (middle_node x y) start mid) two
      → next ≡ bound_of mid (middle_node x y)
      → OnOk r (NodeStep mid (leaf_node x y) next t new)
      → OnOk r (Took two (bits_of_step mid (leaf_node x y) next new) to)
      → IfOk r (λ below. below ≡ (known_of new (leaf_node x y)
      && nat_lt (bound_of new (leaf_node x y)) t))
      → IfErr r (λ fault. RunsOut two.ahead (max (bound_of mid (leaf_node x y)) next) t
      (known_of mid (leaf_node x y))) → Outcome old new from to x y t r
  outcome_two top mid one two start next (Ok below) e s1 t1 i1 s2 t2 i2 step took answer ends = (
    bits_of_step old 20 0 top ++ (bits_of_step top (middle_node x y) start mid
        ++ (bits_of_step mid (leaf_node x y) next new ++ [])),
    read_two old new x y t top mid start next e s1 i1 s2 i2 step,
    took_more from one to (bits_of_step old 20 0 top) (bits_of_step top (middle_node x y) start mid
        ++ (bits_of_step mid (leaf_node x y) next new ++ [])) t1
        (took_more one two to (bits_of_step top (middle_node x y) start mid)
        (bits_of_step mid (leaf_node x y) next new ++ []) t2
        (took_end two to (bits_of_step mid (leaf_node x y) next new) took)),
    answer,
    leaf_reaches mid new (leaf_node x y) next t step,
  )
  outcome_two top mid one two start next (Err fault) e s1 t1 i1 s2 t2 i2 step took answer ends =
      let P : List ℕ → Type 0 = λ p. Fails t old 0 p from.ahead in
      let Q : ℕ → Type 0 = λ k. Fails t top k (middle_node x y ∷ leaf_node x y ∷ []) one.ahead in
      let R : ℕ → Type 0 = λ k. Fails t mid k (leaf_node x y ∷ []) two.ahead in
      subst P (sym (path_two (levels_of old) x y e))
      (inr (
        top,
        one.ahead,
        s1,
        t1.ahead,
        subst Q i1 (inr (mid, two.ahead, s2, t2.ahead, subst R i2 (inl ends))),
      ))
