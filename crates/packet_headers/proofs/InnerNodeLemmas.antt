-- The nodes above a band's leaves: their numbers never fall on the way down, and an entry's bits
-- are its block's.
use Rattle.std.proofs.Common.{◌≡◌, ℕ, suc, zero, ◌+◌, ◌%◌, ◌<◌, ◌≤◌, Bool, true, false, List, []}
use Rattle.std.proofs.Common.{◌++◌, length, refl, sym, ap, ◌∙◌, inl, inr, arith, eqb}
use Rattle.std.specs.Prelude.{◌⊎◌, ◌||◌, if◌then◌else◌}
use Rattle.std.proofs.lemmas.Bool.{eqb-true}
use Rattle.tag_trees.specs.TagTree.{leaf_node, middle_node, levels_above, path_of, path_bits}
use Rattle.tag_trees.specs.TagTree.{is_among, Ascends}
use Rattle.packet_headers.specs.declared.entry.Entry.{Entry}
use Rattle.packet_headers.specs.declared.writing.inner_nodes.InnerNode.{InnerNode}
use Rattle.packet_headers.specs.declared.writing.inner_nodes.Marks.{Marks}
use Rattle.packet_headers.specs.Words.{BlockWords, BandTrees, inclusion_bits, zero_plane_bits}
use Rattle.packet_headers.specs.Words.{block_bits}
use Rattle.packet_headers.specs.Written.{written_block}
use Rattle.packet_headers.specs.InsideWriting.{Includes, TopIncludes, TopLeast, MiddleIncludes}
use Rattle.packet_headers.specs.InsideWriting.{MiddleLeast, kept_of, mark_of, entry_list}
use Rattle.packet_headers.specs.InsideWriting.{inclusion_thresholds, zero_plane_thresholds}
use Rattle.packet_headers.specs.InsideWriting.{InnerNodesStand, MarksStand}
use Rattle.packet_headers.proofs.BlockLemmas.{AtPlace}
use Rattle.packet_headers.proofs.NodePaths.{inclusion_path, zero_path}

-- where a node includes a block, so does the one above it
includes_up : (a b : Bool) (v w : ℕ) → Includes a v → Includes b w → v ≤ w → b ≡ true → a ≡ true
includes_up true b v w h k l e = refl
includes_up false true v w h k l e = absurd (omega arith)
includes_up false false v w h k l e = e

-- what is kept of the nodes on an entry's path
pub record Rises (levels x y : ℕ) (zero_planes : ℕ → ℕ) (top middle : InnerNode) (entry : Entry) :
    Type 0 where
  pub top_if : middle.included ≡ true → top.included ≡ true
  pub middle_if : entry.included ≡ true → middle.included ≡ true
  pub top_le : top.zero_planes ≤ middle.zero_planes
  pub middle_le : entry.included ≡ true → middle.zero_planes ≤ entry.zero_planes
  pub below : entry.included ≡ true → (n : ℕ) → is_among (path_of levels x y) n ≡ true
      → zero_planes n < entry.zero_planes + 1

or_split : (a b : Bool) → (a || b) ≡ true → (a ≡ true) ⊎ (b ≡ true)
or_split true b h = inl refl
or_split false b h = inr h

-- one node more on a path whose nodes are below this
one_below : (v : ℕ → ℕ) (n m t : ℕ) (rest : Bool) → v m < t → (rest ≡ true → v n < t)
    → (eqb m n || rest) ≡ true → v n < t
one_below v n m t rest h k e = elim (or_split (eqb m n) rest e) [
  | inl a ↦ rw (sym (eqb-true m n a)) h
  | inr b ↦ k b
]

none_below : (v : ℕ → ℕ) (n t : ℕ) → false ≡ true → v n < t
none_below v n t h = absurd (cc)

pub rises : (levels x y p : ℕ) (v z : ℕ → ℕ) (top middle : InnerNode) (entry : Entry)
    → middle_node x y ≡ 16 + p → Ascends v (path_of levels x y) → Ascends z (path_of levels x y)
    → TopIncludes levels v top.included → TopLeast levels z top.zero_planes
    → MiddleIncludes levels v p middle.included → MiddleLeast levels z p middle.zero_planes
    → Includes entry.included (v (leaf_node x y)) → (entry.included ≡ true
    → z (leaf_node x y) ≡ entry.zero_planes)
    → Rises levels x y z top middle entry
unfolding path_of
rises zero x y p v z top middle entry m a b ti tl mi ml i l = record {
  top_if = λ k. ti;
  middle_if = λ k. mi;
  top_le = omega arith;
  middle_le = λ k. omega arith;
  below = λ k n. (let e = l k in one_below z n (leaf_node x y) (entry.zero_planes + 1) false
      (omega arith) (none_below z n (entry.zero_planes + 1)));
}
rises (suc zero) x y p v z top middle entry m a b ti tl mi ml i l =
    let up : v (16 + p) ≤ v (leaf_node x y) = rw m at a.0 in
    let down : z (16 + p) ≤ z (leaf_node x y) = rw m at b.0 in
    record {
      top_if = λ k. ti;
      middle_if = includes_up middle.included entry.included (v (16 + p)) (v (leaf_node x y)) mi i
          up;
      top_le = omega arith;
      middle_le = λ k. (let e = l k in omega arith);
      below = λ k n. (let e = l k in
          rw m (one_below z n (16 + p) (entry.zero_planes + 1) (eqb (leaf_node x y) n || false)
          (omega arith)
          (one_below z n (leaf_node x y) (entry.zero_planes + 1) false (omega arith)
          (none_below z n (entry.zero_planes + 1)))));
    }
rises (suc (suc levels)) x y p v z top middle entry m a b ti tl mi ml i l =
    let over : v 20 ≤ v (16 + p) = rw m at a.0 in
    let up : v (16 + p) ≤ v (leaf_node x y) = rw m at a.1.0 in
    let under : z 20 ≤ z (16 + p) = rw m at b.0 in
    let down : z (16 + p) ≤ z (leaf_node x y) = rw m at b.1.0 in
    record {
      top_if = includes_up top.included middle.included (v 20) (v (16 + p)) ti mi over;
      middle_if = includes_up middle.included entry.included (v (16 + p)) (v (leaf_node x y)) mi i
          up;
      top_le = omega arith;
      middle_le = λ k. (let e = l k in omega arith);
      below = λ k n. (let e = l k in
          rw m (one_below z n 20 (entry.zero_planes + 1) (eqb (16 + p) n
          || (eqb (leaf_node x y) n || false)) (omega arith)
          (one_below z n (16 + p) (entry.zero_planes + 1) (eqb (leaf_node x y) n || false)
          (omega arith)
          (one_below z n (leaf_node x y) (entry.zero_planes + 1) false (omega arith)
          (none_below z n (entry.zero_planes + 1))))));
    }

-- the bits of the block at a place
inclusion_bits_are : (words : BandTrees) (before : List BlockWords) (x y : ℕ)
    → AtPlace words before x y
    → path_bits words.inclusion (inclusion_thresholds words before) 1 0
    (path_of (levels_above words.width words.height) x y) ≡ inclusion_bits words before
unfolding inclusion_bits
inclusion_bits_are words before x y at =
    ap (λ k. path_bits words.inclusion (inclusion_thresholds words before) 1 0
    (path_of (levels_above words.width words.height) k y)) at.column
    ∙ ap (λ k. path_bits words.inclusion (inclusion_thresholds words before) 1 0
    (path_of (levels_above words.width words.height) (length before % words.width) k)) at.row

zero_plane_bits_are : (words : BandTrees) (before : List BlockWords) (x y t : ℕ)
    → AtPlace words before x y
    → path_bits words.zero_planes (zero_plane_thresholds words before) t 0
    (path_of (levels_above words.width words.height) x y) ≡ zero_plane_bits words before t
unfolding zero_plane_bits
zero_plane_bits_are words before x y t at =
    ap (λ k. path_bits words.zero_planes (zero_plane_thresholds words before) t 0
    (path_of (levels_above words.width words.height) k y)) at.column
    ∙ ap (λ k. path_bits words.zero_planes (zero_plane_thresholds words before) t 0
    (path_of (levels_above words.width words.height) (length before % words.width) k)) at.row

block_join : (words : BandTrees) (before : List BlockWords) (entry : Entry)
    (one two three : List Bool) → one ≡ inclusion_bits words before
    → (entry.included ≡ true → two ≡ zero_plane_bits words before (entry.zero_planes + 1))
    → (b : Bool) → entry.included ≡ b
    → one ++ (if b then two ++ three else []) ≡ inclusion_bits words before
    ++ (if b then zero_plane_bits words before (entry.zero_planes + 1) ++ three else [])
block_join words before entry one two three o t true e = ap (λ r. r ++ (two ++ three)) o
    ∙ ap (λ r. inclusion_bits words before ++ (r ++ three)) (t e)
block_join words before entry one two three o t false e = ap (λ r. r ++ []) o

pub entry_bits : (words : BandTrees) (before : List BlockWords) (entry : Entry) (x y p : ℕ)
    (top : InnerNode) (middle : List InnerNode) (inclusion zero_planes : Marks)
    → middle_node x y ≡ 16 + p → p < 4 → AtPlace words before x y → InnerNodesStand words top middle
    → MarksStand words before inclusion zero_planes
    → Rises (levels_above words.width words.height) x y words.zero_planes top (kept_of middle p)
    entry
    → Includes entry.included (words.inclusion (leaf_node x y))
    → (entry.included ≡ true → words.zero_planes (leaf_node x y) ≡ entry.zero_planes)
    → inclusion_thresholds words before (leaf_node x y) ≡ 0
    → zero_plane_thresholds words before (leaf_node x y) ≡ 0
    → entry_list inclusion zero_planes p top (kept_of middle p) entry
    ≡ block_bits words before (written_block entry)
entry_bits words before entry x y p top middle inclusion zero_planes m hp at inner_nodes marks r i l
    fresh zero_fresh =
    let levels = levels_above words.width words.height in
    let one = inclusion_path (levels_above words.width words.height) x y words.inclusion
    (inclusion_thresholds words before) p top.included inclusion.top (kept_of middle p).included
    (mark_of inclusion p) entry.included
    m inner_nodes.top_includes marks.top_inclusion (inner_nodes.middle_includes p hp)
    (marks.middle_inclusion p hp) i fresh r.top_if r.middle_if in
    block_join words before entry _ _ _ (sym one ∙ inclusion_bits_are words before x y at)
    (λ e. sym (zero_path (levels_above words.width words.height) x y words.zero_planes
    (zero_plane_thresholds words before) p top.zero_planes (kept_of middle p).zero_planes
    entry.zero_planes zero_planes.top (mark_of zero_planes p)
    m inner_nodes.top_least marks.top_zero_planes (inner_nodes.middle_least p hp)
    (marks.middle_zero_planes p hp) (l e) zero_fresh r.top_le (r.middle_le e))
    ∙ zero_plane_bits_are words before x y (entry.zero_planes + 1) at)
    entry.included refl
