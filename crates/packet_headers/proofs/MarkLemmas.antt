-- What the marks of a band stand for, a block further.
use Rattle.std.proofs.Common.{◌≡◌, ℕ, suc, zero, ◌+◌, ◌*◌, ◌/◌, ◌%◌, ◌<◌, ◌≤◌, Bool, true, false}
use Rattle.std.proofs.Common.{List, [], ◌∷◌, ◌++◌, length, refl, sym, ap, ◌∙◌, inl, inr, arith, eqb}
use Rattle.std.specs.Prelude.{◌==◌, ◌||◌, max, if◌then◌else◌}
use Rattle.std.proofs.lemmas.Bool.{cases_eq, eq-eqb, ne_eqb, eqb-true}
use Rattle.std.proofs.lemmas.List.{append-nil}
use Rattle.bit_stuffing.specs.Bits.{bit_value}
use Rattle.tag_trees.specs.TagTree.{Writing, leaf_node, middle_node, levels_above, path_of}
use Rattle.tag_trees.specs.TagTree.{is_among, largest}
use Rattle.tag_trees.proofs.TreePaths.{largest_push}
use Rattle.tag_trees.proofs.LeastLemmas.{small_column}
use Rattle.tag_trees.proofs.ReaderLemmas.{leaf_apart}
use Rattle.packet_headers.specs.declared.entry.Entry.{Entry}
use Rattle.packet_headers.specs.declared.writing.inner_nodes.Marks.{Marks}
use Rattle.packet_headers.specs.Words.{BlockWords, BandTrees, leaf_writing, inclusion_writings}
use Rattle.packet_headers.specs.Words.{zero_plane_writings}
use Rattle.packet_headers.specs.Written.{written_block}
use Rattle.packet_headers.specs.InsideWriting.{IsPastValue, TopInclusion, TopZeroPlanes}
use Rattle.packet_headers.specs.InsideWriting.{MiddleInclusion, MiddleZeroPlanes, mark_of, Marked}
use Rattle.packet_headers.specs.InsideWriting.{MarkedIf, inclusion_thresholds}
use Rattle.packet_headers.specs.InsideWriting.{zero_plane_thresholds, MarksStand, TopFirst}
use Rattle.packet_headers.specs.InsideWriting.{InclusionFirst}
use Rattle.packet_headers.proofs.BlockLemmas.{AtPlace, inclusion_writings-push}
use Rattle.packet_headers.proofs.BlockLemmas.{zero_plane_writings-push, at_place}

-- which middle node is on the path of a leaf of a quarter
same_quarter : (n p q : ℕ) → n ≡ 16 + p → eqb n (16 + q) ≡ (p == q)
same_quarter n p q e = elim (cases_eq p q) [
  | inl h ↦ eq-eqb n (16 + q) (omega arith) ∙ sym (eq-eqb p q h)
  | inr h ↦ ne_eqb n (16 + q) (λ k. h (omega arith)) ∙ sym (ne_eqb p q h)
]

or_nothing : (a b : Bool) → b ≡ false → (a || (b || false)) ≡ a
or_nothing true b h = refl
or_nothing false b h = rw h refl

pub among_quarter : (levels x y p q : ℕ) → x ≤ 3 → y ≤ 3 → q < 4 → middle_node x y ≡ 16 + p
    → is_among (path_of (suc levels) x y) (16 + q) ≡ (p == q)
unfolding path_of
among_quarter zero x y p q hx hy hq e =
    let leaf : eqb (leaf_node x y) (16 + q) ≡ false =
    ne_eqb (leaf_node x y) (16 + q) (λ k. omega arith) in
    or_nothing (eqb (middle_node x y) (16 + q)) (eqb (leaf_node x y) (16 + q)) leaf
    ∙ same_quarter (middle_node x y) p q e
among_quarter (suc levels) x y p q hx hy hq e =
    let top : eqb 20 (16 + q) ≡ false = ne_eqb 20 (16 + q) (λ k. omega arith) in
    let leaf : eqb (leaf_node x y) (16 + q) ≡ false =
    ne_eqb (leaf_node x y) (16 + q) (λ k. omega arith) in
    rw top (or_nothing (eqb (middle_node x y) (16 + q)) (eqb (leaf_node x y) (16 + q)) leaf
    ∙ same_quarter (middle_node x y) p q e)

pub among_top : (levels x y : ℕ) → is_among (path_of (suc (suc levels)) x y) 20 ≡ true
unfolding path_of
among_top levels x y = refl

pub or_none : (a b : Bool) → (a || b) ≡ false → (a ≡ false) × (b ≡ false)
or_none true b h = absurd (cc)
or_none false b h = (refl, h)

-- the paths of smaller trees have fewer nodes
fewer_levels : (levels x y n : ℕ) → is_among (path_of 2 x y) n ≡ false
    → is_among (path_of levels x y) n ≡ false
unfolding path_of
fewer_levels zero x y n h =
    let a = or_none (eqb 20 n) (eqb (middle_node x y) n || (eqb (leaf_node x y) n || false)) h in
    let b = or_none (eqb (middle_node x y) n) (eqb (leaf_node x y) n || false) a.1 in b.1
fewer_levels (suc zero) x y n h =
    (or_none (eqb 20 n) (eqb (middle_node x y) n || (eqb (leaf_node x y) n || false)) h).1
fewer_levels (suc (suc levels)) x y n h = h

-- the leaf of a later block has had no writing
pub fresh_inclusion : (levels width place x y : ℕ) (before : List BlockWords) → width ≤ 4
    → x < width → y ≤ 3 → place + length before ≤ y * width + x
    → largest levels (inclusion_writings width place before) (leaf_node x y) ≡ 0
unfolding largest inclusion_writings
fresh_inclusion levels width place x y [] w hx hy h = refl
fresh_inclusion levels width place x y (b ∷ before) w hx hy h =
    let a = fewer_levels levels (place % width) (place / width) (leaf_node x y)
    (leaf_apart width place x y (small_column width place (omega arith) w) (omega arith) hy
    (λ k. omega arith)) in
    rw a (fresh_inclusion levels width (place + 1) x y before w hx hy (omega arith))

none_yet : (levels n : ℕ) → largest levels [] n ≡ 0
unfolding largest
none_yet levels n = refl

fresh_more : (levels width place x y threshold : ℕ) (included : Bool) (more : List Writing)
    → width ≤ 4 → x < width → y ≤ 3 → place < y * width + x
    → largest levels more (leaf_node x y) ≡ 0
    → largest levels ((if included then leaf_writing width place threshold ∷ [] else [])
    ++ more) (leaf_node x y) ≡ 0
unfolding largest
fresh_more levels width place x y threshold true more w hx hy h e =
    let a = fewer_levels levels (place % width) (place / width) (leaf_node x y)
    (leaf_apart width place x y (small_column width place (omega arith) w) (omega arith) hy
    (λ k. omega arith)) in
    rw a e
fresh_more levels width place x y threshold false more w hx hy h e = e

pub fresh_zero_planes : (levels width place x y : ℕ) (before : List BlockWords) → width ≤ 4
    → x < width → y ≤ 3 → place + length before ≤ y * width + x
    → largest levels (zero_plane_writings width place before) (leaf_node x y) ≡ 0
unfolding zero_plane_writings
fresh_zero_planes levels width place x y [] w hx hy h = none_yet levels (leaf_node x y)
fresh_zero_planes levels width place x y (b ∷ before) w hx hy h =
    fresh_more levels width place x y (b.entry.zero_planes + 1) b.entry.included
    (zero_plane_writings width (place + 1) before) w hx hy (omega arith)
    (fresh_zero_planes levels width (place + 1) x y before w hx hy (omega arith))

-- the writings of one block more
pub inclusion_thresholds-push : (words : BandTrees) (before : List BlockWords) (entry : Entry)
    (x y n : ℕ) → AtPlace words before x y
    → inclusion_thresholds words (before ++ written_block entry ∷ []) n
    ≡ (if is_among (path_of (levels_above words.width words.height) x y) n
    then max (inclusion_thresholds words before n) 1 else inclusion_thresholds words before n)
inclusion_thresholds-push words before entry x y n at =
    let levels = levels_above words.width words.height in
    let earlier = inclusion_writings words.width 0 before in
    ap (λ h. largest (levels_above words.width words.height) h n)
    (inclusion_writings-push words.width 0 before (written_block entry)
    ∙ ap (λ w. inclusion_writings words.width 0 before ++ w ∷ []) (at_place words before x y 1 at))
    ∙ largest_push levels earlier (record { column = x; row = y; threshold = 1 }) n

pub zero_plane_thresholds-push : (words : BandTrees) (before : List BlockWords) (entry : Entry)
    (x y n : ℕ) → AtPlace words before x y → entry.included ≡ true
    → zero_plane_thresholds words (before ++ written_block entry ∷ []) n
    ≡ (if is_among (path_of (levels_above words.width words.height) x y) n
    then max (zero_plane_thresholds words before n) (entry.zero_planes + 1)
    else zero_plane_thresholds words before n)
zero_plane_thresholds-push words before entry x y n at e =
    let levels = levels_above words.width words.height in
    let earlier = zero_plane_writings words.width 0 before in
    let own : (if entry.included then leaf_writing words.width (0 + length before)
    (entry.zero_planes + 1) ∷ [] else [])
    ≡ record { column = x; row = y; threshold = entry.zero_planes + 1 } ∷ [] =
    rw e (ap (λ w. w ∷ []) (at_place words before x y (entry.zero_planes + 1) at)) in
    ap (λ h. largest (levels_above words.width words.height) h n)
    (zero_plane_writings-push words.width 0 before (written_block entry)
    ∙ ap (λ w. zero_plane_writings words.width 0 before ++ w) own)
    ∙ largest_push levels earlier (record {
      column = x;
      row = y;
      threshold =
          entry.zero_planes + 1;
    }) n

pub zero_plane_thresholds-same : (words : BandTrees) (before : List BlockWords) (entry : Entry)
    (n : ℕ) → entry.included ≡ false
    → zero_plane_thresholds words (before ++ written_block entry ∷ []) n
    ≡ zero_plane_thresholds words before n
zero_plane_thresholds-same words before entry n e =
    ap (λ h. largest (levels_above words.width words.height) h n)
    (zero_plane_writings-push words.width 0 before (written_block entry)
    ∙ rw e (append-nil (zero_plane_writings words.width 0 before)))

-- the marks, a writing further
one_most : (b : Bool) → max (bit_value b) 1 ≡ 1
one_most true = refl
one_most false = refl

same_if : (b : Bool) → (if b then true else true) ≡ true
same_if true = refl
same_if false = refl

one_if : (b old : Bool) → (if b then max (bit_value old) 1 else bit_value old)
    ≡ bit_value (if b then true else old)
one_if true old = one_most old
one_if false old = refl

beyond_if : (b old : Bool) (v s t : ℕ) → (b ≡ true → v < t) → IsPastValue old v s
    → IsPastValue (if b then true else old) v (if b then max s t else s)
beyond_if true old v s t h k = let l = h refl in omega arith
beyond_if false old v s t h k = k

top_same : (levels : ℕ) (v s s' : ℕ → ℕ) (old : Bool) → s' 20 ≡ s 20 → TopZeroPlanes levels v s old
    → TopZeroPlanes levels v s' old
top_same zero v s s' old e h = h
top_same (suc zero) v s s' old e h = h
top_same (suc (suc levels)) v s s' old e h = rw e h

middle_same : (levels q : ℕ) (v s s' : ℕ → ℕ) (old : Bool) → s' (16 + q) ≡ s (16 + q)
    → MiddleZeroPlanes levels v s q old → MiddleZeroPlanes levels v s' q old
middle_same zero q v s s' old e h = h
middle_same (suc levels) q v s s' old e h = rw e h

top_inclusion : (levels x y : ℕ) (s s' : ℕ → ℕ) (old new : Bool)
    → ((n : ℕ) → s' n ≡ (if is_among (path_of levels x y) n then max (s n) 1 else s n))
    → TopInclusion levels s old → new ≡ true → TopInclusion levels s' new
top_inclusion zero x y s s' old new e h n = n
top_inclusion (suc zero) x y s s' old new e h n = n
top_inclusion (suc (suc levels)) x y s s' old new e h n =
    rw (n, e 20, among_top levels x y, h) (one_most old)

middle_inclusion : (levels x y p q : ℕ) (s s' : ℕ → ℕ) (old new : Bool) → x ≤ 3 → y ≤ 3 → q < 4
    → middle_node x y ≡ 16 + p
    → ((n : ℕ) → s' n ≡ (if is_among (path_of levels x y) n then max (s n) 1 else s n))
    → MiddleInclusion levels s q old → new ≡ (if p == q then true else old)
    → MiddleInclusion levels s' q new
middle_inclusion zero x y p q s s' old new hx hy hq m e h n = n ∙ rw h (same_if (p == q))
middle_inclusion (suc levels) x y p q s s' old new hx hy hq m e h n =
    rw (n, e (16 + q), among_quarter levels x y p q hx hy hq m, h) (one_if (p == q) old)

top_zero_planes : (levels x y t : ℕ) (v s s' : ℕ → ℕ) (old new : Bool)
    → ((n : ℕ) → s' n ≡ (if is_among (path_of levels x y) n then max (s n) t else s n))
    → ((n : ℕ) → is_among (path_of levels x y) n ≡ true → v n < t) → TopZeroPlanes levels v s old
    → new ≡ true → TopZeroPlanes levels v s' new
top_zero_planes zero x y t v s s' old new e b h n = n
top_zero_planes (suc zero) x y t v s s' old new e b h n = n
top_zero_planes (suc (suc levels)) x y t v s s' old new e b h n =
    rw (n, e 20, among_top levels x y) (let l = b 20 (among_top levels x y) in omega arith)

middle_zero_planes : (levels x y t p q : ℕ) (v s s' : ℕ → ℕ) (old new : Bool) → x ≤ 3 → y ≤ 3
    → q < 4 → middle_node x y ≡ 16 + p
    → ((n : ℕ) → s' n ≡ (if is_among (path_of levels x y) n then max (s n) t else s n))
    → ((n : ℕ) → is_among (path_of levels x y) n ≡ true → v n < t)
    → MiddleZeroPlanes levels v s q old → new ≡ (if p == q then true else old)
    → MiddleZeroPlanes levels v s' q new
middle_zero_planes zero x y t p q v s s' old new hx hy hq m e b h n = n ∙ rw h (same_if (p == q))
middle_zero_planes (suc levels) x y t p q v s s' old new hx hy hq m e b h n =
    let among = among_quarter levels x y p q hx hy hq m in
    rw (n, e (16 + q), among) (beyond_if (p == q) old (v (16 + q)) (s (16 + q)) t
    (λ k. b (16 + q) (among ∙ k)) h)

module _ (words : BandTrees) (before : List BlockWords) (entry : Entry) (x y p : ℕ) (hx : x ≤ 3)
    (hy : y ≤ 3) (m : middle_node x y ≡ 16 + p) (at : AtPlace words before x y)
    (below : entry.included ≡ true → (n : ℕ)
    → is_among (path_of (levels_above words.width words.height) x y) n ≡ true
    → words.zero_planes n < entry.zero_planes + 1) where
  beyond_top : (old new : Marks) (b : Bool) → entry.included ≡ b → MarkedIf b old p new
      → TopZeroPlanes (levels_above words.width words.height) words.zero_planes
      (zero_plane_thresholds words before) old.top
      → TopZeroPlanes (levels_above words.width words.height) words.zero_planes
      (zero_plane_thresholds words (before ++ written_block entry ∷ [])) new.top
  beyond_top old new true e marked h =
      top_zero_planes (levels_above words.width words.height) x y (entry.zero_planes + 1)
      words.zero_planes (zero_plane_thresholds words before)
      (zero_plane_thresholds words (before ++ written_block entry ∷ []))
      old.top new.top (λ n. zero_plane_thresholds-push words before entry x y n at e) (below e) h
      marked.top
  beyond_top old new false e marked h =
      rw marked (top_same (levels_above words.width words.height) words.zero_planes
      (zero_plane_thresholds words before) (zero_plane_thresholds words (before
      ++ written_block entry ∷ [])) old.top
      (zero_plane_thresholds-same words before entry 20 e) h)

  beyond_middle : (old new : Marks) (b : Bool) (q : ℕ) → q < 4 → entry.included ≡ b
      → MarkedIf b old p new
      → MiddleZeroPlanes (levels_above words.width words.height) words.zero_planes
      (zero_plane_thresholds words before) q (mark_of old q)
      → MiddleZeroPlanes (levels_above words.width words.height) words.zero_planes
      (zero_plane_thresholds words (before ++ written_block entry ∷ [])) q (mark_of new q)
  beyond_middle old new true q hq e marked h =
      middle_zero_planes (levels_above words.width words.height) x y (entry.zero_planes + 1) p q
      words.zero_planes (zero_plane_thresholds words before)
      (zero_plane_thresholds words (before ++ written_block entry ∷ [])) (mark_of old q)
      (mark_of new q) hx hy hq m
      (λ n. zero_plane_thresholds-push words before entry x y n at e) (below e) h
      (marked.middle q hq)
  beyond_middle old new false q hq e marked h =
      rw marked (middle_same (levels_above words.width words.height) q words.zero_planes
      (zero_plane_thresholds words before) (zero_plane_thresholds words (before
      ++ written_block entry ∷ []))
      (mark_of old q) (zero_plane_thresholds-same words before entry (16 + q) e) h)

  pub marks_further : (inclusion zero_planes inclusion' zero_planes' : Marks)
      → MarksStand words before inclusion zero_planes → Marked inclusion p inclusion'
      → MarkedIf entry.included zero_planes p zero_planes'
      → MarksStand words (before ++ written_block entry ∷ []) inclusion' zero_planes'
  marks_further inclusion zero_planes inclusion' zero_planes' s v b = record {
    top_inclusion = top_inclusion (levels_above words.width words.height) x y
        (inclusion_thresholds words before) (inclusion_thresholds words (before
        ++ written_block entry ∷ [])) inclusion.top inclusion'.top
        (λ n. inclusion_thresholds-push words before entry x y n at) s.top_inclusion v.top;
    top_zero_planes = beyond_top zero_planes zero_planes' entry.included refl b s.top_zero_planes;
    middle_inclusion = λ q hq. middle_inclusion (levels_above words.width words.height) x y p q
        (inclusion_thresholds words before) (inclusion_thresholds words (before
        ++ written_block entry ∷ []))
        (mark_of inclusion q) (mark_of inclusion' q) hx hy hq m (λ n.
        inclusion_thresholds-push words before entry x y n at) (s.middle_inclusion q hq)
        (v.middle q hq);
    middle_zero_planes = λ q hq. beyond_middle zero_planes zero_planes' entry.included q hq refl b
        (s.middle_zero_planes q hq);
  }

pub order_kept : (b : Bool) (old new : Marks) (p : ℕ) → MarkedIf b old p new → TopFirst old
    → TopFirst new
order_kept true old new p m o = λ q h k. m.top
order_kept false old new p m o = rw m o

-- an included block is marked in both trees
seen_if : (b s t : Bool) → (t ≡ true → s ≡ true) → (if b then true else t) ≡ true
    → (if b then true else s) ≡ true
seen_if true s t h m = refl
seen_if false s t h m = h m

seen_more : (b s : Bool) → s ≡ true → (if b then true else s) ≡ true
seen_more true s h = refl
seen_more false s h = h

pub seen_kept : (b : Bool) (p : ℕ) (inclusion inclusion' zero_planes zero_planes' : Marks)
    → Marked inclusion p inclusion' → MarkedIf b zero_planes p zero_planes'
    → InclusionFirst inclusion zero_planes → InclusionFirst inclusion' zero_planes'
seen_kept true p inclusion inclusion' zero_planes zero_planes' v m o = λ q h k. v.middle q h
    ∙ seen_if (p == q) (mark_of inclusion q) (mark_of zero_planes q) (o q h) (sym (m.middle q h)
    ∙ k)
seen_kept false p inclusion inclusion' zero_planes zero_planes' v m o = λ q h k. v.middle q h
    ∙ seen_more (p == q) (mark_of inclusion q) (o q h (sym (ap (λ r. mark_of r q) m) ∙ k))

-- where the nodes above a quarter are marked, nothing changes
same_mark : (p n : ℕ) (b s : Bool) → (p ≡ n → s ≡ true) → (p == n) ≡ b → s ≡ (if b then true else s)
same_mark p n true s h e = h (eqb-true p n e)
same_mark p n false s h e = refl

pub marked_before : (marks : Marks) (p : ℕ) → marks.top ≡ true → mark_of marks p ≡ true
    → Marked marks p marks
marked_before marks p t m = record {
  top = t;
  middle = λ n h. same_mark p n (p == n) (mark_of marks n) (λ e. sym (ap (λ r. mark_of marks r) e)
      ∙ m) refl;
}
