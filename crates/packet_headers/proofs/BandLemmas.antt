-- What is kept of a band, entry by entry.
use Rattle.std.proofs.Common.{◌≡◌, ℕ, suc, zero, ◌+◌, ◌*◌, ◌/◌, ◌%◌, ◌<◌, ◌≤◌, min, Bool, true}
use Rattle.std.proofs.Common.{false, List, [], ◌∷◌, ◌++◌, length, map, take, get_or, refl, sym, ap}
use Rattle.std.proofs.Common.{◌∙◌, inl, inr, arith, leb, ltb, length-take, take_all}
use Rattle.std.specs.Prelude.{All, ◌==◌, if◌then◌else◌, slice_set, max}
use Rattle.std.proofs.lemmas.List.{take_more, map_push, length-map, get_or-map, get_or-set_same}
use Rattle.std.proofs.lemmas.List.{get_or-set_other}
use Rattle.std.proofs.lemmas.Bool.{cases_eq, eq-eqb, ne_eqb, le-leb, lt-leb, leb-true, lt-ltb}
use Rattle.std.proofs.lemmas.Bool.{le-ltb, ltb-true, ltb-false, cases_lt}
use Rattle.std.proofs.Math.Nat.{mod-lt, div-lt_iff_lt-mul, mul_comm}
use Rattle.std.proofs.lemmas.Nat.{div-add-mod'}
use Rattle.tag_trees.specs.TagTree.{middle_node, path_of, is_among, least, least_from, levels_above}
use Rattle.tag_trees.specs.TagTree.{largest}
use Rattle.tag_trees.proofs.LeastLemmas.{least_push}
use Rattle.packet_headers.specs.declared.entry.Entry.{Entry}
use Rattle.packet_headers.specs.declared.writing.inner_nodes.Marks.{Marks}
use Rattle.packet_headers.specs.declared.packet.PacketBand.{PacketBand}
use Rattle.packet_headers.specs.Words.{inclusion_writings, zero_plane_writings}
use Rattle.packet_headers.specs.Written.{inclusion_value, zero_plane_value, written_trees}
use Rattle.packet_headers.specs.Written.{CanWriteEntry, CanWriteBand}
use Rattle.packet_headers.specs.InsideWriting.{Includes, inner_node_at, kept_of, mark_of}
use Rattle.packet_headers.specs.InsideWriting.{InnerNodesStand, MarksStand, TopFirst}
use Rattle.packet_headers.proofs.MarkLemmas.{among_quarter, among_top}

-- of the middle nodes the least zero planes of these entries are kept
pub record LeastSoFar (width planes : ℕ) (entries : List Entry) (middle : List ℕ) : Type 0 where
  pub kept : (q : ℕ) → q < 4 → get_or middle q 0 ≡ least width
      (map (zero_plane_value planes) entries) (16 + q)

-- the least number with one entry more
least_one : (width : ℕ) (f : Entry → ℕ) (entries : List Entry) (entry : Entry) (x y n : ℕ)
    → x ≡ length entries % width → y ≡ length entries / width
    → least width (map f (entries ++ entry ∷ [])) n
    ≡ (if is_among (path_of 2 x y) n then min (f entry) (least width (map f entries) n)
    else least width (map f entries) n)
least_one width f entries entry x y n ex ey =
    let l : 0 + length (map f entries) ≡ length entries = omega (arith, length-map entries f) in
    ap (λ vs. least width vs n) (map_push f entries entry)
    ∙ least_push width 0 (map f entries) (f entry) n
    ∙ rw (l, ex, ey) refl

four_same : (n q : ℕ) → q < 4 → get_or (n ∷ n ∷ n ∷ n ∷ []) q 0 ≡ n
four_same n zero h = refl
four_same n (suc zero) h = refl
four_same n (suc (suc zero)) h = refl
four_same n (suc (suc (suc zero))) h = refl
four_same n (suc (suc (suc (suc q)))) h = absurd (omega arith)

pub least_none : (width planes : ℕ) → LeastSoFar width planes [] (255 ∷ 255 ∷ 255 ∷ 255 ∷ [])
unfolding least_from
least_none width planes = record { kept = λ q h. four_same 255 q h }

pub least_more : (width planes : ℕ) (entries : List Entry) (entry : Entry) (x y p : ℕ)
    (middle : List ℕ) (own : ℕ)
    → x ≡ length entries % width → y ≡ length entries / width → x ≤ 3 → y ≤ 3 → p < 4
    → length middle ≡ 4 → middle_node x y ≡ 16 + p
    → LeastSoFar width planes entries middle
    → own ≡ min (zero_plane_value planes entry) (get_or middle p 0)
    → LeastSoFar width planes (entries ++ entry ∷ []) (slice_set middle p own)
least_more width planes entries entry x y p middle own ex ey hx hy hp l m k o = record {
  kept = λ q hq. elim (cases_eq p q) [
    | inl e ↦
        let own_is : get_or (slice_set middle p own) q 0 ≡ own =
        sym (ap (λ r. get_or (slice_set middle p own) r 0) e)
        ∙ get_or-set_same middle p own _ (omega arith) in
        let among = among_quarter 1 x y p q hx hy hq m ∙ eq-eqb p q e in
        rw (
          own_is,
          least_one width (zero_plane_value planes) entries entry x y (16 + q) ex ey,
          among,
        )
        (o ∙ ap (λ r. min (zero_plane_value planes entry) (get_or middle r 0)) e
        ∙ ap (λ r. min (zero_plane_value planes entry) r) (k.kept q hq))
    | inr ne ↦
        let other : get_or (slice_set middle p own) q 0 ≡ get_or middle q 0 =
        get_or-set_other middle p q own _ (λ k. ne (sym k)) in
        let among = among_quarter 1 x y p q hx hy hq m ∙ ne_eqb p q ne in
        rw (
          other,
          least_one width (zero_plane_value planes) entries entry x y (16 + q) ex ey,
          among,
        ) (k.kept q hq)
  ];
}

-- a node includes a block where its least zero planes are fewer than the planes
fewer_min : (planes rest v : ℕ) (b : Bool) → ltb rest planes ≡ b → Includes b v
    → Includes (ltb (min planes rest) planes) (min 1 v)
fewer_min planes rest v true e h =
    let r : rest < planes = ltb-true rest planes e in
    let k : ltb (min planes rest) planes ≡ true = lt-ltb (min planes rest) planes (omega arith) in
    rw k (omega arith)
fewer_min planes rest v false e h =
    let r : planes ≤ rest = ltb-false rest planes e in
    let k : ltb (min planes rest) planes ≡ false = le-ltb (min planes rest) planes (omega arith) in
    rw k (omega arith)

includes_entry : (planes rest v : ℕ) (entry : Entry) (b : Bool) → entry.included ≡ b
    → CanWriteEntry planes entry → Includes (ltb rest planes) v
    → Includes (ltb (min (zero_plane_value planes entry) rest) planes)
    (min (inclusion_value entry) v)
includes_entry planes rest v entry true e c h =
    let z : entry.zero_planes < planes = (c e).fewer in
    let k : ltb (min entry.zero_planes rest) planes ≡ true =
    lt-ltb (min entry.zero_planes rest) planes (omega arith) in
    rw (e, k) (omega arith)
includes_entry planes rest v entry false e c h =
    rw e (fewer_min planes rest v (ltb rest planes) refl h)

includes_if : (b : Bool) (planes one rest v w : ℕ) → Includes (ltb one planes) v
    → Includes (ltb rest planes) w → Includes (ltb (if b then one else rest) planes)
    (if b then v else w)
includes_if true planes one rest v w h k = h
includes_if false planes one rest v w h k = k

includes_least : (width planes place : ℕ) (entries : List Entry) (n : ℕ) → planes ≤ 20
    → All (CanWriteEntry planes) entries
    → Includes (ltb (least_from width place (map (zero_plane_value planes) entries) n) planes)
    (least_from width place (map inclusion_value entries) n)
unfolding least_from
includes_least width planes place [] n h a = let k : ltb 255 planes ≡ false =
    le-ltb 255 planes (omega arith) in rw k (omega arith)
includes_least width planes place (entry ∷ entries) n h a =
    let rest = includes_least width planes (place + 1) entries n h (λ i d l.
    a (suc i) d (omega arith)) in
    includes_if (is_among (path_of 2 (place % width) (place / width)) n) planes _ _ _ _
    (includes_entry planes _ _ entry entry.included refl (a 0 entry (omega arith)) rest) rest

some_width : (w h p : ℕ) → p < w * h → 0 < w
some_width zero h p l = absurd (omega arith)
some_width (suc w) h p l = omega arith

below_across : (w h p : ℕ) → p < w * h → p < h * w
below_across w h p l = let c = mul_comm w h in omega arith

-- a place in a band
pub record Inside (width height place x y : ℕ) : Type 0 where
  pub column : x < width
  pub row : y < height
  pub at : y * width + x ≡ place

pub inside : (width height place x y : ℕ) → place < width * height → x ≡ place % width
    → y ≡ place / width → Inside width height place x y
inside width height place x y h ex ey =
    let wide : 0 < width = some_width width height place h in
    record {
      column = rw ex (mod-lt place wide);
      row = rw ey ((div-lt_iff_lt-mul wide).1 (below_across width height place h));
      at = rw (ex, ey) (div-add-mod' place width);
    }

-- the node above the middle ones has the least of their numbers
four_least : (p v a b c d : ℕ) → p < 4
    → min (min (min (if p == 0 then min v a else a) (if p == 1 then min v b else b))
    (if p == 2 then min v c else c)) (if p == 3 then min v d else d)
    ≡ min v (min (min (min a b) c) d)
four_least zero v a b c d h = omega arith
four_least (suc zero) v a b c d h = omega arith
four_least (suc (suc zero)) v a b c d h = omega arith
four_least (suc (suc (suc zero))) v a b c d h = omega arith
four_least (suc (suc (suc (suc p)))) v a b c d h = absurd (omega arith)

least_top : (width height place : ℕ) (values : List ℕ) → width ≤ 4 → height ≤ 4
    → place + length values ≡ width * height
    → min (min (min (least_from width place values 16) (least_from width place values 17))
    (least_from width place values 18)) (least_from width place values 19)
    ≡ least_from width place values 20
unfolding least_from
least_top width height place [] w h e = refl
least_top width height place (v ∷ values) w h e =
    let i = inside width height place (place % width) (place / width) (omega arith) refl refl in
    let x : place % width ≤ 3 = (let c = i.column in omega arith) in
    let y : place / width ≤ 3 = (let r = i.row in omega arith) in
    let p : 2 * (place / width / 2) + place % width / 2 < 4 = omega arith in
    let rest = least_top width height (place + 1) values w h (omega arith) in
    rw (
      among_quarter 1 (place % width) (place / width) (2 * (place / width / 2) + place % width / 2)
          0 x y (omega arith) refl,
      among_quarter 1 (place % width) (place / width) (2 * (place / width / 2) + place % width / 2)
          1 x y (omega arith) refl,
      among_quarter 1 (place % width) (place / width) (2 * (place / width / 2) + place % width / 2)
          2 x y (omega arith) refl,
      among_quarter 1 (place % width) (place / width) (2 * (place / width / 2) + place % width / 2)
          3 x y (omega arith) refl,
      among_top 0 (place % width) (place / width),
    )
    (four_least (2 * (place / width / 2) + place % width / 2) v _ _ _ _ p ∙ ap (λ r. min v r) rest)

pub next_index : (width height place x y : ℕ) → Inside width height place x y
    → y * width + x + 1 ≡ place + 1
next_index width height place x y i = ap (λ n. n + 1) i.at

-- the entries up to the next one
pub taken_push : (entries items : List Entry) (place : ℕ) (d : Entry) → items ≡ entries
    → place < length items
    → take (place + 1) entries ≡ take place entries ++ get_or items place d ∷ []
taken_push entries items place d e h =
    ap (λ i. take (place + 1) i) (sym e) ∙ take_more items place d h
    ∙ ap (λ i. take place i ++ get_or items place d ∷ []) e

pub taken_length : (entries items : List Entry) (place : ℕ) → items ≡ entries → place < length items
    → length (take place entries) ≡ place
taken_length entries items place e h = let l = ap length e in
    omega (arith, length-take place entries)

-- all that is kept, by the levels above the leaves
pub level_zero : (w h : ℕ) → max w h ≤ 1 → levels_above w h ≡ 0
unfolding levels_above
level_zero w h m = let e : leb (max w h) 1 ≡ true = le-leb (max w h) 1 m in rw e refl

pub level_one : (w h : ℕ) → 1 < max w h → max w h ≤ 2 → levels_above w h ≡ 1
unfolding levels_above
level_one w h k m =
    let e : leb (max w h) 1 ≡ false = lt-leb (max w h) 1 k in
    let f : leb (max w h) 2 ≡ true = le-leb (max w h) 2 m in rw (e, f) refl

pub level_two : (w h : ℕ) → 2 < max w h → levels_above w h ≡ 2
unfolding levels_above
level_two w h k =
    let e : leb (max w h) 1 ≡ false = lt-leb (max w h) 1 (omega arith) in
    let f : leb (max w h) 2 ≡ false = lt-leb (max w h) 2 k in rw (e, f) refl

kept_at : (planes : ℕ) (middle : List ℕ) (q : ℕ) → q < length middle
    → kept_of (map (inner_node_at planes) middle) q ≡ inner_node_at planes (get_or middle q 0)
kept_at planes middle q h = get_or-map (inner_node_at planes) middle q 0 _ h

some_planes : (planes : ℕ) → 1 ≤ planes → ltb 0 planes ≡ true
some_planes planes h = lt-ltb 0 planes (omega arith)

pub above_zero : (band : PacketBand) → CanWriteBand band → levels_above band.width band.height ≡ 0
    → InnerNodesStand (written_trees band) (inner_node_at band.planes 0)
    (map (inner_node_at band.planes) (0 ∷ 0 ∷ 0 ∷ 0 ∷ []))
above_zero band can e =
    let s = some_planes band.planes can.some_planes in
    record {
      top_includes = rw e s;
      top_least = rw e refl;
      middle_includes = λ q h. rw (e, kept_at band.planes (0 ∷ 0 ∷ 0 ∷ 0 ∷ []) q h, four_same 0 q h)
          s;
      middle_least = λ q h. rw (e, kept_at band.planes (0 ∷ 0 ∷ 0 ∷ 0 ∷ []) q h) (four_same 0 q h);
    }

module _ (band : PacketBand) (can : CanWriteBand band) (middle : List ℕ) (four : length middle ≡ 4)
    (k : LeastSoFar band.width band.planes band.entries.items middle) where
  node_includes : (m n : ℕ)
      → m ≡ least band.width (map (zero_plane_value band.planes) band.entries.items) n
      → Includes (ltb m band.planes) (least band.width (map inclusion_value band.entries.items) n)
  node_includes m n e = rw e (includes_least band.width band.planes 0 band.entries.items n
      can.planes can.entries)

  middle_includes : (q : ℕ) → q < 4
      → Includes (kept_of (map (inner_node_at band.planes) middle) q).included
      (least band.width (map inclusion_value band.entries.items) (16 + q))
  middle_includes q h = rw (kept_at band.planes middle q (omega arith))
      (node_includes (get_or middle q 0) (16 + q) (k.kept q h))

  middle_least : (q : ℕ) → q < 4 → (kept_of (map (inner_node_at band.planes) middle) q).zero_planes
      ≡ least band.width (map (zero_plane_value band.planes) band.entries.items) (16 + q)
  middle_least q h = rw (kept_at band.planes middle q (omega arith)) (k.kept q h)

  pub above_one : levels_above band.width band.height ≡ 1
      → InnerNodesStand (written_trees band) (inner_node_at band.planes 0)
      (map (inner_node_at band.planes) middle)
  above_one e =
      let s = some_planes band.planes can.some_planes in
      record {
        top_includes = rw e s;
        top_least = rw e refl;
        middle_includes = λ q h. rw e (middle_includes q h);
        middle_least = λ q h. rw e (middle_least q h);
      }

  top_least : (top : ℕ) → top ≡ min (min (min (get_or middle 0 0) (get_or middle 1 0))
      (get_or middle 2 0)) (get_or middle 3 0)
      → top ≡ least band.width (map (zero_plane_value band.planes) band.entries.items) 20
  top_least top e =
      e ∙ rw (
        k.kept 0 (omega arith),
        k.kept 1 (omega arith),
        k.kept 2 (omega arith),
        k.kept 3 (omega arith),
      )
      (least_top band.width band.height 0 (map (zero_plane_value band.planes) band.entries.items)
      can.width can.height (omega (
        arith,
        length-map band.entries.items
            (zero_plane_value band.planes),
        can.count,
      )))

  pub above_two : (top : ℕ) → levels_above band.width band.height ≡ 2
      → top ≡ min (min (min (get_or middle 0 0) (get_or middle 1 0)) (get_or middle 2 0))
      (get_or middle 3 0)
      → InnerNodesStand (written_trees band) (inner_node_at band.planes top)
      (map (inner_node_at band.planes) middle)
  above_two top e t = record {
    top_includes = rw e (node_includes top 20 (top_least top t));
    top_least = rw e (top_least top t);
    middle_includes = λ q h. rw e (middle_includes q h);
    middle_least = λ q h. rw e (middle_least q h);
  }

-- at the end all entries are taken
pub least_all : (band : PacketBand) (items : List Entry) (n : ℕ) (middle : List ℕ)
    → items ≡ band.entries.items → length items ≤ n
    → LeastSoFar band.width band.planes (take n band.entries.items) middle
    → LeastSoFar band.width band.planes band.entries.items middle
least_all band items n middle e h k = let l = ap length e in
    rw (take_all n band.entries.items (omega arith)) at k

-- the node that is kept for a quarter
pub kept_is : (planes : ℕ) (middle : List ℕ) (q : ℕ) → length middle ≡ 4 → q < 4
    → kept_of (map (inner_node_at planes) middle) q ≡ inner_node_at planes (get_or middle q 0)
kept_is planes middle q l h = kept_at planes middle q (omega arith)

-- the marks at first
pub marks_zero : (band : PacketBand) (marks : Marks) → levels_above band.width band.height ≡ 0
    → marks.top ≡ true → ((q : ℕ) → q < 4 → mark_of marks q ≡ true)
    → MarksStand (written_trees band) [] marks marks
marks_zero band marks e t m = record {
  top_inclusion = rw e t;
  top_zero_planes = rw e t;
  middle_inclusion = λ q h. rw e (m q h);
  middle_zero_planes = λ q h. rw e (m q h);
}

pub marks_one : (band : PacketBand) (marks : Marks) → levels_above band.width band.height ≡ 1
    → marks.top ≡ true → ((q : ℕ) → q < 4 → mark_of marks q ≡ false)
    → MarksStand (written_trees band) [] marks marks
unfolding inclusion_writings zero_plane_writings largest
marks_one band marks e t m = record {
  top_inclusion = rw e t;
  top_zero_planes = rw e t;
  middle_inclusion = λ q h. rw (e, m q h) refl;
  middle_zero_planes = λ q h. rw (e, m q h) refl;
}

pub marks_two : (band : PacketBand) (marks : Marks) → levels_above band.width band.height ≡ 2
    → marks.top ≡ false → ((q : ℕ) → q < 4 → mark_of marks q ≡ false)
    → MarksStand (written_trees band) [] marks marks
unfolding inclusion_writings zero_plane_writings largest
marks_two band marks e t m = record {
  top_inclusion = rw (e, t) refl;
  top_zero_planes = rw (e, t) refl;
  middle_inclusion = λ q h. rw (e, m q h) refl;
  middle_zero_planes = λ q h. rw (e, m q h) refl;
}

four_marks : (b : Bool) (q : ℕ) → q < 4 → get_or (b ∷ b ∷ b ∷ b ∷ []) q false ≡ b
four_marks b zero h = refl
four_marks b (suc zero) h = refl
four_marks b (suc (suc zero)) h = refl
four_marks b (suc (suc (suc zero))) h = refl
four_marks b (suc (suc (suc (suc q)))) h = absurd (omega arith)

-- the marks that the code begins with
pub marks_first : (band : PacketBand) (side : ℕ) → side ≡ max band.width band.height
    → let marks : Marks = record {
      top = leb side 2;
      middle =
          leb side 1 ∷ leb side 1 ∷ leb side 1 ∷ leb side 1 ∷ [];
    } in
    MarksStand (written_trees band) [] marks marks
marks_first band side e = elim (cases_lt 1 side) [
  | inl one ↦ elim (cases_lt 2 side) [
    | inl two ↦ marks_two band _ (level_two band.width band.height (omega arith))
        (lt-leb side 2 two) (λ q h. four_marks (leb side 1) q h ∙ lt-leb side 1 one)
    | inr le ↦ marks_one band _ (level_one band.width band.height (omega arith) (omega arith))
        (le-leb side 2 le) (λ q h. four_marks (leb side 1) q h ∙ lt-leb side 1 one)
  ]
  | inr le ↦ marks_zero band _ (level_zero band.width band.height (omega arith))
      (le-leb side 2 (omega arith)) (λ q h. four_marks (leb side 1) q h ∙ le-leb side 1 le)
]

pub order_first : (side : ℕ) → let marks : Marks = record {
  top = leb side 2;
  middle =
      leb side 1 ∷ leb side 1 ∷ leb side 1 ∷ leb side 1 ∷ [];
} in TopFirst marks
order_first side = λ q h m. (let b : leb side 1 ≡ true = sym (four_marks (leb side 1) q h) ∙ m in
    le-leb side 2 (let l = leb-true side 1 b in omega arith))
