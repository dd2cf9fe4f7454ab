-- An entry at its place in a band.
use Rattle.std.proofs.Common.{◌≡◌, ℕ, ◌+◌, ◌*◌, ◌/◌, ◌%◌, ◌<◌, ◌≤◌, Bool, true, false, List, length}
use Rattle.std.proofs.Common.{map, take, get_or, refl, sym, ap, subst, ◌∙◌, arith}
use Rattle.std.proofs.lemmas.List.{get_or-map, length-map}
use Rattle.tag_trees.specs.TagTree.{leaf_node, middle_node, levels_above, least}
use Rattle.tag_trees.proofs.LeastLemmas.{least_rises}
use Rattle.tag_trees.proofs.ReaderLemmas.{least_leaf}
use Rattle.packet_headers.specs.declared.entry.Entry.{Entry}
use Rattle.packet_headers.specs.declared.writing.inner_nodes.InnerNode.{InnerNode}
use Rattle.packet_headers.specs.declared.writing.inner_nodes.Marks.{Marks}
use Rattle.packet_headers.specs.declared.packet.PacketBand.{PacketBand}
use Rattle.packet_headers.specs.Written.{inclusion_value, zero_plane_value, written_block}
use Rattle.packet_headers.specs.Written.{written_trees, CanWriteBand, CanWriteEntry}
use Rattle.packet_headers.specs.Written.{CanWriteIncluded}
use Rattle.packet_headers.specs.InsideWriting.{Includes, inner_node_at, kept_of, entry_list}
use Rattle.packet_headers.specs.InsideWriting.{InnerNodesStand, inclusion_thresholds}
use Rattle.packet_headers.specs.InsideWriting.{zero_plane_thresholds}
use Rattle.packet_headers.proofs.BlockLemmas.{AtPlace, written_place}
use Rattle.packet_headers.proofs.MarkLemmas.{fresh_inclusion, fresh_zero_planes}
use Rattle.packet_headers.proofs.InnerNodeLemmas.{Rises, rises}
use Rattle.packet_headers.proofs.BandLemmas.{Inside, inside, taken_length, kept_is}

-- the number of a leaf is its entry's
pub leaf_value : (band : PacketBand) (f : Entry → ℕ) (place x y : ℕ) (entry d : Entry)
    → CanWriteBand band → place < length band.entries.items
    → entry ≡ get_or band.entries.items place d
    → Inside band.width band.height place x y → f entry ≤ 255
    → least band.width (map f band.entries.items) (leaf_node x y) ≡ f entry
leaf_value band f place x y entry d can h e i m =
    let value : get_or (map f band.entries.items) (y * band.width + x) 0 ≡ f entry =
    ap (λ k. get_or (map f band.entries.items) k 0) i.at
    ∙ get_or-map f band.entries.items place d 0 h ∙ ap f (sym e) in
    least_leaf band.width band.height (map f band.entries.items) x y i.column i.row can.width
    can.height
    (length-map band.entries.items f ∙ can.count) (rw value m) ∙ value

pub one_at_most : (entry : Entry) (b : Bool) → entry.included ≡ b → inclusion_value entry ≤ 1
one_at_most entry true e = rw e (omega arith)
one_at_most entry false e = rw e (omega arith)

includes_own : (entry : Entry) (b : Bool) → entry.included ≡ b → Includes b (inclusion_value entry)
includes_own entry true e = rw e refl
includes_own entry false e = let i : inclusion_value entry ≡ 1 = rw e refl in rw i (omega arith)

-- what an included entry keeps to
pub can_include : (band : PacketBand) (place : ℕ) (entry d : Entry) → CanWriteBand band
    → place < length band.entries.items → entry ≡ get_or band.entries.items place d
    → entry.included ≡ true → CanWriteIncluded band.planes entry
can_include band place entry d can h e i = subst (CanWriteEntry band.planes) (sym e)
    (can.entries place d h) i

-- all that its writing rests on
pub record EntryAt (band : PacketBand) (place x y p : ℕ) (entry : Entry) (top middle : InnerNode) :
    Type 0 where
  pub inside : Inside band.width band.height place x y
  pub at : AtPlace (written_trees band) (map written_block (take place band.entries.items)) x y
  pub rises : Rises (levels_above band.width band.height) x y (written_trees band).zero_planes top
      middle entry
  pub includes : Includes entry.included ((written_trees band).inclusion (leaf_node x y))
  pub zero_planes : entry.included ≡ true → (written_trees band).zero_planes (leaf_node x y)
      ≡ entry.zero_planes
  pub fresh : inclusion_thresholds (written_trees band)
      (map written_block (take place band.entries.items)) (leaf_node x y) ≡ 0
  pub zero_fresh : zero_plane_thresholds (written_trees band)
      (map written_block (take place band.entries.items)) (leaf_node x y) ≡ 0

pub entry_at : (band : PacketBand) (items : List Entry) (place x y p : ℕ) (d : Entry)
    (top : InnerNode) (middle : List InnerNode) → CanWriteBand band → items ≡ band.entries.items
    → place < length items
    → x ≡ place % band.width → y ≡ place / band.width → middle_node x y ≡ 16 + p → p < 4
    → InnerNodesStand (written_trees band) top middle
    → EntryAt band place x y p (get_or items place d) top (kept_of middle p)
entry_at band items place x y p d top middle can e h ex ey m hp a =
    let l = ap length e in
    let below : place < length band.entries.items = omega arith in
    let own : get_or items place d ≡ get_or band.entries.items place d =
    ap (λ i. get_or i place d) e in
    let i : Inside band.width band.height place x y =
    inside band.width band.height place x y (let c = can.count in omega arith) ex ey in
    let column = i.column in
    let row = i.row in
    let wide = can.width in
    let high = can.height in
    let entry = get_or items place d in
    let leaf : least band.width (map inclusion_value band.entries.items) (leaf_node x y)
    ≡ inclusion_value (get_or items place d) =
    leaf_value band inclusion_value place x y (get_or items place d) d can below own i (let o =
    one_at_most (get_or items place d) (get_or items place d).included refl in omega arith) in
    let includes : Includes (get_or items place d).included
    (least band.width (map inclusion_value band.entries.items) (leaf_node x y)) =
    rw leaf (includes_own (get_or items place d) (get_or items place d).included refl) in
    let zeros : (get_or items place d).included ≡ true
    → least band.width (map (zero_plane_value band.planes) band.entries.items) (leaf_node x y)
    ≡ (get_or items place d).zero_planes =
    λ k. (let v : zero_plane_value band.planes (get_or items place d)
    ≡ (get_or items place d).zero_planes = rw k refl in
    let w = can_include band place (get_or items place d) d can below own k in
    let most = can.planes in
    let fewer = w.fewer in
    leaf_value band (zero_plane_value band.planes) place x y (get_or items place d) d can below own
    i (rw v (omega arith)) ∙ v) in
    let n = taken_length band.entries.items items place e h in
    let some : length (map written_block (take place band.entries.items)) ≡ place =
    length-map (take place band.entries.items) written_block ∙ n in
    let order = i.at in
    record {
      inside = i;
      at = rw (← ex, ← ey) at (written_place (written_trees band) band.entries.items items place e
          h);
      rises = rises (levels_above band.width band.height) x y p (written_trees band).inclusion
          (written_trees band).zero_planes top (kept_of middle p) (get_or items place d) m
          (least_rises band.width band.height (map inclusion_value band.entries.items) can.width
          can.height x y i.column i.row)
          (least_rises band.width band.height (map (zero_plane_value band.planes)
          band.entries.items) can.width can.height x y i.column i.row)
          a.top_includes a.top_least (a.middle_includes p hp) (a.middle_least p hp) includes zeros;
      includes = includes;
      zero_planes = zeros;
      fresh = fresh_inclusion (levels_above band.width band.height) band.width 0 x y
          (map written_block (take place band.entries.items)) can.width i.column (omega arith)
          (omega arith);
      zero_fresh = fresh_zero_planes (levels_above band.width band.height) band.width 0 x y
          (map written_block (take place band.entries.items)) can.width i.column (omega arith)
          (omega arith);
    }

-- the same where the least zero planes of the nodes are kept
pub entry_kept : (band : PacketBand) (items : List Entry) (place p : ℕ) (d : Entry) (top : ℕ)
    (middle : List ℕ) → CanWriteBand band → items ≡ band.entries.items → place < length items
    → middle_node (place % band.width) (place / band.width) ≡ 16 + p → p < 4
    → InnerNodesStand (written_trees band) (inner_node_at band.planes top)
    (map (inner_node_at band.planes) middle) → length middle ≡ 4
    → EntryAt band place (place % band.width) (place / band.width) p (get_or items place d)
    (inner_node_at band.planes top) (inner_node_at band.planes (get_or middle p 0))
entry_kept band items place p d top middle can e h n hp a four =
    subst (λ k. EntryAt band place (place % band.width) (place / band.width) p
    (get_or items place d) (inner_node_at band.planes top) k)
    (kept_is band.planes middle p four hp)
    (entry_at band items place (place % band.width) (place / band.width) p d
    (inner_node_at band.planes top) (map (inner_node_at band.planes) middle) can e h refl refl n
    hp a)

pub list_kept : (inclusion zero_planes : Marks) (planes p : ℕ) (entry : Entry) (top : ℕ)
    (middle : List ℕ) (bits : List Bool) → length middle ≡ 4 → p < 4
    → entry_list inclusion zero_planes p (inner_node_at planes top)
    (kept_of (map (inner_node_at planes) middle) p) entry ≡ bits
    → entry_list inclusion zero_planes p (inner_node_at planes top)
    (inner_node_at planes (get_or middle p 0)) entry ≡ bits
list_kept inclusion zero_planes planes p entry top middle bits four hp h =
    subst (λ k. entry_list inclusion zero_planes p (inner_node_at planes top) k entry ≡ bits)
    (kept_is planes middle p four hp) h
