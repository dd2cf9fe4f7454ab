-- Each block is in the packet of its precinct, and stands there once.
use Rattle.std.proofs.Common.{◌≡◌, ℕ, zero, suc, ◌+◌, ◌-◌, ◌*◌, ◌/◌, ◌<◌, ◌≤◌, min, List, []}
use Rattle.std.proofs.Common.{◌++◌, length, get_or, refl, sym, ap, subst, ◌∙◌, arith}
use Rattle.std.specs.List.{flat_map, range_with_len, All, AllPairs, Contains}
use Rattle.std.proofs.lemmas.List.{length-append}
use Rattle.std.proofs.lemmas.List.Elements.{All-nil, All-append, Contains-append_left}
use Rattle.std.proofs.lemmas.List.Elements.{Contains-append_right}
use Rattle.std.proofs.lemmas.List.FromFn.{length-map-range_with_len}
use Rattle.cine_nums.specs.declared.orient.Orient.{Orient}
use Rattle.cine_nums.specs.declared.orient.Orient.TheVariants.{LL, HL, LH, HH}
use Rattle.band_geometry.specs.Bands.{HasBand, IsBlock, IsOrientAt, precinct_blocks_of}
use Rattle.band_geometry.specs.Bands.{block_columns, block_rows}
use Rattle.band_geometry.specs.Numbering.{orients_of}
use Rattle.band_geometry.specs.TileParts.{part_of_res}
use Rattle.band_geometry.specs.declared.geometry.Geometry.{Geometry}
use Rattle.band_geometry.specs.declared.places.BlockId.{BlockId}
use Rattle.band_geometry.proofs.PrecinctLemmas.{blocks_in_precincts}
use Rattle.packet_order.specs.declared.packet.PacketId.{PacketId}
use Rattle.packet_order.specs.Order.{IsPacketOf}
use Rattle.packet_order.specs.Blocks.{block_at, row_in, blocks_in, blocks_of_packet}
use Rattle.packet_order.specs.Blocks.{packet_of_block, IsBlockOf, IsBlockIn}
use Rattle.packet_order.proofs.MemberLemmas.{pieces_more, all_pieces, all_mapped, has_piece}
use Rattle.packet_order.proofs.MemberLemmas.{has_mapped, begins_within}
use Rattle.packet_order.proofs.StrictLemmas.{pairs_append, pairs_pieces, pairs_mapped, no_pairs}

-- The blocks of a packet are blocks of its precinct.

same_packet : (p : PacketId) (o : Orient) (x y : ℕ) → x / 4 ≡ p.px → y / 4 ≡ p.py →
    packet_of_block (block_at p o y x) ≡ p
same_packet p o x y column row =
    let packet : ℕ → ℕ → PacketId =
    λ i j. record { component = p.component; res = p.res; px = i; py = j } in
    ap (λ i. packet i (y / 4)) column ∙ ap (λ j. packet p.px j) row

-- the precinct of a block of its range, in one direction
quarter : (p c x : ℕ) → min (4 * p) c ≤ x → x < min (4 * p + 4) c → x / 4 ≡ p
quarter p c x low high = omega arith

record IsWithin (p c i : ℕ) : Type 0 where
  high : min (4 * p) c + i < min (4 * p + 4) c
  inside : min (4 * p) c + i < c

within : (p c i : ℕ) → i < min (4 * p + 4) c - min (4 * p) c → IsWithin p c i
within p c i below = record { high = omega arith; inside = omega arith }

block_in : (g : Geometry) (p : PacketId) (o : Orient) (i j : ℕ) → p.component < 3 →
    HasBand g p.res o →
    IsWithin p.px (block_columns g p.res o) i → IsWithin p.py (block_rows g p.res o) j →
    IsBlockIn g p o (block_at p o (min (4 * p.py) (block_rows g p.res o) + j)
    (min (4 * p.px) (block_columns g p.res o) + i))
block_in g p o i j component has across down =
    let x = min (4 * p.px) (block_columns g p.res o) + i in
    let y = min (4 * p.py) (block_rows g p.res o) + j in
    record {
      of_packet = record {
        block = record {
          component = component;
          band = has;
          column = across.inside;
          row = down.inside;
        };
        packet =
            same_packet p o x y (quarter p.px (block_columns g p.res o) x (omega arith) across.high)
            (quarter p.py (block_rows g p.res o) y (omega arith) down.high);
      };
      orient = refl;
    }

pub all_in_band : (g : Geometry) (p : PacketId) (o : Orient) → p.component < 3 → HasBand g p.res o →
    All (IsBlockIn g p o) (blocks_in g p o)
unfolding blocks_in
all_in_band g p o component has =
    let range = precinct_blocks_of g p.res o p.px p.py in
    all_pieces (IsBlockIn g p o) (row_in g p o) (range.y1 - range.y0) (λ j down.
    all_mapped (IsBlockIn g p o) (λ i. block_at p o (range.y0 + j) (range.x0 + i))
    (range.x1 - range.x0) (λ i across.
    block_in g p o i j component has (within p.px (block_columns g p.res o) i across)
    (within p.py (block_rows g p.res o) j down)))

-- What holds of the blocks of each band holds of the packet's.
all_bands : {A : Type 0} (P : A → Type 0) (f : Orient → List A) (r : ℕ) →
    ((o : Orient) → IsOrientAt r o → All P (f o)) → All P (flat_map f (orients_of r))
all_bands P f zero each = All-append P (f LL) [] (each LL refl) (All-nil P)
all_bands P f (suc r) each =
    All-append P (f HL) (f LH ++ (f HH ++ [])) (each HL (omega arith))
    (All-append P (f LH) (f HH ++ []) (each LH (omega arith))
    (All-append P (f HH) [] (each HH (omega arith)) (All-nil P)))

pub all_in_packet : (g : Geometry) (p : PacketId) → p.component < 3 → p.res ≤ g.levels →
    All (IsBlockOf g p) (blocks_of_packet g p)
unfolding blocks_of_packet
all_in_packet g p component res =
    all_bands (IsBlockOf g p) (blocks_in g p) p.res (λ o is k d below.
    (all_in_band g p o component (record { res = res; orient = is }) k d below).of_packet)

-- Each block is in its packet.

record IsOffset (x c i : ℕ) : Type 0 where
  below : i < min (4 * (x / 4) + 4) c - min (4 * (x / 4)) c
  is : min (4 * (x / 4)) c + i ≡ x

offset : (x c : ℕ) → x < c → IsOffset x c (x - 4 * (x / 4))
offset x c below = record { below = omega arith; is = omega arith }

has_in_band : (g : Geometry) (b : BlockId) → IsBlock g b →
    Contains (blocks_in g (packet_of_block b) b.orient) b
unfolding blocks_in
has_in_band g b is =
    let p = packet_of_block b in
    let o = b.orient in
    let range = precinct_blocks_of g b.res o p.px p.py in
    let i = b.x - 4 * (b.x / 4) in
    let j = b.y - 4 * (b.y / 4) in
    let x = offset b.x (block_columns g b.res o) is.column in
    let y = offset b.y (block_rows g b.res o) is.row in
    let there : Contains (row_in g p o j) (block_at p o (range.y0 + j) (range.x0 + i)) =
    has_mapped (λ i. block_at p o (range.y0 + j) (range.x0 + i)) (range.x1 - range.x0) i x.below in
    let same : block_at p o (range.y0 + j) (range.x0 + i) ≡ b =
    ap (λ n. block_at p o n (range.x0 + i)) y.is ∙ ap (λ n. block_at p o b.y n) x.is in
    has_piece (row_in g p o) (range.y1 - range.y0) j b y.below
    (subst (λ a. Contains (row_in g p o j) a) same there)

has_in_bands : (f : Orient → List BlockId) (r : ℕ) (o : Orient) (b : BlockId) → IsOrientAt r o →
    Contains (f o) b → Contains (flat_map f (orients_of r)) b
has_in_bands f zero LL b is here = Contains-append_left (f LL) [] b here
has_in_bands f zero HL b is here = absurd (omega arith)
has_in_bands f zero LH b is here = absurd (omega arith)
has_in_bands f zero HH b is here = absurd (omega arith)
has_in_bands f (suc r) LL b is here = absurd (omega arith)
has_in_bands f (suc r) HL b is here = Contains-append_left (f HL) (f LH ++ (f HH ++ [])) b here
has_in_bands f (suc r) LH b is here =
    Contains-append_right (f HL) (f LH ++ (f HH ++ [])) b
    (Contains-append_left (f LH) (f HH ++ []) b here)
has_in_bands f (suc r) HH b is here =
    Contains-append_right (f HL) (f LH ++ (f HH ++ [])) b
    (Contains-append_right (f LH) (f HH ++ []) b (Contains-append_left (f HH) [] b here))

pub has_block : (g : Geometry) (b : BlockId) → IsBlock g b →
    Contains (blocks_of_packet g (packet_of_block b)) b
unfolding blocks_of_packet
has_block g b is =
    has_in_bands (blocks_in g (packet_of_block b)) b.res b.orient b is.band.orient
    (has_in_band g b is)

-- and the packet is one of the tile-part that holds the block's resolution
pub has_packet : (g : Geometry) (b : BlockId) → IsBlock g b →
    IsPacketOf g (part_of_res g.profile g.levels b.component b.res) (packet_of_block b)
has_packet g b is =
    let precinct = blocks_in_precincts g b.res b.orient b.x b.y is.band is.column is.row in
    record {
      component = is.component;
      res = is.band.res;
      held = refl;
      column = begins_within g.levels g.width b.res (b.x / 4) (omega (arith, precinct.0));
      row = begins_within g.levels g.height b.res (b.y / 4) (omega (arith, precinct.1));
    }

-- How many blocks a packet has.

length_pieces : {A : Type 0} (f : ℕ → List A) (n c : ℕ) → ((i : ℕ) → length (f i) ≡ c) →
    length (flat_map f (range_with_len 0 n)) ≡ n * c
length_pieces f zero c each = omega arith
length_pieces f (suc n) c each =
    ap length (pieces_more f n) ∙ length-append (flat_map f (range_with_len 0 n)) (f n)
    ∙ omega (arith, length_pieces f n c each, each n)

pub band_count : (g : Geometry) (p : PacketId) (o : Orient) (rows columns : ℕ) →
    rows ≡ (precinct_blocks_of g p.res o p.px p.py).y1 -
    (precinct_blocks_of g p.res o p.px p.py).y0 →
    columns ≡ (precinct_blocks_of g p.res o p.px p.py).x1 -
    (precinct_blocks_of g p.res o p.px p.py).x0 →
    length (blocks_in g p o) ≡ rows * columns
unfolding blocks_in
band_count g p o rows columns down across =
    let range = precinct_blocks_of g p.res o p.px p.py in
    length_pieces (row_in g p o) (range.y1 - range.y0) (range.x1 - range.x0)
    (λ j. length-map-range_with_len (λ i. block_at p o (range.y0 + j) (range.x0 + i)) 0
    (range.x1 - range.x0))
    ∙ ap (λ n. n * (range.x1 - range.x0)) (sym down) ∙ ap (λ n. rows * n) (sym across)

-- None stands there twice.

abbrev Differ : BlockId → BlockId → Type 0
Differ a b = a ≡ b → ⊥

abbrev IsInRow : ℕ → BlockId → Type 0
IsInRow y b = b.y ≡ y

band_differs : (g : Geometry) (p : PacketId) (o : Orient) → AllPairs Differ (blocks_in g p o)
unfolding blocks_in
band_differs g p o =
    let range = precinct_blocks_of g p.res o p.px p.py in
    let at = λ (j i : ℕ). block_at p o (range.y0 + j) (range.x0 + i) in
    pairs_pieces Differ (λ j. IsInRow (range.y0 + j)) (row_in g p o) (range.y1 - range.y0)
    (λ j below. pairs_mapped Differ (at j) (range.x1 - range.x0) (λ i k less inside same.
    omega (arith, less, ap (λ b. b.x) same)))
    (λ j below. all_mapped (IsInRow (range.y0 + j)) (at j) (range.x1 - range.x0) (λ i inside. refl))
    (λ i j a b less here there same. omega (arith, less, here, there, ap (λ c. c.y) same))

-- lists of one band each
across : {A : Type 0} (P Q : A → Type 0) (R : A → A → Type 0) (xs ys : List A) →
    ((a b : A) → P a → Q b → R a b) → All P xs → All Q ys → All (λ x. All (R x) ys) xs
across P Q R xs ys each here there k d below m e inside =
    each _ _ (here k d below) (there m e inside)

abbrev IsOf : Orient → BlockId → Type 0
IsOf o b = b.orient ≡ o

other_band : (o p : Orient) → (o ≡ p → ⊥) → (xs ys : List BlockId) → All (IsOf o) xs →
    All (IsOf p) ys → All (λ x. All (Differ x) ys) xs
other_band o p other xs ys here there =
    across (IsOf o) (IsOf p) Differ xs ys
    (λ a b of_o of_p same. other (sym of_o ∙ ap (λ c. c.orient) same ∙ of_p)) here there

bands_differ : (hl lh hh : List BlockId) → AllPairs Differ hl → AllPairs Differ lh →
    AllPairs Differ hh → All (IsOf HL) hl → All (IsOf LH) lh → All (IsOf HH) hh →
    AllPairs Differ (hl ++ (lh ++ (hh ++ [])))
bands_differ hl lh hh hl_pairs lh_pairs hh_pairs of_hl of_lh of_hh =
    let none : All (λ x. All (Differ x) []) hh = λ k d below. All-nil (Differ (get_or hh k d)) in
    let last : AllPairs Differ (hh ++ []) =
    pairs_append Differ hh [] hh_pairs (no_pairs Differ) none in
    let of_last : All (IsOf HH) (hh ++ []) = All-append (IsOf HH) hh [] of_hh (All-nil (IsOf HH)) in
    let two : AllPairs Differ (lh ++ (hh ++ [])) =
    pairs_append Differ lh (hh ++ []) lh_pairs last
    (other_band LH HH (λ same. cc) lh (hh ++ []) of_lh of_last) in
    let first : All (λ x. All (Differ x) (lh ++ (hh ++ []))) hl =
    λ k d below. All-append (Differ (get_or hl k d)) lh (hh ++ [])
    (other_band HL LH (λ same. cc) hl lh of_hl of_lh k d below)
    (other_band HL HH (λ same. cc) hl (hh ++ []) of_hl of_last k d below) in
    pairs_append Differ hl (lh ++ (hh ++ [])) hl_pairs two first

pub packet_differs : (g : Geometry) (p : PacketId) → p.component < 3 → p.res ≤ g.levels →
    AllPairs Differ (blocks_of_packet g p)
unfolding blocks_of_packet
packet_differs g p component res = by_res p.res refl
  where
    of_band : (o : Orient) → IsOrientAt p.res o → All (IsOf o) (blocks_in g p o)
    of_band o is k d below =
        (all_in_band g p o component (record { res = res; orient = is }) k d below).orient

    by_res : (r : ℕ) → p.res ≡ r → AllPairs Differ (flat_map (blocks_in g p) (orients_of r))
    by_res zero at =
        pairs_append Differ (blocks_in g p LL) [] (band_differs g p LL) (no_pairs Differ)
        (λ k d below. All-nil (Differ (get_or (blocks_in g p LL) k d)))
    by_res (suc r) at =
        bands_differ (blocks_in g p HL) (blocks_in g p LH) (blocks_in g p HH) (band_differs g p HL)
        (band_differs g p LH) (band_differs g p HH) (of_band HL (omega (arith, at)))
        (of_band LH (omega (arith, at))) (of_band HH (omega (arith, at)))
