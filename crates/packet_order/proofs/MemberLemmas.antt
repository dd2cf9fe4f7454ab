-- The packets of a tile-part are those whose precinct begins within the frame.
use Rattle.std.proofs.Common.{◌≡◌, ℕ, zero, suc, ◌+◌, ◌-◌, ◌*◌, ◌^◌, ◌<◌, ◌≤◌, ◌==◌, inl, inr, Bool}
use Rattle.std.proofs.Common.{true, false, cond, List, [], ◌++◌, map, arith, ◌∙◌, sym, ap, refl}
use Rattle.std.proofs.Common.{subst, zero-add}
use Rattle.std.specs.List.{flat_map, range_with_len, All, Contains}
use Rattle.std.proofs.Math.Nat.{le-div_iff_mul-le}
use Rattle.std.proofs.lemmas.Nat.{pow_pos}
use Rattle.std.proofs.lemmas.Bool.{cases_lt, eqb-true, eq-eqb}
use Rattle.std.proofs.lemmas.List.{flat_map_more}
use Rattle.std.proofs.lemmas.List.Elements.{All-nil, All-append, All-map, Contains-append_left}
use Rattle.std.proofs.lemmas.List.Elements.{Contains-append_right}
use Rattle.std.proofs.lemmas.List.FromFn.{length-range_with_len, get_or-range_with_len}
use Rattle.std.proofs.lemmas.List.FromFn.{length-map-range_with_len, get_or-map-range_with_len}
use Rattle.std.proofs.lemmas.List.Sorted.{All-permutation, Contains-permutation}
use Rattle.cine_nums.specs.Division.{div_up}
use Rattle.cine_nums.specs.Coding.{precinct_side}
use Rattle.band_geometry.specs.Sizes.{res_side, precinct_count}
use Rattle.band_geometry.specs.TileParts.{part_of_res}
use Rattle.band_geometry.specs.declared.geometry.Geometry.{Geometry}
use Rattle.packet_order.specs.Order.{place_of, IsPacketOf, packet_at, packets_of_row}
use Rattle.packet_order.specs.Order.{packets_of_res, packets_of_res_in, packets_of_component}
use Rattle.packet_order.specs.Order.{packets_of_part, ordered_packets}
use Rattle.packet_order.specs.declared.packet.PacketId.{PacketId}
use Rattle.packet_order.proofs.SortingLemmas.{range_more}
use Rattle.packet_order.proofs.SortedLemmas.{packets_permuted}

-- Where precincts begin.

-- so many pieces of d begin before n
begins : (p n d : ℕ) → 0 < d → p < div_up n d → p * d < n
begins p n d some below =
    let whole : suc p * d ≤ n + (d - 1) =
    (le-div_iff_mul-le {x = suc p} {y = n + (d - 1)} some).0 below in
    omega arith

begun : (p n d : ℕ) → 0 < d → p * d < n → p < div_up n d
begun p n d some below =
    let whole : suc p * d ≤ n + (d - 1) = omega arith in
    (le-div_iff_mul-le {x = suc p} {y = n + (d - 1)} some).1 whole

pub some_side : (r : ℕ) → 0 < precinct_side r
some_side zero = omega arith
some_side (suc r) = omega arith

pub begins_within : (levels side r p : ℕ) → p < precinct_count levels side r →
    place_of levels r p < side
begins_within levels side r p below =
    begins (p * precinct_side r) side (2 ^ (levels - r)) (pow_pos (levels - r))
    (begins p (res_side levels side r) (precinct_side r) (some_side r) below)

within_begun : (levels side r p : ℕ) → place_of levels r p < side → p < precinct_count levels side r
within_begun levels side r p within =
    begun p (res_side levels side r) (precinct_side r) (some_side r)
    (begun (p * precinct_side r) side (2 ^ (levels - r)) (pow_pos (levels - r)) within)

-- Elements of lists that are joined of pieces.

pub pieces_more : {A : Type 0} (f : ℕ → List A) (n : ℕ) →
    flat_map f (range_with_len 0 (suc n)) ≡ flat_map f (range_with_len 0 n) ++ f n
pieces_more f n =
    let more : suc n ≡ n + 1 = omega arith in
    ap (λ m. flat_map f (range_with_len 0 m)) more ∙ ap (flat_map f) (range_more n) ∙
    sym (flat_map_more f [] (range_with_len 0 n) n)

pub all_pieces : {A : Type 0} (P : A → Type 0) (f : ℕ → List A) (n : ℕ) →
    ((i : ℕ) → i < n → All P (f i)) →
    All P (flat_map f (range_with_len 0 n))
all_pieces P f zero each = All-nil P
all_pieces {A} P f (suc n) each =
    subst (λ (l : List A). All P l) (sym (pieces_more f n))
    (All-append P (flat_map f (range_with_len 0 n)) (f n)
    (all_pieces P f n (λ i below. each i (omega (arith, below)))) (each n (omega arith)))

pub has_piece : {A : Type 0} (f : ℕ → List A) (n i : ℕ) (a : A) → i < n → Contains (f i) a →
    Contains (flat_map f (range_with_len 0 n)) a
has_piece f zero i a below here = absurd (omega arith)
has_piece {A} f (suc n) i a below here =
    subst (λ (l : List A). Contains l a) (sym (pieces_more f n)) (elim (cases_lt i n) [
      | inl less ↦ Contains-append_left (flat_map f (range_with_len 0 n)) (f n) a
          (has_piece f n i a less here)
      | inr last ↦
          let same : i ≡ n = omega arith in
          Contains-append_right (flat_map f (range_with_len 0 n)) (f n) a
          (subst (λ j. Contains (f j) a) same here)
    ])

pub all_mapped : {A : Type 0} (P : A → Type 0) (f : ℕ → A) (n : ℕ) → ((i : ℕ) → i < n → P (f i)) →
    All P (map f (range_with_len 0 n))
all_mapped P f n each =
    All-map P f (range_with_len 0 n) (λ k d below.
    let inside : k < n = omega (arith, below, length-range_with_len 0 n) in
    subst (λ i. P (f i)) (sym (get_or-range_with_len 0 n k d inside ∙ zero-add k)) (each k inside))

pub has_mapped : {A : Type 0} (f : ℕ → A) (n i : ℕ) → i < n →
    Contains (map f (range_with_len 0 n)) (f i)
has_mapped f n i below = (
  i,
  omega (arith, length-map-range_with_len f 0 n),
  get_or-map-range_with_len f 0 n i i
      (f i) below (zero-add i),
)

-- The packets of a tile-part.

-- a packet of a resolution
abbrev pub IsWithin : Geometry → ℕ → ℕ → ℕ → PacketId → Type 0
IsWithin g part c r p = IsPacketOf g part p × (p.component ≡ c) × (p.res ≡ r)

pub packet_within : (g : Geometry) (part c r : ℕ) → c < 3 → r ≤ g.levels →
    All (IsWithin g part c r) (packets_of_res_in g part c r)
unfolding packets_of_res packets_of_row
packet_within g part c r component res =
    let go : (t : Bool) → (part_of_res g.profile g.levels c r == part) ≡ t →
    All (IsWithin g part c r) (cond t (packets_of_res g c r) []) =
    λ t. elim t as (λ v. (part_of_res g.profile g.levels c r == part) ≡ v →
    All (IsWithin g part c r) (cond v (packets_of_res g c r) [])) [
      | true ↦ λ is. all_pieces (IsWithin g part c r) (packets_of_row g c r)
          (precinct_count g.levels g.height r)
          (λ py row. all_mapped (IsWithin g part c r) (packet_at c r py)
          (precinct_count g.levels g.width r)
          (λ px column. (
            record {
              component = component;
              res = res;
              held = eqb-true (part_of_res g.profile g.levels c r) part is;
              column = begins_within g.levels g.width r px column;
              row = begins_within g.levels g.height r py row;
            },
            refl,
            refl,
          )))
      | false ↦ λ is. All-nil (IsWithin g part c r)
    ] in
    go (part_of_res g.profile g.levels c r == part) refl

all_of_part : (g : Geometry) (part : ℕ) → All (IsPacketOf g part) (packets_of_part g part)
unfolding packets_of_part packets_of_component
all_of_part g part =
    all_pieces (IsPacketOf g part) (packets_of_component g part) 3 (λ c component.
    all_pieces (IsPacketOf g part) (packets_of_res_in g part c) (g.levels + 1)
    (λ r below k d inside.
    (packet_within g part c r component (omega (arith, below)) k d inside).0))

has_in_res : (g : Geometry) (part : ℕ) (p : PacketId) → IsPacketOf g part p →
    Contains (packets_of_res_in g part p.component p.res) p
unfolding packets_of_res packets_of_row
has_in_res g part p is =
    let there : Contains (packets_of_res g p.component p.res) p =
    has_piece (packets_of_row g p.component p.res) (precinct_count g.levels g.height p.res) p.py p
    (within_begun g.levels g.height p.res p.py is.row)
    (has_mapped (packet_at p.component p.res p.py) (precinct_count g.levels g.width p.res) p.px
    (within_begun g.levels g.width p.res p.px is.column)) in
    let held : (part_of_res g.profile g.levels p.component p.res == part) ≡ true =
    eq-eqb (part_of_res g.profile g.levels p.component p.res) part is.held in
    subst (λ t. Contains (cond t (packets_of_res g p.component p.res) []) p) (sym held) there

has_in_part : (g : Geometry) (part : ℕ) (p : PacketId) → IsPacketOf g part p →
    Contains (packets_of_part g part) p
unfolding packets_of_part packets_of_component
has_in_part g part p is =
    has_piece (packets_of_component g part) 3 p.component p is.component
    (has_piece (packets_of_res_in g part p.component) (g.levels + 1) p.res p
    (let res = is.res in omega arith) (has_in_res g part p is))

pub ordered_are_packets : (g : Geometry) (part : ℕ) →
    All (IsPacketOf g part) (ordered_packets g part)
ordered_are_packets g part =
    All-permutation (IsPacketOf g part) (packets_of_part g part) (ordered_packets g part)
    (packets_permuted g part) (all_of_part g part)

pub packets_are_ordered : (g : Geometry) (part : ℕ) (p : PacketId) → IsPacketOf g part p →
    Contains (ordered_packets g part) p
packets_are_ordered g part p is =
    Contains-permutation (packets_of_part g part) (ordered_packets g part) p
    (packets_permuted g part) (has_in_part g part p is)
