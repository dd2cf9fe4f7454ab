-- A frame of which the entry of one code-block changes.
use Rattle.std.proofs.Common.{◌≡◌, ℕ, zero, suc, ◌+◌, ◌<◌, ◌≤◌, ◌⊎◌, inl, inr, List, []}
use Rattle.std.proofs.Common.{length, map, get_or, set, sum, replicate, refl, sym, ap, ◌∙◌, subst}
use Rattle.std.proofs.Common.{arith}
use Rattle.std.proofs.lemmas.Bool.{cases_lt}
use Rattle.std.proofs.lemmas.List.{same_lists, get_or-map, get_or_default, length-map, length-set}
use Rattle.std.proofs.lemmas.List.{get_or-set_same, get_or-set_other, length-replicate}
use Rattle.std.proofs.lemmas.List.FromFn.{length-map-range_with_len, get_or-map-range_with_len}
use Rattle.cine_nums.specs.Profile.{parts_of}
use Rattle.cine_nums.specs.declared.profile.Profile.{Profile}
use Rattle.cine_nums.specs.declared.profile.Profile.TheVariants.{TwoK, FourK}
use Rattle.cine_nums.specs.declared.orient.Orient.{Orient}
use Rattle.cine_nums.specs.declared.orient.Orient.TheVariants.{LL, HL, LH, HH}
use Rattle.band_geometry.specs.Bands.{IsBlock}
use Rattle.band_geometry.specs.declared.geometry.Geometry.{Geometry}
use Rattle.band_geometry.specs.declared.places.BlockId.{BlockId}
use Rattle.dz_quantiser.specs.Bands.{band_planes}
use Rattle.dz_quantiser.specs.declared.steps.StepSizes.{StepSizes}
use Rattle.cinema_markers.specs.MainHeader.{main_length}
use Rattle.budget_duals.specs.Held.{held_of}
use Rattle.packet_order.specs.Blocks.{packet_of_block}
use Rattle.packet_order.specs.declared.packet.PacketId.{PacketId}
use Rattle.packet_order.specs.Order.{ordered_packets}
use Rattle.packet_headers.specs.declared.entry.Entry.{Entry}
use Rattle.packet_headers.specs.declared.packet.Packet.{Packet}
use Rattle.packet_headers.specs.Kept.{CanPut, header_length}
use Rattle.packet_headers.specs.Written.{CanWriteEntry, IsPlain}
use Rattle.profile_reader.specs.Packets.{BlockBytes, packet_with}
use Rattle.profile_reader.specs.Spell.{part_length, part_lengths}
use Rattle.frame_packets.specs.Changes.{IsChanged}
use Rattle.frame_packets.specs.Inside.{IsChange, IsKept, IsSpot, band_place, entry_at}
use Rattle.frame_packets.specs.Inside.{packet_at}
use Rattle.frame_packets.specs.Keeps.{CanWriteBlock, CanWriteBlocks, FrameKept, Keeps, KeepsPart}
use Rattle.frame_packets.specs.Keeps.{PartKept, frame_held, no_part}
use Rattle.frame_packets.specs.declared.part.Change.{Change}
use Rattle.frame_packets.specs.declared.spot.Spot.{Spot}
use Rattle.frame_packets.proofs.Bounds.{AreShort, frame_few, one_few}
use Rattle.frame_packets.proofs.MainLength.{main_is}
use Rattle.frame_packets.proofs.Packets.{can_put, changed_packet, same_packet}
use Rattle.frame_packets.proofs.Parts.{bytes_after, entry_put, entry_was, keeps_changed, keeps_other}
use Rattle.frame_packets.proofs.Parts.{packet_is_at, part_after, part_enough}

-- ---- whether two code-blocks are the same

number_is : (n m : ℕ) → (n ≡ m) ⊎ (n ≡ m → ⊥)
number_is n m = elim (cases_lt n m) [
  | inl less ↦ inr (λ same. absurd (omega (arith, less, same)))
  | inr more ↦ elim (cases_lt m n) [
    | inl less ↦ inr (λ same. absurd (omega (arith, less, same)))
    | inr least ↦ inl (omega (arith, more, least))
  ]
]

orient_number : Orient → ℕ
orient_number LL = 0
orient_number HL = 1
orient_number LH = 2
orient_number HH = 3

of_number : ℕ → Orient
of_number zero = LL
of_number (suc zero) = HL
of_number (suc (suc zero)) = LH
of_number (suc (suc (suc n))) = HH

back : (o : Orient) → of_number (orient_number o) ≡ o
unfolding of_number orient_number
back LL = refl
back HL = refl
back LH = refl
back HH = refl

orient_is : (o p : Orient) → (o ≡ p) ⊎ (o ≡ p → ⊥)
orient_is o p = elim (number_is (orient_number o) (orient_number p)) [
  | inl same ↦ inl (sym (back o) ∙ ap of_number same ∙ back p)
  | inr other ↦ inr (λ same. other (ap orient_number same))
]

pub block_is : (a b : BlockId) → (a ≡ b) ⊎ (a ≡ b → ⊥)
block_is a b = elim (number_is a.component b.component) [
  | inr other ↦ inr (λ same. other (ap (λ c. c.component) same))
  | inl component ↦ elim (number_is a.res b.res) [
    | inr other ↦ inr (λ same. other (ap (λ c. c.res) same))
    | inl res ↦ elim (orient_is a.orient b.orient) [
      | inr other ↦ inr (λ same. other (ap (λ c. c.orient) same))
      | inl orient ↦ elim (number_is a.x b.x) [
        | inr other ↦ inr (λ same. other (ap (λ c. c.x) same))
        | inl x ↦ elim (number_is a.y b.y) [
          | inr other ↦ inr (λ same. other (ap (λ c. c.y) same))
          | inl y ↦ inl (
              ap (λ n. made n a.res a.orient a.x a.y) component
              ∙ ap (λ n. made b.component n a.orient a.x a.y) res
              ∙ ap (λ o. made b.component b.res o a.x a.y) orient
              ∙ ap (λ n. made b.component b.res b.orient n a.y) x
              ∙ ap (λ n. made b.component b.res b.orient b.x n) y)
        ]
      ]
    ]
  ]
]
  where
    made : ℕ → ℕ → Orient → ℕ → ℕ → BlockId
    made c r o x y = record { component = c; res = r; orient = o; x = x; y = y }

pub packet_is : (a b : PacketId) → (a ≡ b) ⊎ (a ≡ b → ⊥)
packet_is a b = elim (number_is a.component b.component) [
  | inr other ↦ inr (λ same. other (ap (λ p. p.component) same))
  | inl component ↦ elim (number_is a.res b.res) [
    | inr other ↦ inr (λ same. other (ap (λ p. p.res) same))
    | inl res ↦ elim (number_is a.px b.px) [
      | inr other ↦ inr (λ same. other (ap (λ p. p.px) same))
      | inl px ↦ elim (number_is a.py b.py) [
        | inr other ↦ inr (λ same. other (ap (λ p. p.py) same))
        | inl py ↦ inl (
            ap (λ n. made n a.res a.px a.py) component
            ∙ ap (λ n. made b.component n a.px a.py) res
            ∙ ap (λ n. made b.component b.res n a.py) px
            ∙ ap (λ n. made b.component b.res b.px n) py)
      ]
    ]
  ]
]
  where
    made : ℕ → ℕ → ℕ → ℕ → PacketId
    made c r x y = record { component = c; res = r; px = x; py = y }

-- ---- a choice with another entry of a block

abbrev pick : {A : Type 0} {P : Type 0} → P ⊎ (P → ⊥) → A → A → A
pick (inl p) x y = x
pick (inr p) x y = y

pick_yes : {A : Type 0} {P : Type 0} (d : P ⊎ (P → ⊥)) (x y : A) → P → pick d x y ≡ x
pick_yes (inl p) x y is = refl
pick_yes (inr p) x y is = absurd (p is)

pick_no : {A : Type 0} {P : Type 0} (d : P ⊎ (P → ⊥)) (x y : A) → (P → ⊥) → pick d x y ≡ y
pick_no (inl p) x y isnt = absurd (isnt p)
pick_no (inr p) x y isnt = refl

-- any bytes serve that are as many
abbrev with_length : Entry → BlockBytes
with_length entry = record { entry = entry; code = replicate entry.len 0 }

abbrev pub given_with : (BlockId → BlockBytes) → BlockId → Entry → BlockId → BlockBytes
given_with given id entry b = pick (block_is b id) (with_length entry) (given b)

pub with_is_changed : (g : Geometry) (id : BlockId) (entry : Entry)
    (given : BlockId → BlockBytes) → IsChanged g id entry given (given_with given id entry)
with_is_changed g id entry given =
    let at = pick_yes (block_is id id) (with_length entry) (given id) refl in
    record {
      here = ap (λ (w : BlockBytes). w.entry) at;
      code = ap (λ (w : BlockBytes). length w.code) at ∙ length-replicate entry.len 0;
      others = λ b block other. pick_no (block_is b id) (with_length entry) (given b) other;
    }

can_write_changed : (g : Geometry) (steps : StepSizes) (id : BlockId) (entry : Entry)
    (given changed : BlockId → BlockBytes)
    → CanWriteEntry (band_planes steps id.res id.orient) entry →
    IsPlain entry → IsChanged g id entry given changed → CanWriteBlocks g steps given →
    CanWriteBlocks g steps changed
can_write_changed g steps id entry given changed can_write plain is all b block =
    elim (block_is b id) [
      | inl same ↦
          subst (λ c. CanWriteBlock (band_planes steps c.res c.orient) (changed c)) (sym same)
          (record {
            entry = subst (λ e. CanWriteEntry (band_planes steps id.res id.orient) e) (sym is.here)
                can_write;
            plain = subst (λ e. IsPlain e) (sym is.here) plain;
            code = is.code ∙ sym (ap (λ e. e.len) is.here);
          })
      | inr other ↦ subst (λ w. CanWriteBlock (band_planes steps b.res b.orient) w)
          (sym (is.others b block other)) (all b block)
    ]

-- ---- lengths

pub lengths_are : (g : Geometry) (steps : StepSizes) (given : BlockId → BlockBytes) (s : FrameKept)
    →
    Keeps g steps given s →
    map (λ (part : PartKept). part.bytes) s.parts ≡ part_lengths g steps given
lengths_are g steps given s keeps =
    let n = parts_of g.profile in
    let count : length (map (λ (part : PartKept). part.bytes) s.parts) ≡ n =
    length-map s.parts (λ (part : PartKept). part.bytes) ∙ keeps.count in
    let all : length (part_lengths g steps given) ≡ n =
    length-map-range_with_len (part_length g steps given) 0 n in
    same_lists (map (λ (part : PartKept). part.bytes) s.parts) (part_lengths g steps given)
    (count ∙ sym all) (λ k d below.
    let inside : k < n = omega (arith, below, count) in
    get_or-map (λ (part : PartKept). part.bytes) s.parts k no_part d
    (omega (arith, inside, keeps.count))
    ∙ (keeps.part k inside).bytes
    ∙ sym (get_or-map-range_with_len (part_length g steps given) 0 n k k d inside
    (omega arith)))

pub parts_counted : (g : Geometry) (steps : StepSizes) (given : BlockId → BlockBytes) →
    length (part_lengths g steps given) ≡ parts_of g.profile
parts_counted g steps given =
    length-map-range_with_len (part_length g steps given) 0 (parts_of g.profile)

pub held_is : (g : Geometry) (steps : StepSizes) (given : BlockId → BlockBytes) (s : FrameKept) →
    Keeps g steps given s → (lengths : List ℕ) (changed : BlockId → BlockBytes) →
    lengths ≡ part_lengths g steps changed →
    held_of g.profile (main_length g.profile) lengths ≡ frame_held g steps changed
held_is g steps given s keeps lengths changed are =
    ap (held_of g.profile (main_length g.profile)) are
    ∙ ap (λ n. held_of g.profile n (part_lengths g steps changed))
    (sym (main_is g steps (part_lengths g steps changed) keeps.levels keeps.usable.count
    (parts_counted g steps changed)))

-- the lengths with one changed
pub lengths_changed : (g : Geometry) (steps : StepSizes) (id : BlockId) (entry : Entry)
    (given changed : BlockId → BlockBytes) (s : FrameKept) (spot : Spot) (change : Change) →
    Keeps g steps given s → IsBlock g id → IsChanged g id entry given changed → IsSpot g id spot →
    IsChange (get_or s.parts spot.part no_part) spot.at spot.band spot.place entry change →
    set (part_lengths g steps given) spot.part change.bytes ≡ part_lengths g steps changed
lengths_changed g steps id entry given changed s spot change keeps block is at made =
    let n = parts_of g.profile in
    let old = part_lengths g steps given in
    let new = part_lengths g steps changed in
    let code = (keeps.can_write id block).code in
    let part = get_or s.parts spot.part no_part in
    let kept = keeps.part spot.part at.exists in
    let bytes = bytes_after g steps id entry given changed spot part change block is at code kept
    made in
    let count : length (set old spot.part change.bytes) ≡ n =
    length-set old spot.part change.bytes ∙ parts_counted g steps given in
    same_lists (set old spot.part change.bytes) new (count ∙ sym (parts_counted g steps changed))
    (λ k d below.
    let inside : k < n = omega (arith, below, count) in
    let there : get_or new k d ≡ part_length g steps changed k =
    get_or-map-range_with_len (part_length g steps changed) 0 n k k d inside (omega arith) in
    elim (number_is k spot.part) [
      | inl same ↦
          let here : get_or (set old spot.part change.bytes) spot.part d ≡ change.bytes =
          get_or-set_same old spot.part change.bytes d
          (omega (arith, at.exists, parts_counted g steps given)) in
          ap (λ j. get_or (set old spot.part change.bytes) j d) same ∙ here ∙ bytes
          ∙ ap (part_length g steps changed) (sym same) ∙ sym there
      | inr other ↦
          let same_part : KeepsPart g steps changed k (get_or s.parts k no_part) =
          keeps_other g steps id entry given changed k (get_or s.parts k no_part) is
          (λ same. other (sym same ∙ sym at.part)) (keeps.part k inside) in
          get_or-set_other old spot.part k change.bytes d other
          ∙ get_or-map-range_with_len (part_length g steps given) 0 n k k d inside (omega arith)
          ∙ sym (keeps.part k inside).bytes ∙ same_part.bytes ∙ sym there
    ])

-- ---- what is kept after a change

abbrev pub frame_after : FrameKept → Spot → Entry → Change → FrameKept
frame_after s spot entry change = record {
  geometry = s.geometry;
  steps = s.steps;
  parts = set s.parts spot.part
      (part_after (get_or s.parts spot.part no_part) spot entry change);
}

pub frame_changed : (g : Geometry) (steps : StepSizes) (id : BlockId) (entry : Entry)
    (given changed : BlockId → BlockBytes) (s : FrameKept) (spot : Spot) (change : Change) →
    CanWriteEntry (band_planes steps id.res id.orient) entry → IsPlain entry →
    Keeps g steps given s → IsBlock g id → IsChanged g id entry given changed → IsSpot g id spot →
    IsChange (get_or s.parts spot.part no_part) spot.at spot.band spot.place entry change →
    Keeps g steps changed (frame_after s spot entry change)
frame_changed g steps id entry given changed s spot change can_write plain keeps block is at made =
    let part = get_or s.parts spot.part no_part in
    let after = part_after part spot entry change in
    record {
      geometry = keeps.geometry;
      steps_are = keeps.steps_are;
      levels = keeps.levels;
      usable = keeps.usable;
      can_write = can_write_changed g steps id entry given changed can_write plain is
          keeps.can_write;
      count = length-set s.parts spot.part after ∙ keeps.count;
      part = λ index below. elim (number_is index spot.part) [
        | inl same ↦
            let here : get_or (set s.parts spot.part after) spot.part no_part ≡ after =
            get_or-set_same s.parts spot.part after no_part
            (omega (arith, at.exists, keeps.count)) in
            subst (λ j. KeepsPart g steps changed j
            (get_or (set s.parts spot.part after) j no_part)) (sym same)
            (subst (λ q. KeepsPart g steps changed spot.part q) (sym here)
            (keeps_changed g steps id entry given changed spot part change block is at
            (keeps.can_write id block).code (keeps.part spot.part at.exists) made))
        | inr other ↦
            subst (λ q. KeepsPart g steps changed index q)
            (sym (get_or-set_other s.parts spot.part index after no_part other))
            (keeps_other g steps id entry given changed index (get_or s.parts index no_part) is
            (λ same. other (sym same ∙ sym at.part)) (keeps.part index below))
      ];
    }

-- its headers are short
pub short_changed : (g : Geometry) (steps : StepSizes) (id : BlockId) (entry : Entry)
    (given changed : BlockId → BlockBytes) (s : FrameKept) (spot : Spot) (change : Change) →
    Keeps g steps given s → IsBlock g id → IsChanged g id entry given changed → IsSpot g id spot →
    IsChange (get_or s.parts spot.part no_part) spot.at spot.band spot.place entry change →
    AreShort g steps given → AreShort g steps changed
short_changed g steps id entry given changed s spot change keeps block is at made short p component
    res =
    elim (packet_is (packet_of_block id) p) [
      | inl same ↦
          let part = get_or s.parts spot.part no_part in
          let header : change.header
          ≡ header_length (packet_with g steps changed (packet_of_block id)) =
          made.header ∙ ap header_length (entry_put g steps given id entry spot part
          (keeps.part spot.part at.exists) at
          ∙ sym (changed_packet g steps id entry given changed block is)) in
          subst (λ q. header_length (packet_with g steps changed q) ≤ 449) same
          (subst (λ n. n ≤ 449) header made.few)
      | inr other ↦
          subst (λ q. header_length q ≤ 449)
          (sym (same_packet g steps id entry given changed is p
          (record { component = component; res = res }) other))
          (short p component res)
    ]

-- ---- what a change needs

pub record CanChange (part : PartKept) (spot : Spot) (entry : Entry) : Type 0 where
  pub inside : spot.at < length part.packets
  pub place : CanPut (packet_at part spot.at) spot.band spot.place entry
  pub enough : header_length (packet_at part spot.at)
      + (entry_at (packet_at part spot.at) spot.band spot.place).len ≤ part.bytes
  pub few : part.bytes < 2147483648

pub can_change : (s : FrameKept) (b : BlockId) (entry : Entry) (spot : Spot) → IsKept s →
    IsBlock s.geometry b → CanWriteEntry (band_planes s.steps b.res b.orient) entry →
    IsSpot s.geometry b spot → CanChange (get_or s.parts spot.part no_part) spot entry
can_change s b entry spot kept block can_write at =
    let g = s.geometry in
    let given = kept.given in
    let keeps = kept.keeps in
    let part = get_or s.parts spot.part no_part in
    let here = keeps.part spot.part at.exists in
    let packet = packet_is_at g s.steps given b spot part here at in
    let p = packet_with g s.steps given (packet_of_block b) in
    record {
      inside =
          let count = ap (λ (packets : List Packet). length packets) here.packets in
          let all = length-map (ordered_packets g spot.part) (packet_with g s.steps given) in
          let within = at.within in
          omega (arith, count, all, within);
      place =
          subst (λ q. CanPut q spot.band spot.place entry) (sym packet)
          (subst (λ n. CanPut p n spot.place entry) (sym at.band)
          (subst (λ n. CanPut p (band_place b.orient) n entry) (sym at.place)
          (can_put g s.steps given b entry block can_write)));
      enough =
          let all = part_enough g s.steps b given spot block at (keeps.can_write b block).code in
          let header = ap header_length packet in
          let was = ap (λ (e : Entry). e.len) (entry_was g s.steps given b spot part here block at)
          in
          let bytes = here.bytes in
          omega (arith, all, header, was, bytes);
      few =
          let all = one_few g s.steps given spot.part keeps.levels keeps.can_write kept.short
          at.exists in
          let bytes = here.bytes in
          omega (arith, all, bytes);
    }

-- the part that is read is the one that is kept
pub part_is : (s : FrameKept) (index : ℕ) (part : PartKept) (parts : List PartKept) → IsKept s →
    index < parts_of s.geometry.profile → parts ≡ s.parts → part ≡ get_or parts index part →
    part ≡ get_or s.parts index no_part
part_is s index part parts kept below same read =
    read ∙ ap (λ (ps : List PartKept). get_or ps index part) same
    ∙ get_or_default s.parts index part no_part
    (let count = kept.keeps.count in omega (arith, below, count))

-- ---- the lengths after a change fit

pub main_few : (p : Profile) → main_length p ≤ 169
main_few TwoK = omega arith
main_few FourK = omega arith

pub after_few : (s : FrameKept) (id : BlockId) (entry : Entry) (spot : Spot) (change : Change)
    (kept : IsKept s) → IsBlock s.geometry id →
    CanWriteEntry (band_planes s.steps id.res id.orient) entry → IsPlain entry →
    IsSpot s.geometry id spot →
    IsChange (get_or s.parts spot.part no_part) spot.at spot.band spot.place entry change →
    sum (set (part_lengths s.geometry s.steps kept.given) spot.part change.bytes) ≤ 3831770229
after_few s id entry spot change kept block can_write plain at made =
    let g = s.geometry in
    let given = kept.given in
    let changed = given_with given id entry in
    let is = with_is_changed g id entry given in
    let all = can_write_changed g s.steps id entry given changed can_write plain is
    kept.keeps.can_write in
    let short = short_changed g s.steps id entry given changed s spot change kept.keeps block is at
    made kept.short in
    subst (λ ns. sum ns ≤ 3831770229)
    (sym (lengths_changed g s.steps id entry given changed s spot change kept.keeps block is at
    made))
    (frame_few g s.steps changed kept.keeps.levels all short)

-- some choice gives what is kept after a change
pub kept_changed : (s : FrameKept) (id : BlockId) (entry : Entry) (spot : Spot) (change : Change) →
    IsKept s → IsBlock s.geometry id →
    CanWriteEntry (band_planes s.steps id.res id.orient) entry → IsPlain entry →
    IsSpot s.geometry id spot →
    IsChange (get_or s.parts spot.part no_part) spot.at spot.band spot.place entry change →
    IsKept (frame_after s spot entry change)
kept_changed s id entry spot change kept block can_write plain at made =
    let g = s.geometry in
    let given = kept.given in
    let changed = given_with given id entry in
    let is = with_is_changed g id entry given in
    record {
      given = changed;
      keeps = frame_changed g s.steps id entry given changed s spot change can_write plain
          kept.keeps block is at made;
      short = short_changed g s.steps id entry given changed s spot change kept.keeps block is at
          made kept.short;
    }

-- the packet at the place of a name
pub packet_read : (g : Geometry) (steps : StepSizes) (given : BlockId → BlockBytes) (index : ℕ)
    (part : PartKept) (at : ℕ) (id : PacketId) → KeepsPart g steps given index part →
    at < length part.ids → ((d : PacketId) → get_or part.ids at d ≡ id) →
    packet_at part at ≡ packet_with g steps given id
packet_read g steps given index part at id keeps below is =
    let ids = ordered_packets g index in
    let none : Packet = record { bands = record { items = [] } } in
    let inside : at < length ids = subst (λ (xs : List PacketId). at < length xs) keeps.ids below in
    ap (λ (packets : List Packet). get_or packets at none) keeps.packets
    ∙ get_or-map (packet_with g steps given) ids at id none inside
    ∙ ap (packet_with g steps given)
    (ap (λ (xs : List PacketId). get_or xs at id) (sym keeps.ids) ∙ is id)

-- the part that is read is kept
pub part_kept : (s : FrameKept) (kept : IsKept s) (index : ℕ) (part : PartKept)
    (parts : List PartKept) → index < parts_of s.geometry.profile → parts ≡ s.parts →
    part ≡ get_or parts index part → KeepsPart s.geometry s.steps kept.given index part
part_kept s kept index part parts below same read =
    subst (λ (q : PartKept). KeepsPart s.geometry s.steps kept.given index q)
    (sym (part_is s index part parts kept below same read)) (kept.keeps.part index below)
