-- What a budget holds is what its headers hold and its body bytes, together: the code of one block
-- more adds its bytes to each of the block's budgets, and changes no header.
use Rattle.std.proofs.Common.{◌≡◌, ℕ, zero, suc, ◌+◌, ◌<◌, ◌≤◌, ◌↔◌, Bool, true, false, nat_lt}
use Rattle.std.proofs.Common.{if◌then◌else◌, List, [], length, map, sum, get_or, set, refl}
use Rattle.std.proofs.Common.{sym, ap, ◌∙◌, arith, length-append, inl, inr}
use Rattle.std.specs.List.{flat_map, range_with_len, Contains}
use Rattle.std.proofs.lemmas.Bool.{cases_lt}
use Rattle.std.proofs.lemmas.Bool.Decides.{nat_tests}
use Rattle.std.proofs.lemmas.List.{get_or_default}
use Rattle.std.proofs.lemmas.List.FromFn.{get_or-map-range_with_len, get_or-range_with_len}
use Rattle.std.proofs.lemmas.List.FromFn.{length-map-range_with_len, length-range_with_len}
use Rattle.std.proofs.lemmas.List.Sums.{sum_by-set}
use Rattle.cine_nums.specs.Profile.{parts_of}
use Rattle.cine_nums.specs.declared.budget.Budget.{Budget}
use Rattle.cine_nums.specs.declared.budget.Budget.TheVariants.{Frame}
use Rattle.cine_nums.specs.declared.orient.Orient.TheVariants.{LL}
use Rattle.cine_nums.specs.declared.profile.Profile.{Profile}
use Rattle.cine_nums.specs.declared.profile.Profile.TheVariants.{TwoK, FourK}
use Rattle.band_geometry.specs.Bands.{IsBlock}
use Rattle.band_geometry.specs.Counts.{number_of}
use Rattle.band_geometry.specs.Numbering.{all_blocks}
use Rattle.band_geometry.specs.TileParts.{part_of_res}
use Rattle.band_geometry.specs.declared.geometry.Geometry.{Geometry}
use Rattle.band_geometry.specs.declared.places.BlockId.{BlockId}
use Rattle.bit_stuffing.specs.Stuffing.{packed}
use Rattle.packet_order.specs.Blocks.{blocks_of_packet, packet_of_block}
use Rattle.packet_order.specs.Order.{ordered_packets}
use Rattle.packet_order.specs.declared.packet.PacketId.{PacketId}
use Rattle.packet_order.proofs.BlockLemmas.{all_in_packet, has_block, has_packet, packet_differs}
use Rattle.packet_order.proofs.MemberLemmas.{ordered_are_packets, packets_are_ordered}
use Rattle.packet_headers.specs.Written.{written_bits}
use Rattle.cinema_markers.specs.MainHeader.{main_header_of}
use Rattle.allocation_bound.specs.Sums.{upto}
use Rattle.budget_duals.specs.Held.{held_in, held_of}
use Rattle.budget_duals.specs.Members.{is_in}
use Rattle.budget_duals.specs.declared.limits.Limits.{Limits}
use Rattle.dz_quantiser.specs.declared.steps.StepSizes.{StepSizes}
use Rattle.profile_reader.specs.Chosen.{Planes, chosen, chosen_passes}
use Rattle.profile_reader.specs.Packets.{BlockBytes, packet_with, written_body, written_packet}
use Rattle.profile_reader.specs.Spell.{header_for, part_indexes, part_length, part_lengths}
use Rattle.frame_packets.specs.Changes.{AreHeld, IsOther, block_members}
use Rattle.frame_packets.specs.Keeps.{frame_held}
use Rattle.frame_packets.proofs.Budgets.{other_budget, part_alike, same_change}
use Rattle.frame_packets.proofs.Frames.{parts_counted}
use Rattle.frame_packets.proofs.Lists.{flat_changed, map_agree, map_changed, stands_once}
use Rattle.frame_packets.proofs.MainLength.{main_is}
use Rattle.frame_packets.proofs.Packets.{alike_written}
use Rattle.frame_packets.proofs.Parts.{ordered_differ}
use Rattle.frame_choice.specs.Blocks.{block_numbered, inside_at}
use Rattle.frame_choice.specs.Choice.{FitsBesideHeaders, block_bytes, body_bytes, held_at}
use Rattle.frame_choice.specs.Headers.{FitsWithHeaders, headers_at, without_code}
use Rattle.frame_choice.specs.NumberLaws.{block_is, is_block, number_below, number_is}
use Rattle.frame_choice.proofs.Sums.{listed_sum}

-- ---- the code of one block, with all entries the same

-- the entries of one choice with the code of another
abbrev with_code : (BlockId → BlockBytes) → (BlockId → List ℕ) → BlockId → BlockBytes
with_code given code b = record { entry = (given b).entry; code = code b }

-- headers don't depend on the code
same_header : (g : Geometry) (steps : StepSizes) (given : BlockId → BlockBytes)
    (code : BlockId → List ℕ) (p : PacketId) →
    packet_with g steps (with_code given code) p ≡ packet_with g steps given p
unfolding packet_with
same_header g steps given code p = refl

few_parts : (profile : Profile) (levels c r : ℕ) → c < 3 →
    part_of_res profile levels c r < parts_of profile
few_parts TwoK levels c r below = below
few_parts FourK levels c r below = by (nat_lt r levels)
  where
    by : (low : Bool) → (if low then c else 3 + c) < 6
    by true = omega (arith, below)
    by false = omega (arith, below)

module _ (g : Geometry) (steps : StepSizes) (given : BlockId → BlockBytes)
    (old new : BlockId → List ℕ) (id : BlockId) (block : IsBlock g id)
    (others : (b : BlockId) → IsBlock g b → (b ≡ id → ⊥) → new b ≡ old b) where
  abbrev was : BlockId → BlockBytes
  was = with_code given old

  abbrev is : BlockId → BlockBytes
  is = with_code given new

  abbrev part : ℕ
  part = part_of_res g.profile g.levels id.component id.res

  is_other : IsOther g id was is
  is_other b there differs =
      ap (λ (code : List ℕ). record { entry = (given b).entry; code = code })
      (others b there differs)

  in_packet : length (written_packet g steps is (packet_of_block id)) + length (old id)
      ≡ length (written_packet g steps was (packet_of_block id)) + length (new id)
  unfolding written_packet
  in_packet =
      let p = packet_of_block id in
      let blocks = blocks_of_packet g p in
      let here : Contains blocks id = has_block g id block in
      let at : (d : BlockId) → get_or blocks here.0 d ≡ id =
      λ d. get_or_default blocks here.0 d id here.1 ∙ here.2 in
      let codes = flat_changed (λ b. (was b).code) (λ b. (is b).code) blocks here.0 id here.1
      (λ k d below differs.
      let there = all_in_packet g p block.component block.band.res k d below in
      others (get_or blocks k d) there.block
      (stands_once blocks id here.0 (packet_differs g p block.component block.band.res) here.1 at
      k d below differs)) in
      let before : length (was (get_or blocks here.0 id)).code ≡ length (old id) =
      ap (λ b. length (was b).code) (at id) in
      let after : length (is (get_or blocks here.0 id)).code ≡ length (new id) =
      ap (λ b. length (is b).code) (at id) in
      let header = ap (λ q. length (packed (written_bits q)))
      (same_header g steps given new p ∙ sym (same_header g steps given old p)) in
      let whole_old = length-append (packed (written_bits (packet_with g steps was p)))
      (flat_map (λ b. (was b).code) blocks) in
      let whole_new = length-append (packed (written_bits (packet_with g steps is p)))
      (flat_map (λ b. (is b).code) blocks) in
      omega (arith, codes, before, after, header, whole_old, whole_new)

  in_part : part_length g steps is part + length (old id)
      ≡ part_length g steps was part + length (new id)
  unfolding written_body
  in_part =
      let ids = ordered_packets g part in
      let p = packet_of_block id in
      let here : Contains ids p = packets_are_ordered g part p (has_packet g id block) in
      let at : (d : PacketId) → get_or ids here.0 d ≡ p =
      λ d. get_or_default ids here.0 d p here.1 ∙ here.2 in
      let whole = flat_changed (written_packet g steps was) (written_packet g steps is) ids here.0 p
      here.1
      (λ k d below differs.
      let member = ordered_are_packets g part k d below in
      alike_written g steps was is (get_or ids k d)
      (record { component = member.component; res = member.res })
      (λ b there of_packet. is_other b there (λ same.
      stands_once ids p here.0 (ordered_differ g part) here.1 at k d below differs
      (sym of_packet ∙ ap packet_of_block same)))) in
      let before = ap (λ q. length (written_packet g steps was q)) (at p) in
      let after = ap (λ q. length (written_packet g steps is q)) (at p) in
      let one = in_packet in
      omega (arith, whole, before, after, one)

  in_others : (k : ℕ) → (k ≡ part → ⊥) → part_length g steps is k ≡ part_length g steps was k
  in_others k differs =
      part_alike g steps was is k (λ b there at. is_other b there (λ same.
      differs (sym at
      ∙ ap (λ (c : BlockId). part_of_res g.profile g.levels c.component c.res) same)))

  in_sum : sum (part_lengths g steps is) + length (old id)
      ≡ sum (part_lengths g steps was) + length (new id)
  in_sum =
      let n = parts_of g.profile in
      let range = range_with_len 0 n in
      let f = part_length g steps was in
      let h = part_length g steps is in
      let inside : part < n =
      few_parts g.profile g.levels id.component id.res block.component in
      let long = length-range_with_len 0 n in
      let counted = length-map-range_with_len f 0 n in
      let here : get_or range part 0 ≡ part =
      omega (arith, get_or-range_with_len 0 n part 0 inside) in
      let lists : map h range ≡ set (map f range) part (h (get_or range part 0)) =
      map_changed f h range part 0 (omega (arith, inside, long)) (λ k d below differs.
      let at = get_or-range_with_len 0 n k d (omega (arith, below, long)) in
      in_others (get_or range k d) (λ same. differs (omega (arith, at, same)))) in
      let changed = ap (λ (ns : List ℕ). sum ns) lists in
      let sums : sum (set (map f range) part (h (get_or range part 0)))
      + get_or (map f range) part 0 ≡ sum (map f range) + h (get_or range part 0) =
      sum_by-set (λ (x : ℕ). x) (map f range) part (h (get_or range part 0)) 0
      (omega (arith, inside, counted)) in
      let read : get_or (map f range) part 0 ≡ f part =
      get_or-map-range_with_len f 0 n part part 0 inside (omega arith) in
      let new_at = ap h here in
      let one = in_part in
      omega (arith, changed, sums, read, new_at, one)

  module _ (held : AreHeld g steps) where
    in_frame : (frame_held g steps is).frame + length (old id)
        ≡ (frame_held g steps was).frame + length (new id)
    in_frame =
        let before = main_is g steps (part_lengths g steps was) held.levels held.count
        (parts_counted g steps was) in
        let after = main_is g steps (part_lengths g steps is) held.levels held.count
        (parts_counted g steps is) in
        let all = in_sum in
        omega (arith, before, after, all)

    in_budget : (j : Budget) → old id ≡ [] →
        held_in (frame_held g steps is) j ≡ held_in (frame_held g steps was) j
        + (if is_in (block_members g id) j then length (new id) else 0)
    in_budget j none = go (is_in (block_members g id) j) refl
      where
        go : (b : Bool) → is_in (block_members g id) j ≡ b →
            held_in (frame_held g steps is) j
            ≡ held_in (frame_held g steps was) j + (if b then length (new id) else 0)
        go true within =
            let same = same_change g steps was is id j Frame held block is_other within refl in
            let frame = in_frame in
            let empty = ap length none in
            omega (arith, same, frame, empty)
        go false without =
            let same = other_budget g steps was is id j held block is_other (λ yes. absurd cc) in
            omega (arith, same)

-- ---- block after block

-- what is held depends only on what is written of the blocks of the frame
frame_alike : (g : Geometry) (steps : StepSizes) (given more : BlockId → BlockBytes) →
    ((b : BlockId) → IsBlock g b → more b ≡ given b) →
    frame_held g steps more ≡ frame_held g steps given
frame_alike g steps given more agree =
    ap (λ (lengths : List ℕ). held_of g.profile
    (length (main_header_of (header_for g steps lengths))) lengths)
    (map_agree (part_length g steps given) (part_length g steps more) (part_indexes g)
    (λ k d below. part_alike g steps given more (get_or (part_indexes g) k d)
    (λ b there at. agree b there)))

next_itself : (n : ℕ) → nat_lt n (suc n) ≡ true
next_itself n = grind (arith, nat_tests)

not_itself : (n : ℕ) → nat_lt n n ≡ false
not_itself n = grind (arith, nat_tests)

next_other : (m n : ℕ) → (m ≡ n → ⊥) → nat_lt m (suc n) ≡ nat_lt m n
next_other m n differs = elim (cases_lt m n) [
  | inl less ↦ grind (arith, nat_tests)
  | inr more ↦ let above : suc n ≤ m = omega (arith, more, differs) in grind (arith, nat_tests)
]

is_below : (m n : ℕ) → m < n → nat_lt m n ≡ true
is_below m n less = grind (arith, nat_tests)

none_below : (m : ℕ) → nat_lt m 0 ≡ false
none_below m = grind (arith, nat_tests)

module _ (g : Geometry) (steps : StepSizes) (given : BlockId → BlockBytes)
    (held : AreHeld g steps) where
  -- the code of the first n blocks, and none of the others
  abbrev first_codes : ℕ → BlockId → List ℕ
  first_codes n b = if nat_lt (number_of g b) n then (given b).code else []

  abbrev holds : Budget → ℕ → ℕ
  holds j n = held_in (frame_held g steps (with_code given (first_codes n))) j

  abbrev adds : Budget → ℕ → ℕ
  adds j n = if is_in (inside_at g n) j then length (given (block_numbered g n)).code else 0

  one_more : (j : Budget) (n : ℕ) → n < length (all_blocks g) →
      holds j (suc n) ≡ holds j n + adds j n
  one_more j n below =
      let id = block_numbered g n in
      let number = number_is g n below in
      let block = is_block g n below in
      let new : first_codes (suc n) id ≡ (given id).code =
      ap (λ (b : Bool). if b then (given id).code else [])
      (ap (λ m. nat_lt m (suc n)) number ∙ next_itself n) in
      let old : first_codes n id ≡ [] =
      ap (λ (b : Bool). if b then (given id).code else [])
      (ap (λ m. nat_lt m n) number ∙ not_itself n) in
      in_budget g steps given (first_codes n) (first_codes (suc n)) id block
      (λ b there differs. ap (λ (t : Bool). if t then (given b).code else [])
      (next_other (number_of g b) n (λ same.
      differs (sym (block_is g b there) ∙ ap (block_numbered g) same))))
      held j old
      ∙ ap (λ (code : List ℕ). holds j n + (if is_in (inside_at g n) j then length code else 0)) new

  first_ones : (j : Budget) (n : ℕ) → n ≤ length (all_blocks g) →
      holds j n ≡ holds j 0 + upto n (adds j)
  first_ones j zero within = omega arith
  first_ones j (suc n) within =
      let before = first_ones j n (omega (arith, within)) in
      let one = one_more j n (omega (arith, within)) in
      omega (arith, before, one)

  -- what is held is what the headers hold, and the code of the blocks of the budget
  pub all_held : (j : Budget) →
      held_in (frame_held g steps given) j
      ≡ held_in (frame_held g steps (λ b. without_code (given b))) j
      + upto (length (all_blocks g)) (adds j)
  all_held j =
      let n = length (all_blocks g) in
      let all : holds j n ≡ holds j 0 + upto n (adds j) = first_ones j n (omega arith) in
      let last : frame_held g steps (with_code given (first_codes n)) ≡ frame_held g steps given =
      frame_alike g steps given (with_code given (first_codes n)) (λ b there.
      ap (λ (t : Bool). record {
        entry = (given b).entry;
        code = if t then (given b).code else [];
      }) (is_below (number_of g b) n (number_below g b there))) in
      let none : frame_held g steps (with_code given (first_codes 0))
      ≡ frame_held g steps (λ b. without_code (given b)) =
      frame_alike g steps (λ b. without_code (given b)) (with_code given (first_codes 0))
      (λ b there. ap (λ (t : Bool). record {
        entry = (given b).entry;
        code = if t then (given b).code else [];
      }) (none_below (number_of g b))) in
      let here = ap (λ h. held_in h j) last in
      let headers = ap (λ h. held_in h j) none in
      omega (arith, all, here, headers)

-- ---- the laws

pub held_is_both : (g : Geometry) (steps : StepSizes) (planes : Planes) (choice : List ℕ)
    (j : Budget) → AreHeld g steps →
    held_in (held_at g steps planes choice) j
    ≡ held_in (headers_at g steps planes choice) j + body_bytes g steps planes choice j
unfolding chosen body_bytes
held_is_both g steps planes choice j held =
    let all = all_held g steps (chosen g steps planes choice) held j in
    let body : body_bytes g steps planes choice j
    ≡ upto (length (all_blocks g)) (adds g steps (chosen g steps planes choice) held j) =
    listed_sum (record { component = 0; res = 0; orient = LL; x = 0; y = 0 })
    (λ b. if is_in (block_members g b) j
    then block_bytes g steps planes b (chosen_passes g choice b) else 0) (all_blocks g) in
    omega (arith, all, body)

pub fits_is_both : (g : Geometry) (steps : StepSizes) (planes : Planes) (limits : Limits)
    (choice rival : List ℕ) → AreHeld g steps →
    FitsBesideHeaders g steps planes limits choice rival
    ↔ FitsWithHeaders g steps planes limits choice rival
fits_is_both g steps planes limits choice rival held = (
  (λ fits j n is. (let f = fits j n is in
      let both = held_is_both g steps planes choice j held in omega (arith, f, both))),
  (λ fits j n is. (let f = fits j n is in
      let both = held_is_both g steps planes choice j held in omega (arith, f, both))),
)
