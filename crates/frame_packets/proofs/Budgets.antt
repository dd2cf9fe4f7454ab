-- What the byte budgets hold where something else is written of a code-block.
use Rattle.std.proofs.Common.{◌≡◌, ℕ, zero, suc, ◌+◌, ◌<◌, ◌==◌, nat_lt, Bool, true, false}
use Rattle.std.proofs.Common.{IsTrue, if◌then◌else◌, List, length, map, get_or, refl, sym, ap, ◌∙◌}
use Rattle.std.proofs.Common.{[], ◌∷◌, arith, inl, inr, Some, None, sum, not}
use Rattle.std.proofs.lemmas.Bool.{eqb-true, eqb-false}
use Rattle.std.proofs.lemmas.List.Sums.{sum_by-cons}
use Rattle.std.proofs.Common.{◌++◌, length-append, subst}
use Rattle.std.specs.List.{flat_map, range_with_len}
use Rattle.cine_nums.specs.Profile.{parts_of}
use Rattle.cine_nums.specs.declared.budget.Budget.{Budget}
use Rattle.cine_nums.specs.declared.budget.Budget.TheVariants.{Frame, Inner, C0, C1, C2}
use Rattle.cine_nums.specs.declared.profile.Profile.{Profile}
use Rattle.cine_nums.specs.declared.profile.Profile.TheVariants.{TwoK, FourK}
use Rattle.band_geometry.specs.Bands.{IsBlock}
use Rattle.band_geometry.specs.TileParts.{part_of_res}
use Rattle.band_geometry.specs.declared.geometry.Geometry.{Geometry}
use Rattle.band_geometry.specs.declared.places.BlockId.{BlockId}
use Rattle.dz_quantiser.specs.Bands.{band_planes}
use Rattle.dz_quantiser.specs.declared.steps.StepSizes.{StepSizes}
use Rattle.cinema_markers.specs.MainHeader.{main_header_of, main_length}
use Rattle.budget_duals.specs.Held.{held_in, held_of}
use Rattle.budget_duals.specs.Members.{is_in, members_of}
use Rattle.budget_duals.specs.declared.held.Held.{Held}
use Rattle.budget_duals.specs.declared.members.Members.{Members}
use Rattle.packet_order.specs.Order.{ordered_packets}
use Rattle.packet_order.proofs.MemberLemmas.{ordered_are_packets}
use Rattle.profile_reader.specs.Packets.{BlockBytes, packet_with, written_body}
use Rattle.profile_reader.specs.Packets.{written_packet}
use Rattle.profile_reader.specs.Spell.{header_for, part_indexes, part_length, part_lengths}
use Rattle.profile_reader.specs.Spell.{spell, written_part}
use Rattle.tile_parts.specs.Head.{eoc, part_head_of}
use Rattle.frame_packets.specs.Changes.{AreAlike, AreHeld, IsOther, block_members}
use Rattle.frame_packets.specs.Keeps.{CanWriteBlock, FrameKept, Keeps, frame_held}
use Rattle.frame_packets.proofs.Frames.{block_is, parts_counted}
use Rattle.frame_packets.proofs.Lists.{flat_agree, map_agree}
use Rattle.frame_packets.proofs.MainLength.{main_is}
use Rattle.frame_packets.proofs.Packets.{alike_packet, alike_written}

-- ---- the length of a tile-part depends only on its own blocks

pub part_alike : (g : Geometry) (steps : StepSizes) (given more : BlockId → BlockBytes) (index : ℕ)
    →
    ((b : BlockId) → IsBlock g b → part_of_res g.profile g.levels b.component b.res ≡ index →
    more b ≡ given b) →
    part_length g steps more index ≡ part_length g steps given index
unfolding written_body
part_alike g steps given more index agree =
    let ids = ordered_packets g index in
    ap (λ (bytes : List ℕ). 14 + length bytes)
    (flat_agree (written_packet g steps given) (written_packet g steps more) ids (λ k d below.
    let is = ordered_are_packets g index k d below in
    alike_written g steps given more (get_or ids k d)
    (record { component = is.component; res = is.res }) (λ b block packet.
    agree b block (ap (λ p. part_of_res g.profile g.levels p.component p.res) packet ∙ is.held))))

-- ---- what is kept depends only on what is written of the blocks of the frame

pub keeps_alike : (g : Geometry) (steps : StepSizes) (given more : BlockId → BlockBytes)
    (s : FrameKept) → ((b : BlockId) → IsBlock g b → more b ≡ given b) → Keeps g steps given s →
    Keeps g steps more s
keeps_alike g steps given more s agree keeps = record {
  geometry = keeps.geometry;
  steps_are = keeps.steps_are;
  levels = keeps.levels;
  usable = keeps.usable;
  can_write = λ b block.
      subst (λ w. CanWriteBlock (band_planes steps b.res b.orient) w) (sym (agree b block))
      (keeps.can_write b block);
  count = keeps.count;
  part = λ index below.
      let part = keeps.part index below in
      let ids = ordered_packets g index in
      record {
        ids = part.ids;
        packets = part.packets ∙ sym (map_agree (packet_with g steps given)
            (packet_with g steps more) ids (λ k d inside.
            let is = ordered_are_packets g index k d inside in
            alike_packet g steps given more (get_or ids k d)
            (record { component = is.component; res = is.res })
            (λ b block packet. agree b block)));
        bytes = part.bytes
            ∙ sym (part_alike g steps given more index (λ b block at. agree b block));
      };
}

-- ---- budgets by the lengths of tile-parts

abbrev held_by : Profile → ℕ → (ℕ → ℕ) → Held
held_by p main lengths = held_of p main (map lengths (range_with_len 0 (parts_of p)))

by_lengths : (g : Geometry) (steps : StepSizes) (given : BlockId → BlockBytes) → AreHeld g steps →
    frame_held g steps given ≡ held_by g.profile (main_length g.profile) (part_length g steps given)
by_lengths g steps given held =
    ap (λ n. held_of g.profile n (part_lengths g steps given))
    (main_is g steps (part_lengths g steps given) held.levels held.count
    (parts_counted g steps given))

-- all lengths are the same but one
abbrev SameBut : (ℕ → ℕ) → (ℕ → ℕ) → ℕ → Type 0
SameBut f h n = (k : ℕ) → (k ≡ n → ⊥) → h k ≡ f k

-- ---- a budget is a sum over some tile-parts

-- the tile-parts of a budget, and what it has beside them
abbrev parts_in : Profile → Budget → List ℕ
parts_in TwoK Frame = 0 ∷ 1 ∷ 2 ∷ []
parts_in TwoK Inner = []
parts_in TwoK C0 = 0 ∷ []
parts_in TwoK C1 = 1 ∷ []
parts_in TwoK C2 = 2 ∷ []
parts_in FourK Frame = 0 ∷ 1 ∷ 2 ∷ 3 ∷ 4 ∷ 5 ∷ []
parts_in FourK Inner = 0 ∷ 1 ∷ 2 ∷ []
parts_in FourK C0 = 0 ∷ []
parts_in FourK C1 = 1 ∷ []
parts_in FourK C2 = 2 ∷ []

abbrev beside_parts : Profile → ℕ → Budget → ℕ
beside_parts p main Frame = main + 2
beside_parts TwoK main Inner = 0
beside_parts FourK main Inner = main + 2
beside_parts p main C0 = 0
beside_parts p main C1 = 0
beside_parts p main C2 = 0

is_sum : (p : Profile) (m : ℕ) (f : ℕ → ℕ) (i : Budget) →
    held_in (held_by p m f) i ≡ beside_parts p m i + sum (map f (parts_in p i))
is_sum TwoK m f Frame = omega arith
is_sum TwoK m f Inner = omega arith
is_sum TwoK m f C0 = omega arith
is_sum TwoK m f C1 = omega arith
is_sum TwoK m f C2 = omega arith
is_sum FourK m f Frame = omega arith
is_sum FourK m f Inner = omega arith
is_sum FourK m f C0 = omega arith
is_sum FourK m f C1 = omega arith
is_sum FourK m f C2 = omega arith

-- a number is in a list, and it is there once
abbrev any_is : ℕ → List ℕ → Bool
any_is n [] = false
any_is n (k ∷ ks) = if k == n then true else any_is n ks

abbrev once_is : ℕ → List ℕ → Bool
once_is n [] = false
once_is n (k ∷ ks) = if k == n then not (any_is n ks) else once_is n ks

sum-cons : (x : ℕ) (xs : List ℕ) → sum (x ∷ xs) ≡ x + sum xs
sum-cons x xs = sum_by-cons (λ y. y) x xs

unchanged : (f h : ℕ → ℕ) (n : ℕ) (ks : List ℕ) → SameBut f h n → any_is n ks ≡ false →
    sum (map h ks) ≡ sum (map f ks)
unchanged f h n [] same none = refl
unchanged f h n (k ∷ ks) same none =
    go (k == n) refl none (λ rest. unchanged f h n ks same rest)
  where
    go : (b : Bool) → (k == n) ≡ b → (if b then true else any_is n ks) ≡ false →
        (any_is n ks ≡ false → sum (map h ks) ≡ sum (map f ks)) →
        sum (map h (k ∷ ks)) ≡ sum (map f (k ∷ ks))
    go true is isnt below = absurd cc
    go false is rest below =
        let here = same k (eqb-false k n is) in
        let others = below rest in
        let old = sum-cons (f k) (map f ks) in
        let new = sum-cons (h k) (map h ks) in
        omega (arith, here, others, old, new)

changed_once : (f h : ℕ → ℕ) (n : ℕ) (ks : List ℕ) → SameBut f h n → once_is n ks ≡ true →
    sum (map h ks) + f n ≡ sum (map f ks) + h n
changed_once f h n [] same once = absurd cc
changed_once f h n (k ∷ ks) same once =
    go (k == n) refl once (λ rest. changed_once f h n ks same rest)
  where
    no_other : (b : Bool) → not b ≡ true → b ≡ false
    no_other true is = absurd cc
    no_other false is = refl

    go : (b : Bool) → (k == n) ≡ b → (if b then not (any_is n ks) else once_is n ks) ≡ true →
        (once_is n ks ≡ true → sum (map h ks) + f n ≡ sum (map f ks) + h n) →
        sum (map h (k ∷ ks)) + f n ≡ sum (map f (k ∷ ks)) + h n
    go true is rest below =
        let at : k ≡ n = eqb-true k n is in
        let others = unchanged f h n ks same (no_other (any_is n ks) rest) in
        let old = sum-cons (f k) (map f ks) in
        let new = sum-cons (h k) (map h ks) in
        let old_at = ap f at in
        let new_at = ap h at in
        omega (arith, others, old, new, old_at, new_at)
    go false is rest below =
        let here = same k (eqb-false k n is) in
        let others = below rest in
        let old = sum-cons (f k) (map f ks) in
        let new = sum-cons (h k) (map h ks) in
        omega (arith, here, others, old, new)

-- ---- a block's budgets are those of its tile-part

pub record IsInside (inside : Bool) (n : ℕ) (ks : List ℕ) : Type 0 where
  pub once : inside ≡ once_is n ks
  pub any : inside ≡ any_is n ks

in_two_k : (levels c r : ℕ) (i : Budget) → c < 3 →
    IsInside (is_in (members_of TwoK levels c r) i) c (parts_in TwoK i)
in_two_k levels zero r Frame below = record { once = refl; any = refl }
in_two_k levels zero r Inner below = record { once = refl; any = refl }
in_two_k levels zero r C0 below = record { once = refl; any = refl }
in_two_k levels zero r C1 below = record { once = refl; any = refl }
in_two_k levels zero r C2 below = record { once = refl; any = refl }
in_two_k levels (suc zero) r Frame below = record { once = refl; any = refl }
in_two_k levels (suc zero) r Inner below = record { once = refl; any = refl }
in_two_k levels (suc zero) r C0 below = record { once = refl; any = refl }
in_two_k levels (suc zero) r C1 below = record { once = refl; any = refl }
in_two_k levels (suc zero) r C2 below = record { once = refl; any = refl }
in_two_k levels (suc (suc zero)) r Frame below = record { once = refl; any = refl }
in_two_k levels (suc (suc zero)) r Inner below = record { once = refl; any = refl }
in_two_k levels (suc (suc zero)) r C0 below = record { once = refl; any = refl }
in_two_k levels (suc (suc zero)) r C1 below = record { once = refl; any = refl }
in_two_k levels (suc (suc zero)) r C2 below = record { once = refl; any = refl }
in_two_k levels (suc (suc (suc c))) r i below = absurd (omega (arith, below))

in_four_k : (inner : Bool) (c : ℕ) (i : Budget) → c < 3 →
    IsInside (is_in (record { inner = inner; component = if inner then Some c else None }) i)
    (if inner then c else 3 + c) (parts_in FourK i)
in_four_k true zero Frame below = record { once = refl; any = refl }
in_four_k true zero Inner below = record { once = refl; any = refl }
in_four_k true zero C0 below = record { once = refl; any = refl }
in_four_k true zero C1 below = record { once = refl; any = refl }
in_four_k true zero C2 below = record { once = refl; any = refl }
in_four_k true (suc zero) Frame below = record { once = refl; any = refl }
in_four_k true (suc zero) Inner below = record { once = refl; any = refl }
in_four_k true (suc zero) C0 below = record { once = refl; any = refl }
in_four_k true (suc zero) C1 below = record { once = refl; any = refl }
in_four_k true (suc zero) C2 below = record { once = refl; any = refl }
in_four_k true (suc (suc zero)) Frame below = record { once = refl; any = refl }
in_four_k true (suc (suc zero)) Inner below = record { once = refl; any = refl }
in_four_k true (suc (suc zero)) C0 below = record { once = refl; any = refl }
in_four_k true (suc (suc zero)) C1 below = record { once = refl; any = refl }
in_four_k true (suc (suc zero)) C2 below = record { once = refl; any = refl }
in_four_k false zero Frame below = record { once = refl; any = refl }
in_four_k false zero Inner below = record { once = refl; any = refl }
in_four_k false zero C0 below = record { once = refl; any = refl }
in_four_k false zero C1 below = record { once = refl; any = refl }
in_four_k false zero C2 below = record { once = refl; any = refl }
in_four_k false (suc zero) Frame below = record { once = refl; any = refl }
in_four_k false (suc zero) Inner below = record { once = refl; any = refl }
in_four_k false (suc zero) C0 below = record { once = refl; any = refl }
in_four_k false (suc zero) C1 below = record { once = refl; any = refl }
in_four_k false (suc zero) C2 below = record { once = refl; any = refl }
in_four_k false (suc (suc zero)) Frame below = record { once = refl; any = refl }
in_four_k false (suc (suc zero)) Inner below = record { once = refl; any = refl }
in_four_k false (suc (suc zero)) C0 below = record { once = refl; any = refl }
in_four_k false (suc (suc zero)) C1 below = record { once = refl; any = refl }
in_four_k false (suc (suc zero)) C2 below = record { once = refl; any = refl }
in_four_k inner (suc (suc (suc c))) i below = absurd (omega (arith, below))

inside : (p : Profile) (levels c r : ℕ) (i : Budget) → c < 3 →
    IsInside (is_in (members_of p levels c r) i) (part_of_res p levels c r) (parts_in p i)
inside TwoK levels c r i below = in_two_k levels c r i below
inside FourK levels c r i below = in_four_k (nat_lt r levels) c i below

abbrev members_by : Bool → ℕ → Members
members_by below c = record { inner = below; component = if below then Some c else None }

-- blocks of one tile-part have the same budgets
same_members : (p : Profile) (levels c r d q : ℕ) → c < 3 → d < 3 →
    part_of_res p levels c r ≡ part_of_res p levels d q →
    members_of p levels c r ≡ members_of p levels d q
same_members TwoK levels c r d q below other same =
    ap (λ n. members_of TwoK levels n r) same
same_members FourK levels c r d q below other same = go (nat_lt r levels) (nat_lt q levels) same
  where
    go : (a b : Bool) → (if a then c else 3 + c) ≡ (if b then d else 3 + d) →
        members_by a c ≡ members_by b d
    go true true is = ap (λ n. members_by true n) is
    go true false is = absurd (omega (arith, is, below, other))
    go false true is = absurd (omega (arith, is, below, other))
    go false false is = refl

-- ---- the law

abbrev part_of : Geometry → BlockId → ℕ
part_of g b = part_of_res g.profile g.levels b.component b.res

lengths_same : (g : Geometry) (steps : StepSizes) (given changed : BlockId → BlockBytes)
    (id : BlockId) → IsOther g id given changed →
    SameBut (part_length g steps given) (part_length g steps changed) (part_of g id)
lengths_same g steps given changed id is k other =
    part_alike g steps given changed k (λ b block at.
    is b block (λ same. other (sym at ∙ ap (part_of g) same)))

in_budget : (g : Geometry) (steps : StepSizes) (given changed : BlockId → BlockBytes)
    (id : BlockId) (i : Budget) → AreHeld g steps → IsBlock g id → IsOther g id given changed →
    IsTrue (is_in (block_members g id) i) →
    held_in (frame_held g steps changed) i + part_length g steps given (part_of g id)
    ≡ held_in (frame_held g steps given) i + part_length g steps changed (part_of g id)
in_budget g steps given changed id i held block is within =
    let m = main_length g.profile in
    let old = ap (λ h. held_in h i) (by_lengths g steps given held)
    ∙ is_sum g.profile m (part_length g steps given) i in
    let new = ap (λ h. held_in h i) (by_lengths g steps changed held)
    ∙ is_sum g.profile m (part_length g steps changed) i in
    let all = changed_once (part_length g steps given) (part_length g steps changed)
    (part_of g id) (parts_in g.profile i) (lengths_same g steps given changed id is)
    (sym (inside g.profile g.levels id.component id.res i block.component).once ∙ within) in
    omega (arith, old, new, all)

pub other_budget : (g : Geometry) (steps : StepSizes) (given changed : BlockId → BlockBytes)
    (id : BlockId) (j : Budget) → AreHeld g steps → IsBlock g id → IsOther g id given changed →
    ¬ IsTrue (is_in (block_members g id) j) →
    held_in (frame_held g steps changed) j ≡ held_in (frame_held g steps given) j
other_budget g steps given changed id j held block is isnt =
    let m = main_length g.profile in
    let old = ap (λ h. held_in h j) (by_lengths g steps given held)
    ∙ is_sum g.profile m (part_length g steps given) j in
    let new = ap (λ h. held_in h j) (by_lengths g steps changed held)
    ∙ is_sum g.profile m (part_length g steps changed) j in
    let all = unchanged (part_length g steps given) (part_length g steps changed)
    (part_of g id) (parts_in g.profile j) (lengths_same g steps given changed id is)
    (sym (inside g.profile g.levels id.component id.res j block.component).any
    ∙ not_true (is_in (block_members g id) j) isnt) in
    omega (arith, old, new, all)
  where
    not_true : (b : Bool) → ¬ IsTrue b → b ≡ false
    not_true true no_way = absurd (no_way refl)
    not_true false no_way = refl

pub same_change : (g : Geometry) (steps : StepSizes) (given changed : BlockId → BlockBytes)
    (id : BlockId) (i j : Budget) → AreHeld g steps → IsBlock g id → IsOther g id given changed →
    IsTrue (is_in (block_members g id) i) → IsTrue (is_in (block_members g id) j) →
    held_in (frame_held g steps changed) i + held_in (frame_held g steps given) j
    ≡ held_in (frame_held g steps changed) j + held_in (frame_held g steps given) i
same_change g steps given changed id i j held block is here there =
    let one = in_budget g steps given changed id i held block is here in
    let other = in_budget g steps given changed id j held block is there in
    omega (arith, one, other)

pub depends : (g : Geometry) (steps : StepSizes)
    (given changed more more_changed : BlockId → BlockBytes) (id : BlockId) (j : Budget) →
    AreHeld g steps → IsBlock g id → IsOther g id given changed → IsOther g id more more_changed →
    AreAlike g id given more → more_changed id ≡ changed id →
    held_in (frame_held g steps more_changed) j + held_in (frame_held g steps given) j
    ≡ held_in (frame_held g steps changed) j + held_in (frame_held g steps more) j
depends g steps given changed more more_changed id j held block is more_is alike at =
    go (is_in (block_members g id) j) refl
  where
    alike_in_part : (b : BlockId) → IsBlock g b → part_of g b ≡ part_of g id → more b ≡ given b
    alike_in_part b there same =
        alike b there (same_members g.profile g.levels b.component b.res id.component id.res
        there.component block.component same)

    old : part_length g steps more (part_of g id) ≡ part_length g steps given (part_of g id)
    old = part_alike g steps given more (part_of g id) alike_in_part

    new : part_length g steps more_changed (part_of g id)
        ≡ part_length g steps changed (part_of g id)
    new = part_alike g steps changed more_changed (part_of g id) (λ b there same.
        elim (block_is b id) [
          | inl here ↦ ap more_changed here ∙ at ∙ ap changed (sym here)
          | inr other ↦ more_is b there other ∙ alike_in_part b there same
              ∙ sym (is b there other)
        ])

    go : (b : Bool) → is_in (block_members g id) j ≡ b →
        held_in (frame_held g steps more_changed) j + held_in (frame_held g steps given) j
        ≡ held_in (frame_held g steps changed) j + held_in (frame_held g steps more) j
    go true within =
        let one = in_budget g steps given changed id j held block is within in
        let other = in_budget g steps more more_changed id j held block more_is within in
        omega (arith, one, other, old, new)
    go false without =
        let one = other_budget g steps given changed id j held block is (λ yes. absurd cc) in
        let other = other_budget g steps more more_changed id j held block more_is
        (λ yes. absurd cc) in
        omega (arith, one, other)

-- ---- the length of the codestream

parts_long : (g : Geometry) (steps : StepSizes) (given : BlockId → BlockBytes) (ks : List ℕ) →
    length (flat_map (written_part g steps given) ks) ≡ sum (map (part_length g steps given) ks)
parts_long g steps given [] = refl
parts_long g steps given (k ∷ ks) =
    let head = part_head_of (part_length g steps given k) k (parts_of g.profile) in
    let part = length-append head (written_body g steps given k) in
    let whole = length-append (written_part g steps given k)
    (flat_map (written_part g steps given) ks) in
    let rest = parts_long g steps given ks in
    let more = sum-cons (part_length g steps given k) (map (part_length g steps given) ks) in
    omega (arith, part, whole, rest, more)

pub spelled_length : (g : Geometry) (steps : StepSizes) (given : BlockId → BlockBytes) →
    length (spell g steps given) ≡ (frame_held g steps given).frame
unfolding spell
spelled_length g steps given =
    let main = main_header_of (header_for g steps (part_lengths g steps given)) in
    let parts = flat_map (written_part g steps given) (part_indexes g) in
    let whole = length-append main (parts ++ eoc) in
    let last = length-append parts eoc in
    let long = parts_long g steps given (part_indexes g) in
    omega (arith, whole, last, long)
