-- Tile-parts one after the other: whatever comes of all of them is what comes of those that are
-- left.
use Rattle.std.proofs.Common.{◌≡◌, ℕ, ◌+◌, ◌≤◌, ◌<◌, List, [], ◌∷◌, ◌++◌, length, drop, refl}
use Rattle.std.proofs.Common.{get_or, ap, sym, ◌∙◌, arith, append_assoc, length-append, subst}
use Rattle.std.proofs.Common.{Ok, Err, Result}
use Rattle.std.specs.List.{Contains}
use Rattle.std.proofs.lemmas.List.{append-nil, drop_more, drop_all}
use Rattle.band_geometry.specs.Bands.{IsBlock}
use Rattle.band_geometry.specs.Numbering.{all_blocks}
use Rattle.band_geometry.specs.declared.geometry.Geometry.{Geometry}
use Rattle.band_geometry.specs.declared.places.BlockId.{BlockId}
use Rattle.dz_quantiser.specs.declared.steps.StepSizes.{StepSizes}
use Rattle.packet_order.specs.Blocks.{packet_of_block}
use Rattle.packet_order.specs.Order.{ordered_packets}
use Rattle.profile_reader.specs.Reads.{PacketsSay, PartsSay}
use Rattle.profile_reader.specs.Words.{PartWhole}
use Rattle.codestream_reader.specs.Spans.{said_of, span_in}
use Rattle.codestream_reader.specs.Standing.{PartStands, PartsStand}
use Rattle.codestream_reader.specs.PartFaults.{PartFault, PartsFault}
use Rattle.codestream_reader.specs.declared.part.PartKnown.{PartKnown}
use Rattle.codestream_reader.specs.declared.refusal.ReadRefusal.{ReadRefusal}
use Rattle.codestream_reader.specs.declared.span.BlockSpan.{BlockSpan}
use Rattle.codestream_reader.proofs.Lists.{ok_no_err}
use Rattle.codestream_reader.proofs.PartsSaying.{parts_kept, parts_more}
use Rattle.codestream_reader.proofs.PartsStanding.{united, none_stand, ends, longer, FaultFrom}
use Rattle.codestream_reader.proofs.PartsStanding.{FaultCases, from_fault, to_fault, later_fault}
use Rattle.codestream_reader.proofs.PartsStanding.{first_fault, cases_of, none_fault}
use Rattle.codestream_reader.proofs.PartsStanding.FaultCases.{of_first, of_later}

-- The first i tile-parts were read, up to the place `at`.

pub record IsGone (g : Geometry) (steps : StepSizes) (bytes : List ℕ) (at to : ℕ)
    (sizes : List ℕ) (i : ℕ) (spans : List BlockSpan) (all : List PartWhole) : Type 0 where
  pub first : List PartWhole
  pub rest : List PartWhole
  pub all_are : all ≡ first ++ rest
  pub counted : length first ≡ i
  pub says : PartsSay g (said_of bytes spans) 0 first
  pub stand : PartsStand g steps bytes at to i (length sizes) (drop i sizes) rest

pub record Gone (g : Geometry) (steps : StepSizes) (bytes : List ℕ) (from : ℕ)
    (sizes places : List ℕ) (old : List BlockSpan) (i at : ℕ) (spans : List BlockSpan)
    : Type 0 where
  pub inside : at ≤ length bytes
  pub stand : (ws : List PartWhole) (to : ℕ) →
      PartsStand g steps bytes at to i (length sizes) (drop i sizes) ws →
      (all : List PartWhole) × PartsStand g steps bytes from to 0 (length sizes) sizes all
  pub reads : (all : List PartWhole) (to : ℕ) →
      PartsStand g steps bytes from to 0 (length sizes) sizes all →
      IsGone g steps bytes at to sizes i spans all
  pub refused : (refusal : ReadRefusal) →
      FaultFrom g steps bytes at i (length sizes) (drop i sizes) (drop i places) refusal →
      FaultFrom g steps bytes from 0 (length sizes) sizes places refusal
  pub faults : (refusal : ReadRefusal) →
      FaultFrom g steps bytes from 0 (length sizes) sizes places refusal →
      FaultFrom g steps bytes at i (length sizes) (drop i sizes) (drop i places) refusal
  pub count : length spans ≡ length old

pub none_gone : (g : Geometry) (steps : StepSizes) (bytes : List ℕ) (from : ℕ)
    (sizes places : List ℕ) (old : List BlockSpan) → from ≤ length bytes →
    Gone g steps bytes from sizes places old 0 from old
unfolding PartsSay
none_gone g steps bytes from sizes places old inside = record {
  inside = inside;
  stand = λ ws to s. (ws, s);
  reads = λ all to s.
      record { first = []; rest = all; all_are = refl; counted = refl; says = tt; stand = s };
  refused = λ refusal f. f;
  faults = λ refusal f. f;
  count = refl;
}

-- what is known of the i-th
pub part_known : List ℕ → List ℕ → ℕ → PartKnown
part_known sizes places i = record {
  index = i;
  count = length sizes;
  size = get_or sizes i 0;
  size_at = get_or places i 0;
}

pub known_is : (sizes places : List ℕ) (i : ℕ) (known : PartKnown) → known.index ≡ i →
    known.count ≡ length sizes → known.size ≡ get_or sizes i 0 →
    known.size_at ≡ get_or places i 0 → known ≡ part_known sizes places i
unfolding part_known
known_is sizes places i known index count size size_at =
    λ j. record { index = index j; count = count j; size = size j; size_at = size_at j }

-- what `read_tile_part` says of a tile-part that was read
pub record One (g : Geometry) (steps : StepSizes) (bytes : List ℕ) (at next : ℕ)
    (known : PartKnown) (old new : List BlockSpan) : Type 0 where
  pub stands : (w : PartWhole)
      × PartStands g steps bytes at known.index known.count known.size w
  pub end : next ≡ at + known.size
  pub inside : next ≤ length bytes
  pub says : (w : PartWhole) →
      PartStands g steps bytes at known.index known.count known.size w →
      PacketsSay g (said_of bytes new) (ordered_packets g known.index) w.packets
  pub faults : (refusal : ReadRefusal) →
      PartFault g steps bytes at known.index known.count known.size known.size_at refusal →
      ◌≡◌ {A = Result ℕ ReadRefusal} (Ok next) (Err refusal)
  pub others : (b : BlockId) → IsBlock g b →
      (Contains (ordered_packets g known.index) (packet_of_block b) → ⊥) →
      span_in g new b ≡ span_in g old b
  pub count : length new ≡ length old

pub one_gone : (g : Geometry) (steps : StepSizes) (bytes : List ℕ) (from : ℕ)
    (sizes places : List ℕ) (start : List BlockSpan) (i at next : ℕ)
    (old new : List BlockSpan) → i < length sizes → length places ≡ length sizes →
    length start ≡ length (all_blocks g) →
    Gone g steps bytes from sizes places start i at old →
    One g steps bytes at next (part_known sizes places i) old new →
    Gone g steps bytes from sizes places start (i + 1) next new
unfolding part_known
one_gone g steps bytes from sizes places start i at next old new below same count gone one =
    record {
      inside = one.inside;
      stand = λ ws to s. gone.stand (one.stands.0 ∷ ws) to
          (subst (λ (l : List ℕ). PartsStand g steps bytes at to i n l (one.stands.0 ∷ ws))
          (sym sizes_are)
          (united g steps bytes at to i n size later one.stands.0 ws one.stands.1
          (subst (λ k. PartsStand g steps bytes k to (i + 1) n later ws) one.end s)));
      reads = reads;
      refused = λ refusal f. gone.refused refusal (left refusal
          (later_fault g steps bytes at i n size size_at later later_places one.stands.0 refusal
          one.stands.1
          (subst (λ k. FaultFrom g steps bytes k (i + 1) n later later_places refusal) one.end f)));
      faults = faults;
      count = one.count ∙ gone.count;
    }
  where
    n : ℕ
    n = length sizes

    size : ℕ
    size = get_or sizes i 0

    size_at : ℕ
    size_at = get_or places i 0

    later : List ℕ
    later = drop (i + 1) sizes

    later_places : List ℕ
    later_places = drop (i + 1) places

    sizes_are : drop i sizes ≡ size ∷ later
    sizes_are = drop_more sizes i 0 below

    places_are : drop i places ≡ size_at ∷ later_places
    places_are = drop_more places i 0 (omega (arith, below, same))

    before_count : length old ≡ length (all_blocks g)
    before_count = gone.count ∙ count

    left : (refusal : ReadRefusal) →
        FaultFrom g steps bytes at i n (size ∷ later) (size_at ∷ later_places) refusal →
        FaultFrom g steps bytes at i n (drop i sizes) (drop i places) refusal
    left refusal f =
        subst (λ (l : List ℕ). FaultFrom g steps bytes at i n l (drop i places) refusal)
        (sym sizes_are)
        (subst (λ (l : List ℕ). FaultFrom g steps bytes at i n (size ∷ later) l refusal)
        (sym places_are) f)

    reads : (all : List PartWhole) (to : ℕ) →
        PartsStand g steps bytes from to 0 n sizes all →
        IsGone g steps bytes next to sizes (i + 1) new all
    reads all to s =
        let so = gone.reads all to s in
        let long = longer g steps bytes at to i n size later so.rest
        (subst (λ (l : List ℕ). PartsStand g steps bytes at to i n l so.rest) sizes_are
        so.stand) in
        let counted = so.counted in
        record {
          first = so.first ++ long.w ∷ [];
          rest = long.ws;
          all_are = so.all_are ∙ ap (λ t. so.first ++ t) long.all_are
              ∙ sym (append_assoc so.first (long.w ∷ []) long.ws);
          counted = length-append so.first (long.w ∷ []) ∙ omega (arith, counted);
          says = parts_more g (said_of bytes new) 0 so.first long.w
              (parts_kept g bytes old new i 0 so.first (omega (arith, counted)) before_count
              (one.count ∙ before_count) one.others so.says)
              (subst (λ k. PacketsSay g (said_of bytes new) (ordered_packets g k) long.w.packets)
              (let e : i ≡ 0 + length so.first = omega (arith, counted) in e)
              (one.says long.w long.divided.first));
          stand = subst (λ k. PartsStand g steps bytes k to (i + 1) n later long.ws)
              (sym one.end) long.divided.later;
        }

    faults : (refusal : ReadRefusal) →
        FaultFrom g steps bytes from 0 n sizes places refusal →
        FaultFrom g steps bytes next (i + 1) n later later_places refusal
    faults refusal f = by (cases_of g steps bytes at i n size size_at later later_places refusal
        (subst (λ (l : List ℕ). FaultFrom g steps bytes at i n (size ∷ later) l refusal)
        places_are
        (subst (λ (l : List ℕ). FaultFrom g steps bytes at i n l (drop i places) refusal)
        sizes_are (gone.faults refusal f))))
      where
        by : FaultCases g steps bytes at i n size size_at later later_places refusal →
            FaultFrom g steps bytes next (i + 1) n later later_places refusal
        by (of_first h) = absurd (ok_no_err (Ok next) next refusal refl (one.faults refusal h))
        by (of_later w stands h) =
            subst (λ k. FaultFrom g steps bytes k (i + 1) n later later_places refusal)
            (sym one.end) h

-- what `read_tile_part` says of a tile-part that was refused
pub record Not (g : Geometry) (steps : StepSizes) (bytes : List ℕ) (at : ℕ) (known : PartKnown)
    (e : ReadRefusal) : Type 0 where
  pub refused : PartFault g steps bytes at known.index known.count known.size known.size_at e
  pub none : (w : PartWhole) →
      PartStands g steps bytes at known.index known.count known.size w → ⊥
  pub faults : (refusal : ReadRefusal) →
      PartFault g steps bytes at known.index known.count known.size known.size_at refusal →
      e ≡ refusal

pub record Stops (g : Geometry) (steps : StepSizes) (bytes : List ℕ) (from : ℕ)
    (sizes places : List ℕ) (e : ReadRefusal) : Type 0 where
  pub refused : PartsFault g steps bytes from sizes places e
  pub none : (all : List PartWhole) (to : ℕ) →
      PartsStand g steps bytes from to 0 (length sizes) sizes all → ⊥
  pub faults : (refusal : ReadRefusal) → PartsFault g steps bytes from sizes places refusal →
      e ≡ refusal

pub one_stops : (g : Geometry) (steps : StepSizes) (bytes : List ℕ) (from : ℕ)
    (sizes places : List ℕ) (start : List BlockSpan) (i at : ℕ) (e : ReadRefusal)
    (old : List BlockSpan) → i < length sizes → length places ≡ length sizes →
    Gone g steps bytes from sizes places start i at old →
    Not g steps bytes at (part_known sizes places i) e →
    Stops g steps bytes from sizes places e
unfolding part_known
one_stops g steps bytes from sizes places start i at e old below same gone not = record {
  refused = to_fault g steps bytes from sizes places e (gone.refused e
      (subst (λ (l : List ℕ). FaultFrom g steps bytes at i n l (drop i places) e) (sym sizes_are)
      (subst (λ (l : List ℕ). FaultFrom g steps bytes at i n (size ∷ later) l e)
      (sym places_are)
      (first_fault g steps bytes at i n size size_at later later_places e not.refused))));
  none = λ all to s.
      let so = gone.reads all to s in
      let long = longer g steps bytes at to i n size later so.rest
      (subst (λ (l : List ℕ). PartsStand g steps bytes at to i n l so.rest) sizes_are so.stand) in
      not.none long.w long.divided.first;
  faults = λ refusal f. by refusal
      (cases_of g steps bytes at i n size size_at later later_places refusal
      (subst (λ (l : List ℕ). FaultFrom g steps bytes at i n (size ∷ later) l refusal) places_are
      (subst (λ (l : List ℕ). FaultFrom g steps bytes at i n l (drop i places) refusal) sizes_are
      (gone.faults refusal (from_fault g steps bytes from sizes places refusal f)))));
}
  where
    n : ℕ
    n = length sizes

    size : ℕ
    size = get_or sizes i 0

    size_at : ℕ
    size_at = get_or places i 0

    later : List ℕ
    later = drop (i + 1) sizes

    later_places : List ℕ
    later_places = drop (i + 1) places

    sizes_are : drop i sizes ≡ size ∷ later
    sizes_are = drop_more sizes i 0 below

    places_are : drop i places ≡ size_at ∷ later_places
    places_are = drop_more places i 0 (omega (arith, below, same))

    by : (refusal : ReadRefusal) →
        FaultCases g steps bytes at i n size size_at later later_places refusal → e ≡ refusal
    by refusal (of_first h) = not.faults refusal h
    by refusal (of_later w stands h) = absurd (not.none w stands)

-- all were read
pub record AllGone (g : Geometry) (steps : StepSizes) (bytes : List ℕ) (from : ℕ)
    (sizes places : List ℕ) (at : ℕ) (new : List BlockSpan) : Type 0 where
  pub stand : (all : List PartWhole)
      × PartsStand g steps bytes from at 0 (length sizes) sizes all
  pub reads : (all : List PartWhole) (to : ℕ) →
      PartsStand g steps bytes from to 0 (length sizes) sizes all →
      (at ≡ to) × PartsSay g (said_of bytes new) 0 all
  pub faults : (refusal : ReadRefusal) → PartsFault g steps bytes from sizes places refusal → ⊥

pub all_gone : (g : Geometry) (steps : StepSizes) (bytes : List ℕ) (from : ℕ)
    (sizes places : List ℕ) (start : List BlockSpan) (i at : ℕ) (new : List BlockSpan) →
    length sizes ≤ i → Gone g steps bytes from sizes places start i at new →
    AllGone g steps bytes from sizes places at new
all_gone g steps bytes from sizes places start i at new whole gone = record {
  stand = gone.stand [] at
      (subst (λ (l : List ℕ). PartsStand g steps bytes at at i (length sizes) l []) (sym none)
      (none_stand g steps bytes at i (length sizes)));
  reads = λ all to s. by all to (gone.reads all to s);
  faults = λ refusal f. none_fault g steps bytes at i (length sizes) (drop i places) refusal
      (subst (λ (l : List ℕ).
      FaultFrom g steps bytes at i (length sizes) l (drop i places) refusal) none
      (gone.faults refusal (from_fault g steps bytes from sizes places refusal f)));
}
  where
    none : drop i sizes ≡ []
    none = drop_all i sizes whole

    by : (all : List PartWhole) (to : ℕ) → IsGone g steps bytes at to sizes i new all →
        (at ≡ to) × PartsSay g (said_of bytes new) 0 all
    by all to so =
        let last = ends g steps bytes at to i (length sizes) so.rest
        (subst (λ (l : List ℕ). PartsStand g steps bytes at to i (length sizes) l so.rest) none
        so.stand) in
        let first_is : so.first ≡ all =
        sym (so.all_are ∙ ap (λ t. so.first ++ t) last.0 ∙ append-nil so.first) in (
          last.1,
          subst (λ (t : List PartWhole). PartsSay g (said_of bytes new) 0 t) first_is so.says,
        )
