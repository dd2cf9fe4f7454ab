-- Packets one after the other: whatever comes of all of them is what comes of those that are left.
use Rattle.std.proofs.Common.{◌≡◌, ℕ, ◌+◌, ◌≤◌, ◌<◌, List, [], ◌∷◌, ◌++◌, length, take, drop, refl}
use Rattle.std.proofs.Common.{get_or, ap, sym, ◌∙◌, arith, append_assoc, length-append, subst}
use Rattle.std.proofs.Common.{Ok, Err, Result, slice_range}
use Rattle.std.specs.List.{All, AllPairs, Contains, flat_map}
use Rattle.std.proofs.lemmas.List.{append-nil, take_more, drop_more, drop_all, take_all}
use Rattle.std.proofs.lemmas.List.{length-take-le, get_or-take, get_or_default, take-append-drop}
use Rattle.std.proofs.lemmas.List.Elements.{All-take, Contains-append_left, Contains-push}
use Rattle.band_geometry.specs.Bands.{IsBlock}
use Rattle.band_geometry.specs.Numbering.{all_blocks}
use Rattle.band_geometry.specs.declared.geometry.Geometry.{Geometry}
use Rattle.band_geometry.specs.declared.places.BlockId.{BlockId}
use Rattle.dz_quantiser.specs.declared.steps.StepSizes.{StepSizes}
use Rattle.packet_headers.specs.declared.refusal.PacketRefusal.{PacketRefusal}
use Rattle.packet_order.specs.Blocks.{packet_of_block}
use Rattle.packet_order.specs.declared.packet.PacketId.{PacketId}
use Rattle.profile_reader.specs.Packets.{BlockBytes}
use Rattle.profile_reader.specs.Reads.{PacketSays, PacketsSay}
use Rattle.profile_reader.specs.Shapes.{shapes_in}
use Rattle.profile_reader.specs.Words.{PacketWhole, PacketsFit, packet_bytes}
use Rattle.codestream_reader.specs.PacketFaults.{PacketFault, PacketsFault}
use Rattle.codestream_reader.specs.Spans.{IsPacket, said_of, span_in}
use Rattle.codestream_reader.specs.Standing.{PacketStands, PacketsStand}
use Rattle.codestream_reader.specs.declared.span.BlockSpan.{BlockSpan}
use Rattle.codestream_reader.proofs.Lists.{ok_no_err}
use Rattle.codestream_reader.proofs.OnePacket.{ok_once, err_once}
use Rattle.codestream_reader.proofs.Pieces.{joined}
use Rattle.codestream_reader.proofs.Saying.{all_kept}

-- packets stand where the first one stands and the others after it

pub record Divided (g : Geometry) (steps : StepSizes) (bytes : List ℕ) (from stop to : ℕ)
    (p : PacketId) (ps : List PacketId) (w : PacketWhole) (ws : List PacketWhole) : Type 0 where
  pub at : ℕ
  pub inside : at ≤ stop
  pub first : PacketStands (shapes_in g steps p) bytes from stop at w
  pub later : PacketsStand g steps bytes at stop to ps ws

pub divided : (g : Geometry) (steps : StepSizes) (bytes : List ℕ) (from stop to : ℕ)
    (p : PacketId) (ps : List PacketId) (w : PacketWhole) (ws : List PacketWhole) → from ≤ stop →
    stop ≤ length bytes → PacketsStand g steps bytes from stop to (p ∷ ps) (w ∷ ws) →
    Divided g steps bytes from stop to p ps w ws
unfolding PacketsFit
divided g steps bytes from stop to p ps w ws order inside stand =
    let rest = flat_map packet_bytes ws ++ slice_range bytes to stop in
    let split : slice_range bytes from stop ≡ packet_bytes w ++ rest =
    stand.bytes_are ∙ append_assoc (packet_bytes w) (flat_map packet_bytes ws)
    (slice_range bytes to stop) in
    let parts = joined bytes (packet_bytes w) rest from stop inside order split in
    record {
      at = from + length (packet_bytes w);
      inside = parts.inside;
      first = record {
        fits = stand.fits.0;
        bytes_are = split ∙ ap (λ t. packet_bytes w ++ t) (sym parts.rest);
        to_is = refl;
      };
      later = record {
        fits = stand.fits.1;
        bytes_are = parts.rest;
        to_is =
            let to_is = stand.to_is in
            let sum = length-append (packet_bytes w) (flat_map packet_bytes ws) in
            omega (arith, to_is, sum);
      };
    }

pub united : (g : Geometry) (steps : StepSizes) (bytes : List ℕ) (from at stop to : ℕ)
    (p : PacketId) (ps : List PacketId) (w : PacketWhole) (ws : List PacketWhole) →
    PacketStands (shapes_in g steps p) bytes from stop at w →
    PacketsStand g steps bytes at stop to ps ws →
    PacketsStand g steps bytes from stop to (p ∷ ps) (w ∷ ws)
unfolding PacketsFit
united g steps bytes from at stop to p ps w ws first later = record {
  fits = (first.fits, later.fits);
  bytes_are =
      first.bytes_are ∙ ap (λ t. packet_bytes w ++ t) later.bytes_are
      ∙ sym (append_assoc (packet_bytes w) (flat_map packet_bytes ws) (slice_range bytes to stop));
  to_is =
      let mid = first.to_is in
      let end = later.to_is in
      let sum = length-append (packet_bytes w) (flat_map packet_bytes ws) in
      omega (arith, mid, end, sum);
}

-- no packets end where they begin
pub none_stand : (g : Geometry) (steps : StepSizes) (bytes : List ℕ) (at stop : ℕ) →
    PacketsStand g steps bytes at stop at [] []
unfolding PacketsFit
none_stand g steps bytes at stop = record { fits = tt; bytes_are = refl; to_is = omega arith }

-- the packets of a list that isn't empty
pub record IsLonger (g : Geometry) (steps : StepSizes) (bytes : List ℕ) (from stop to : ℕ)
    (p : PacketId) (ps : List PacketId) (all : List PacketWhole) : Type 0 where
  pub w : PacketWhole
  pub ws : List PacketWhole
  pub all_are : all ≡ w ∷ ws
  pub divided : Divided g steps bytes from stop to p ps w ws

pub longer : (g : Geometry) (steps : StepSizes) (bytes : List ℕ) (from stop to : ℕ)
    (p : PacketId) (ps : List PacketId) (all : List PacketWhole) → from ≤ stop →
    stop ≤ length bytes → PacketsStand g steps bytes from stop to (p ∷ ps) all →
    IsLonger g steps bytes from stop to p ps all
unfolding PacketsFit
longer g steps bytes from stop to p ps [] order inside stand = absurd stand.fits
longer g steps bytes from stop to p ps (w ∷ ws) order inside stand = record {
  w = w;
  ws = ws;
  all_are = refl;
  divided = divided g steps bytes from stop to p ps w ws order inside stand;
}

-- a fault is one of the first packet, or one after it

pub later_fault : (g : Geometry) (steps : StepSizes) (bytes : List ℕ) (from at stop : ℕ)
    (p : PacketId) (ps : List PacketId) (w : PacketWhole) (fault : PacketRefusal) →
    PacketStands (shapes_in g steps p) bytes from stop at w →
    PacketsFault g steps bytes at stop ps fault →
    PacketsFault g steps bytes from stop (p ∷ ps) fault
later_fault g steps bytes from at stop p ps w fault stands f = record {
  first = p ∷ f.first;
  next = f.next;
  later = f.later;
  ids_are = ap (λ t. p ∷ t) f.ids_are;
  before = w ∷ f.before;
  at = f.at;
  stand = united g steps bytes from at stop f.at p f.first w f.before stands f.stand;
  next_fault = f.next_fault;
}

pub first_fault : (g : Geometry) (steps : StepSizes) (bytes : List ℕ) (from stop : ℕ)
    (p : PacketId) (ps : List PacketId) (fault : PacketRefusal) →
    PacketFault (shapes_in g steps p) bytes from stop fault →
    PacketsFault g steps bytes from stop (p ∷ ps) fault
first_fault g steps bytes from stop p ps fault f = record {
  first = [];
  next = p;
  later = ps;
  ids_are = refl;
  before = [];
  at = from;
  stand = none_stand g steps bytes from stop;
  next_fault = f;
}

pub data FaultCases (g : Geometry) (steps : StepSizes) (bytes : List ℕ) (from stop : ℕ)
    (p : PacketId) (ps : List PacketId) (fault : PacketRefusal) : Type 0 where
  of_first : PacketFault (shapes_in g steps p) bytes from stop fault
      → FaultCases g steps bytes from stop p ps fault
  of_later : (w : PacketWhole) (at : ℕ) → PacketStands (shapes_in g steps p) bytes from stop at w
      → PacketsFault g steps bytes at stop ps fault
      → FaultCases g steps bytes from stop p ps fault

heads_same : (p q : PacketId) (ps qs : List PacketId) → p ∷ ps ≡ q ∷ qs → p ≡ q
heads_same p q ps qs e = cc

tails_same : (p q : PacketId) (ps qs : List PacketId) → p ∷ ps ≡ q ∷ qs → ps ≡ qs
tails_same p q ps qs e = cc

no_packets : (p : PacketId) (ps : List PacketId) → ◌≡◌ {A = List PacketId} [] (p ∷ ps) → ⊥
no_packets p ps e = omega (arith, ap (λ (t : List PacketId). length t) e)

pub cases_of : (g : Geometry) (steps : StepSizes) (bytes : List ℕ) (from stop : ℕ)
    (p : PacketId) (ps : List PacketId) (fault : PacketRefusal) → from ≤ stop →
    stop ≤ length bytes → PacketsFault g steps bytes from stop (p ∷ ps) fault →
    FaultCases g steps bytes from stop p ps fault
unfolding PacketsFit
cases_of g steps bytes from stop p ps fault order inside f =
    by f.first f.before f.ids_are f.stand
  where
    by : (first : List PacketId) (before : List PacketWhole) → p ∷ ps ≡ first ++ f.next ∷ f.later →
        PacketsStand g steps bytes from stop f.at first before →
        FaultCases g steps bytes from stop p ps fault
    by [] [] are stand =
        let same : p ≡ f.next = heads_same p f.next ps f.later are in
        let here : f.at ≡ from = (let to_is = stand.to_is in omega (arith, to_is)) in
        of_first (subst (λ (q : PacketId). PacketFault (shapes_in g steps q) bytes from stop fault)
        (sym same) (subst (λ n. PacketFault (shapes_in g steps f.next) bytes n stop fault) here
        f.next_fault))
    by [] (w ∷ before) are stand = absurd stand.fits
    by (q ∷ first) [] are stand = absurd stand.fits
    by (q ∷ first) (w ∷ before) are stand =
        let same : p ≡ q = heads_same p q ps (first ++ f.next ∷ f.later) are in
        let parts = divided g steps bytes from stop f.at q first w before order inside stand in
        of_later w parts.at
        (subst (λ (i : PacketId). PacketStands (shapes_in g steps i) bytes from stop parts.at w)
        (sym same) parts.first)
        (record {
          first = first;
          next = f.next;
          later = f.later;
          ids_are = tails_same p q ps (first ++ f.next ∷ f.later) are;
          before = before;
          at = f.at;
          stand = parts.later;
          next_fault = f.next_fault;
        })

pub none_fault : (g : Geometry) (steps : StepSizes) (bytes : List ℕ) (from stop : ℕ)
    (fault : PacketRefusal) → PacketsFault g steps bytes from stop [] fault → ⊥
none_fault g steps bytes from stop fault f = by f.first f.ids_are
  where
    by : (first : List PacketId) → ◌≡◌ {A = List PacketId} [] (first ++ f.next ∷ f.later) → ⊥
    by [] are = no_packets f.next f.later are
    by (q ∷ first) are = no_packets q (first ++ f.next ∷ f.later) are

-- what packets say of their blocks

pub says_more : (g : Geometry) (blocks : List BlockBytes) (ps : List PacketId)
    (ws : List PacketWhole) (p : PacketId) (w : PacketWhole) → PacketsSay g blocks ps ws →
    PacketSays g blocks p w → PacketsSay g blocks (ps ++ p ∷ []) (ws ++ w ∷ [])
unfolding PacketsSay
says_more g blocks [] [] p w says more = (more, tt)
says_more g blocks [] (v ∷ ws) p w says more = absurd says
says_more g blocks (q ∷ ps) [] p w says more = absurd says
says_more g blocks (q ∷ ps) (v ∷ ws) p w says more =
    (says.0, says_more g blocks ps ws p w says.1 more)

-- The first i packets were read, up to the place `at`: whatever comes of all packets comes of those
-- that are left.

pub record IsGone (g : Geometry) (steps : StepSizes) (bytes : List ℕ) (at stop to : ℕ)
    (ids : List PacketId) (i : ℕ) (spans : List BlockSpan) (all : List PacketWhole) : Type 0 where
  pub first : List PacketWhole
  pub rest : List PacketWhole
  pub all_are : all ≡ first ++ rest
  pub says : PacketsSay g (said_of bytes spans) (take i ids) first
  pub stand : PacketsStand g steps bytes at stop to (drop i ids) rest

pub record Gone (g : Geometry) (steps : StepSizes) (bytes : List ℕ) (from stop : ℕ)
    (ids : List PacketId) (old : List BlockSpan) (i at : ℕ) (spans : List BlockSpan)
    : Type 0 where
  pub inside : at ≤ stop
  pub stand : (ws : List PacketWhole) (to : ℕ) →
      PacketsStand g steps bytes at stop to (drop i ids) ws →
      (all : List PacketWhole) × PacketsStand g steps bytes from stop to ids all
  pub reads : (all : List PacketWhole) (to : ℕ) → PacketsStand g steps bytes from stop to ids all →
      IsGone g steps bytes at stop to ids i spans all
  pub refused : (fault : PacketRefusal) → PacketsFault g steps bytes at stop (drop i ids) fault →
      PacketsFault g steps bytes from stop ids fault
  pub faults : (fault : PacketRefusal) → PacketsFault g steps bytes from stop ids fault →
      PacketsFault g steps bytes at stop (drop i ids) fault
  pub others : (b : BlockId) → IsBlock g b → (Contains (take i ids) (packet_of_block b) → ⊥) →
      span_in g spans b ≡ span_in g old b
  pub count : length spans ≡ length old

pub none_gone : (g : Geometry) (steps : StepSizes) (bytes : List ℕ) (from stop : ℕ)
    (ids : List PacketId) (old : List BlockSpan) → from ≤ stop →
    Gone g steps bytes from stop ids old 0 from old
unfolding PacketsSay
none_gone g steps bytes from stop ids old inside = record {
  inside = inside;
  stand = λ ws to s. (ws, s);
  reads = λ all to s. record { first = []; rest = all; all_are = refl; says = tt; stand = s };
  refused = λ fault f. f;
  faults = λ fault f. f;
  others = λ b is not. refl;
  count = refl;
}

-- what `read_packet` says of a packet that was read
pub record One (g : Geometry) (steps : StepSizes) (bytes : List ℕ) (at stop next : ℕ)
    (p : PacketId) (old new : List BlockSpan) : Type 0 where
  pub stands : (w : PacketWhole) × PacketStands (shapes_in g steps p) bytes at stop next w
  pub inside : next ≤ stop
  pub reads : (w : PacketWhole) (to : ℕ) →
      PacketStands (shapes_in g steps p) bytes at stop to w →
      (◌≡◌ {A = Result ℕ PacketRefusal} (Ok next) (Ok to))
      × PacketSays g (said_of bytes new) p w
  pub faults : (fault : PacketRefusal) → PacketFault (shapes_in g steps p) bytes at stop fault →
      ◌≡◌ {A = Result ℕ PacketRefusal} (Ok next) (Err fault)
  pub others : (b : BlockId) → IsBlock g b → (packet_of_block b ≡ p → ⊥) →
      span_in g new b ≡ span_in g old b
  pub count : length new ≡ length old

pub one_gone : (g : Geometry) (steps : StepSizes) (bytes : List ℕ) (from stop : ℕ)
    (ids : List PacketId) (start : List BlockSpan) (i at next : ℕ) (p : PacketId)
    (old new : List BlockSpan) → stop ≤ length bytes → i < length ids → p ≡ get_or ids i p →
    All (IsPacket g) ids → AllPairs (λ a b. a ≡ b → ⊥) ids →
    length start ≡ length (all_blocks g) →
    Gone g steps bytes from stop ids start i at old → One g steps bytes at stop next p old new →
    Gone g steps bytes from stop ids start (i + 1) next new
one_gone g steps bytes from stop ids start i at next p old new end below here are apart count gone
    one = record {
      inside = one.inside;
      stand = λ ws to s. gone.stand (one.stands.0 ∷ ws) to
          (subst (λ (l : List PacketId). PacketsStand g steps bytes at stop to l (one.stands.0 ∷ ws))
          (sym drop_is)
          (united g steps bytes at next stop to p later one.stands.0 ws one.stands.1 s));
      reads = reads;
      refused = λ fault f. gone.refused fault
          (subst (λ (l : List PacketId). PacketsFault g steps bytes at stop l fault) (sym drop_is)
          (later_fault g steps bytes at next stop p later one.stands.0 fault one.stands.1 f));
      faults = faults;
      others = λ b is not.
          one.others b is (λ e. not (subst (λ (l : List PacketId). Contains l (packet_of_block b))
          (sym take_is) (subst (λ (q : PacketId). Contains (take i ids ++ p ∷ []) q) (sym e)
          (Contains-push (take i ids) p))))
          ∙ gone.others b is (λ there.
          not (subst (λ (l : List PacketId). Contains l (packet_of_block b)) (sym take_is)
          (Contains-append_left (take i ids) (p ∷ []) (packet_of_block b) there)));
      count = one.count ∙ gone.count;
    }
  where
    later : List PacketId
    later = drop (i + 1) ids

    drop_is : drop i ids ≡ p ∷ later
    drop_is = drop_more ids i p below ∙ ap (λ q. q ∷ later) (sym here)

    take_is : take (i + 1) ids ≡ take i ids ++ p ∷ []
    take_is = take_more ids i p below ∙ ap (λ q. take i ids ++ q ∷ []) (sym here)

    before_count : length old ≡ length (all_blocks g)
    before_count = gone.count ∙ count

    others_are : All (λ q. q ≡ p → ⊥) (take i ids)
    others_are k d less same =
        let less_both = less in
        let size = length-take-le i ids (omega (arith, below)) in
        let earlier : k < i = omega (arith, less_both, size) in
        apart k i d earlier below (sym (get_or-take i ids k d earlier) ∙ same ∙ here
        ∙ get_or_default ids i p d below)

    reads : (all : List PacketWhole) (to : ℕ) → PacketsStand g steps bytes from stop to ids all →
        IsGone g steps bytes next stop to ids (i + 1) new all
    reads all to s =
        let so = gone.reads all to s in
        let long = longer g steps bytes at stop to p later so.rest gone.inside end
        (subst (λ (l : List PacketId). PacketsStand g steps bytes at stop to l so.rest) drop_is
        so.stand) in
        let read = one.reads long.w long.divided.at long.divided.first in
        let same : next ≡ long.divided.at =
        ok_once {T = ℕ} {E = PacketRefusal} next long.divided.at read.0 in
        record {
          first = so.first ++ long.w ∷ [];
          rest = long.ws;
          all_are = so.all_are ∙ ap (λ t. so.first ++ t) long.all_are
              ∙ sym (append_assoc so.first (long.w ∷ []) long.ws);
          says = subst (λ (l : List PacketId).
              PacketsSay g (said_of bytes new) l (so.first ++ long.w ∷ [])) (sym take_is)
              (says_more g (said_of bytes new) (take i ids) so.first p long.w
              (all_kept g bytes old new p (take i ids) so.first
              (All-take (IsPacket g) i ids are) others_are before_count (one.count ∙ before_count)
              one.others so.says) read.1);
          stand = subst (λ n. PacketsStand g steps bytes n stop to later long.ws) (sym same)
              long.divided.later;
        }

    faults : (fault : PacketRefusal) → PacketsFault g steps bytes from stop ids fault →
        PacketsFault g steps bytes next stop later fault
    faults fault f = by (cases_of g steps bytes at stop p later fault gone.inside end
        (subst (λ (l : List PacketId). PacketsFault g steps bytes at stop l fault) drop_is
        (gone.faults fault f)))
      where
        by : FaultCases g steps bytes at stop p later fault →
            PacketsFault g steps bytes next stop later fault
        by (of_first h) = absurd (ok_no_err (Ok next) next fault refl (one.faults fault h))
        by (of_later w mid stands h) =
            subst (λ n. PacketsFault g steps bytes n stop later fault)
            (sym (ok_once {T = ℕ} {E = PacketRefusal} next mid (one.reads w mid stands).0)) h

-- what `read_packet` says of a packet that was refused
pub record Not (g : Geometry) (steps : StepSizes) (bytes : List ℕ) (at stop : ℕ)
    (p : PacketId) (e : PacketRefusal) (old new : List BlockSpan) : Type 0 where
  pub refused : PacketFault (shapes_in g steps p) bytes at stop e
  pub reads : (w : PacketWhole) (to : ℕ) →
      PacketStands (shapes_in g steps p) bytes at stop to w →
      (◌≡◌ {A = Result ℕ PacketRefusal} (Err e) (Ok to)) × PacketSays g (said_of bytes new) p w
  pub faults : (fault : PacketRefusal) → PacketFault (shapes_in g steps p) bytes at stop fault →
      ◌≡◌ {A = Result ℕ PacketRefusal} (Err e) (Err fault)
  pub others : (b : BlockId) → IsBlock g b → (packet_of_block b ≡ p → ⊥) →
      span_in g new b ≡ span_in g old b
  pub count : length new ≡ length old

pub record Stops (g : Geometry) (steps : StepSizes) (bytes : List ℕ) (from stop : ℕ)
    (ids : List PacketId) (e : PacketRefusal) (start new : List BlockSpan) : Type 0 where
  pub refused : PacketsFault g steps bytes from stop ids e
  pub reads : (all : List PacketWhole) (to : ℕ) → PacketsStand g steps bytes from stop to ids all →
      ⊥
  pub faults : (fault : PacketRefusal) → PacketsFault g steps bytes from stop ids fault →
      e ≡ fault
  pub others : (b : BlockId) → IsBlock g b → (Contains ids (packet_of_block b) → ⊥) →
      span_in g new b ≡ span_in g start b

pub one_stops : (g : Geometry) (steps : StepSizes) (bytes : List ℕ) (from stop : ℕ)
    (ids : List PacketId) (start : List BlockSpan) (i at : ℕ) (p : PacketId) (e : PacketRefusal)
    (old new : List BlockSpan) → stop ≤ length bytes → i < length ids → p ≡ get_or ids i p →
    Gone g steps bytes from stop ids start i at old → Not g steps bytes at stop p e old new →
    Stops g steps bytes from stop ids e start new
one_stops g steps bytes from stop ids start i at p e old new end below here gone not = record {
  refused = gone.refused e
      (subst (λ (l : List PacketId). PacketsFault g steps bytes at stop l e) (sym drop_is)
      (first_fault g steps bytes at stop p later e not.refused));
  reads = λ all to s.
      let so = gone.reads all to s in
      let long = longer g steps bytes at stop to p later so.rest gone.inside end
      (subst (λ (l : List PacketId). PacketsStand g steps bytes at stop to l so.rest) drop_is
      so.stand) in
      never (not.reads long.w long.divided.at long.divided.first).0;
  faults = λ fault f. by fault (cases_of g steps bytes at stop p later fault gone.inside end
      (subst (λ (l : List PacketId). PacketsFault g steps bytes at stop l fault) drop_is
      (gone.faults fault f)));
  others = λ b is no.
      not.others b is (λ same. no (subst (λ (q : PacketId). Contains ids q) (sym same)
      (i, below, get_or_default ids i p p below ∙ sym here)))
      ∙ gone.others b is (λ there. no (in_all b there));
}
  where
    later : List PacketId
    later = drop (i + 1) ids

    drop_is : drop i ids ≡ p ∷ later
    drop_is = drop_more ids i p below ∙ ap (λ q. q ∷ later) (sym here)

    never : {to : ℕ} → ◌≡◌ {A = Result ℕ PacketRefusal} (Err e) (Ok to) → ⊥
    never {to} same = ok_no_err (Ok to) to e refl (sym same)

    by : (fault : PacketRefusal) → FaultCases g steps bytes at stop p later fault → e ≡ fault
    by fault (of_first h) = err_once {T = ℕ} {E = PacketRefusal} e fault (not.faults fault h)
    by fault (of_later w mid stands h) = absurd (never (not.reads w mid stands).0)

    in_all : (b : BlockId) → Contains (take i ids) (packet_of_block b) →
        Contains ids (packet_of_block b)
    in_all b there =
        subst (λ (l : List PacketId). Contains l (packet_of_block b)) (take-append-drop i ids)
        (Contains-append_left (take i ids) (drop i ids) (packet_of_block b) there)

-- all were read
pub record AllGone (g : Geometry) (steps : StepSizes) (bytes : List ℕ) (from stop : ℕ)
    (ids : List PacketId) (at : ℕ) (start new : List BlockSpan) : Type 0 where
  pub stand : (all : List PacketWhole) × PacketsStand g steps bytes from stop at ids all
  pub reads : (all : List PacketWhole) (to : ℕ) → PacketsStand g steps bytes from stop to ids all →
      (at ≡ to) × PacketsSay g (said_of bytes new) ids all
  pub faults : (fault : PacketRefusal) → PacketsFault g steps bytes from stop ids fault → ⊥
  pub others : (b : BlockId) → IsBlock g b → (Contains ids (packet_of_block b) → ⊥) →
      span_in g new b ≡ span_in g start b

pub all_gone : (g : Geometry) (steps : StepSizes) (bytes : List ℕ) (from stop : ℕ)
    (ids : List PacketId) (start : List BlockSpan) (i at : ℕ) (new : List BlockSpan) →
    length ids ≤ i → Gone g steps bytes from stop ids start i at new →
    AllGone g steps bytes from stop ids at start new
unfolding PacketsFit
all_gone g steps bytes from stop ids start i at new whole gone = record {
  stand = gone.stand [] at
      (subst (λ (l : List PacketId). PacketsStand g steps bytes at stop at l []) (sym none)
      (none_stand g steps bytes at stop));
  reads = λ all to s. by all to (gone.reads all to s);
  faults = λ fault f. none_fault g steps bytes at stop fault
      (subst (λ (l : List PacketId). PacketsFault g steps bytes at stop l fault) none
      (gone.faults fault f));
  others = λ b is no. gone.others b is (λ there.
      no (subst (λ (l : List PacketId). Contains l (packet_of_block b)) every there));
}
  where
    none : drop i ids ≡ []
    none = drop_all i ids whole

    every : take i ids ≡ ids
    every = take_all i ids whole

    ends : (rest : List PacketWhole) (to : ℕ) → PacketsStand g steps bytes at stop to [] rest →
        (rest ≡ []) × (at ≡ to)
    ends [] to s = (refl, (let to_is = s.to_is in omega (arith, to_is)))
    ends (w ∷ ws) to s = absurd s.fits

    by : (all : List PacketWhole) (to : ℕ) → IsGone g steps bytes at stop to ids i new all →
        (at ≡ to) × PacketsSay g (said_of bytes new) ids all
    by all to so =
        let last = ends so.rest to
        (subst (λ (l : List PacketId). PacketsStand g steps bytes at stop to l so.rest) none
        so.stand) in
        let first_is : so.first ≡ all =
        sym (so.all_are ∙ ap (λ t. so.first ++ t) last.0 ∙ append-nil so.first) in (
          last.1,
          subst (λ (t : List PacketWhole). PacketsSay g (said_of bytes new) ids t) first_is
              (subst (λ (l : List PacketId). PacketsSay g (said_of bytes new) l so.first) every so.says),
        )
