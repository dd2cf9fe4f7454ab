-- A whole packet, read: its header's bits, their end in a byte, and the room for its body.
use Rattle.std.proofs.Common.{◌≡◌, ℕ, suc, zero, ◌+◌, ◌-◌, ◌*◌, ◌<◌, ◌≤◌, ◌^◌, min, Bool, true}
use Rattle.std.proofs.Common.{false, List, [], ◌∷◌, ◌++◌, length, map, take, drop, refl, sym, ap}
use Rattle.std.proofs.Common.{subst, ◌∙◌, inl, inr, arith, length-append, Ok, Err, Result}
use Rattle.std.specs.Prelude.{◌⊎◌, ◌==◌, if◌then◌else◌, sum_by}
use Rattle.std.proofs.lemmas.List.{take-append-drop}
use Rattle.std.proofs.lemmas.List.Sums.{sum_by-cons}
use Rattle.bit_stuffing.specs.Bits.{number, useful, byte_width}
use Rattle.bit_stuffing.specs.Source.{BitSource, Took}
use Rattle.bit_stuffing.specs.Stuffing.{Stuffs, supply, supply_from, is_broken, fault_of, place_of}
use Rattle.bit_stuffing.specs.declared.fault.BitFault.{BitFault}
use Rattle.bit_stuffing.specs.declared.fault.BitFault.TheVariants.{OutOfBits}
use Rattle.bit_stuffing.specs.declared.fault.BitFault.TheVariants.{StuffedBitSet as StuffedBit}
use Rattle.bit_stuffing.proofs.BitLemmas.{number-length, width_le}
use Rattle.bit_stuffing.proofs.TakeLemmas.{stuffs_supply}
use Rattle.packet_headers.specs.declared.entry.Entry.{Entry}
use Rattle.packet_headers.specs.declared.packet.BandShape.{BandShape}
use Rattle.packet_headers.specs.declared.packet.PacketBand.{PacketBand}
use Rattle.packet_headers.specs.declared.packet.Packet.{Packet}
use Rattle.packet_headers.specs.declared.packet.PacketRead.{PacketRead}
use Rattle.packet_headers.specs.declared.refusal.PacketRefusal.{PacketRefusal}
use Rattle.packet_headers.specs.declared.refusal.PacketRefusal.TheVariants.{ZeroPlanesTooMany}
use Rattle.packet_headers.specs.declared.refusal.PacketRefusal.TheVariants.{PassesTooMany}
use Rattle.packet_headers.specs.Words.{BlockWords, BandWords, PacketWords, header_words, bands_bits}
use Rattle.packet_headers.specs.Words.{band_of, packet_of, blocks_len, body_of}
use Rattle.packet_headers.specs.Grammar.{WordsFit, ZeroStop, PassStop}
use Rattle.packet_headers.specs.Reading.{HasHeader, Found, StopsAt, EndsEarly, BodyShort, Refused}
use Rattle.packet_headers.specs.Reading.{refusal_of}
use Rattle.packet_headers.specs.InsideReading.{last_place, kept_entry, kept_entries, kept_words}
use Rattle.packet_headers.specs.InsideReading.{kept_packet, FoundHeader}
use Rattle.packet_headers.specs.Words.{band_body, packet_body}
use Rattle.packet_headers.specs.InsideReading.FoundHeader.{packet, zero_stop, pass_stop}
use Rattle.packet_headers.specs.Written.{written, written_bits, shapes_of, ArePlain, CanWrite}
use Rattle.packet_headers.proofs.FitsLemmas.{header_found, packet_same}
use Rattle.packet_headers.proofs.ReadPackets.{packet_with}
use Rattle.packet_headers.proofs.ReadZeroPlanes.{fault_not_zero}

-- at most eight bits a byte can be taken
by_eight : (p : Bool) (number rest : List Bool) (n : ℕ) → length number ≤ 8 → length rest ≤ 8 * n
    → length (if p then [] else number ++ rest) ≤ 8 * suc n
by_eight true number rest n h l = omega arith
by_eight false number rest n h l = let e = length-append number rest in omega arith

supply-length : (a : Bool) (bytes : List ℕ) → length (supply_from a bytes) ≤ 8 * length bytes
unfolding supply_from
supply-length a [] = omega arith
supply-length a (b ∷ bytes) =
    let n = number-length (byte_width a) b in let w = width_le a in
    by_eight (is_broken a b) (number (byte_width a) b) (supply_from (b == 255) bytes) (length bytes)
    (omega arith) (supply-length (b == 255) bytes)

-- a reader at the first bit
abbrev pub start : List ℕ → BitSource
start bytes = record { bytes = bytes; taken = []; ahead = supply bytes }

pub few_bits : (bytes : List ℕ) (from : BitSource) → from ≡ start bytes → length bytes < 2 ^ 32
    → length from.ahead < 2 ^ 40
few_bits bytes from is h =
    let l = supply-length false bytes in
    let e = ap (λ (s : BitSource). length s.ahead) is in omega arith

-- What is kept of lengths: never more, and all of them where they are small.
abbrev with_len : Entry → ℕ → Entry
with_len entry n = record {
  included = entry.included;
  zero_planes = entry.zero_planes;
  passes =
      entry.passes;
  len = n;
}

abbrev with_entries : BandWords → List Entry → PacketBand
with_entries band items = record {
  width = band.trees.width;
  height = band.trees.height;
  planes =
      band.planes;
  entries = record { items = items };
}

entry_kept : (entry : Entry) → entry.len < 4294967295 → kept_entry entry ≡ entry
entry_kept entry h = ap (λ n. with_len entry n) (let e : min entry.len 4294967295 ≡ entry.len =
    omega arith in e)

blocks_less : (blocks : List BlockWords) → sum_by (λ (entry : Entry). entry.len)
    (kept_entries blocks) ≤ blocks_len blocks
blocks_less [] = omega arith
blocks_less (b ∷ blocks) =
    let r = blocks_less blocks in
    let p = sum_by-cons (λ (entry : Entry). entry.len) (kept_entry b.entry) (kept_entries blocks) in
    let q = sum_by-cons (λ (words : BlockWords). words.entry.len) b blocks in omega arith

bands_less : (bands : List BandWords) → sum_by band_body (map kept_words bands)
    ≤ sum_by (λ band. blocks_len band.blocks) bands
bands_less [] = omega arith
bands_less (b ∷ bands) =
    let r = bands_less bands in let s = blocks_less b.blocks in
    let p = sum_by-cons band_body (kept_words b) (map kept_words bands) in
    let q = sum_by-cons (λ (band : BandWords). blocks_len band.blocks) b bands in omega arith

abbrev entries_of : List BlockWords → List Entry
entries_of blocks = map (λ (words : BlockWords). words.entry) blocks

blocks_kept : (blocks : List BlockWords) → sum_by (λ (entry : Entry). entry.len)
    (kept_entries blocks) < 4294967295
    → (kept_entries blocks ≡ entries_of blocks)
    × (sum_by (λ (entry : Entry). entry.len) (kept_entries blocks) ≡ blocks_len blocks)
blocks_kept [] h = (refl, refl)
blocks_kept (b ∷ blocks) h =
    let p = sum_by-cons (λ (entry : Entry). entry.len) (kept_entry b.entry) (kept_entries blocks) in
    let q = sum_by-cons (λ (words : BlockWords). words.entry.len) b blocks in
    let small : b.entry.len < 4294967295 = omega arith in
    let r = blocks_kept blocks (omega arith) in
    let s = r.1 in (
      ap (λ k. k ∷ kept_entries blocks) (entry_kept b.entry small)
          ∙ ap (λ k. b.entry ∷ k) r.0,
      omega arith,
    )

bands_kept : (bands : List BandWords) → sum_by band_body (map kept_words bands) < 4294967295
    → (map kept_words bands ≡ map band_of bands)
    × (sum_by band_body (map kept_words bands) ≡ sum_by (λ band. blocks_len band.blocks) bands)
bands_kept [] h = (refl, refl)
bands_kept (b ∷ bands) h =
    let p = sum_by-cons band_body (kept_words b) (map kept_words bands) in
    let q = sum_by-cons (λ (band : BandWords). blocks_len band.blocks) b bands in
    let s = blocks_kept b.blocks (omega arith) in
    let r = bands_kept bands (omega arith) in
    let s' = s.1 in let r' = r.1 in (
      ap (λ k. k ∷ map kept_words bands) (ap (with_entries b) s.0)
          ∙ ap (λ k. band_of b ∷ k) r.0,
      omega arith,
    )

body_less : (words : PacketWords) → packet_body (kept_packet words) ≤ body_of words
body_less words = bands_less words.bands

packet_kept : (words : PacketWords) → packet_body (kept_packet words) < 4294967295
    → (kept_packet words ≡ packet_of words) × (packet_body (kept_packet words) ≡ body_of words)
packet_kept words h = let r = bands_kept words.bands h in (ap packet_with r.0, r.1)

-- A header has at least one byte.
empty_core : (core last : List ℕ) → core ++ last ≡ [] → core ≡ []
empty_core [] last e = refl
empty_core (b ∷ core) last e = absurd (cc)

useful-none : (core : List ℕ) → core ≡ [] → useful false core ≡ []
unfolding useful
useful-none core e = ap (useful false) e

no_bits : (begins : Bool) (bits padding : List Bool) → (if begins then true ∷ bits else false ∷ [])
    ++ padding ≡ [] → ⊥
no_bits true bits padding e = cc
no_bits false bits padding e = cc

none_stuffs : (words : PacketWords) → Stuffs (header_words words) [] → ⊥
none_stuffs words s =
    let c = empty_core s.core s.last (sym s.bytes_are) in
    no_bits words.begins (bands_bits words.bands) s.padding (sym s.bits_are ∙ useful-none s.core c)

header_some : (words : PacketWords) (bytes : List ℕ) (u : ℕ)
    → Stuffs (header_words words) (take u bytes) → 1 ≤ u
header_some words bytes zero s = absurd (none_stuffs words s)
header_some words bytes (suc u) s = omega arith

refused_fault : (shapes : List BandShape) (bytes : List ℕ) (fault : BitFault)
    → EndsEarly shapes bytes fault → Refused shapes bytes (refusal_of fault)
refused_fault shapes bytes (OutOfBits place) e = e
refused_fault shapes bytes (StuffedBit place) e = e

fault_not_pass : (fault : BitFault) (place : ℕ) → refusal_of fault ≡ PassesTooMany place → ⊥
fault_not_pass (OutOfBits p) place e = cc
fault_not_pass (StuffedBit p) place e = cc

refused_along : (shapes : List BandShape) (bytes : List ℕ) (e f : PacketRefusal) → e ≡ f
    → Refused shapes bytes f → Refused shapes bytes e
refused_along shapes bytes e f is h = let P : PacketRefusal → Type 0 =
    λ k. Refused shapes bytes k in subst P (sym is) h

stuffs_along : (a b : List Bool) (n : ℕ) (xs ys : List ℕ) → a ≡ b → xs ≡ ys → Stuffs a (take n xs)
    → Stuffs b (take n ys)
stuffs_along a b n xs ys e f s =
    let P : List Bool → Type 0 = λ k. Stuffs k (take n xs) in
    let Q : List ℕ → Type 0 = λ k. Stuffs b (take n k) in subst Q f (subst P e s)

abbrev pub read_of : Packet → ℕ → ℕ → PacketRead
read_of p header body = record { packet = p; header = header; body = body }

abbrev pub Ok' : PacketRead → Result PacketRead PacketRefusal
Ok' x = Ok x

-- The header's bits were read, or their reading ended.
module _ (shapes : List BandShape) (bytes : List ℕ) (from to : BitSource) (is : from ≡ start bytes)
    (r : Result Packet PacketRefusal) (same : to.bytes ≡ from.bytes)
    (found : (r ≡ Err (refusal_of (fault_of from.bytes))) ⊎ FoundHeader shapes from to r)
    (reads : (words : PacketWords) (rest : List Bool) → WordsFit shapes words
    → from.ahead ≡ header_words words ++ rest
    → (r ≡ Ok (kept_packet words)) × Took from (header_words words) to)
    (zero_planes : (stop rest : List Bool) → ZeroStop shapes stop → from.ahead ≡ stop ++ rest
    → (r ≡ Err (ZeroPlanesTooMany (last_place to))) × Took from stop to)
    (passes : (stop rest : List Bool) → PassStop shapes stop → from.ahead ≡ stop ++ rest
    → (r ≡ Err (PassesTooMany (last_place to))) × Took from stop to) where
  ahead_is : from.ahead ≡ supply bytes
  ahead_is = ap (λ (s : BitSource). s.ahead) is

  from_bytes : from.bytes ≡ bytes
  from_bytes = ap (λ (s : BitSource). s.bytes) is

  to_bytes : to.bytes ≡ bytes
  to_bytes = same ∙ from_bytes

  taken_is : (bits : List Bool) → Took from bits to → to.taken ≡ bits
  taken_is bits t = t.taken ∙ ap (λ (s : BitSource). s.taken ++ bits) is

  place_is : (bits : List Bool) → Took from bits to → last_place to ≡ place_of bytes (length bits)
  place_is bits t = ap (λ b. place_of b (length to.taken)) to_bytes
      ∙ ap (λ b. place_of bytes (length b)) (taken_is bits t)

  has : (words : PacketWords) (header : ℕ) → HasHeader shapes words bytes header
      → (r ≡ Ok (kept_packet words)) × Took from (header_words words) to
  has words header h =
      let s = stuffs_supply (header_words words) (take header bytes) (drop header bytes)
      h.stuffed in
      reads words s.0 h.fits (ahead_is ∙ ap supply (sym (take-append-drop header bytes)) ∙ s.1)

  stops_zero : (place : ℕ) → StopsAt (ZeroStop shapes) bytes place
      → r ≡ Err (ZeroPlanesTooMany place)
  stops_zero place s =
      let z = zero_planes s.bits s.rest s.stop (ahead_is ∙ s.ahead) in
      z.0 ∙ ap (λ p. Err (ZeroPlanesTooMany p)) (place_is s.bits z.1 ∙ sym s.place_is)

  stops_pass : (place : ℕ) → StopsAt (PassStop shapes) bytes place → r ≡ Err (PassesTooMany place)
  stops_pass place s =
      let z = passes s.bits s.rest s.stop (ahead_is ∙ s.ahead) in
      z.0 ∙ ap (λ p. Err (PassesTooMany p)) (place_is s.bits z.1 ∙ sym s.place_is)

  -- Its reading ended.
  module _ (e : PacketRefusal) (err : r ≡ Err e) where
    pub err_no_header : (words : PacketWords) (header : ℕ) → HasHeader shapes words bytes header → ⊥
    err_no_header words header h = let a = (has words header h).0 in cc

    refused_by : (r ≡ Err (refusal_of (fault_of from.bytes))) ⊎ FoundHeader shapes from to r
        → Refused shapes bytes e
    refused_by (inl f) =
        let k : e ≡ refusal_of (fault_of bytes) = (let g : e ≡ refusal_of (fault_of from.bytes) =
        cc in g ∙ ap (λ b. refusal_of (fault_of b)) from_bytes) in
        refused_along shapes bytes e (refusal_of (fault_of bytes)) k
        (refused_fault shapes bytes (fault_of bytes) (record {
          no_header = err_no_header;
          no_zero_stop = λ place s. (let z = stops_zero place s in
              let g : refusal_of (fault_of bytes) ≡ ZeroPlanesTooMany place = cc in
              fault_not_zero (fault_of bytes) place g);
          no_pass_stop = λ place s. (let z = stops_pass place s in
              let g : refusal_of (fault_of bytes) ≡ PassesTooMany place = cc in
              fault_not_pass (fault_of bytes) place g);
          fault_is = refl;
        }))
    refused_by (inr (packet words fits took ok)) = absurd (cc)
    refused_by (inr (zero_stop bits stop took is_err)) =
        let k : e ≡ ZeroPlanesTooMany (last_place to) = cc in
        refused_along shapes bytes e (ZeroPlanesTooMany (last_place to)) k
        (record {
          bits = bits;
          rest = to.ahead;
          ahead = sym ahead_is ∙ took.ahead;
          stop = stop;
          place_is = place_is bits took;
        })
    refused_by (inr (pass_stop bits stop took is_err)) =
        let k : e ≡ PassesTooMany (last_place to) = cc in
        refused_along shapes bytes e (PassesTooMany (last_place to)) k
        (record {
          bits = bits;
          rest = to.ahead;
          ahead = sym ahead_is ∙ took.ahead;
          stop = stop;
          place_is = place_is bits took;
        })

    pub err_refused : Refused shapes bytes e
    err_refused = refused_by found

    pub err_zero : (place : ℕ) → StopsAt (ZeroStop shapes) bytes place → e ≡ ZeroPlanesTooMany place
    err_zero place s = let z = stops_zero place s in cc

    pub err_pass : (place : ℕ) → StopsAt (PassStop shapes) bytes place → e ≡ PassesTooMany place
    err_pass place s = let z = stops_pass place s in cc

    ends_by : (fault : BitFault) → EndsEarly shapes bytes fault
        → (r ≡ Err (refusal_of (fault_of from.bytes))) ⊎ FoundHeader shapes from to r
        → e ≡ refusal_of fault
    ends_by fault n (inl f) =
        let g : e ≡ refusal_of (fault_of from.bytes) = cc in g
        ∙ ap (λ b. refusal_of (fault_of b)) from_bytes ∙ ap refusal_of n.fault_is
    ends_by fault n (inr (packet words fits took ok)) = absurd (cc)
    ends_by fault n (inr (zero_stop bits stop took is_err)) =
        absurd (n.no_zero_stop (place_of bytes (length bits)) (record {
          bits = bits;
          rest =
              to.ahead;
          ahead = sym ahead_is ∙ took.ahead;
          stop = stop;
          place_is = refl;
        }))
    ends_by fault n (inr (pass_stop bits stop took is_err)) =
        absurd (n.no_pass_stop (place_of bytes (length bits)) (record {
          bits = bits;
          rest =
              to.ahead;
          ahead = sym ahead_is ∙ took.ahead;
          stop = stop;
          place_is = refl;
        }))

    pub err_ends : (fault : BitFault) → EndsEarly shapes bytes fault → e ≡ refusal_of fault
    err_ends fault n = ends_by fault n found

  -- The bits were read.
  module _ (p : Packet) (ok : r ≡ Ok p) where
    pub ok_no_zero : (place : ℕ) → StopsAt (ZeroStop shapes) bytes place → ⊥
    ok_no_zero place s = let z = stops_zero place s in cc

    pub ok_no_pass : (place : ℕ) → StopsAt (PassStop shapes) bytes place → ⊥
    ok_no_pass place s = let z = stops_pass place s in cc

    words_by : (r ≡ Err (refusal_of (fault_of from.bytes))) ⊎ FoundHeader shapes from to r
        → (words : PacketWords) × WordsFit shapes words × Took from (header_words words) to
        × (p ≡ kept_packet words)
    words_by (inl f) = absurd (cc)
    words_by (inr (packet words fits took is_ok)) = (words, fits, took, cc)
    words_by (inr (zero_stop bits stop took is_err)) = absurd (cc)
    words_by (inr (pass_stop bits stop took is_err)) = absurd (cc)

    words_read : (words : PacketWords) × WordsFit shapes words × Took from (header_words words) to
        × (p ≡ kept_packet words)
    words_read = words_by found

    -- they don't end in a byte
    module _ (fault : BitFault) (is_fault : fault ≡ fault_of to.bytes)
        (only : (u : ℕ) → u ≤ length to.bytes → Stuffs to.taken (take u to.bytes) → ⊥) where
      pub unended_no_header : (words : PacketWords) (header : ℕ)
          → HasHeader shapes words bytes header → ⊥
      unended_no_header words header h =
          let t = taken_is (header_words words) (has words header h).1 in
          let s = stuffs_along (header_words words) to.taken header bytes to.bytes (sym t)
          (sym to_bytes) h.stuffed in
          let l : header ≤ length to.bytes = (let w = h.within in let m = ap length to_bytes in
          omega arith) in
          only header l s

      pub unended_refused : Refused shapes bytes (refusal_of fault)
      unended_refused = refused_fault shapes bytes fault (record {
        no_header = unended_no_header;
        no_zero_stop = ok_no_zero;
        no_pass_stop = ok_no_pass;
        fault_is = sym (is_fault ∙ ap fault_of to_bytes);
      })

      pub unended_ends : (other : BitFault) → EndsEarly shapes bytes other
          → refusal_of fault ≡ refusal_of other
      unended_ends other n = ap refusal_of (is_fault ∙ ap fault_of to_bytes ∙ n.fault_is)

    -- they do
    module _ (u : ℕ) (used : (u ≤ length to.bytes) × Stuffs to.taken (take u to.bytes))
        (only : (n : ℕ) → n ≤ length to.bytes → Stuffs to.taken (take n to.bytes)
        → u ≡ n) (small : length bytes < 2 ^ 32) where
      header_here : HasHeader shapes words_read.0 bytes u
      header_here = record {
        fits = words_read.1;
        within = (let w = used.0 in let m = ap length to_bytes in omega arith);
        stuffed = stuffs_along to.taken (header_words words_read.0) u to.bytes bytes
            (taken_is (header_words words_read.0) words_read.2) to_bytes used.1;
      }

      header_at_least : 1 ≤ u
      header_at_least = header_some words_read.0 bytes u header_here.stuffed

      header_same : (words : PacketWords) (header : ℕ) → HasHeader shapes words bytes header
          → (p ≡ kept_packet words) × (u ≡ header)
      header_same words header h =
          let a = has words header h in
          let t = taken_is (header_words words) a.1 in
          let s = stuffs_along (header_words words) to.taken header bytes to.bytes (sym t)
          (sym to_bytes) h.stuffed in
          let l : header ≤ length to.bytes = (let w = h.within in let m = ap length to_bytes in
          omega arith) in
          let k = a.0 in (cc, only header l s)

      pub whole_ends : (fault : BitFault) → EndsEarly shapes bytes fault → ⊥
      whole_ends fault n = n.no_header words_read.0 u header_here

      -- the body is short
      module _ (body : ℕ) (is_body : body ≡ packet_body p) (more : length bytes - u < body) where
        body_of_words : (words : PacketWords) → p ≡ kept_packet words → body ≤ body_of words
        body_of_words words e = let l = body_less words in let b = is_body ∙ ap packet_body e in
            omega arith

        pub short_refused : BodyShort shapes bytes (length bytes)
        short_refused = record {
          words = words_read.0;
          header = u;
          has_header = header_here;
          short = (let l = body_of_words words_read.0 words_read.3 in let w = header_here.within in
              omega arith);
          place_is = refl;
        }

        pub short_reads : (words : PacketWords) (header : ℕ) → HasHeader shapes words bytes header
            → header + body_of words ≤ length bytes → ⊥
        short_reads words header h l =
            let s = header_same words header h in
            let b = body_of_words words s.0 in
            let k = s.1 in omega arith

      -- the body is there
      module _ (body : ℕ) (is_body : body ≡ packet_body p) (room : body ≤ length bytes - u) where
        kept_whole : (words : PacketWords) → p ≡ kept_packet words → (p ≡ packet_of words)
            × (body ≡ body_of words)
        kept_whole words e =
            let b = is_body ∙ ap packet_body e in
            let n = header_at_least in
            let k = packet_kept words (omega arith) in
            (e ∙ k.0, b ∙ k.1)

        pub whole_found : Found shapes bytes (record { packet = p; header = u; body = body })
        whole_found = record {
          words = words_read.0;
          header = header_here;
          packet = (kept_whole words_read.0 words_read.3).0;
          body = (kept_whole words_read.0 words_read.3).1;
          room = (let w = header_here.within in omega arith);
        }

        pub whole_reads : (words : PacketWords) (header : ℕ) → HasHeader shapes words bytes header
            → Ok' (read_of p u body) ≡ Ok' (read_of (packet_of words) header (body_of words))
        whole_reads words header h =
            let s = header_same words header h in
            let k = kept_whole words s.0 in
            ap (λ x. Ok' (read_of x u body)) k.0
            ∙ ap (λ n. Ok' (read_of (packet_of words) n body)) s.1
            ∙ ap (λ n. Ok' (read_of (packet_of words) header n)) k.1

        pub whole_short : (place : ℕ) → BodyShort shapes bytes place → ⊥
        whole_short place b =
            let s = header_same b.words b.header b.has_header in
            let k = kept_whole b.words s.0 in
            let l = b.short in let n = s.1 in let m = k.1 in omega arith

-- The lengths of a packet's blocks, as its words have them.
blocks_body : (blocks : List BlockWords) → sum_by (λ (entry : Entry). entry.len) (entries_of blocks)
    ≡ blocks_len blocks
blocks_body [] = refl
blocks_body (b ∷ blocks) =
    let r = blocks_body blocks in
    let p = sum_by-cons (λ (entry : Entry). entry.len) b.entry (entries_of blocks) in
    let q = sum_by-cons (λ (words : BlockWords). words.entry.len) b blocks in omega arith

bands_body : (bands : List BandWords) → sum_by band_body (map band_of bands)
    ≡ sum_by (λ band. blocks_len band.blocks) bands
bands_body [] = refl
bands_body (b ∷ bands) =
    let r = bands_body bands in let s = blocks_body b.blocks in
    let p = sum_by-cons band_body (band_of b) (map band_of bands) in
    let q = sum_by-cons (λ (band : BandWords). blocks_len band.blocks) b bands in omega arith

-- A written header is read back, where what its words say is.
pub reads_back : (shapes : List BandShape) (bytes : List ℕ)
    (result : Result PacketRead PacketRefusal)
    → ((words : PacketWords) (header : ℕ) → HasHeader shapes words bytes header
    → header + body_of words ≤ length bytes
    → result ≡ Ok' (read_of (packet_of words) header (body_of words)))
    → (p : Packet) (head rest : List ℕ) → CanWrite p → ArePlain p → shapes ≡ shapes_of p
    → Stuffs (written_bits p) head → bytes ≡ head ++ rest → packet_body p ≤ length rest
    → result ≡ Ok' (read_of p (length head) (packet_body p))
reads_back shapes bytes result reads p head rest can plain is stuffed e room =
    let body : body_of (written p) ≡ packet_body p = sym (bands_body (written p).bands)
    ∙ ap packet_body (packet_same p) in
    let h = header_found p head rest can plain stuffed in
    let P : List BandShape → Type 0 = λ k. HasHeader k (written p) (head ++ rest) (length head) in
    let Q : List ℕ → Type 0 = λ k. HasHeader shapes (written p) k (length head) in
    let l = ap length e ∙ length-append head rest in
    reads (written p) (length head) (subst Q (sym e) (subst P (sym is) h)) (omega arith)
    ∙ ap (λ k. Ok' (read_of k (length head) (body_of (written p)))) (packet_same p)
    ∙ ap (λ n. Ok' (read_of p (length head) n)) body
