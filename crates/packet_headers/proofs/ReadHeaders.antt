-- A header's bits, read: the first bit, and the bands after it.
use Rattle.std.proofs.Common.{◌≡◌, ℕ, suc, zero, ◌+◌, ◌*◌, ◌≤◌, Bool, true, false, List, [], ◌∷◌}
use Rattle.std.proofs.Common.{◌++◌, length, map, take, replicate, refl, sym, ap, ◌∙◌, inl, inr}
use Rattle.std.proofs.Common.{arith, append_assoc, Ok, Err, Result}
use Rattle.std.specs.Prelude.{◌⊎◌, if◌then◌else◌}
use Rattle.std.proofs.lemmas.Bool.{cases_Bool}
use Rattle.std.proofs.lemmas.List.{length-replicate}
use Rattle.std.proofs.Math.Seq.{take-length}
use Rattle.tag_trees.specs.TagTree.{Ascends, levels_above, path_of}
use Rattle.bit_stuffing.specs.Source.{BitSource, Took}
use Rattle.bit_stuffing.specs.declared.fault.BitFault.{BitFault}
use Rattle.packet_headers.specs.declared.entry.Entry.{Entry}
use Rattle.packet_headers.specs.declared.packet.BandShape.{BandShape}
use Rattle.packet_headers.specs.declared.packet.PacketBand.{PacketBand}
use Rattle.packet_headers.specs.declared.packet.Packet.{Packet}
use Rattle.packet_headers.specs.declared.refusal.PacketRefusal.{PacketRefusal}
use Rattle.packet_headers.specs.declared.refusal.PacketRefusal.TheVariants.{ZeroPlanesTooMany}
use Rattle.packet_headers.specs.declared.refusal.PacketRefusal.TheVariants.{PassesTooMany}
use Rattle.packet_headers.specs.Codewords.{pass_bits}
use Rattle.packet_headers.specs.Words.{BlockWords, BandTrees, BandWords, PacketWords, leaf_at}
use Rattle.packet_headers.specs.Words.{inclusion_bits, zero_plane_bits, blocks_bits, bands_bits}
use Rattle.packet_headers.specs.Words.{header_words, band_of, packet_of}
use Rattle.packet_headers.specs.Grammar.{BlocksFit, BandFits, BandsFit, NoneOf, NoneOfBands}
use Rattle.packet_headers.specs.Grammar.{WordsFit, Stop, stop_bits, stop_zero_planes, ZeroStop}
use Rattle.packet_headers.specs.Grammar.{PassStop}
use Rattle.packet_headers.specs.Reading.{refusal_of}
use Rattle.packet_headers.specs.InsideReading.{last_place, no_entry, kept_entries, kept_words}
use Rattle.packet_headers.specs.InsideReading.{kept_packet, empty_band, empty_words, BandsEnding}
use Rattle.packet_headers.specs.InsideReading.{BandsEndingFits, bands_ending_bits, GivesBands}
use Rattle.packet_headers.specs.InsideReading.{FoundBands, FoundHeader}
use Rattle.packet_headers.specs.InsideReading.Ending.{block, all_zero, too_many}
use Rattle.packet_headers.specs.InsideReading.BandsEnding.{wholes, halted}
use Rattle.packet_headers.specs.InsideReading.FoundHeader.{packet, zero_stop, pass_stop}
use Rattle.bit_stuffing.proofs.SourceLemmas.{took_more}
use Rattle.bit_stuffing.proofs.SourceLemmas.{took_rest}
use Rattle.packet_headers.proofs.ReadCodes.{along}
use Rattle.packet_headers.proofs.ReadBlocks.{out_entry, out_fits}
use Rattle.packet_headers.proofs.ReadBands.{band_with}
use Rattle.packet_headers.proofs.ReadPackets.{packet_with}

-- one number at all nodes
same_ascends : (n : ℕ) (path : List ℕ) → Ascends (λ node. n) path
same_ascends n [] = tt
same_ascends n (a ∷ []) = tt
same_ascends n (a ∷ b ∷ path) = (omega arith, same_ascends n (b ∷ path))

abbrev no_words : BlockWords
no_words = record { entry = no_entry; raise = 0 }

none_fit : (trees : BandTrees) (planes place n : ℕ) → ((node : ℕ) → 1 ≤ trees.inclusion node)
    → BlocksFit trees planes place (replicate n no_words)
unfolding BlocksFit
none_fit trees planes place zero h = tt
none_fit trees planes place (suc n) h = (
  record {
    inclusion = h (leaf_at trees.width place);
    zero_planes = refl;
    passes = refl;
    len =
        refl;
  },
  none_fit trees planes (place + 1) n h,
)

none_of : (n : ℕ) → NoneOf (replicate n no_words)
unfolding NoneOf
none_of zero = tt
none_of (suc n) = (refl, none_of n)

empty_band_fits : (shape : BandShape) → BandFits shape (empty_band shape)
empty_band_fits shape = record {
  trees = record {
    width = refl;
    height = refl;
    inclusion = λ column row c r. same_ascends 1 (path_of (levels_above shape.width shape.height)
        column row);
    zero_planes = λ column row c r. same_ascends 0 (path_of (levels_above shape.width shape.height)
        column row);
  };
  planes = refl;
  count = length-replicate (shape.width * shape.height) no_words;
  blocks = none_fit (empty_band shape).trees shape.planes 0 (shape.width * shape.height)
      (λ node. omega arith);
}

empty_bands_fit : (shapes : List BandShape) → BandsFit shapes (map empty_band shapes)
unfolding BandsFit
empty_bands_fit [] = tt
empty_bands_fit (shape ∷ shapes) = (empty_band_fits shape, empty_bands_fit shapes)

empty_bands_none : (shapes : List BandShape) → NoneOfBands (map empty_band shapes)
unfolding NoneOfBands
empty_bands_none [] = tt
empty_bands_none (shape ∷ shapes) = (none_of (shape.width * shape.height), empty_bands_none shapes)

empty_fits : (shapes : List BandShape) → WordsFit shapes (empty_words shapes)
empty_fits shapes = record { bands = empty_bands_fit shapes; empty = λ e. empty_bands_none shapes }

-- no block included: what is kept
none_kept : (trees : BandTrees) (planes place : ℕ) (blocks : List BlockWords)
    → BlocksFit trees planes place blocks → NoneOf blocks
    → kept_entries blocks ≡ replicate (length blocks) no_entry
unfolding BlocksFit NoneOf
none_kept trees planes place [] f n = refl
none_kept trees planes place (b ∷ blocks) f n =
    let out = out_fits trees planes place b b.entry.included n.0 f.0 in
    let e = out_entry trees place b n.0 out in
    ap (λ k. k ∷ kept_entries blocks) (sym e)
    ∙ ap (λ k. no_entry ∷ k) (none_kept trees planes (place + 1) blocks f.1 n.1)

-- the entries of an empty band
pub empty_entries : (n : ℕ) → replicate n no_entry ≡ map (λ (words : BlockWords). words.entry)
    (replicate n no_words)
empty_entries zero = refl
empty_entries (suc n) = ap (λ k. no_entry ∷ k) (empty_entries n)

pub unfilled_is : (shape : BandShape) (items : List Entry) (n : ℕ) → items ≡ replicate n no_entry
    → n ≡ shape.width * shape.height
    → band_with shape.width shape.height shape.planes items ≡ band_of (empty_band shape)
unfilled_is shape items n e h =
    ap (band_with shape.width shape.height shape.planes) (e ∙ ap (λ k. replicate k no_entry) h
    ∙ empty_entries (shape.width * shape.height))

empty_is : (shape : BandShape) (band : BandWords) → BandFits shape band → NoneOf band.blocks
    → kept_words band ≡ band_of (empty_band shape)
empty_is shape band f n =
    ap (λ k. band_with k band.trees.height band.planes (kept_entries band.blocks)) f.trees.width
    ∙ ap (λ k. band_with shape.width k band.planes (kept_entries band.blocks)) f.trees.height
    ∙ ap (λ k. band_with shape.width shape.height k (kept_entries band.blocks)) f.planes
    ∙ unfilled_is shape (kept_entries band.blocks) (length band.blocks)
    (none_kept band.trees band.planes 0 band.blocks f.blocks n) f.count

empty_are : (shapes : List BandShape) (bands : List BandWords) → BandsFit shapes bands
    → NoneOfBands bands → map kept_words bands ≡ map band_of (map empty_band shapes)
unfolding BandsFit NoneOfBands
empty_are [] [] f n = refl
empty_are [] (b ∷ bands) f n = absurd f
empty_are (s ∷ shapes) [] f n = absurd f
empty_are (s ∷ shapes) (b ∷ bands) f n =
    ap (λ k. k ∷ map kept_words bands) (empty_is s b f.0 n.0)
    ∙ ap (λ k. band_of (empty_band s) ∷ k) (empty_are shapes bands f.1 n.1)

empty_twice : (shapes : List BandShape) → map (λ shape. band_of (empty_band shape)) shapes
    ≡ map band_of (map empty_band shapes)
empty_twice [] = refl
empty_twice (s ∷ shapes) = ap (λ k. band_of (empty_band s) ∷ k) (empty_twice shapes)

pub empty_made : (items : List PacketBand) (xs shapes : List BandShape) (i : ℕ)
    → items ≡ map (λ shape. band_of (empty_band shape)) (take i shapes) → xs ≡ shapes
    → i ≡ length xs
    → packet_with items ≡ packet_of (empty_words shapes)
empty_made items xs shapes i e same l =
    ap packet_with (e ∙ ap (λ n. map (λ shape. band_of (empty_band shape)) (take n shapes)) (l
    ∙ ap length same)
    ∙ ap (map (λ shape. band_of (empty_band shape))) (take-length shapes) ∙ empty_twice shapes)

-- the packet of these words, where the first bit is 0
empty_packet_is : (shapes : List BandShape) (words : PacketWords) → WordsFit shapes words
    → words.begins ≡ false → packet_of (empty_words shapes) ≡ kept_packet words
empty_packet_is shapes words f e =
    ap packet_with (sym (empty_are shapes words.bands f.bands (f.empty e)))

-- the bits of a first bit
begins_false : (words : PacketWords) → words.begins ≡ false → header_words words ≡ false ∷ []
begins_false words e = rw e refl

begins_true : (words : PacketWords) → words.begins ≡ true
    → header_words words ≡ true ∷ bands_bits words.bands
begins_true words e = rw e refl

-- The first bit is 0.
module _ (shapes : List BandShape) (from one : BitSource) (took : Took from (false ∷ []) one)
    (result : Result Packet PacketRefusal) (is : result ≡ Ok (packet_of (empty_words shapes))) where
  pub found_empty : FoundHeader shapes from one result
  found_empty =
      packet (empty_words shapes) (empty_fits shapes) took (is
      ∙ ap (λ k. Ok k) (empty_packet_is shapes (empty_words shapes) (empty_fits shapes) refl))

  pub reads_empty : (words : PacketWords) (rest : List Bool) → WordsFit shapes words
      → from.ahead ≡ header_words words ++ rest
      → (result ≡ Ok (kept_packet words)) × Took from (header_words words) one
  reads_empty words rest f e = elim (cases_Bool words.begins) [
    | inl t ↦ absurd (let h : from.ahead ≡ true ∷ (bands_bits words.bands ++ rest) = e
        ∙ ap (λ k. k ++ rest) (begins_true words t) in let g = took.ahead in cc)
    | inr t ↦ (
      is ∙ ap (λ k. Ok k) (empty_packet_is shapes words f t),
      along from one _ _ (sym (begins_false words t)) took,
    )
  ]

  pub empty_no_zero : (bits rest : List Bool) → ZeroStop shapes bits → from.ahead ≡ bits ++ rest → ⊥
  empty_no_zero bits rest s e =
      let h = e ∙ ap (λ k. k ++ rest) s.bits_are in let g = took.ahead in cc

  pub empty_no_pass : (bits rest : List Bool) → PassStop shapes bits → from.ahead ≡ bits ++ rest → ⊥
  empty_no_pass bits rest s e =
      let h = e ∙ ap (λ k. k ++ rest) s.bits_are in let g = took.ahead in cc

three : (a b c d : List Bool) → a ++ (b ++ (c ++ d)) ≡ (a ++ (b ++ c)) ++ d
three a b c d = ap (λ k. a ++ k) (sym (append_assoc b c d)) ∙ sym (append_assoc a (b ++ c) d)

-- the bits of a stop, both ways
zero_bits : (stop : Stop) → true ∷ bands_ending_bits (halted stop all_zero) ≡ stop_bits stop
    ++ zero_plane_bits stop.trees stop.blocks stop.planes
zero_bits stop =
    ap (λ k. true ∷ k) (three (bands_bits stop.before) (blocks_bits stop.trees [] stop.blocks)
    (inclusion_bits stop.trees stop.blocks) (zero_plane_bits stop.trees stop.blocks
    stop.planes))

pass_stop_bits : (stop : Stop) (passes : ℕ)
    → true ∷ bands_ending_bits (halted stop (too_many passes))
    ≡ stop_bits stop ++ (zero_plane_bits stop.trees stop.blocks (stop_zero_planes stop + 1)
    ++ pass_bits passes)
pass_stop_bits stop passes =
    ap (λ k. true ∷ k) (three (bands_bits stop.before) (blocks_bits stop.trees [] stop.blocks)
    (inclusion_bits stop.trees stop.blocks)
    (zero_plane_bits stop.trees stop.blocks (stop_zero_planes stop + 1) ++ pass_bits passes))

-- The first bit is 1.
module _ (shapes : List BandShape) (from one to : BitSource) (took : Took from (true ∷ []) one)
    (result : Result Packet PacketRefusal) where
  found_told : (ending : BandsEnding) → GivesBands ending to result → BandsEndingFits shapes ending
      → Took one (bands_ending_bits ending) to → FoundHeader shapes from to result
  found_told (wholes bands) gives fits more =
      packet (record { begins = true; bands = bands }) (record {
        bands = fits;
        empty =
            λ e. absurd (cc);
      }) (took_more from one to (true ∷ []) (bands_bits bands) took more) gives
  found_told (halted stop (block words)) gives fits more = absurd fits.1
  found_told (halted stop all_zero) gives fits more =
      zero_stop (true ∷ bands_ending_bits (halted stop all_zero))
      (record { stop = stop; fits = fits.0; all = fits.2.1; bits_are = zero_bits stop })
      (took_more from one to (true ∷ []) (bands_ending_bits (halted stop all_zero)) took more) gives
  found_told (halted stop (too_many passes)) gives fits more =
      pass_stop (true ∷ bands_ending_bits (halted stop (too_many passes)))
      (record {
        stop = stop;
        passes = passes;
        fits = fits.0;
        fewer = fits.2.1;
        too_many = fits.2.2;
        coded = fits.2.3;
        bits_are = pass_stop_bits stop passes;
      })
      (took_more from one to (true ∷ []) (bands_ending_bits (halted stop (too_many passes))) took
      more) gives

  pub found_filled : (fault fault' : BitFault) → fault' ≡ fault → (result ≡ Err (refusal_of fault'))
      ⊎ FoundBands shapes one to result
      → (result ≡ Err (refusal_of fault)) ⊎ FoundHeader shapes from to result
  found_filled fault fault' same (inl e) = inl (e ∙ ap (λ k. Err (refusal_of k)) same)
  found_filled fault fault' same (inr f) = inr (found_told f.ending f.gives f.fits f.took)

  -- what stands after the first bit
  behind_one : (bits rest : List Bool) → from.ahead ≡ true ∷ (bits ++ rest) → one.ahead ≡ bits
      ++ rest
  behind_one bits rest e = took_rest from one (true ∷ []) (bits ++ rest) took e

  module _ (reads : (ending : BandsEnding) (rest : List Bool) → BandsEndingFits shapes ending
      → one.ahead ≡ bands_ending_bits ending ++ rest → GivesBands ending to result
      × Took one (bands_ending_bits ending) to) where
    pub reads_filled : (words : PacketWords) (rest : List Bool) → WordsFit shapes words
        → from.ahead ≡ header_words words ++ rest
        → (result ≡ Ok (kept_packet words)) × Took from (header_words words) to
    reads_filled words rest f e = elim (cases_Bool words.begins) [
      | inl t ↦ (let r = reads (wholes words.bands) rest f.bands
          (behind_one (bands_bits words.bands) rest (e
          ∙ ap (λ k. k ++ rest) (begins_true words t))) in (
            r.0,
            along from to _ _ (sym (begins_true words t))
                (took_more from one to (true ∷ []) (bands_bits words.bands) took r.1),
          ))
      | inr t ↦ absurd (let h : from.ahead ≡ false ∷ rest = e
          ∙ ap (λ k. k ++ rest) (begins_false words t) in let g = took.ahead in cc)
    ]

    pub reads_zero : (bits rest : List Bool) → ZeroStop shapes bits → from.ahead ≡ bits ++ rest
        → (result ≡ Err (ZeroPlanesTooMany (last_place to))) × Took from bits to
    reads_zero bits rest s e =
        let b = s.bits_are ∙ sym (zero_bits s.stop) in
        let r = reads (halted s.stop all_zero) rest (s.fits, tt, (s.fits.included, s.all))
        (behind_one (bands_ending_bits (halted s.stop all_zero)) rest (e
        ∙ ap (λ k. k ++ rest) b)) in (
          r.0,
          along from to _ _ (sym b) (took_more from one to (true ∷ [])
              (bands_ending_bits (halted s.stop all_zero)) took r.1),
        )

    pub reads_pass : (bits rest : List Bool) → PassStop shapes bits → from.ahead ≡ bits ++ rest
        → (result ≡ Err (PassesTooMany (last_place to))) × Took from bits to
    reads_pass bits rest s e =
        let b = s.bits_are ∙ sym (pass_stop_bits s.stop s.passes) in
        let r = reads (halted s.stop (too_many s.passes)) rest (
          s.fits,
          tt,
          (s.fits.included, s.fewer, s.too_many, s.coded),
        )
        (behind_one (bands_ending_bits (halted s.stop (too_many s.passes))) rest (e
        ∙ ap (λ k. k ++ rest) b)) in (
          r.0,
          along from to _ _ (sym b) (took_more from one to (true ∷ [])
              (bands_ending_bits (halted s.stop (too_many s.passes))) took r.1),
        )

-- Where no bit is ahead.
no_header : (b : Bool) (x rest : List Bool) → [] ≡ (if b then true ∷ x else false ∷ []) ++ rest → ⊥
no_header true x rest e = cc
no_header false x rest e = cc

pub no_first : (from : BitSource) (words : PacketWords) (rest : List Bool) → from.ahead ≡ []
    → from.ahead ≡ header_words words ++ rest → ⊥
no_first from words rest z e = no_header words.begins (bands_bits words.bands) rest (sym z ∙ e)

pub no_zero_first : (shapes : List BandShape) (from : BitSource) (bits rest : List Bool)
    → from.ahead ≡ [] → ZeroStop shapes bits → from.ahead ≡ bits ++ rest → ⊥
no_zero_first shapes from bits rest z s e = let h = sym z ∙ e ∙ ap (λ k. k ++ rest) s.bits_are in cc

pub no_pass_first : (shapes : List BandShape) (from : BitSource) (bits rest : List Bool)
    → from.ahead ≡ [] → PassStop shapes bits → from.ahead ≡ bits ++ rest → ⊥
no_pass_first shapes from bits rest z s e = let h = sym z ∙ e ∙ ap (λ k. k ++ rest) s.bits_are in cc
