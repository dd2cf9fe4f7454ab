-- The bands of a packet, read.
use Rattle.std.proofs.Common.{◌≡◌, ℕ, suc, zero, ◌+◌, ◌*◌, ◌<◌, ◌≤◌, Bool, List, [], ◌∷◌, ◌++◌}
use Rattle.std.proofs.Common.{length, map, get_or, refl, sym, ap, subst, ◌∙◌, inl, inr, arith}
use Rattle.std.proofs.Common.{append_assoc, length-append, Ok, Err, Result}
use Rattle.std.specs.Prelude.{◌⊎◌}
use Rattle.std.proofs.lemmas.Bool.{cases_lt}
use Rattle.std.proofs.lemmas.List.{append-nil, map-append}
use Rattle.bit_stuffing.specs.Source.{BitSource, Took}
use Rattle.bit_stuffing.specs.Stuffing.{fault_of}
use Rattle.packet_headers.specs.declared.packet.BandShape.{BandShape}
use Rattle.packet_headers.specs.declared.packet.PacketBand.{PacketBand}
use Rattle.packet_headers.specs.declared.packet.Packet.{Packet}
use Rattle.packet_headers.specs.declared.refusal.PacketRefusal.{PacketRefusal}
use Rattle.packet_headers.specs.Words.{BandTrees, BandWords, leaf_at, blocks_bits, bands_bits}
use Rattle.packet_headers.specs.Grammar.{BlocksFit, TreesFit, BandFits, BandsFit, Stop}
use Rattle.packet_headers.specs.Reading.{refusal_of}
use Rattle.packet_headers.specs.InsideReading.{kept_band, kept_words, Ending, EndingFits}
use Rattle.packet_headers.specs.InsideReading.{ending_bits, BandEnding, IsStop, BandEndingFits}
use Rattle.packet_headers.specs.InsideReading.{band_ending_bits, stop_refusal, GivesBand, FoundBand}
use Rattle.packet_headers.specs.InsideReading.{BandsEnding, BandsEndingFits, bands_ending_bits}
use Rattle.packet_headers.specs.InsideReading.{GivesBands, FoundBands}
use Rattle.packet_headers.specs.InsideReading.Ending.{block, all_zero, too_many}
use Rattle.packet_headers.specs.InsideReading.BandEnding.{whole, stopped}
use Rattle.packet_headers.specs.InsideReading.BandsEnding.{wholes, halted}
use Rattle.bit_stuffing.proofs.SourceLemmas.{took_more}
use Rattle.bit_stuffing.proofs.SourceLemmas.{took_none, took_rest}
use Rattle.packet_headers.proofs.ReadBits.{same_front}
use Rattle.packet_headers.proofs.ReadCodes.{along}
use Rattle.packet_headers.proofs.ReadIncluded.{took_less}
use Rattle.packet_headers.proofs.HeaderLemmas.{bands_bits-push}

-- a list at a place
split_at : {A : Type 0} (xs : List A) (i : ℕ) (d : A) → i < length xs → (front later : List A)
    × (xs ≡ front ++ get_or xs i d ∷ later) × (length front ≡ i)
split_at [] i d h = absurd (omega arith)
split_at (x ∷ xs) zero d h = ([], xs, refl, refl)
split_at (x ∷ xs) (suc i) d h =
    let (front, later, e, l) = split_at xs i d (omega arith) in
    (x ∷ front, later, ap (λ k. x ∷ k) e, ap suc l)

-- two splittings at one place
same_at : {A : Type 0} (p q x y : List A) (a b : A) → length p ≡ length q → p ++ a ∷ x ≡ q ++ b ∷ y
    → (p ≡ q) × (a ≡ b) × (x ≡ y)
same_at p q x y a b l e =
    let r = same_front p q (a ∷ x) (b ∷ y) l e in
    let t = r.1 in (r.0, cc, cc)

bands_bits-append : (xs ys : List BandWords) → bands_bits (xs ++ ys) ≡ bands_bits xs
    ++ bands_bits ys
unfolding bands_bits
bands_bits-append [] ys = refl
bands_bits-append (x ∷ xs) ys =
    ap (λ k. blocks_bits x.trees [] x.blocks ++ k) (bands_bits-append xs ys)
    ∙ sym (append_assoc (blocks_bits x.trees [] x.blocks) (bands_bits xs) (bands_bits ys))

bands_bits-cons : (x : BandWords) (ys : List BandWords) → bands_bits (x ∷ ys)
    ≡ blocks_bits x.trees [] x.blocks ++ bands_bits ys
unfolding bands_bits
bands_bits-cons x ys = refl

bands_bits-none : bands_bits [] ≡ []
unfolding bands_bits
bands_bits-none = refl

bands_fit-none : BandsFit [] []
unfolding BandsFit
bands_fit-none = tt

bands_fit-length : (shapes : List BandShape) (bands : List BandWords) → BandsFit shapes bands
    → length bands ≡ length shapes
unfolding BandsFit
bands_fit-length [] [] f = refl
bands_fit-length [] (b ∷ bands) f = absurd f
bands_fit-length (s ∷ shapes) [] f = absurd f
bands_fit-length (s ∷ shapes) (b ∷ bands) f = ap suc (bands_fit-length shapes bands f.1)

bands_fit-push : (shapes : List BandShape) (bands : List BandWords) (s : BandShape) (b : BandWords)
    → BandsFit shapes bands → BandFits s b → BandsFit (shapes ++ s ∷ []) (bands ++ b ∷ [])
unfolding BandsFit
bands_fit-push [] [] s b f h = (h, tt)
bands_fit-push [] (x ∷ bands) s b f h = absurd f
bands_fit-push (y ∷ shapes) [] s b f h = absurd f
bands_fit-push (y ∷ shapes) (x ∷ bands) s b f h = (f.0, bands_fit-push shapes bands s b f.1 h)

bands_fit-at : (shapes : List BandShape) (front tail : List BandWords) (b : BandWords)
    → BandsFit shapes (front ++ b ∷ tail)
    → (first : List BandShape) × (s : BandShape) × (later : List BandShape)
    × (shapes ≡ first ++ s ∷ later) × (length first ≡ length front) × BandFits s b
unfolding BandsFit
bands_fit-at [] [] tail b f = absurd f
bands_fit-at [] (x ∷ front) tail b f = absurd f
bands_fit-at (s ∷ shapes) [] tail b f = ([], s, shapes, refl, refl, f.0)
bands_fit-at (s ∷ shapes) (x ∷ front) tail b f =
    let (first, t, later, e, l, h) = bands_fit-at shapes front tail b f.1 in
    (s ∷ first, t, later, ap (λ k. s ∷ k) e, ap suc l, h)

bands_more : (all front tail : List BandWords) → all ≡ front ++ tail → length front < length all
    → (words : BandWords) × (later : List BandWords) × (all ≡ front ++ words ∷ later)
bands_more all front [] e l = absurd (let m = ap length (e ∙ append-nil front) in omega arith)
bands_more all front (x ∷ tail) e l = (x, tail, e)

bands_none : (all front tail : List BandWords) → all ≡ front ++ tail → length front ≡ length all
    → all ≡ front
bands_none all front [] e l = e ∙ append-nil front
bands_none all front (x ∷ tail) e l = absurd (let m = ap length e
    ∙ length-append front (x ∷ tail) in omega arith)

-- a band's words, as they end its reading
whole_fits : (s : BandShape) (b : BandWords) → BandFits s b
    → BandEndingFits s b.trees (whole b.blocks)
whole_fits s b f = (
  f.count,
  (let P : ℕ → Type 0 = λ k. BlocksFit b.trees k 0 b.blocks in
      subst P f.planes f.blocks),
)

whole_kept : (s : BandShape) (b : BandWords) → BandFits s b → kept_band s b.blocks ≡ kept_words b
whole_kept s b f = let w = f.trees.width in let h = f.trees.height in let p = f.planes in cc

-- What has been read up to a band.
pub record BandsSofar (shapes : List BandShape) (from mid : BitSource) (items : List PacketBand)
    (i : ℕ) : Type 0 where
  pub same : mid.bytes ≡ from.bytes
  pub done : List BandShape
  pub left : List BandShape
  pub shapes_are : shapes ≡ done ++ left
  pub count : length done ≡ i
  pub bands : List BandWords
  pub fits : BandsFit done bands
  pub items_are : map kept_words bands ≡ items
  pub took : Took from (bands_bits bands) mid
  pub reads : (first later : List BandShape) (all : List BandWords) (rest : List Bool)
      → shapes ≡ first ++ later → BandsFit first all → i ≤ length first
      → from.ahead ≡ bands_bits all ++ rest
      → (front tail : List BandWords) × (all ≡ front ++ tail) × (length front ≡ i)
      × (map kept_words front ≡ items) × Took from (bands_bits front) mid
  pub stops : (stop : Stop) (ending : Ending) (rest : List Bool)
      → BandsEndingFits shapes (halted stop ending)
      → from.ahead ≡ bands_ending_bits (halted stop ending) ++ rest → i ≤ length stop.before

pub bands_sofar_none : (shapes : List BandShape) (from : BitSource)
    → BandsSofar shapes from from [] 0
bands_sofar_none shapes from = record {
  same = refl;
  done = [];
  left = shapes;
  shapes_are = refl;
  count = refl;
  bands = [];
  fits = bands_fit-none;
  items_are = refl;
  took = along from from [] _ (sym bands_bits-none) (took_none from);
  reads = λ first later all rest s f l e. (
    [],
    all,
    refl,
    refl,
    refl,
    along from from [] _ (sym bands_bits-none) (took_none from),
  );
  stops = λ stop ending rest f e. omega arith;
}

same_at' : (p q x y : List BandShape) → length p ≡ length q → p ++ x ≡ q ++ y → p ≡ q
same_at' p q x y l e = (same_front p q x y l e).0

abbrev pub packet_with : List PacketBand → Packet
packet_with items = record { bands = record { items = items } }

-- a stop's block is included
stop_included : (trees : BandTrees) (planes place : ℕ) (ending : Ending) → IsStop ending
    → EndingFits trees planes place ending → trees.inclusion (leaf_at trees.width place) ≡ 0
stop_included trees planes place (block words) s f = absurd s
stop_included trees planes place all_zero s f = f.0
stop_included trees planes place (too_many passes) s f = f.0

module _ (shapes : List BandShape) (from mid : BitSource) (items : List PacketBand) (i : ℕ)
    (sofar : BandsSofar shapes from mid items i) where
  pub bands_less : length mid.ahead ≤ length from.ahead
  bands_less = took_less from mid _ sofar.took

  -- The band at the place was read, or its reading ended.
  module _ (shape : BandShape) (here : i < length shapes) (d : BandShape)
      (shape_is : shape ≡ get_or shapes i d) (to : BitSource) (r : Result PacketBand PacketRefusal)
      (found : (r ≡ Err (refusal_of (fault_of mid.bytes))) ⊎ FoundBand shape mid to r)
      (reads : (trees : BandTrees) (ending : BandEnding) (rest : List Bool) → TreesFit shape trees
      → BandEndingFits shape trees ending
      → mid.ahead ≡ band_ending_bits trees shape.planes ending ++ rest → GivesBand shape ending to r
      × Took mid (band_ending_bits trees shape.planes ending) to) where
    -- the shape stands at the place
    place_of_shape : (front later : List BandShape) × (shapes ≡ front ++ shape ∷ later)
        × (length front ≡ i)
    place_of_shape =
        let (front, later, e, l) = split_at shapes i d here in
        (front, later, e ∙ ap (λ k. front ++ k ∷ later) (sym shape_is), l)

    shape_at : (front later : List BandShape) (s : BandShape) → shapes ≡ front ++ s ∷ later
        → length front ≡ i → s ≡ shape
    shape_at front later s e l =
        let (front', later', e', l') = place_of_shape in
        (same_at front front' later later' s shape (l ∙ sym l') (sym e ∙ e')).1

    record MetBand (all : List BandWords) : Type 0 where
      front : List BandWords
      words : BandWords
      later : List BandWords
      all_are : all ≡ front ++ words ∷ later
      count : length front ≡ i
      kept : map kept_words front ≡ items
      answer : r ≡ Ok (kept_words words)
      took : Took from (bands_bits (front ++ words ∷ [])) to

    met_band : (first after : List BandShape) (all : List BandWords) (rest : List Bool)
        → shapes ≡ first ++ after → BandsFit first all → i < length first
        → from.ahead ≡ bands_bits all ++ rest → MetBand all
    met_band first after all rest s f l e =
        let (front, tail, are, n, kept, took) =
        sofar.reads first after all rest s f (omega arith) e in
        let m = bands_fit-length first all f in
        let (words, later, are') = bands_more all front tail are (omega arith) in
        let P : List BandWords → Type 0 = λ k. BandsFit first k in
        let (f1, t, f2, e1, n1, h) = bands_fit-at first front later words (subst P are' f) in
        let at = shape_at f1 (f2 ++ after) t (s ∙ ap (λ k. k ++ after) e1
        ∙ append_assoc f1 (t ∷ f2) after) (n1 ∙ n) in
        let Q : BandShape → Type 0 = λ k. BandFits k words in
        let fits : BandFits shape words = subst Q at h in
        let ahead : mid.ahead ≡ blocks_bits words.trees [] words.blocks
        ++ (bands_bits later ++ rest) =
        took_rest from mid (bands_bits front) (blocks_bits words.trees [] words.blocks
        ++ (bands_bits later ++ rest)) took
        (e ∙ ap (λ k. bands_bits k ++ rest) are'
        ∙ ap (λ k. k ++ rest) (bands_bits-append front (words ∷ later))
        ∙ append_assoc (bands_bits front) (bands_bits (words ∷ later)) rest
        ∙ ap (λ k. bands_bits front ++ (k ++ rest)) (bands_bits-cons words later)
        ∙ ap (λ k. bands_bits front ++ k) (append_assoc (blocks_bits words.trees [] words.blocks)
        (bands_bits later) rest)) in
        let q = reads words.trees (whole words.blocks) (bands_bits later
        ++ rest) fits.trees (whole_fits shape words fits) ahead in
        record {
          front = front;
          words = words;
          later = later;
          all_are = are';
          count = n;
          kept = kept;
          answer = q.0 ∙ ap (λ k. Ok k) (whole_kept shape words fits);
          took = along from to _ _ (sym (bands_bits-push front words))
              (took_more from mid to _ _ took q.1);
        }

    met_halt : (stop : Stop) (ending : Ending) (rest : List Bool)
        → BandsEndingFits shapes (halted stop ending)
        → from.ahead ≡ bands_ending_bits (halted stop ending) ++ rest
        → length stop.before ≡ i → (r ≡ Err (stop_refusal ending to))
        × Took from (bands_ending_bits (halted stop ending)) to
    met_halt stop ending rest (fits, s, t) e l =
        let n = bands_fit-length fits.first stop.before fits.bands in
        let inner = blocks_bits stop.trees [] stop.blocks
        ++ ending_bits stop.trees stop.blocks stop.planes ending in
        let e' = e ∙ append_assoc (bands_bits stop.before) (blocks_bits stop.trees [] stop.blocks
        ++ ending_bits stop.trees stop.blocks stop.planes ending) rest in
        let (front, tail, are, m, kept, took) =
        sofar.reads fits.first (fits.shape ∷ fits.later) stop.before
        ((blocks_bits stop.trees [] stop.blocks
        ++ ending_bits stop.trees stop.blocks stop.planes ending)
        ++ rest) fits.shapes_are fits.bands (omega arith) e' in
        let same = bands_none stop.before front tail are (m ∙ sym l) in
        let P : List BandWords → Type 0 = λ k. Took from (bands_bits k) mid in
        let took' = subst P (sym same) took in
        let at : fits.shape ≡ shape = shape_at fits.first fits.later fits.shape fits.shapes_are
        (sym n ∙ l) in
        let planes : stop.planes ≡ shape.planes = fits.planes
        ∙ ap (λ (k : BandShape). k.planes) at in
        let trees : TreesFit shape stop.trees = (let Q : BandShape → Type 0 =
        λ k. TreesFit k stop.trees in subst Q at fits.trees) in
        let within : length stop.blocks < shape.width * shape.height =
        (let Q : BandShape → Type 0 = λ k. length stop.blocks < k.width * k.height in
        subst Q at fits.within) in
        let blocks : BlocksFit stop.trees shape.planes 0 stop.blocks =
        (let Q : ℕ → Type 0 = λ k. BlocksFit stop.trees k 0 stop.blocks in
        subst Q planes fits.blocks) in
        let fitting : EndingFits stop.trees shape.planes (length stop.blocks) ending =
        (let Q : ℕ → Type 0 = λ k. EndingFits stop.trees k (length stop.blocks) ending in
        subst Q planes t) in
        let ahead = took_rest from mid (bands_bits stop.before)
        ((blocks_bits stop.trees [] stop.blocks
        ++ ending_bits stop.trees stop.blocks stop.planes ending) ++ rest) took' e' in
        let q = reads stop.trees (stopped stop.blocks ending) rest trees (within, blocks, s, fitting)
        (ahead ∙ ap (λ k. (blocks_bits stop.trees [] stop.blocks
        ++ ending_bits stop.trees stop.blocks k ending) ++ rest) planes) in (
          q.0,
          along from to _ _ (ap (λ k. bands_bits stop.before
              ++ (blocks_bits stop.trees [] stop.blocks
              ++ ending_bits stop.trees stop.blocks k ending)) (sym planes))
              (took_more from mid to _ _ took' q.1),
        )

    -- what ended the reading of the band
    stop_refuses : (ending : Ending) (e : PacketRefusal) → r ≡ Err e
        → r ≡ Err (stop_refusal ending to) → e ≡ stop_refusal ending to
    stop_refuses ending e is t = cc

    next_words : (band : PacketBand) (items' : List PacketBand) → r ≡ Ok band → items' ≡ items
        ++ band ∷ [] → to.bytes ≡ mid.bytes
        → (words : BandWords) → BandFits shape words
        → Took mid (blocks_bits words.trees [] words.blocks) to → r ≡ Ok (kept_words words)
        → BandsSofar shapes from to items' (i + 1)
    next_words band items' is push same words fits took answer =
        let (front, later, e, l) = place_of_shape in
        let at = same_at' sofar.done front sofar.left (shape ∷ later) (sofar.count
        ∙ sym l) (sym sofar.shapes_are ∙ e) in
        let kept : kept_words words ≡ band = cc in
        let P : List BandShape → Type 0 = λ k. BandsFit k sofar.bands in
        record {
          same = same ∙ sofar.same;
          done = front ++ shape ∷ [];
          left = later;
          shapes_are = e ∙ sym (append_assoc front (shape ∷ []) later);
          count = (let n = length-append front (shape ∷ []) in omega arith);
          bands = sofar.bands ++ words ∷ [];
          fits = bands_fit-push front sofar.bands shape words (subst P at sofar.fits) fits;
          items_are = map-append kept_words sofar.bands (words ∷ [])
              ∙ ap (λ k. k ++ kept_words words ∷ []) sofar.items_are
              ∙ ap (λ k. items ++ k ∷ []) kept ∙ sym push;
          took = along from to _ _ (sym (bands_bits-push sofar.bands words))
              (took_more from mid to _ _ sofar.took took);
          reads = λ first after all rest s f l' ahead.
              (let m = met_band first after all rest s f (omega arith) ahead in
              let k : kept_words m.words ≡ band = (let a = m.answer in cc) in (
                m.front ++ m.words ∷ [],
                m.later,
                m.all_are ∙ sym (append_assoc m.front (m.words ∷ []) m.later),
                (let n = length-append m.front (m.words ∷ []) in let c = m.count in omega arith),
                map-append kept_words m.front (m.words ∷ [])
                    ∙ ap (λ x. x ++ kept_words m.words ∷ []) m.kept ∙ ap (λ x. items ++ x ∷ []) k
                    ∙ sym push,
                m.took,
              ));
          stops = λ stop ending rest f ahead.
              (let low = sofar.stops stop ending rest f ahead in
              elim (cases_lt i (length stop.before)) [
                | inl h ↦ omega arith
                | inr h ↦ absurd (let m = (met_halt stop ending rest f ahead (omega arith)).0 in cc)
              ]);
        }

    next_of : (band : PacketBand) (items' : List PacketBand) → r ≡ Ok band → items' ≡ items
        ++ band ∷ [] → to.bytes ≡ mid.bytes
        → (ending : BandEnding) → GivesBand shape ending to r → (trees : BandTrees)
        → TreesFit shape trees → BandEndingFits shape trees ending
        → Took mid (band_ending_bits trees shape.planes ending) to
        → BandsSofar shapes from to items' (i + 1)
    next_of band items' is push same (whole blocks) gives trees fits f took =
        let words : BandWords = record { trees = trees; planes = shape.planes; blocks = blocks } in
        let band_fits : BandFits shape (record {
          trees = trees;
          planes = shape.planes;
          blocks =
              blocks;
        }) = record { trees = fits; planes = refl; count = f.0; blocks = f.1 } in
        next_words band items' is push same (record {
          trees = trees;
          planes = shape.planes;
          blocks =
              blocks;
        }) band_fits took
        (gives ∙ ap (λ k. Ok k) (whole_kept shape (record {
          trees = trees;
          planes = shape.planes;
          blocks = blocks;
        }) band_fits))
    next_of band items' is push same (stopped blocks ending) gives trees fits f took = absurd (cc)

    next_by : (band : PacketBand) (items' : List PacketBand) → r ≡ Ok band → items' ≡ items
        ++ band ∷ [] → to.bytes ≡ mid.bytes
        → (r ≡ Err (refusal_of (fault_of mid.bytes))) ⊎ FoundBand shape mid to r
        → BandsSofar shapes from to items' (i + 1)
    next_by band items' is push same (inl e) = absurd (cc)
    next_by band items' is push same (inr f) =
        next_of band items' is push same f.ending f.gives f.trees f.trees_fit f.fits f.took

    pub bands_sofar_next : (band : PacketBand) (items' : List PacketBand) → r ≡ Ok band
        → items' ≡ items ++ band ∷ [] → to.bytes ≡ mid.bytes
        → BandsSofar shapes from to items' (i + 1)
    bands_sofar_next band items' is push same = next_by band items' is push same found

    -- The reading ends in this band.
    halt_of : (result : Result Packet PacketRefusal) (e : PacketRefusal) → r ≡ Err e
        → result ≡ Err e
        → (ending : BandEnding) → GivesBand shape ending to r → (trees : BandTrees)
        → TreesFit shape trees → BandEndingFits shape trees ending
        → Took mid (band_ending_bits trees shape.planes ending) to
        → FoundBands shapes from to result
    halt_of result e is answer (whole blocks) gives trees fits f took = absurd (cc)
    halt_of result e is answer (stopped blocks ending) gives trees fits f took =
        let (front, later, s, l) = place_of_shape in
        let at = same_at' sofar.done front sofar.left (shape ∷ later) (sofar.count
        ∙ sym l) (sym sofar.shapes_are ∙ s) in
        let P : List BandShape → Type 0 = λ k. BandsFit k sofar.bands in
        record {
          ending = halted (record {
            before = sofar.bands;
            trees = trees;
            planes = shape.planes;
            blocks = blocks;
          }) ending;
          gives = answer ∙ ap (λ k. Err k) (stop_refuses ending e is gives);
          fits = (
            record {
              first = front;
              shape = shape;
              later = later;
              shapes_are = s;
              bands = subst P at sofar.fits;
              trees = fits;
              planes = refl;
              within = f.0;
              blocks = f.1;
              included = stop_included trees shape.planes (length blocks) ending f.2 f.3;
            },
            f.2,
            f.3,
          );
          took = took_more from mid to _ _ sofar.took took;
        }

    halt_by : (result : Result Packet PacketRefusal) (e : PacketRefusal) → r ≡ Err e
        → result ≡ Err e
        → (r ≡ Err (refusal_of (fault_of mid.bytes))) ⊎ FoundBand shape mid to r
        → (result ≡ Err (refusal_of (fault_of from.bytes))) ⊎ FoundBands shapes from to result
    halt_by result e is answer (inl g) =
        inl (let k : e ≡ refusal_of (fault_of mid.bytes) = cc in answer ∙ ap (λ x. Err x) k
        ∙ ap (λ b. Err (refusal_of (fault_of b))) sofar.same)
    halt_by result e is answer (inr f) =
        inr (halt_of result e is answer f.ending f.gives f.trees f.trees_fit f.fits f.took)

    pub bands_found_err : (result : Result Packet PacketRefusal) (e : PacketRefusal) → r ≡ Err e
        → result ≡ Err e
        → (result ≡ Err (refusal_of (fault_of from.bytes))) ⊎ FoundBands shapes from to result
    bands_found_err result e is answer = halt_by result e is answer found

    pub bands_reads_err : (result : Result Packet PacketRefusal) (e : PacketRefusal) → r ≡ Err e
        → result ≡ Err e
        → (ending : BandsEnding) (rest : List Bool) → BandsEndingFits shapes ending
        → from.ahead ≡ bands_ending_bits ending ++ rest → GivesBands ending to result
        × Took from (bands_ending_bits ending) to
    bands_reads_err result e is answer (wholes bands) rest f ahead =
        absurd (let m = met_band shapes [] bands rest (sym (append-nil shapes)) f here ahead in
        let a = m.answer in cc)
    bands_reads_err result e is answer (halted stop ending) rest f ahead =
        let low = sofar.stops stop ending rest f ahead in
        elim (cases_lt i (length stop.before)) [
          | inl h ↦ absurd (let g = f.0 in
              let n = bands_fit-length g.first stop.before g.bands in
              let ahead' = ahead ∙ append_assoc (bands_bits stop.before)
              (blocks_bits stop.trees [] stop.blocks
              ++ ending_bits stop.trees stop.blocks stop.planes ending) rest in
              let m = met_band g.first (g.shape ∷ g.later) stop.before
              ((blocks_bits stop.trees [] stop.blocks
              ++ ending_bits stop.trees stop.blocks stop.planes ending) ++ rest)
              g.shapes_are g.bands (omega arith) ahead' in
              let a = m.answer in cc)
          | inr h ↦ (let m = met_halt stop ending rest f ahead (omega arith) in
              (answer ∙ ap (λ k. Err k) (stop_refuses ending e is m.0), m.1))
        ]

  -- All bands were read.
  pub bands_found_whole : i ≡ length shapes → (packet : Packet) → packet.bands.items ≡ items
      → FoundBands shapes from mid (Ok packet)
  bands_found_whole l packet e =
      let whole_list = same_at' sofar.done shapes sofar.left [] (sofar.count
      ∙ l) (sym sofar.shapes_are ∙ sym (append-nil shapes)) in
      let P : List BandShape → Type 0 = λ k. BandsFit k sofar.bands in
      record {
        ending = wholes sofar.bands;
        gives = ap (λ k. Ok (packet_with k)) (e ∙ sym sofar.items_are);
        fits = subst P whole_list sofar.fits;
        took = sofar.took;
      }

  pub bands_reads_whole : i ≡ length shapes → (packet : Packet) → packet.bands.items ≡ items
      → (ending : BandsEnding) (rest : List Bool) → BandsEndingFits shapes ending
      → from.ahead ≡ bands_ending_bits ending ++ rest → GivesBands ending mid (Ok packet)
      × Took from (bands_ending_bits ending) mid
  bands_reads_whole l packet e (wholes bands) rest f ahead =
      let (front, tail, are, n, kept, took) =
      sofar.reads shapes [] bands rest (sym (append-nil shapes)) f (omega arith) ahead in
      let m = bands_fit-length shapes bands f in
      let same = bands_none bands front tail are (n ∙ l ∙ sym m) in
      let P : List BandWords → Type 0 = λ k. Took from (bands_bits k) mid in (
        ap (λ k. Ok (packet_with k)) (e ∙ sym kept ∙ ap (map kept_words) (sym same)),
        subst P (sym same) took,
      )
  bands_reads_whole l packet e (halted stop ending) rest f ahead =
      absurd (let low = sofar.stops stop ending rest f ahead in let g = f.0 in
      let n = bands_fit-length g.first stop.before g.bands in
      let k = ap length g.shapes_are ∙ length-append g.first (g.shape ∷ g.later) in omega arith)
