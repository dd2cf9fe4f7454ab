-- A band's part of a header, read.
use Rattle.std.proofs.Common.{◌≡◌, ℕ, suc, ◌+◌, ◌*◌, ◌<◌, ◌≤◌, Bool, List, [], ◌∷◌, ◌++◌, length}
use Rattle.std.proofs.Common.{refl, sym, ap, subst, ◌∙◌, inl, inr, arith, append_assoc}
use Rattle.std.proofs.Common.{length-append, Ok, Err, Result}
use Rattle.std.specs.Prelude.{◌⊎◌, if◌then◌else◌}
use Rattle.std.proofs.lemmas.Bool.{cases_lt}
use Rattle.std.proofs.lemmas.List.{append-nil, map-append, length-map}
use Rattle.tag_trees.specs.TagTree.{Writing}
use Rattle.bit_stuffing.specs.Source.{BitSource, Took}
use Rattle.bit_stuffing.specs.Stuffing.{fault_of}
use Rattle.tag_trees.specs.TreeState.{width_of, height_of, Stands, Allows}
use Rattle.tag_trees.specs.declared.tree.Tree.{Tree}
use Rattle.tag_trees.proofs.TreePaths.{numbering_along}
use Rattle.tag_trees.proofs.ReaderLemmas.{numbering_exists}
use Rattle.packet_headers.specs.declared.entry.Entry.{Entry}
use Rattle.packet_headers.specs.declared.packet.BandShape.{BandShape}
use Rattle.packet_headers.specs.declared.packet.PacketBand.{PacketBand}
use Rattle.packet_headers.specs.declared.refusal.PacketRefusal.{PacketRefusal}
use Rattle.packet_headers.specs.Words.{BlockWords, BandTrees, leaf_writing, inclusion_writings}
use Rattle.packet_headers.specs.Words.{zero_plane_writings, block_bits, blocks_bits}
use Rattle.packet_headers.specs.Grammar.{FitsAs, BlocksFit, TreesFit}
use Rattle.packet_headers.specs.Reading.{refusal_of}
use Rattle.packet_headers.specs.InsideReading.{kept_entry, kept_entries, kept_band, Ending}
use Rattle.packet_headers.specs.InsideReading.{EndingFits, ending_bits, Gives, ZeroPlanesStand}
use Rattle.packet_headers.specs.InsideReading.{OfSides, FoundBlock, BandEnding, IsStop}
use Rattle.packet_headers.specs.InsideReading.{BandEndingFits, band_ending_bits, stop_refusal}
use Rattle.packet_headers.specs.InsideReading.{GivesBand, FoundBand}
use Rattle.packet_headers.specs.InsideReading.Ending.{block, all_zero, too_many}
use Rattle.packet_headers.specs.InsideReading.BandEnding.{whole, stopped}
use Rattle.bit_stuffing.proofs.SourceLemmas.{took_more}
use Rattle.bit_stuffing.proofs.SourceLemmas.{took_none, took_rest}
use Rattle.packet_headers.proofs.ReadCodes.{along}
use Rattle.packet_headers.proofs.ReadIncluded.{took_less}
use Rattle.packet_headers.proofs.BlockLemmas.{inclusion_writings-push}

-- blocks one after the other
pub blocks_bits-append : (trees : BandTrees) (before xs ys : List BlockWords)
    → blocks_bits trees before (xs ++ ys) ≡ blocks_bits trees before xs
    ++ blocks_bits trees (before ++ xs) ys
unfolding blocks_bits
blocks_bits-append trees before [] ys = ap (λ k. blocks_bits trees k ys) (sym (append-nil before))
blocks_bits-append trees before (x ∷ xs) ys =
    ap (λ k. block_bits trees before x ++ k) (blocks_bits-append trees (before ++ x ∷ []) xs ys)
    ∙ ap (λ k. block_bits trees before x ++ (blocks_bits trees (before ++ x ∷ []) xs
    ++ blocks_bits trees k ys)) (append_assoc before (x ∷ []) xs)
    ∙ sym (append_assoc (block_bits trees before x) (blocks_bits trees (before ++ x ∷ []) xs)
    (blocks_bits trees (before ++ (x ∷ xs)) ys))

blocks_bits-cons : (trees : BandTrees) (before ys : List BlockWords) (x : BlockWords)
    → blocks_bits trees before (x ∷ ys) ≡ block_bits trees before x
    ++ blocks_bits trees (before ++ x ∷ []) ys
unfolding blocks_bits
blocks_bits-cons trees before ys x = refl

blocks_bits-none : (trees : BandTrees) (before : List BlockWords) → blocks_bits trees before [] ≡ []
unfolding blocks_bits
blocks_bits-none trees before = refl

pub blocks_bits-push : (trees : BandTrees) (xs : List BlockWords) (x : BlockWords)
    → blocks_bits trees [] (xs ++ x ∷ []) ≡ blocks_bits trees [] xs ++ block_bits trees xs x
blocks_bits-push trees xs x =
    blocks_bits-append trees [] xs (x ∷ []) ∙ ap (λ k. blocks_bits trees [] xs
    ++ k) (blocks_bits-cons trees xs [] x
    ∙ ap (λ k. block_bits trees xs x ++ k) (blocks_bits-none trees (xs ++ x ∷ []))
    ∙ append-nil (block_bits trees xs x))

fit_none : (trees : BandTrees) (planes place : ℕ) → BlocksFit trees planes place []
unfolding BlocksFit
fit_none trees planes place = tt

fit_push : (trees : BandTrees) (planes place : ℕ) (xs : List BlockWords) (x : BlockWords)
    → BlocksFit trees planes place xs → FitsAs x.entry.included trees planes (place + length xs) x
    → BlocksFit trees planes place (xs ++ x ∷ [])
unfolding BlocksFit
fit_push trees planes place [] x f h =
    let e : place + 0 ≡ place = omega arith in let P : ℕ → Type 0 =
    λ k. FitsAs x.entry.included trees planes k x in (subst P e h, tt)
fit_push trees planes place (y ∷ xs) x f h =
    let e : place + suc (length xs) ≡ place + 1 + length xs = omega arith in
    let P : ℕ → Type 0 = λ k. FitsAs x.entry.included trees planes k x in
    (f.0, fit_push trees planes (place + 1) xs x f.1 (subst P e h))

fit_at : (trees : BandTrees) (planes place : ℕ) (xs ys : List BlockWords) (x : BlockWords)
    → BlocksFit trees planes place (xs ++ x ∷ ys)
    → FitsAs x.entry.included trees planes (place + length xs) x
unfolding BlocksFit
fit_at trees planes place [] ys x f =
    let e : place + 0 ≡ place = omega arith in let P : ℕ → Type 0 =
    λ k. FitsAs x.entry.included trees planes k x in subst P (sym e) f.0
fit_at trees planes place (y ∷ xs) ys x f =
    let e : place + suc (length xs) ≡ place + 1 + length xs = omega arith in
    let P : ℕ → Type 0 = λ k. FitsAs x.entry.included trees planes k x in
    subst P (sym e) (fit_at trees planes (place + 1) xs ys x f.1)

-- the writings depend on what is kept of the entries
pub inclusion_alike : (width place : ℕ) (xs ys : List BlockWords)
    → kept_entries xs ≡ kept_entries ys → inclusion_writings width place xs
    ≡ inclusion_writings width place ys
unfolding inclusion_writings
inclusion_alike width place [] [] e = refl
inclusion_alike width place [] (y ∷ ys) e = absurd (cc)
inclusion_alike width place (x ∷ xs) [] e = absurd (cc)
inclusion_alike width place (x ∷ xs) (y ∷ ys) e =
    let t : kept_entries xs ≡ kept_entries ys = cc in
    ap (λ k. leaf_writing width place 1 ∷ k) (inclusion_alike width (place + 1) xs ys t)

zero_alike : (width place : ℕ) (xs ys : List BlockWords) → kept_entries xs ≡ kept_entries ys
    → zero_plane_writings width place xs ≡ zero_plane_writings width place ys
unfolding zero_plane_writings
zero_alike width place [] [] e = refl
zero_alike width place [] (y ∷ ys) e = absurd (cc)
zero_alike width place (x ∷ xs) [] e = absurd (cc)
zero_alike width place (x ∷ xs) (y ∷ ys) e =
    let t : kept_entries xs ≡ kept_entries ys = cc in
    let h : kept_entry x.entry ≡ kept_entry y.entry = cc in
    let i : x.entry.included ≡ y.entry.included = ap (λ (k : Entry). k.included) h in
    let z : x.entry.zero_planes ≡ y.entry.zero_planes = ap (λ (k : Entry). k.zero_planes) h in
    ap (λ k. (if x.entry.included then leaf_writing width place (x.entry.zero_planes + 1) ∷ []
    else []) ++ k) (zero_alike width (place + 1) xs ys t)
    ∙ ap (λ k. (if k then leaf_writing width place (x.entry.zero_planes + 1) ∷ [] else [])
    ++ zero_plane_writings width (place + 1) ys) i
    ∙ ap (λ k. (if y.entry.included then leaf_writing width place (k + 1) ∷ [] else [])
    ++ zero_plane_writings width (place + 1) ys) z

-- What has been read up to a place.
pub record Sofar (shape : BandShape) (inclusion zero_planes : Tree) (from mid : BitSource)
    (items : List Entry) (place : ℕ) : Type 0 where
  pub inclusion_sides : OfSides inclusion shape
  pub zero_planes_sides : OfSides zero_planes shape
  pub same : mid.bytes ≡ from.bytes
  pub blocks : List BlockWords
  pub count : length blocks ≡ place
  pub items_are : kept_entries blocks ≡ items
  pub inclusion_stands : Stands inclusion (inclusion_writings shape.width 0 blocks)
  pub zero_planes_stand : Stands zero_planes (zero_plane_writings shape.width 0 blocks)
  pub read : (trees : BandTrees) → TreesFit shape trees → Allows inclusion trees.inclusion
      → Allows zero_planes trees.zero_planes
      → BlocksFit trees shape.planes 0 blocks × Took from (blocks_bits trees [] blocks) mid
  pub reads : (trees : BandTrees) (all : List BlockWords) (rest : List Bool) → TreesFit shape trees
      → BlocksFit trees shape.planes 0 all → place ≤ length all
      → from.ahead ≡ blocks_bits trees [] all ++ rest
      → (front tail : List BlockWords) × (all ≡ front ++ tail) × (kept_entries front ≡ items)
      × Took from (blocks_bits trees [] front) mid
      × Allows inclusion trees.inclusion × Allows zero_planes trees.zero_planes
  pub stops : (trees : BandTrees) (before : List BlockWords) (ending : Ending) (rest : List Bool)
      → TreesFit shape trees → BlocksFit trees shape.planes 0 before → IsStop ending
      → EndingFits trees shape.planes (length before) ending
      → from.ahead ≡ blocks_bits trees [] before ++ (ending_bits trees before shape.planes ending
      ++ rest) → place ≤ length before

pub sofar_none : (shape : BandShape) (inclusion zero_planes : Tree) (from : BitSource)
    → OfSides inclusion shape → OfSides zero_planes shape → Stands inclusion []
    → Stands zero_planes []
    → ((v : ℕ → ℕ) → Allows inclusion v) → ((v : ℕ → ℕ) → Allows zero_planes v)
    → Sofar shape inclusion zero_planes from from [] 0
unfolding inclusion_writings zero_plane_writings
sofar_none shape inclusion zero_planes from i z s t a b = record {
  inclusion_sides = i;
  zero_planes_sides = z;
  same = refl;
  blocks = [];
  count = refl;
  items_are = refl;
  inclusion_stands = s;
  zero_planes_stand = t;
  read = λ trees fits a b. (
    fit_none trees shape.planes 0,
    along from from [] _ (sym (blocks_bits-none trees [])) (took_none from),
  );
  reads = λ trees all rest fits f l e. (
    [],
    all,
    refl,
    refl,
    along from from [] _ (sym (blocks_bits-none trees [])) (took_none from),
    a trees.inclusion,
    b trees.zero_planes,
  );
  stops = λ trees before ending rest fits f s t e. omega arith;
}

-- some trees of the band's shape are allowed
pub exists_trees : (shape : BandShape) (inclusion zero_planes : Tree) (a b : List Writing)
    → OfSides inclusion shape → OfSides zero_planes shape → Stands inclusion a
    → Stands zero_planes b
    → (trees : BandTrees) × TreesFit shape trees × Allows inclusion trees.inclusion
    × Allows zero_planes trees.zero_planes
exists_trees shape inclusion zero_planes a b i z s t =
    let v = numbering_exists inclusion a s in
    let w = numbering_exists zero_planes b t in (
      record { width = shape.width; height = shape.height; inclusion = v.0; zero_planes = w.0 },
      record {
        width = refl;
        height = refl;
        inclusion = numbering_along (width_of inclusion) (height_of inclusion) shape.width
            shape.height v.0 (sym i.width) (sym i.height) v.1;
        zero_planes = numbering_along (width_of zero_planes) (height_of zero_planes) shape.width
            shape.height w.0 (sym z.width) (sym z.height) w.1;
      },
      v.2,
      w.2,
    )

-- a list after a front that isn't all of it
split_more : (all front tail : List BlockWords) → all ≡ front ++ tail → length front < length all
    → (words : BlockWords) × (later : List BlockWords) × (all ≡ front ++ words ∷ later)
split_more all front [] e l = absurd (let m = ap length (e ∙ append-nil front) in omega arith)
split_more all front (x ∷ tail) e l = (x, tail, e)

split_none : (all front tail : List BlockWords) → all ≡ front ++ tail → length front ≡ length all
    → all ≡ front
split_none all front [] e l = e ∙ append-nil front
split_none all front (x ∷ tail) e l = absurd (let m = ap length e
    ∙ length-append front (x ∷ tail) in omega arith)

length_alike : (xs ys : List BlockWords) → kept_entries xs ≡ kept_entries ys → length xs ≡ length ys
length_alike xs ys e = sym (length-map xs (λ words. kept_entry words.entry)) ∙ ap length e
    ∙ length-map ys (λ words. kept_entry words.entry)

kept_push : (xs : List BlockWords) (x : BlockWords) → kept_entries (xs ++ x ∷ []) ≡ kept_entries xs
    ++ kept_entry x.entry ∷ []
kept_push xs x = map-append (λ words. kept_entry words.entry) xs (x ∷ [])

abbrev pub band_with : ℕ → ℕ → ℕ → List Entry → PacketBand
band_with width height planes items = record {
  width = width;
  height = height;
  planes = planes;
  entries = record { items = items };
}

not_ok : (ending : Ending) (bits : BitSource) (entry : Entry) → IsStop ending
    → Gives ending bits (Ok entry) → ⊥
not_ok (block words) bits entry s t = s
not_ok all_zero bits entry s t = cc
not_ok (too_many passes) bits entry s t = cc

module _ (shape : BandShape) (inclusion zero_planes : Tree) (from mid : BitSource)
    (items : List Entry) (place : ℕ) (sofar : Sofar shape inclusion zero_planes from mid items
    place) where
  pub trees_now : (trees : BandTrees) × TreesFit shape trees × Allows inclusion trees.inclusion
      × Allows zero_planes trees.zero_planes
  trees_now = exists_trees shape inclusion zero_planes _ _ sofar.inclusion_sides
      sofar.zero_planes_sides sofar.inclusion_stands sofar.zero_planes_stand

  pub less_now : length mid.ahead ≤ length from.ahead
  less_now = let t = trees_now in took_less from mid _ (sofar.read t.0 t.1 t.2 t.3).1

  -- a list that is kept alike stands for the same readings
  inclusion_of : (front : List BlockWords) → kept_entries front ≡ items
      → Stands inclusion (inclusion_writings shape.width 0 front)
  inclusion_of front e =
      let P : List Writing → Type 0 = λ k. Stands inclusion k in
      subst P (inclusion_alike shape.width 0 sofar.blocks front (sofar.items_are ∙ sym e))
      sofar.inclusion_stands

  zero_planes_of : (front : List BlockWords) → kept_entries front ≡ items
      → Stands zero_planes (zero_plane_writings shape.width 0 front)
  zero_planes_of front e =
      let P : List Writing → Type 0 = λ k. Stands zero_planes k in
      subst P (zero_alike shape.width 0 sofar.blocks front (sofar.items_are ∙ sym e))
      sofar.zero_planes_stand

  length_of : (front : List BlockWords) → kept_entries front ≡ items → length front ≡ place
  length_of front e = length_alike front sofar.blocks (e ∙ sym sofar.items_are) ∙ sofar.count

  -- The block at the place was read, or its reading ended.
  module _ (inclusion' zero_planes' : Tree) (to : BitSource) (r : Result Entry PacketRefusal)
      (found : (before : List BlockWords) → length before ≡ place
      → Stands inclusion (inclusion_writings shape.width 0 before)
      → Stands zero_planes (zero_plane_writings shape.width 0 before)
      → (r ≡ Err (refusal_of (fault_of mid.bytes)))
      ⊎ FoundBlock shape before inclusion inclusion' zero_planes zero_planes' mid to r)
      (reads : (before : List BlockWords) (trees : BandTrees) (ending : Ending) (rest : List Bool)
      → length before ≡ place → Stands inclusion (inclusion_writings shape.width 0 before)
      → Stands zero_planes (zero_plane_writings shape.width 0 before) → TreesFit shape trees
      → Allows inclusion trees.inclusion → Allows zero_planes trees.zero_planes
      → EndingFits trees shape.planes place ending
      → mid.ahead ≡ ending_bits trees before shape.planes ending ++ rest
      → Gives ending to r × Allows inclusion' trees.inclusion
      × Allows zero_planes' trees.zero_planes
      × Took mid (ending_bits trees before shape.planes ending) to) where
    found_now : (r ≡ Err (refusal_of (fault_of mid.bytes)))
        ⊎ FoundBlock shape sofar.blocks inclusion inclusion' zero_planes zero_planes' mid to r
    found_now = found sofar.blocks sofar.count sofar.inclusion_stands sofar.zero_planes_stand

    -- the block of a list that is ahead
    record Met (trees : BandTrees) (all : List BlockWords) : Type 0 where
      front : List BlockWords
      words : BlockWords
      later : List BlockWords
      all_are : all ≡ front ++ words ∷ later
      kept : kept_entries front ≡ items
      answer : r ≡ Ok (kept_entry words.entry)
      inclusion_allows : Allows inclusion' trees.inclusion
      zero_planes_allow : Allows zero_planes' trees.zero_planes
      took : Took from (blocks_bits trees [] (front ++ words ∷ [])) to

    met : (trees : BandTrees) (all : List BlockWords) (rest : List Bool) → TreesFit shape trees
        → BlocksFit trees shape.planes 0 all → place < length all
        → from.ahead ≡ blocks_bits trees [] all ++ rest → Met trees all
    met trees all rest fits f l e =
        let (front, tail, are, kept, took, a, b) =
        sofar.reads trees all rest fits f (omega arith) e in
        let n = length_of front kept in
        let (words, later, are') = split_more all front tail are (omega arith) in
        let g : BlocksFit trees shape.planes 0 (front ++ words ∷ later) =
        (let P : List BlockWords → Type 0 = λ k. BlocksFit trees shape.planes 0 k in
        subst P are' f) in
        let h : FitsAs words.entry.included trees shape.planes place words =
        (let P : ℕ → Type 0 = λ k. FitsAs words.entry.included trees shape.planes k words in
        let k : 0 + length front ≡ place = omega arith in
        subst P k (fit_at trees shape.planes 0 front later words g)) in
        let ahead : mid.ahead ≡ block_bits trees front words
        ++ (blocks_bits trees (front ++ words ∷ []) later ++ rest) =
        took_rest from mid (blocks_bits trees [] front) (block_bits trees front words
        ++ (blocks_bits trees (front ++ words ∷ []) later ++ rest)) took
        (e ∙ ap (λ k. blocks_bits trees [] k ++ rest) are'
        ∙ ap (λ k. k ++ rest) (blocks_bits-append trees [] front (words ∷ later))
        ∙ append_assoc (blocks_bits trees [] front) (blocks_bits trees front (words ∷ later)) rest
        ∙ ap (λ k. blocks_bits trees [] front ++ (k ++ rest))
        (blocks_bits-cons trees front later words)
        ∙ ap (λ k. blocks_bits trees [] front
        ++ k) (append_assoc (block_bits trees front words) (blocks_bits trees (front
        ++ words ∷ []) later) rest)) in
        let q = reads front trees (block words) (blocks_bits trees (front ++ words ∷ []) later
        ++ rest) n (inclusion_of front kept) (zero_planes_of front kept) fits a b h ahead in
        record {
          front = front;
          words = words;
          later = later;
          all_are = are';
          kept = kept;
          answer = q.0;
          inclusion_allows = q.1;
          zero_planes_allow = q.2;
          took = along from to _ _ (sym (blocks_bits-push trees front words))
              (took_more from mid to _ _ took q.3);
        }

    -- a stop at this place
    met_stop : (trees : BandTrees) (before : List BlockWords) (ending : Ending) (rest : List Bool)
        → TreesFit shape trees → BlocksFit trees shape.planes 0 before
        → EndingFits trees shape.planes (length before) ending → length before ≡ place
        → from.ahead ≡ blocks_bits trees [] before ++ (ending_bits trees before shape.planes ending
        ++ rest)
        → Gives ending to r × Took from (blocks_bits trees [] before
        ++ ending_bits trees before shape.planes ending) to
    met_stop trees before ending rest fits f t l e =
        let (front, tail, are, kept, took, a, b) =
        sofar.reads trees before (ending_bits trees before shape.planes ending
        ++ rest) fits f (omega arith) e in
        let same = split_none before front tail are (length_of front kept ∙ sym l) in
        let P : List BlockWords → Type 0 = λ k. Took from (blocks_bits trees [] k) mid in
        let took' = subst P (sym same) took in
        let kept' = ap kept_entries same ∙ kept in
        let Q : ℕ → Type 0 = λ k. EndingFits trees shape.planes k ending in
        let ahead = took_rest from mid (blocks_bits trees [] before)
        (ending_bits trees before shape.planes ending ++ rest) took' e in
        let q = reads before trees ending rest l (inclusion_of before kept')
        (zero_planes_of before kept') fits a b (subst Q l t) ahead in
        (q.0, took_more from mid to _ _ took' q.3)

    -- what is known where the block was read
    record Next (words : BlockWords) : Type 0 where
      answer : r ≡ Ok (kept_entry words.entry)
      stands : Stands inclusion' (inclusion_writings shape.width 0 sofar.blocks
          ++ leaf_writing shape.width (length sofar.blocks) 1 ∷ [])
      stand : Stands zero_planes' (zero_plane_writings shape.width 0 (sofar.blocks ++ words ∷ []))
      read : (trees : BandTrees) → TreesFit shape trees → Allows inclusion' trees.inclusion
          → Allows zero_planes' trees.zero_planes
          → FitsAs words.entry.included trees shape.planes (length sofar.blocks) words
          × Allows inclusion trees.inclusion × Allows zero_planes trees.zero_planes
          × Took mid (block_bits trees sofar.blocks words) to

    next_of : (entry : Entry) (ending : Ending) → r ≡ Ok entry → Gives ending to r
        → Stands inclusion' (inclusion_writings shape.width 0 sofar.blocks
        ++ leaf_writing shape.width (length sofar.blocks) 1 ∷ [])
        → ZeroPlanesStand shape.width zero_planes' sofar.blocks ending
        → ((trees : BandTrees) → TreesFit shape trees → Allows inclusion' trees.inclusion
        → Allows zero_planes' trees.zero_planes
        → EndingFits trees shape.planes (length sofar.blocks) ending
        × Allows inclusion trees.inclusion × Allows zero_planes trees.zero_planes
        × Took mid (ending_bits trees sofar.blocks shape.planes ending) to)
        → (words : BlockWords) × Next words
    next_of entry (block words) is t s z read =
        (words, record { answer = t; stands = s; stand = z; read = read })
    next_of entry all_zero is t s z read = absurd (cc)
    next_of entry (too_many passes) is t s z read = absurd (cc)

    next_by : (entry : Entry) → r ≡ Ok entry → (r ≡ Err (refusal_of (fault_of mid.bytes)))
        ⊎ FoundBlock shape sofar.blocks inclusion inclusion' zero_planes zero_planes' mid to r
        → (words : BlockWords) × Next words
    next_by entry is (inl e) = absurd (cc)
    next_by entry is (inr f) = next_of entry f.ending is f.gives f.inclusion_stands
        f.zero_planes_stand f.read

    pub sofar_next : (entry : Entry) (items' : List Entry) → r ≡ Ok entry → items' ≡ items
        ++ entry ∷ [] → OfSides inclusion' shape → OfSides zero_planes' shape → to.bytes ≡ mid.bytes
        → Sofar shape inclusion' zero_planes' from to items' (place + 1)
    sofar_next entry items' is push i z same =
        let (words, next) = next_by entry is found_now in
        let kept : kept_entry words.entry ≡ entry = (let a = next.answer in cc) in
        record {
          inclusion_sides = i;
          zero_planes_sides = z;
          same = same ∙ sofar.same;
          blocks = sofar.blocks ++ words ∷ [];
          count = (let l = length-append sofar.blocks (words ∷ []) in let c = sofar.count in
              omega arith);
          items_are = kept_push sofar.blocks words
              ∙ ap (λ k. k ++ kept_entry words.entry ∷ []) sofar.items_are
              ∙ ap (λ k. items ++ k ∷ []) kept ∙ sym push;
          inclusion_stands =
              (let P : List Writing → Type 0 = λ k. Stands inclusion' k in
              let l : 0 + length sofar.blocks ≡ length sofar.blocks = omega arith in
              let e = inclusion_writings-push shape.width 0 sofar.blocks words in
              subst P (sym (e ∙ ap (λ n. inclusion_writings shape.width 0 sofar.blocks
              ++ leaf_writing shape.width n 1 ∷ []) l)) next.stands);
          zero_planes_stand = next.stand;
          read = λ trees fits a b.
              (let q = next.read trees fits a b in
              let p = sofar.read trees fits q.1 q.2 in
              let l : length sofar.blocks ≡ 0 + length sofar.blocks = omega arith in
              let P : ℕ → Type 0 = λ k. FitsAs words.entry.included trees shape.planes k words in (
                fit_push trees shape.planes 0 sofar.blocks words p.0 (subst P l q.0),
                along from to _ _ (sym (blocks_bits-push trees sofar.blocks words))
                    (took_more from mid to _ _ p.1 q.3),
              ));
          reads = λ trees all rest fits f l e.
              (let m = met trees all rest fits f (omega arith) e in
              let k : kept_entry m.words.entry ≡ entry = (let a = m.answer in cc) in (
                m.front ++ m.words ∷ [],
                m.later,
                m.all_are ∙ sym (append_assoc m.front (m.words ∷ []) m.later),
                kept_push m.front m.words ∙ ap (λ x. x ++ kept_entry m.words.entry ∷ []) m.kept
                    ∙ ap (λ x. items ++ x ∷ []) k ∙ sym push,
                m.took,
                m.inclusion_allows,
                m.zero_planes_allow,
              ));
          stops = λ trees before ending rest fits f s t e.
              (let l = sofar.stops trees before ending rest fits f s t e in
              elim (cases_lt place (length before)) [
                | inl h ↦ omega arith
                | inr h ↦ absurd (let m = met_stop trees before ending rest fits f t (omega arith)
                    e in
                    let P : Result Entry PacketRefusal → Type 0 = λ k. Gives ending to k in
                    not_ok ending to entry s (subst P is m.0))
              ]);
        }

    -- The reading ends here.
    stop_of : (ending : Ending) (e : PacketRefusal) → r ≡ Err e → Gives ending to r → IsStop ending
        × (e ≡ stop_refusal ending to)
    stop_of (block words) e is t = absurd (cc)
    stop_of all_zero e is t = (tt, cc)
    stop_of (too_many passes) e is t = (tt, cc)

    some_stands : (ending : Ending) → ZeroPlanesStand shape.width zero_planes' sofar.blocks ending
        → (earlier : List Writing) × Stands zero_planes' earlier
    some_stands (block words) s = (
      zero_plane_writings shape.width 0 (sofar.blocks ++ words ∷ []),
      s,
    )
    some_stands all_zero s = s
    some_stands (too_many passes) s = s

    found_err_by : (result : Result PacketBand PacketRefusal) (e : PacketRefusal) → r ≡ Err e
        → result ≡ Err e → place < shape.width * shape.height
        → OfSides inclusion' shape → OfSides zero_planes' shape
        → (r ≡ Err (refusal_of (fault_of mid.bytes)))
        ⊎ FoundBlock shape sofar.blocks inclusion inclusion' zero_planes zero_planes' mid to r
        → (result ≡ Err (refusal_of (fault_of from.bytes))) ⊎ FoundBand shape from to result
    found_err_by result e is answer l i z (inl g) =
        inl (let k : e ≡ refusal_of (fault_of mid.bytes) = cc in answer ∙ ap (λ x. Err x) k
        ∙ ap (λ b. Err (refusal_of (fault_of b))) sofar.same)
    found_err_by result e is answer l i z (inr f) =
        let s = stop_of f.ending e is f.gives in
        let some = some_stands f.ending f.zero_planes_stand in
        let (trees, fits, a, b) = exists_trees shape inclusion' zero_planes' _ _ i z
        f.inclusion_stands some.1 in
        let q = f.read trees fits a b in
        let p = sofar.read trees fits q.1 q.2 in
        let c = sofar.count in
        inr (record {
          ending = stopped sofar.blocks f.ending;
          gives = answer ∙ ap (λ x. Err x) s.1;
          trees = trees;
          trees_fit = fits;
          fits = (omega arith, p.0, s.0, q.0);
          took = took_more from mid to _ _ p.1 q.3;
        })

    pub found_err : (result : Result PacketBand PacketRefusal) (e : PacketRefusal) → r ≡ Err e
        → result ≡ Err e → place < shape.width * shape.height
        → OfSides inclusion' shape → OfSides zero_planes' shape
        → (result ≡ Err (refusal_of (fault_of from.bytes))) ⊎ FoundBand shape from to result
    found_err result e is answer l i z = found_err_by result e is answer l i z found_now

    tells_stop : (ending : Ending) → IsStop ending → Gives ending to r
        → r ≡ Err (stop_refusal ending to)
    tells_stop (block words) s t = absurd s
    tells_stop all_zero s t = t
    tells_stop (too_many passes) s t = t

    pub reads_err : (result : Result PacketBand PacketRefusal) (e : PacketRefusal) → r ≡ Err e
        → result ≡ Err e → place < shape.width * shape.height
        → (trees : BandTrees) (ending : BandEnding) (rest : List Bool) → TreesFit shape trees
        → BandEndingFits shape trees ending
        → from.ahead ≡ band_ending_bits trees shape.planes ending ++ rest
        → GivesBand shape ending to result × Took from (band_ending_bits trees shape.planes ending)
        to
    reads_err result e is answer l trees (whole blocks) rest fits f ahead =
        absurd (let c : length blocks ≡ shape.width * shape.height = f.0 in let m =
        met trees blocks rest fits f.1 (omega arith) ahead in let a = m.answer in cc)
    reads_err result e is answer l trees (stopped blocks ending) rest fits f ahead =
        let ahead' = ahead ∙ append_assoc (blocks_bits trees [] blocks)
        (ending_bits trees blocks shape.planes ending) rest in
        let low = sofar.stops trees blocks ending rest fits f.1 f.2 f.3 ahead' in
        elim (cases_lt place (length blocks)) [
          | inl h ↦ absurd (let m = met trees blocks (ending_bits trees blocks shape.planes ending
              ++ rest) fits f.1 h ahead' in let a = m.answer in cc)
          | inr h ↦ (let m = met_stop trees blocks ending rest fits f.1 f.3 (omega arith) ahead' in
              let t = tells_stop ending f.2 m.0 in
              let k : e ≡ stop_refusal ending to = cc in (answer ∙ ap (λ x. Err x) k, m.1))
        ]

  -- All blocks were read.
  band_is : (blocks : List BlockWords) (band : PacketBand)
      → kept_entries blocks ≡ band.entries.items → band.width ≡ shape.width
      → band.height ≡ shape.height → band.planes ≡ shape.planes
      → band ≡ kept_band shape blocks
  band_is blocks band e w h p =
      ap (λ k. band_with k band.height band.planes band.entries.items) w
      ∙ ap (λ k. band_with shape.width k band.planes band.entries.items) h
      ∙ ap (λ k. band_with shape.width shape.height k band.entries.items) p
      ∙ ap (λ k. band_with shape.width shape.height shape.planes k) (sym e)

  pub found_whole : (band : PacketBand) → band.entries.items ≡ items → band.width ≡ shape.width
      → band.height ≡ shape.height → band.planes ≡ shape.planes
      → place ≡ shape.width * shape.height → FoundBand shape from mid (Ok band)
  found_whole band e w h p l =
      let (trees, fits, a, b) = trees_now in
      let q = sofar.read trees fits a b in
      record {
        ending = whole sofar.blocks;
        gives = ap (λ k. Ok k) (band_is sofar.blocks band (sofar.items_are ∙ sym e) w h p);
        trees = trees;
        trees_fit = fits;
        fits = (sofar.count ∙ l, q.0);
        took = q.1;
      }

  pub reads_whole : (band : PacketBand) → band.entries.items ≡ items → band.width ≡ shape.width
      → band.height ≡ shape.height → band.planes ≡ shape.planes
      → place ≡ shape.width * shape.height
      → (trees : BandTrees) (ending : BandEnding) (rest : List Bool) → TreesFit shape trees
      → BandEndingFits shape trees ending
      → from.ahead ≡ band_ending_bits trees shape.planes ending ++ rest
      → GivesBand shape ending mid (Ok band)
      × Took from (band_ending_bits trees shape.planes ending) mid
  reads_whole band e w h p l trees (whole blocks) rest fits f ahead =
      let c : length blocks ≡ shape.width * shape.height = f.0 in
      let (front, tail, are, kept, took, a, b) =
      sofar.reads trees blocks rest fits f.1 (omega arith) ahead in
      let same = split_none blocks front tail are (length_of front kept ∙ l ∙ sym f.0) in
      let P : List BlockWords → Type 0 = λ k. Took from (blocks_bits trees [] k) mid in (
        ap (λ k. Ok k) (band_is blocks band (ap kept_entries same ∙ kept ∙ sym e) w h p),
        subst P (sym same) took,
      )
  reads_whole band e w h p l trees (stopped blocks ending) rest fits f ahead =
      absurd (let m = sofar.stops trees blocks ending rest fits f.1 f.2 f.3 (ahead
      ∙ append_assoc (blocks_bits trees [] blocks)
      (ending_bits trees blocks shape.planes ending) rest) in
      let c : length blocks < shape.width * shape.height = f.0 in omega arith)
