-- A block's part of a header, read: its inclusion, and what stands after it.
use Rattle.std.proofs.Common.{◌≡◌, ℕ, ◌+◌, ◌/◌, ◌%◌, ◌<◌, ◌≤◌, min, Bool, true, false, List, []}
use Rattle.std.proofs.Common.{◌∷◌, ◌++◌, length, refl, sym, ap, subst, ◌∙◌, inl, inr, arith}
use Rattle.std.proofs.Common.{append_assoc, Ok, Err, Result}
use Rattle.std.specs.Prelude.{◌⊎◌, if◌then◌else◌, nat_lt}
use Rattle.std.proofs.lemmas.Bool.{cases_Bool, ltb-true, ltb-false}
use Rattle.std.proofs.lemmas.List.{append-nil}
use Rattle.tag_trees.specs.TagTree.{Writing, leaf_node, bits_of_writing, IsNumbering}
use Rattle.bit_stuffing.specs.Source.{BitSource, Took}
use Rattle.tag_trees.specs.TreeState.{width_of, height_of, levels_of, Stands, Allows}
use Rattle.tag_trees.specs.declared.tree.Tree.{Tree}
use Rattle.bit_stuffing.specs.declared.fault.BitFault.{BitFault}
use Rattle.tag_trees.proofs.TreePaths.{numbering_along}
use Rattle.tag_trees.proofs.ReaderLemmas.{numbering_exists}
use Rattle.packet_headers.specs.declared.entry.Entry.{Entry}
use Rattle.packet_headers.specs.declared.packet.BandShape.{BandShape}
use Rattle.packet_headers.specs.declared.refusal.PacketRefusal.{PacketRefusal}
use Rattle.packet_headers.specs.Words.{BlockWords, BandTrees, leaf_at, leaf_writing}
use Rattle.packet_headers.specs.Words.{inclusion_writings, zero_plane_writings, inclusion_bits}
use Rattle.packet_headers.specs.Grammar.{FitsAs, IsLeftOut, TreesFit}
use Rattle.packet_headers.specs.Reading.{refusal_of}
use Rattle.packet_headers.specs.InsideReading.{no_entry, kept_entry, Ending, EndingFits, IsInside}
use Rattle.packet_headers.specs.InsideReading.{inside_bits, ending_bits, Gives, OfSides}
use Rattle.packet_headers.specs.InsideReading.{FoundInside, FoundBlock}
use Rattle.packet_headers.specs.InsideReading.Ending.{block, all_zero, too_many}
use Rattle.bit_stuffing.proofs.SourceLemmas.{took_more}
use Rattle.bit_stuffing.proofs.SourceLemmas.{took_rest}
use Rattle.packet_headers.proofs.BlockLemmas.{zero_plane_writings-push}
use Rattle.packet_headers.proofs.ReadCodes.{along}
use Rattle.packet_headers.proofs.ReadIncluded.{included_fits, took_less}

-- a block that is left out adds no zero planes
pub zero_writings_same : (width place : ℕ) (blocks : List BlockWords) (words : BlockWords)
    → words.entry.included ≡ false
    → zero_plane_writings width place (blocks ++ words ∷ [])
    ≡ zero_plane_writings width place blocks
zero_writings_same width place blocks words e =
    zero_plane_writings-push width place blocks words
    ∙ ap (λ k. zero_plane_writings width place blocks
    ++ (if k then leaf_writing width (place + length blocks) (words.entry.zero_planes + 1) ∷ []
    else [])) e
    ∙ append-nil (zero_plane_writings width place blocks)

-- the bits of an ending, whose block is included
told_inside : (trees : BandTrees) (before : List BlockWords) (planes : ℕ) (ending : Ending)
    → IsInside ending
    → inclusion_bits trees before ++ inside_bits trees before planes ending
    ≡ ending_bits trees before planes ending
told_inside trees before planes (block words) i = rw i refl
told_inside trees before planes all_zero i = refl
told_inside trees before planes (too_many passes) i = refl

-- an ending's block is included, or left out
data Which (trees : BandTrees) (before : List BlockWords) (planes : ℕ) (ending : Ending) : Type 0
  where
    inside : IsInside ending → trees.inclusion (leaf_at trees.width (length before)) ≡ 0
        → Which trees before planes ending
    outside : (words : BlockWords) → ending ≡ block words → words.entry.included ≡ false
        → IsLeftOut trees (length before) words
        → ending_bits trees before planes ending ≡ inclusion_bits trees before ++ []
        → Which trees before planes ending

pub out_fits : (trees : BandTrees) (planes place : ℕ) (words : BlockWords) (included : Bool)
    → included ≡ false → FitsAs included trees planes place words → IsLeftOut trees place words
out_fits trees planes place words true e f = absurd (cc)
out_fits trees planes place words false e f = f

which : (trees : BandTrees) (before : List BlockWords) (planes : ℕ) (ending : Ending)
    → EndingFits trees planes (length before) ending → Which trees before planes ending
which trees before planes (block words) f = elim (cases_Bool words.entry.included) [
  | inl e ↦ inside e (included_fits trees planes (length before) words words.entry.included e
      f).inclusion
  | inr e ↦ outside words refl e (out_fits trees planes (length before) words words.entry.included e
      f) (rw e refl)
]
which trees before planes all_zero f = inside tt f.0
which trees before planes (too_many passes) f = inside tt f.0

tells_along : (ending other : Ending) (bits : BitSource) (result : Result Entry PacketRefusal)
    → ending ≡ other → Gives other bits result → Gives ending bits result
tells_along ending other bits result e t = let P : Ending → Type 0 = λ k. Gives k bits result in
    subst P (sym e) t

abbrev make : Bool → ℕ → ℕ → ℕ → Entry
make included zero_planes passes len = record {
  included = included;
  zero_planes = zero_planes;
  passes = passes;
  len = len;
}

pub none_is : (entry : Entry) → (entry.included ≡ false)
    × ((entry.zero_planes ≡ 0) × ((entry.passes ≡ 0) × (entry.len ≡ 0))) → entry ≡ no_entry
none_is entry h =
    ap (λ k. make k entry.zero_planes entry.passes entry.len) h.0
    ∙ ap (λ k. make false k entry.passes entry.len) h.1.0
    ∙ ap (λ k. make false 0 k entry.len) h.1.1.0 ∙ ap (λ k. make false 0 0 k) h.1.1.1

pub out_entry : (trees : BandTrees) (place : ℕ) (words : BlockWords) → words.entry.included ≡ false
    → IsLeftOut trees place words → no_entry ≡ kept_entry words.entry
out_entry trees place words e out =
    let i = sym e in let z = sym out.zero_planes in let p = sym out.passes in
    let l : 0 ≡ min words.entry.len 4294967295 = (let k : words.entry.len ≡ 0 = out.len in
    omega arith) in cc

-- no more is ahead than before, where some numbering is allowed
pub upto_less : (old new : Tree) (from one : BitSource) (w : Writing) (below : Bool) (f : (ℕ → ℕ)
    → Bool) (earlier after : List Writing) → width_of new ≡ width_of old
    → height_of new ≡ height_of old
    → Stands old earlier → Stands new after
    → ((v : ℕ → ℕ) (earlier : List Writing) → IsNumbering (width_of old) (height_of old) v
    → Stands old earlier → Allows new v
    → (below ≡ f v) × Allows old v × Took from (bits_of_writing (levels_of old) v earlier w) one)
    → length one.ahead ≤ length from.ahead
upto_less old new from one w below f earlier after ew eh s s' read =
    let n = numbering_exists new after s' in
    let r = read n.0 earlier (numbering_along (width_of new) (height_of new) (width_of old)
    (height_of old) n.0 (sym ew) (sym eh) n.1) s n.2 in
    took_less from one _ r.2

module _ (shape : BandShape) (old : Tree) (sides : OfSides old shape) (before : List BlockWords)
    (place : ℕ) (at : length before ≡ place) where
  abbrev asks : Writing
  asks = record { column = place % shape.width; row = place / shape.width; threshold = 1 }

  inclusion_bits_are : (trees : BandTrees) → TreesFit shape trees
      → bits_of_writing (levels_of old) trees.inclusion (inclusion_writings shape.width 0 before)
      asks ≡ inclusion_bits trees before
  unfolding inclusion_bits
  inclusion_bits_are trees fits = let w = sides.width in let h = sides.height in let w' =
      fits.width in let h' = fits.height in cc

  leaf_is : (trees : BandTrees) → TreesFit shape trees
      → leaf_node (place % shape.width) (place / shape.width) ≡ leaf_at trees.width (length before)
  leaf_is trees fits = let w' = fits.width in cc

  numbering_is : (trees : BandTrees) → TreesFit shape trees
      → IsNumbering (width_of old) (height_of old) trees.inclusion
  numbering_is trees fits =
      numbering_along trees.width trees.height (width_of old) (height_of old) trees.inclusion
      (sides.width ∙ sym fits.width) (sides.height ∙ sym fits.height) fits.inclusion

  asks_is : asks ≡ leaf_writing shape.width (length before) 1
  asks_is = cc

  front_by : (trees : BandTrees) (ending : Ending) → Which trees before shape.planes ending
      → (tail : List Bool) × (ending_bits trees before shape.planes ending
      ≡ inclusion_bits trees before ++ tail)
  front_by trees ending (inside i z) = (
    inside_bits trees before shape.planes ending,
    sym (told_inside trees before shape.planes ending i),
  )
  front_by trees ending (outside words is e out bits) = ([], bits)

  front : (trees : BandTrees) (ending : Ending)
      → EndingFits trees shape.planes (length before) ending
      → (tail : List Bool) × (ending_bits trees before shape.planes ending
      ≡ inclusion_bits trees before ++ tail)
  front trees ending t = front_by trees ending (which trees before shape.planes ending t)

  -- the inclusion can't fail where its bits are ahead
  pub reads_no_inclusion : (from : BitSource)
      → ((v : ℕ → ℕ) (earlier : List Writing) (rest : List Bool)
      → IsNumbering (width_of old) (height_of old) v → Stands old earlier → Allows old v
      → from.ahead ≡ bits_of_writing (levels_of old) v earlier asks ++ rest → ⊥)
      → Stands old (inclusion_writings shape.width 0 before)
      → (trees : BandTrees) (ending : Ending) (rest : List Bool) → TreesFit shape trees
      → Allows old trees.inclusion → EndingFits trees shape.planes (length before) ending
      → from.ahead ≡ ending_bits trees before shape.planes ending ++ rest → ⊥
  reads_no_inclusion from fails s trees ending rest fits a t e =
      let f = front trees ending t in
      fails trees.inclusion (inclusion_writings shape.width 0 before) (f.0
      ++ rest) (numbering_is trees fits) s a
      (e ∙ ap (λ k. k ++ rest) f.1 ∙ append_assoc (inclusion_bits trees before) f.0 rest
      ∙ ap (λ k. k ++ (f.0 ++ rest)) (sym (inclusion_bits_are trees fits)))

  -- The inclusion was read.
  module _ (new : Tree) (from one : BitSource) (below : Bool)
      (stands : (earlier : List Writing) → Stands old earlier → Stands new (earlier ++ asks ∷ []))
      (reads : (v : ℕ → ℕ) (earlier : List Writing) (rest : List Bool)
      → IsNumbering (width_of old) (height_of old) v → Stands old earlier → Allows old v
      → from.ahead ≡ bits_of_writing (levels_of old) v earlier asks ++ rest
      → (below ≡ nat_lt (v (leaf_node (place % shape.width) (place / shape.width))) 1)
      × (one.ahead ≡ rest) × Allows new v)
      (read : (v : ℕ → ℕ) (earlier : List Writing) → IsNumbering (width_of old) (height_of old) v
      → Stands old earlier → Allows new v
      → (below ≡ nat_lt (v (leaf_node (place % shape.width) (place / shape.width))) 1)
      × Allows old v × Took from (bits_of_writing (levels_of old) v earlier asks) one)
      (s : Stands old (inclusion_writings shape.width 0 before)) where
    stands_more : Stands new (inclusion_writings shape.width 0 before
        ++ leaf_writing shape.width (length before) 1 ∷ [])
    stands_more =
        let P : List Writing → Type 0 = λ k. Stands new k in
        subst P (ap (λ w. inclusion_writings shape.width 0 before ++ w ∷ []) asks_is)
        (stands (inclusion_writings shape.width 0 before) s)

    abbrev value_at : BandTrees → ℕ
    value_at trees = trees.inclusion (leaf_at trees.width (length before))

    read_here : (trees : BandTrees) → TreesFit shape trees → Allows new trees.inclusion
        → (below ≡ nat_lt (value_at trees) 1) × Allows old trees.inclusion
        × Took from (inclusion_bits trees before) one
    read_here trees fits a =
        let r = read trees.inclusion (inclusion_writings shape.width 0 before)
        (numbering_is trees fits) s a in (
          r.0 ∙ ap (λ n. nat_lt (trees.inclusion n) 1) (leaf_is trees fits),
          r.1,
          along from one _ _ (inclusion_bits_are trees fits) r.2,
        )

    reads_here : (trees : BandTrees) (ending : Ending) (rest : List Bool) → TreesFit shape trees
        → Allows old trees.inclusion → EndingFits trees shape.planes (length before) ending
        → from.ahead ≡ ending_bits trees before shape.planes ending ++ rest
        → Allows new trees.inclusion
    reads_here trees ending rest fits a t e =
        let f = front trees ending t in
        (reads trees.inclusion (inclusion_writings shape.width 0 before) (f.0
        ++ rest) (numbering_is trees fits) s a
        (e ∙ ap (λ k. k ++ rest) f.1 ∙ append_assoc (inclusion_bits trees before) f.0 rest
        ∙ ap (λ k. k ++ (f.0 ++ rest)) (sym (inclusion_bits_are trees fits)))).2

    -- the block is left out
    pub found_out : (entry : Entry) → entry ≡ no_entry → below ≡ false → (zero_planes : Tree)
        → Stands zero_planes (zero_plane_writings shape.width 0 before)
        → FoundBlock shape before old new zero_planes zero_planes from one (Ok entry)
    found_out entry is out zero_planes z = record {
      ending = block (record { entry = no_entry; raise = 0 });
      gives = ap (λ k. Ok k) is;
      inclusion_stands = stands_more;
      zero_planes_stand =
          (let P : List Writing → Type 0 = λ k. Stands zero_planes k in
          subst P (sym (zero_writings_same shape.width 0 before
          (record { entry = no_entry; raise = 0 }) refl)) z);
      read = λ trees fits a b.
          (let r = read_here trees fits a in (
            record {
              inclusion = ltb-false (value_at trees) 1 (sym r.0 ∙ out);
              zero_planes = refl;
              passes = refl;
              len = refl;
            },
            r.1,
            b,
            along from one _ _ (sym (append-nil (inclusion_bits trees before))) r.2,
          ));
    }

    out_by : (entry : Entry) → entry ≡ no_entry → below ≡ false
        → (trees : BandTrees) (ending : Ending) → nat_lt (value_at trees) 1 ≡ false
        → Took from (inclusion_bits trees before) one → Which trees before shape.planes ending
        → Gives ending one (Ok entry) × Took from (ending_bits trees before shape.planes ending) one
    out_by entry none out trees ending high took (inside i z) =
        absurd (let l = ltb-false (value_at trees) 1 high in omega arith)
    out_by entry none out trees ending high took (outside words is e left bits) = (
      tells_along ending (block words) one _ is (ap (λ k. Ok k) (none
          ∙ out_entry trees (length before) words e left)),
      along from one _ _ (sym (append-nil (inclusion_bits trees before)) ∙ sym bits) took,
    )

    pub reads_out : (entry : Entry) → entry ≡ no_entry → below ≡ false
        → (zero_planes : Tree) (trees : BandTrees) (ending : Ending) (rest : List Bool)
        → TreesFit shape trees → Allows old trees.inclusion → Allows zero_planes trees.zero_planes
        → EndingFits trees shape.planes (length before) ending
        → from.ahead ≡ ending_bits trees before shape.planes ending ++ rest
        → Gives ending one (Ok entry) × Allows new trees.inclusion
        × Allows zero_planes trees.zero_planes
        × Took from (ending_bits trees before shape.planes ending) one
    reads_out entry none out zero_planes trees ending rest fits a b t e =
        let al = reads_here trees ending rest fits a t e in
        let r = read_here trees fits al in
        let q = out_by entry none out trees ending (sym r.0
        ∙ out) r.2 (which trees before shape.planes ending t) in
        (q.0, al, b, q.1)

    -- the block is included
    pub found_in : below ≡ true → (zero_planes zero_planes' : Tree) (to : BitSource)
        (result : Result Entry PacketRefusal) (fault fault' : BitFault) → fault' ≡ fault
        → (result ≡ Err (refusal_of fault'))
        ⊎ FoundInside shape before zero_planes zero_planes' one to result
        → (result ≡ Err (refusal_of fault))
        ⊎ FoundBlock shape before old new zero_planes zero_planes' from to result
    found_in in_it zero_planes zero_planes' to result fault fault' same (inl e) =
        inl (e ∙ ap (λ k. Err (refusal_of k)) same)
    found_in in_it zero_planes zero_planes' to result fault fault' same (inr f) = inr (record {
      ending = f.ending;
      gives = f.gives;
      inclusion_stands = stands_more;
      zero_planes_stand = f.stands;
      read = λ trees fits a b.
          (let r = read_here trees fits a in
          let l : value_at trees < 1 = ltb-true (value_at trees) 1 (sym r.0 ∙ in_it) in
          let q = f.read trees fits (omega arith) b in (
            q.0,
            r.1,
            q.1,
            along from to _ _ (told_inside trees before shape.planes f.ending
                f.inside) (took_more from one to _ _ r.2 q.2),
          ));
    })

    in_by : (trees : BandTrees) (ending : Ending) → value_at trees ≡ 0
        → Which trees before shape.planes ending → IsInside ending
    in_by trees ending z (inside i z') = i
    in_by trees ending z (outside words is e left bits) =
        absurd (let l : 1 ≤ value_at trees = left.inclusion in omega arith)

    pub reads_in : below ≡ true → (zero_planes zero_planes' : Tree) (to : BitSource)
        (result : Result Entry PacketRefusal)
        → (trees : BandTrees) (ending : Ending) (rest : List Bool)
        → (trees.inclusion (leaf_at trees.width place) ≡ 0 → IsInside ending
        → one.ahead ≡ inside_bits trees before shape.planes ending ++ rest
        → Gives ending to result × Allows zero_planes' trees.zero_planes
        × Took one (inside_bits trees before shape.planes ending) to)
        → TreesFit shape trees → Allows old trees.inclusion
        → EndingFits trees shape.planes (length before) ending
        → from.ahead ≡ ending_bits trees before shape.planes ending ++ rest
        → Gives ending to result × Allows new trees.inclusion
        × Allows zero_planes' trees.zero_planes
        × Took from (ending_bits trees before shape.planes ending) to
    reads_in in_it zero_planes zero_planes' to result trees ending rest inner fits a t e =
        let al = reads_here trees ending rest fits a t e in
        let r = read_here trees fits al in
        let l : value_at trees < 1 = ltb-true (value_at trees) 1 (sym r.0 ∙ in_it) in
        let i = in_by trees ending (omega arith) (which trees before shape.planes ending t) in
        let z : trees.inclusion (leaf_at trees.width place) ≡ 0 =
        ap (λ n. trees.inclusion (leaf_at trees.width n)) (sym at) ∙ (omega arith) in
        let q = inner z i (took_rest from one (inclusion_bits trees before)
        (inside_bits trees before shape.planes ending ++ rest) r.2
        (e ∙ ap (λ k. k ++ rest) (sym (told_inside trees before shape.planes ending i))
        ∙ append_assoc (inclusion_bits trees before)
        (inside_bits trees before shape.planes ending) rest)) in (
          q.0,
          al,
          q.1,
          along from to _ _ (told_inside trees before shape.planes ending i)
              (took_more from one to _ _ r.2 q.2),
        )
