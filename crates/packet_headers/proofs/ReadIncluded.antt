-- An included block's part of a header, read.
use Rattle.std.proofs.Common.{◌≡◌, ℕ, ◌+◌, ◌-◌, ◌*◌, ◌/◌, ◌%◌, ◌<◌, ◌≤◌, ◌^◌, min, Bool, true}
use Rattle.std.proofs.Common.{false, List, [], ◌∷◌, ◌++◌, length, refl, sym, ap, subst, ◌∙◌, inl}
use Rattle.std.proofs.Common.{inr, arith, append_assoc, length-append, Ok, Err, Result}
use Rattle.std.specs.Prelude.{◌⊎◌, if◌then◌else◌}
use Rattle.std.proofs.lemmas.List.{append-nil}
use Rattle.tag_trees.specs.TagTree.{Writing, leaf_node, bits_of_writing, IsNumbering}
use Rattle.bit_stuffing.specs.Source.{BitSource, Took}
use Rattle.tag_trees.specs.TreeState.{width_of, height_of, levels_of, Stands, Allows}
use Rattle.tag_trees.specs.declared.tree.Tree.{Tree}
use Rattle.bit_stuffing.specs.declared.fault.BitFault.{BitFault}
use Rattle.tag_trees.proofs.TreePaths.{numbering_along}
use Rattle.tag_trees.proofs.ReaderLemmas.{numbering_exists}
use Rattle.packet_headers.specs.declared.entry.Entry.{Entry}
use Rattle.packet_headers.specs.declared.packet.BandShape.{BandShape}
use Rattle.packet_headers.specs.declared.refusal.PacketRefusal.{PacketRefusal}
use Rattle.packet_headers.specs.declared.refusal.PacketRefusal.TheVariants.{ZeroPlanesTooMany}
use Rattle.packet_headers.specs.declared.refusal.PacketRefusal.TheVariants.{PassesTooMany}
use Rattle.packet_headers.specs.Codewords.{pass_bits, length_bits, length_width}
use Rattle.packet_headers.specs.Words.{BlockWords, BandTrees, leaf_at, leaf_writing}
use Rattle.packet_headers.specs.Words.{zero_plane_writings, zero_plane_bits}
use Rattle.packet_headers.specs.Grammar.{most_passes, FitsAs, IsIncluded, TreesFit}
use Rattle.packet_headers.specs.Reading.{refusal_of}
use Rattle.packet_headers.specs.InsideReading.{last_place, FoundZeroPlanes, kept_entry, Ending}
use Rattle.packet_headers.specs.InsideReading.{zero_planes_at, EndingFits, IsInside, inside_bits}
use Rattle.packet_headers.specs.InsideReading.{Gives, OfSides, FoundInside}
use Rattle.packet_headers.specs.InsideReading.Ending.{block, all_zero, too_many}
use Rattle.bit_stuffing.proofs.SourceLemmas.{took_more}
use Rattle.bit_stuffing.proofs.SourceLemmas.{took_rest}
use Rattle.packet_headers.proofs.BlockLemmas.{zero_plane_writings-push}
use Rattle.packet_headers.proofs.ReadCodes.{along}
use Rattle.packet_headers.proofs.ReadLengths.{length_same}

abbrev kept_of : ℕ → ℕ → ℕ → Entry
kept_of z passes kept = record { included = true; zero_planes = z; passes = passes; len = kept }

pub took_less : (a b : BitSource) (p : List Bool) → Took a p b → length b.ahead ≤ length a.ahead
took_less a b p h = let e = ap length h.ahead ∙ length-append p b.ahead in omega arith

pub included_fits : (trees : BandTrees) (planes place : ℕ) (words : BlockWords) (included : Bool)
    → included ≡ true → FitsAs included trees planes place words
    → IsIncluded trees planes place words
included_fits trees planes place words true e f = f
included_fits trees planes place words false e f = absurd (cc)

abbrev EndsAt : Result ℕ PacketRefusal → BitFault → Type 0
EndsAt r fault = r ≡ Err (refusal_of fault)

pub told_at : (trees : BandTrees) (planes place n : ℕ) (ending : Ending) → n ≡ place
    → EndingFits trees planes place ending → EndingFits trees planes n ending
told_at trees planes place n ending e f = let P : ℕ → Type 0 =
    λ k. EndingFits trees planes k ending in subst P (sym e) f

-- no more is ahead than before, where some numbering is allowed
pub zero_less : (old mid : Tree) (from one : BitSource) (x y planes z : ℕ) (earlier : List Writing)
    (fault : BitFault) → width_of mid ≡ width_of old → height_of mid ≡ height_of old
    → EndsAt (Ok z) fault ⊎ FoundZeroPlanes old mid from one x y planes earlier (Ok z)
    → length one.ahead ≤ length from.ahead
zero_less old mid from one x y planes z earlier fault w h (inl e) = absurd (cc)
zero_less old mid from one x y planes z earlier fault w h (inr f) =
    let n = numbering_exists mid _ f.stands in
    let r = f.read n.0 (numbering_along (width_of mid) (height_of mid) (width_of old)
    (height_of old) n.0 (sym w) (sym h) n.1) n.2 in
    took_less from one _ r.2

-- one block more
pub zero_writings_push : (width place : ℕ) (blocks : List BlockWords) (words : BlockWords)
    → words.entry.included ≡ true
    → zero_plane_writings width place (blocks ++ words ∷ [])
    ≡ zero_plane_writings width place blocks
    ++ leaf_writing width (place + length blocks) (words.entry.zero_planes + 1) ∷ []
zero_writings_push width place blocks words e =
    zero_plane_writings-push width place blocks words
    ∙ ap (λ k. zero_plane_writings width place blocks
    ++ (if k then leaf_writing width (place + length blocks) (words.entry.zero_planes + 1) ∷ []
    else [])) e

module _ (shape : BandShape) (old : Tree) (sides : OfSides old shape) (before : List BlockWords)
    (place : ℕ) (at : length before ≡ place) where
  -- the bits and the leaf, as the tree has them
  zero_bits_are : (trees : BandTrees) → TreesFit shape trees → (t : ℕ)
      → bits_of_writing (levels_of old) trees.zero_planes (zero_plane_writings shape.width 0 before)
      (record { column = place % shape.width; row = place / shape.width; threshold = t })
      ≡ zero_plane_bits trees before t
  unfolding zero_plane_bits
  zero_bits_are trees fits t =
      let w = sides.width in let h = sides.height in let w' = fits.width in let h' = fits.height in
      cc

  leaf_is : (trees : BandTrees) → TreesFit shape trees
      → leaf_node (place % shape.width) (place / shape.width) ≡ leaf_at trees.width (length before)
  leaf_is trees fits = let w' = fits.width in cc

  numbering_is : (trees : BandTrees) → TreesFit shape trees
      → IsNumbering (width_of old) (height_of old) trees.zero_planes
  numbering_is trees fits =
      numbering_along trees.width trees.height (width_of old) (height_of old) trees.zero_planes
      (sides.width ∙ sym fits.width) (sides.height ∙ sym fits.height) fits.zero_planes

  -- the zero planes were read
  pub record ZeroOk (mid : Tree) (from one : BitSource) (z : ℕ) : Type 0 where
    pub stands : Stands mid (zero_plane_writings shape.width 0 before
        ++ leaf_writing shape.width (length before) (z + 1) ∷ [])
    pub read : (trees : BandTrees) → TreesFit shape trees → Allows mid trees.zero_planes
        → (zero_planes_at trees (length before) ≡ z) × Allows old trees.zero_planes
        × Took from (zero_plane_bits trees before (z + 1)) one

  pub record ZeroErr (mid : Tree) (from one : BitSource) (e : PacketRefusal) : Type 0 where
    pub is : e ≡ ZeroPlanesTooMany (last_place one)
    pub stands : (earlier : List Writing) × Stands mid earlier
    pub read : (trees : BandTrees) → TreesFit shape trees → Allows mid trees.zero_planes
        → (shape.planes ≤ zero_planes_at trees (length before)) × Allows old trees.zero_planes
        × Took from (zero_plane_bits trees before shape.planes) one

  abbrev Found : Tree → BitSource → BitSource → Result ℕ PacketRefusal → Type 0
  Found mid from one r = FoundZeroPlanes old mid from one (place % shape.width)
      (place / shape.width) shape.planes (zero_plane_writings shape.width 0 before) r

  zero_ok : (mid : Tree) (from one : BitSource) (z : ℕ) → Found mid from one (Ok z)
      → ZeroOk mid from one z
  zero_ok mid from one z f = record {
    stands =
        (let a : f.asked ≡ z + 1 = f.ending in
        let P : List Writing → Type 0 = λ k. Stands mid k in
        let e : record {
          column = place % shape.width;
          row = place / shape.width;
          threshold =
              f.asked;
        } ≡ leaf_writing shape.width (length before) (z + 1) = cc in
        subst P (ap (λ w. zero_plane_writings shape.width 0 before ++ w ∷ []) e) f.stands);
    read = λ trees fits a.
        (let r = f.read trees.zero_planes (numbering_is trees fits) a in
        let t : f.asked ≡ z + 1 = f.ending in (
          ap trees.zero_planes (sym (leaf_is trees fits)) ∙ r.0,
          r.1,
          along from one _ _ (zero_bits_are trees fits f.asked
              ∙ ap (zero_plane_bits trees before) t) r.2,
        ));
  }

  zero_err : (mid : Tree) (from one : BitSource) (e : PacketRefusal) → Found mid from one (Err e)
      → ZeroErr mid from one e
  zero_err mid from one e f = record {
    is = f.ending.1;
    stands = (_, f.stands);
    read = λ trees fits a.
        (let r = f.read trees.zero_planes (numbering_is trees fits) a in
        let low : shape.planes ≤ trees.zero_planes (leaf_node (place % shape.width)
        (place / shape.width)) = r.0 in
        let l = ap trees.zero_planes (leaf_is trees fits) in (
          omega arith,
          r.1,
          along from one _ _ (zero_bits_are trees fits f.asked
              ∙ ap (zero_plane_bits trees before) f.ending.0) r.2,
        ));
  }

  abbrev Ends : Result ℕ PacketRefusal → BitFault → Type 0
  Ends r fault = r ≡ Err (refusal_of fault)

  -- where the bits don't end
  pub zero_at : (mid : Tree) (from one : BitSource) (z : ℕ) (fault : BitFault) → Ends (Ok z) fault
      ⊎ Found mid from one (Ok z) → ZeroOk mid from one z
  zero_at mid from one z fault (inl e) = absurd (cc)
  zero_at mid from one z fault (inr f) = zero_ok mid from one z f

  -- The reading ends at all zero planes, or the bits end.
  pub found_zero_err : (mid : Tree) (from one : BitSource) (e : PacketRefusal) (fault : BitFault)
      (result : Result Entry PacketRefusal) → result ≡ Err e
      → Ends (Err e) fault ⊎ Found mid from one (Err e) → (result ≡ Err (refusal_of fault))
      ⊎ FoundInside shape before old mid from one result
  found_zero_err mid from one e fault result is (inl f) =
      inl (let g : e ≡ refusal_of fault = cc in is ∙ ap (λ k. Err k) g)
  found_zero_err mid from one e fault result is (inr f) =
      let z = zero_err mid from one e f in
      inr (record {
        ending = all_zero;
        inside = tt;
        gives = is ∙ ap (λ k. Err k) z.is;
        stands = z.stands;
        read = λ trees fits i a. (let r = z.read trees fits a in ((i, r.0), r.1, r.2));
      })

  -- a number of passes that is too large
  pub found_many : (mid : Tree) (from one two : BitSource) (z passes spot : ℕ)
      → ZeroOk mid from one z → z < shape.planes → passes ≤ 164 → Took one (pass_bits passes) two
      → 3 * (shape.planes - z) < passes + 2 → spot ≡ last_place two
      → FoundInside shape before old mid from two (Err (PassesTooMany spot))
  found_many mid from one two z passes spot ok below few took many is = record {
    ending = too_many passes;
    inside = tt;
    gives = ap (λ p. Err (PassesTooMany p)) is;
    stands = (_, ok.stands);
    read = λ trees fits i a.
        (let r = ok.read trees fits a in
        let e : zero_planes_at trees (length before) ≡ z = r.0 in (
          (i, omega arith, omega arith, few),
          r.1,
          along from two (zero_plane_bits trees before (z + 1)
              ++ pass_bits passes) _ (ap (λ n. zero_plane_bits trees before (n + 1)
              ++ pass_bits passes) (sym e))
              (took_more from one two _ _ r.2 took),
        ));
  }

  -- a whole block
  pub found_block : (mid : Tree) (from one two three : BitSource) (z passes kept : ℕ)
      → ZeroOk mid from one z → z < shape.planes → 1 ≤ passes → Took one (pass_bits passes) two
      → (3 * (shape.planes - z) < passes + 2 → ⊥)
      → (raise len : ℕ) × (len < 2 ^ length_width passes raise)
      × Took two (length_bits passes raise len) three × (kept ≡ min len 4294967295)
      → FoundInside shape before old mid from three
      (Ok (record { included = true; zero_planes = z; passes = passes; len = kept }))
  found_block mid from one two three z passes kept ok below some took few
      (raise, len, fits_len, took', is) =
      let words : BlockWords = record {
        entry = record {
          included = true;
          zero_planes = z;
          passes =
              passes;
          len = len;
        };
        raise = raise;
      } in
      record {
        ending = block (record {
          entry = record {
            included = true;
            zero_planes = z;
            passes = passes;
            len = len;
          };
          raise = raise;
        });
        inside = refl;
        gives = ap (λ k. Ok (record { included = true; zero_planes = z; passes = passes; len = k }))
            is;
        stands =
            (let P : List Writing → Type 0 = λ k. Stands mid k in
            let p : 0 + length before ≡ length before = omega arith in
            let e = zero_writings_push shape.width 0 before (record {
              entry =
                  record { included = true; zero_planes = z; passes = passes; len = len };
              raise =
                  raise;
            }) refl in
            subst P (sym (e ∙ ap (λ n. zero_plane_writings shape.width 0 before
            ++ leaf_writing shape.width n (z + 1) ∷ []) p)) ok.stands);
        read = λ trees fits i a.
            (let r = ok.read trees fits a in (
              record {
                inclusion = i;
                zero_planes = r.0;
                fewer = below;
                some_passes = some;
                passes =
                    omega arith;
                len = fits_len;
              },
              r.1,
              took_more from one three (zero_plane_bits trees before (z + 1)) (pass_bits passes
                  ++ length_bits passes raise len) r.2
                  (took_more one two three (pass_bits passes) (length_bits passes raise len) took
                  took'),
            ));
      }

  -- the first bits of an ending are those of its zero planes
  starts : (trees : BandTrees) (ending : Ending) → IsInside ending
      → EndingFits trees shape.planes (length before) ending
      → (tail : List Bool) × (inside_bits trees before shape.planes ending
      ≡ zero_plane_bits trees before (min (zero_planes_at trees (length before) + 1)
      shape.planes) ++ tail)
  starts trees (block words) i f =
      let k = included_fits trees shape.planes (length before) words words.entry.included i f in
      let z : zero_planes_at trees (length before) ≡ words.entry.zero_planes = k.zero_planes in
      let l : words.entry.zero_planes < shape.planes = k.fewer in
      let t : words.entry.zero_planes + 1 ≡ min (zero_planes_at trees (length before) + 1)
      shape.planes = omega arith in (
        pass_bits words.entry.passes ++ length_bits words.entry.passes words.raise words.entry.len,
        ap (λ n. zero_plane_bits trees before n ++ (pass_bits words.entry.passes
            ++ length_bits words.entry.passes words.raise words.entry.len)) t,
      )
  starts trees all_zero i f =
      let l : shape.planes ≤ zero_planes_at trees (length before) = f.1 in
      let t : shape.planes ≡ min (zero_planes_at trees (length before) + 1) shape.planes =
      omega arith in (
        [],
        ap (zero_plane_bits trees before) t
            ∙ sym (append-nil (zero_plane_bits trees before
            (min (zero_planes_at trees (length before) + 1) shape.planes))),
      )
  starts trees (too_many passes) i f =
      let l : zero_planes_at trees (length before) < shape.planes = f.1 in
      let t : zero_planes_at trees (length before) + 1
      ≡ min (zero_planes_at trees (length before) + 1) shape.planes = omega arith in
      (pass_bits passes, ap (λ n. zero_plane_bits trees before n ++ pass_bits passes) t)

  -- What the reading of the zero planes promises where they are ahead.
  abbrev Meets : Tree → BitSource → Result ℕ PacketRefusal → BitFault → Type 0
  Meets mid from r fault = (v : ℕ → ℕ) (earlier : List Writing) (rest : List Bool)
      → IsNumbering (width_of old) (height_of old) v → Stands old earlier → Allows old v
      → from.ahead ≡ bits_of_writing (levels_of old) v earlier (record {
        column = place % shape.width;
        row = place / shape.width;
        threshold = min (v (leaf_node (place % shape.width) (place / shape.width)) + 1)
            shape.planes;
      }) ++ rest → Allows mid v × (r ≡ Err (refusal_of fault) → ⊥)

  met : (mid : Tree) (from : BitSource) (r : Result ℕ PacketRefusal) (fault : BitFault)
      → Meets mid from r fault → Stands old (zero_plane_writings shape.width 0 before)
      → (trees : BandTrees) (ending : Ending) (rest : List Bool) → TreesFit shape trees
      → Allows old trees.zero_planes → IsInside ending
      → EndingFits trees shape.planes (length before) ending
      → from.ahead ≡ inside_bits trees before shape.planes ending ++ rest
      → Allows mid trees.zero_planes × (r ≡ Err (refusal_of fault) → ⊥)
  met mid from r fault meets s trees ending rest fits a i f e =
      let t = starts trees ending i f in
      let l = ap trees.zero_planes (sym (leaf_is trees fits)) in
      meets trees.zero_planes (zero_plane_writings shape.width 0 before) (t.0
      ++ rest) (numbering_is trees fits) s a
      (e ∙ ap (λ b. b ++ rest) t.1
      ∙ append_assoc (zero_plane_bits trees before
      (min (zero_planes_at trees (length before) + 1) shape.planes)) t.0 rest
      ∙ ap (λ b. b ++ (t.0 ++ rest))
      (sym (zero_bits_are trees fits (min (zero_planes_at trees (length before) + 1)
      shape.planes))
      ∙ ap (λ n. bits_of_writing (levels_of old) trees.zero_planes
      (zero_plane_writings shape.width 0 before)
      (record {
        column = place % shape.width;
        row = place / shape.width;
        threshold =
            min (n + 1) shape.planes;
      })) l))

  -- all zero planes
  all_zero_reads : (trees : BandTrees) (ending : Ending) (one : BitSource)
      (result : Result Entry PacketRefusal) → shape.planes ≤ zero_planes_at trees (length before)
      → result ≡ Err (ZeroPlanesTooMany (last_place one)) → IsInside ending
      → EndingFits trees shape.planes (length before) ending
      → Gives ending one result × (zero_plane_bits trees before shape.planes
      ≡ inside_bits trees before shape.planes ending)
  all_zero_reads trees (block words) one result l is i f =
      absurd (let k = included_fits trees shape.planes (length before) words words.entry.included i
      f in
      let z : zero_planes_at trees (length before) ≡ words.entry.zero_planes = k.zero_planes in
      let m : words.entry.zero_planes < shape.planes = k.fewer in omega arith)
  all_zero_reads trees all_zero one result l is i f = (is, refl)
  all_zero_reads trees (too_many passes) one result l is i f =
      absurd (let m : zero_planes_at trees (length before) < shape.planes = f.1 in omega arith)

  pub reads_zero_err : (mid : Tree) (from one : BitSource) (e : PacketRefusal) (fault : BitFault)
      (result : Result Entry PacketRefusal) → result ≡ Err e
      → Meets mid from (Err e) fault → Ends (Err e) fault ⊎ Found mid from one (Err e)
      → Stands old (zero_plane_writings shape.width 0 before)
      → (trees : BandTrees) (ending : Ending) (rest : List Bool) → TreesFit shape trees
      → Allows old trees.zero_planes → IsInside ending
      → EndingFits trees shape.planes (length before) ending
      → from.ahead ≡ inside_bits trees before shape.planes ending ++ rest
      → Gives ending one result × Allows mid trees.zero_planes
      × Took from (inside_bits trees before shape.planes ending) one
  reads_zero_err mid from one e fault result is meets (inl f) s trees ending rest fits a i t ahead =
      absurd ((met mid from (Err e) fault meets s trees ending rest fits a i t ahead).1 f)
  reads_zero_err mid from one e fault result is meets (inr f) s trees ending rest fits a i t ahead =
      let m = met mid from (Err e) fault meets s trees ending rest fits a i t ahead in
      let z = zero_err mid from one e f in
      let r = z.read trees fits m.0 in
      let q = all_zero_reads trees ending one result r.0 (is ∙ ap (λ k. Err k) z.is) i t in
      (q.0, m.0, along from one _ _ q.1 r.2)

  -- What is ahead after the zero planes: a number of passes, within or too large.
  data Behind (trees : BandTrees) (z : ℕ) (rest ahead : List Bool) : Ending → Type 0 where
    within : (words : BlockWords) → words.entry.included ≡ true → words.entry.zero_planes ≡ z
        → 1 ≤ words.entry.passes → words.entry.passes + 2 ≤ 3 * (shape.planes - z)
        → words.entry.len < 2 ^ length_width words.entry.passes words.raise
        → ahead ≡ pass_bits words.entry.passes
        ++ (length_bits words.entry.passes words.raise words.entry.len ++ rest)
        → Behind trees z rest ahead (block words)
    above : (passes : ℕ) → 3 * (shape.planes - z) < passes + 2 → passes ≤ 164
        → ahead ≡ pass_bits passes ++ rest → Behind trees z rest ahead (too_many passes)

  behind : (trees : BandTrees) (ending : Ending) (from one : BitSource) (z : ℕ) (rest : List Bool)
      → zero_planes_at trees (length before) ≡ z → z < shape.planes
      → Took from (zero_plane_bits trees before (z + 1)) one → IsInside ending
      → EndingFits trees shape.planes (length before) ending
      → from.ahead ≡ inside_bits trees before shape.planes ending ++ rest
      → Behind trees z rest one.ahead ending
  behind trees (block words) from one z rest is below took i f e =
      let k = included_fits trees shape.planes (length before) words words.entry.included i f in
      let y : zero_planes_at trees (length before) ≡ words.entry.zero_planes = k.zero_planes in
      let same : words.entry.zero_planes ≡ z = sym y ∙ is in
      let few : words.entry.passes ≤ most_passes shape.planes words.entry.zero_planes = k.passes in
      within words i same k.some_passes (omega arith) k.len
      (took_rest from one (zero_plane_bits trees before (z + 1)) (pass_bits words.entry.passes
      ++ (length_bits words.entry.passes words.raise words.entry.len ++ rest)) took
      (e ∙ append_assoc (zero_plane_bits trees before (words.entry.zero_planes + 1))
      (pass_bits words.entry.passes ++ length_bits words.entry.passes words.raise
      words.entry.len) rest
      ∙ ap (λ n. zero_plane_bits trees before (n + 1)
      ++ ((pass_bits words.entry.passes ++ length_bits words.entry.passes words.raise
      words.entry.len) ++ rest)) same
      ∙ ap (λ b. zero_plane_bits trees before (z + 1)
      ++ b) (append_assoc (pass_bits words.entry.passes)
      (length_bits words.entry.passes words.raise words.entry.len) rest)))
  behind trees all_zero from one z rest is below took i f e =
      absurd (let l : shape.planes ≤ zero_planes_at trees (length before) = f.1 in omega arith)
  behind trees (too_many passes) from one z rest is below took i f e =
      let many : most_passes shape.planes (zero_planes_at trees (length before)) < passes = f.2 in
      above passes (let m = ap (λ n. most_passes shape.planes n) is in omega arith) f.3
      (took_rest from one (zero_plane_bits trees before (z + 1)) (pass_bits passes ++ rest) took
      (e ∙ append_assoc (zero_plane_bits trees before (zero_planes_at trees (length before) + 1))
      (pass_bits passes) rest
      ∙ ap (λ n. zero_plane_bits trees before (n + 1) ++ (pass_bits passes ++ rest)) is))

  -- The zero planes were read, and the bits of an ending were ahead of them.
  module _ (mid : Tree) (from one : BitSource) (z : ℕ) (fault : BitFault) (below : z < shape.planes)
      (meets : Meets mid from (Ok z) fault) (ok : ZeroOk mid from one z)
      (s : Stands old (zero_plane_writings shape.width 0 before))
      (trees : BandTrees) (ending : Ending) (rest : List Bool) (fits : TreesFit shape trees)
      (a : Allows old trees.zero_planes) (i : IsInside ending)
      (t : EndingFits trees shape.planes (length before) ending) (ahead : from.ahead
      ≡ inside_bits trees before shape.planes ending ++ rest) where
    allowed : Allows mid trees.zero_planes
    allowed = (met mid from (Ok z) fault meets s trees ending rest fits a i t ahead).0

    read : (zero_planes_at trees (length before) ≡ z) × Allows old trees.zero_planes
        × Took from (zero_plane_bits trees before (z + 1)) one
    read = ok.read trees fits allowed

    left : Behind trees z rest one.ahead ending
    left = behind trees ending from one z rest read.0 below read.2 i t ahead

    abbrev Reads : BitSource → Result Entry PacketRefusal → Type 0
    Reads to result = Gives ending to result × Allows mid trees.zero_planes
        × Took from (inside_bits trees before shape.planes ending) to

    no_passes_by : (ending : Ending) → Behind trees z rest one.ahead ending
        → ((n : ℕ) (more : List Bool) → 1 ≤ n → n ≤ 164 → one.ahead ≡ pass_bits n ++ more → ⊥)
        → shape.planes ≤ 31 → ⊥
    no_passes_by ending (within words inside same some few len e) fails high =
        fails words.entry.passes _ some (omega arith) e
    no_passes_by ending (above passes many few e) fails high = fails passes _ (omega arith) few e

    pub reads_no_passes : ((n : ℕ) (more : List Bool) → 1 ≤ n → n ≤ 164 → one.ahead ≡ pass_bits n
        ++ more → ⊥) → shape.planes ≤ 31 → ⊥
    reads_no_passes fails high = no_passes_by ending left fails high

    -- a number of passes was read
    module _ (two : BitSource) (passes : ℕ) (took : Took one (pass_bits passes) two)
        (high : shape.planes ≤ 31)
        (passes_are : (n : ℕ) (more : List Bool) → 1 ≤ n → n ≤ 164 → one.ahead ≡ pass_bits n ++ more
        → passes ≡ n) where
      many_by : (ending : Ending) → Behind trees z rest one.ahead ending → (spot : ℕ)
          → spot ≡ last_place two → 3 * (shape.planes - z) < passes + 2
          → Gives ending two (Err (PassesTooMany spot))
          × (zero_plane_bits trees before (z + 1) ++ pass_bits passes
          ≡ inside_bits trees before shape.planes ending)
      many_by ending (within words inside same some few len e) spot is many =
          absurd (let p = passes_are words.entry.passes _ some (omega arith) e in omega arith)
      many_by ending (above n many' few e) spot is many =
          let p = passes_are n rest (omega arith) few e in (
            ap (λ k. Err (PassesTooMany k)) is,
            ap (λ k. zero_plane_bits trees before (z + 1) ++ pass_bits k) p
                ∙ ap (λ k. zero_plane_bits trees before (k + 1) ++ pass_bits n) (sym read.0),
          )

      pub reads_many : (spot : ℕ) → spot ≡ last_place two → 3 * (shape.planes - z) < passes + 2
          → Reads two (Err (PassesTooMany spot))
      reads_many spot is many =
          let r = many_by ending left spot is many in (
            r.0,
            allowed,
            along from two _ _ r.1 (took_more from one two
                (zero_plane_bits trees before (z + 1)) (pass_bits passes) read.2 took),
          )

      -- what is ahead after it
      len_ahead : (words : BlockWords) → passes ≡ words.entry.passes
          → one.ahead ≡ pass_bits words.entry.passes
          ++ (length_bits words.entry.passes words.raise words.entry.len ++ rest)
          → two.ahead ≡ length_bits passes words.raise words.entry.len ++ rest
      len_ahead words p e =
          took_rest one two (pass_bits passes) (length_bits passes words.raise words.entry.len
          ++ rest) took
          (e ∙ ap (λ k. pass_bits k ++ (length_bits k words.raise words.entry.len ++ rest)) (sym p))

      no_len_by : (ending : Ending) → Behind trees z rest one.ahead ending
          → (3 * (shape.planes - z) < passes + 2 → ⊥)
          → ((raise len : ℕ) (more : List Bool) → len < 2 ^ length_width passes raise
          → two.ahead ≡ length_bits passes raise len ++ more → ⊥) → ⊥
      no_len_by ending (within words inside same some few len e) within' fails =
          let p = passes_are words.entry.passes _ some (omega arith) e in
          let q = ap (λ k. 2 ^ length_width k words.raise) p in
          fails words.raise words.entry.len rest (omega arith) (len_ahead words p e)
      no_len_by ending (above n many' few e) within' fails =
          within' (let p = passes_are n rest (omega arith) few e in omega arith)

      pub reads_no_len : (3 * (shape.planes - z) < passes + 2 → ⊥)
          → ((raise len : ℕ) (more : List Bool) → len < 2 ^ length_width passes raise
          → two.ahead ≡ length_bits passes raise len ++ more → ⊥) → ⊥
      reads_no_len within' fails = no_len_by ending left within' fails

      entry_is : (words : BlockWords) (kept : ℕ) → words.entry.included ≡ true
          → words.entry.zero_planes ≡ z → passes ≡ words.entry.passes
          → kept ≡ min words.entry.len 4294967295
          → kept_of z passes kept ≡ kept_entry words.entry
      entry_is words kept inside same p k = let i = sym inside in let y = sym same in cc

      block_by : (ending : Ending) → Behind trees z rest one.ahead ending
          → (3 * (shape.planes - z) < passes + 2 → ⊥) → (three : BitSource) (kept : ℕ)
          → ((raise len : ℕ) × (len < 2 ^ length_width passes raise)
          × Took two (length_bits passes raise len) three × (kept ≡ min len 4294967295))
          → ((raise len : ℕ) (more : List Bool) → len < 2 ^ length_width passes raise
          → two.ahead ≡ length_bits passes raise len ++ more → kept ≡ min len 4294967295)
          → Gives ending three (Ok (record {
            included = true;
            zero_planes = z;
            passes = passes;
            len = kept;
          })) × Took from (inside_bits trees before shape.planes ending) three
      block_by ending (within words inside same some few len e) within' three kept read_len is =
          let p = passes_are words.entry.passes _ some (omega arith) e in
          let q = ap (λ k. 2 ^ length_width k words.raise) p in
          let k = is words.raise words.entry.len rest (omega arith) (len_ahead words p e) in
          let l = length_same passes read_len.0 words.raise read_len.1 words.entry.len three.ahead
          rest (sym read_len.3.ahead ∙ len_ahead words p e) in (
            ap (λ k. Ok k) (entry_is words kept inside same p k),
            along from three _ _ (ap (λ n. zero_plane_bits trees before (n + 1)
                ++ (pass_bits words.entry.passes
                ++ length_bits words.entry.passes words.raise words.entry.len)) (sym same))
                (took_more from one three (zero_plane_bits trees before (z + 1))
                (pass_bits words.entry.passes
                ++ length_bits words.entry.passes words.raise words.entry.len) read.2
                (took_more one two three (pass_bits words.entry.passes)
                (length_bits words.entry.passes words.raise words.entry.len)
                (along one two _ _ (ap pass_bits p) took)
                (along two three _ _ (l ∙ ap (λ n. length_bits n words.raise words.entry.len) p)
                read_len.3))),
          )
      block_by ending (above n many' few e) within' three kept read_len is =
          absurd (within' (let p = passes_are n rest (omega arith) few e in omega arith))

      pub reads_block : (3 * (shape.planes - z) < passes + 2 → ⊥) → (three : BitSource) (kept : ℕ)
          → ((raise len : ℕ) × (len < 2 ^ length_width passes raise)
          × Took two (length_bits passes raise len) three × (kept ≡ min len 4294967295))
          → ((raise len : ℕ) (more : List Bool) → len < 2 ^ length_width passes raise
          → two.ahead ≡ length_bits passes raise len ++ more → kept ≡ min len 4294967295)
          → Reads three (Ok (record {
            included = true;
            zero_planes = z;
            passes = passes;
            len =
                kept;
          }))
      reads_block within' three kept read_len is = let r =
          block_by ending left within' three kept read_len is in (r.0, allowed, r.1)
