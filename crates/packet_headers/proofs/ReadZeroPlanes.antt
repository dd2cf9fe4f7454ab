-- A leaf's number asked for by one threshold after the other.
use Rattle.std.proofs.Common.{◌≡◌, ℕ, ◌+◌, ◌-◌, ◌<◌, ◌≤◌, min, Bool, true, false, List, [], ◌∷◌}
use Rattle.std.proofs.Common.{◌++◌, refl, sym, ap, subst, ◌∙◌, arith, append_assoc, Ok, Err, Result}
use Rattle.std.proofs.Common.{ltb}
use Rattle.std.specs.Prelude.{max, nat_lt, replicate, if◌then◌else◌}
use Rattle.std.proofs.lemmas.Bool.{ltb-true, ltb-false, le-ltb}
use Rattle.tag_trees.specs.TagTree.{Writing, leaf_node, levels_above, path_of, largest, node_bits}
use Rattle.tag_trees.specs.TagTree.{path_bits, bits_of_writing, IsNumbering, is_among}
use Rattle.bit_stuffing.specs.Source.{BitSource, Took}
use Rattle.tag_trees.specs.TreeState.{width_of, height_of, levels_of, Stands, Allows}
use Rattle.tag_trees.specs.declared.tree.Tree.{Tree}
use Rattle.tag_trees.proofs.ReaderLemmas.{split_thresholds, stands_split}
use Rattle.tag_trees.proofs.TreePaths.{largest_push, numbering_along}
use Rattle.packet_headers.specs.declared.refusal.PacketRefusal.{PacketRefusal}
use Rattle.packet_headers.specs.declared.refusal.PacketRefusal.TheVariants.{ZeroPlanesTooMany}
use Rattle.bit_stuffing.specs.declared.fault.BitFault.{BitFault}
use Rattle.bit_stuffing.specs.declared.fault.BitFault.TheVariants.{OutOfBits, StuffedBitSet}
use Rattle.packet_headers.specs.Reading.{refusal_of}
use Rattle.packet_headers.specs.InsideReading.{last_place, FoundZeroPlanes}
use Rattle.bit_stuffing.proofs.SourceLemmas.{took_more}
use Rattle.bit_stuffing.proofs.SourceLemmas.{took_none, took_rest}
use Rattle.packet_headers.proofs.ReadCodes.{along}

-- up to 0 nothing is written
none_by : (p : Bool) (start v s : ℕ)
    → (if p then [] else replicate (min 0 v - max (min s v) start) false
    ++ (if nat_lt v 0 then true ∷ [] else [])) ≡ []
none_by true start v s = refl
none_by false start v s = let z : min 0 v - max (min s v) start ≡ 0 = omega arith in let l =
    le-ltb v 0 (omega arith) in rw (z, l) refl

node_none : (start v s : ℕ) → node_bits start v s 0 ≡ []
unfolding node_bits
node_none start v s = none_by (ltb v s) start v s

path_none : (v s : ℕ → ℕ) (start : ℕ) (path : List ℕ) → path_bits v s 0 start path ≡ []
unfolding path_bits
path_none v s start [] = refl
path_none v s start (n ∷ path) = ap (λ b. b ++ path_bits v s 0 (min (max 0 (s n)) (v n)) path)
    (node_none start (v n) (s n)) ∙ path_none v s (min (max 0 (s n)) (v n)) path

-- the threshold at which a number of zero planes is known, or known to be all planes
abbrev pub asked_upto : ℕ → ℕ → ℕ
asked_upto planes zero_planes = min (zero_planes + 1) planes

-- the writing of a leaf up to a threshold
abbrev pub upto : ℕ → ℕ → ℕ → Writing
upto x y t = record { column = x; row = y; threshold = t }

bits_none : (levels : ℕ) (v : ℕ → ℕ) (earlier : List Writing) (x y : ℕ)
    → bits_of_writing levels v earlier (upto x y 0) ≡ []
bits_none levels v earlier x y = path_none v (largest levels earlier) 0 (path_of levels x y)

same : (p : Bool) (l : ℕ) → (if p then max l 0 else l) ≡ l
same true l = omega arith
same false l = refl

largest_none : (levels : ℕ) (earlier : List Writing) (x y n : ℕ)
    → largest levels (earlier ++ upto x y 0 ∷ []) n ≡ largest levels earlier n
largest_none levels earlier x y n = largest_push levels earlier (upto x y 0) n
    ∙ same (is_among (path_of levels x y) n) (largest levels earlier n)

-- what has been asked so far, up to k
pub record Asked (old now : Tree) (from mid : BitSource) (x y planes k : ℕ) : Type 0 where
  pub width : width_of now ≡ width_of old
  pub height : height_of now ≡ height_of old
  pub same : mid.bytes ≡ from.bytes
  pub stands : (earlier : List Writing) → Stands old earlier
      → Stands now (earlier ++ upto x y k ∷ [])
  pub reads : (v : ℕ → ℕ) (earlier : List Writing) (rest : List Bool)
      → IsNumbering (width_of old) (height_of old) v → Stands old earlier → Allows old v
      → from.ahead ≡ bits_of_writing (levels_of old) v earlier
      (upto x y (asked_upto planes (v (leaf_node x y)))) ++ rest → Allows now v
  pub read : (v : ℕ → ℕ) (earlier : List Writing) → IsNumbering (width_of old) (height_of old) v
      → Stands old earlier → Allows now v
      → (k ≤ v (leaf_node x y)) × Allows old v
      × Took from (bits_of_writing (levels_of old) v earlier (upto x y k)) mid

pub asked_none : (old : Tree) (from : BitSource) (x y planes : ℕ)
    → Asked old old from from x y planes 0
asked_none old from x y planes = record {
  width = refl;
  height = refl;
  same = refl;
  stands = λ earlier s. (λ n. rw (largest_none (levels_of old) earlier x y n) (s n));
  reads = λ v earlier rest numbering s a e. a;
  read = λ v earlier numbering s a. (
    omega arith,
    a,
    along from from [] _
        (sym (bits_none (levels_of old) v earlier x y)) (took_none from),
  );
}

three : (a b c d : List Bool) → ((a ++ b) ++ c) ++ d ≡ a ++ (b ++ (c ++ d))
three a b c d = append_assoc (a ++ b) c d ∙ append_assoc a b (c ++ d)

-- One more question.
module _ (old now new : Tree) (from mid to : BitSource) (x y planes k : ℕ)
    (asked : Asked old now from mid x y planes k)
    (column : x < width_of old) (row : y < height_of old) where
  levels_same : levels_of now ≡ levels_of old
  levels_same = ap (λ w. levels_above w (height_of now)) asked.width
      ∙ ap (λ h. levels_above (width_of old) h) asked.height

  numbering_now : (v : ℕ → ℕ) → IsNumbering (width_of old) (height_of old) v
      → IsNumbering (width_of now) (height_of now) v
  numbering_now v n = numbering_along (width_of old) (height_of old) (width_of now) (height_of now)
      v asked.width asked.height n

  -- what stands ahead of it
  pub ahead_now : (v : ℕ → ℕ) (earlier : List Writing) (rest : List Bool)
      → IsNumbering (width_of old) (height_of old) v → Stands old earlier → Allows old v
      → k + 1 ≤ planes
      → from.ahead ≡ bits_of_writing (levels_of old) v earlier
      (upto x y (asked_upto planes (v (leaf_node x y)))) ++ rest
      → (more : List Bool) × (mid.ahead ≡ bits_of_writing (levels_of now) v (earlier
      ++ upto x y k ∷ []) (upto x y (k + 1)) ++ more) × Allows now v
  ahead_now v earlier rest n s a within e =
      let al = asked.reads v earlier rest n s a e in
      let r = asked.read v earlier n s al in
      let low : k ≤ v (leaf_node x y) = r.0 in
      let t = asked_upto planes (v (leaf_node x y)) in
      let one = split_thresholds (width_of old) (height_of old) v earlier x y (k + 1)
      (asked_upto planes (v (leaf_node x y))) n column row (omega arith) in
      let two = split_thresholds (width_of old) (height_of old) v earlier x y k (k + 1) n column row
      (omega arith) in
      let b = bits_of_writing (levels_of old) v earlier (upto x y k) in
      let c = bits_of_writing (levels_of old) v (earlier ++ upto x y k ∷ []) (upto x y (k + 1)) in
      let d = bits_of_writing (levels_of old) v (earlier ++ upto x y (k + 1) ∷ [])
      (upto x y (asked_upto planes (v (leaf_node x y)))) in
      let f : from.ahead ≡ bits_of_writing (levels_of old) v earlier (upto x y k)
      ++ (bits_of_writing (levels_of old) v (earlier ++ upto x y k ∷ []) (upto x y (k + 1)) ++
      (bits_of_writing (levels_of old) v (earlier ++ upto x y (k + 1) ∷ [])
      (upto x y (asked_upto planes (v (leaf_node x y)))) ++ rest)) =
      e ∙ ap (λ q. q ++ rest) (sym one)
      ∙ ap (λ q. (q ++ bits_of_writing (levels_of old) v (earlier
      ++ upto x y (k + 1) ∷ []) (upto x y (asked_upto planes (v (leaf_node x y)))))
      ++ rest) (sym two)
      ∙ three (bits_of_writing (levels_of old) v earlier (upto x y k))
      (bits_of_writing (levels_of old) v (earlier ++ upto x y k ∷ []) (upto x y (k + 1)))
      (bits_of_writing (levels_of old) v (earlier ++ upto x y (k + 1) ∷ [])
      (upto x y (asked_upto planes (v (leaf_node x y))))) rest in
      let g = took_rest from mid (bits_of_writing (levels_of old) v earlier (upto x y k)) _ r.2 f in (
        bits_of_writing (levels_of old) v (earlier ++ upto x y (k + 1) ∷ [])
            (upto x y (asked_upto planes (v (leaf_node x y)))) ++ rest,
        g ∙ ap (λ l. bits_of_writing l v (earlier ++ upto x y k ∷ []) (upto x y (k + 1)) ++
            (bits_of_writing (levels_of old) v (earlier ++ upto x y (k + 1) ∷ [])
            (upto x y (asked_upto planes (v (leaf_node x y)))) ++ rest)) (sym levels_same),
        al,
      )

  -- it can't fail where the bits are ahead
  pub no_fault : ((v : ℕ → ℕ) (earlier : List Writing) (rest : List Bool)
      → IsNumbering (width_of now) (height_of now) v → Stands now earlier → Allows now v
      → mid.ahead ≡ bits_of_writing (levels_of now) v earlier (upto x y (k + 1)) ++ rest → ⊥)
      → k + 1 ≤ planes
      → (v : ℕ → ℕ) (earlier : List Writing) (rest : List Bool)
      → IsNumbering (width_of old) (height_of old) v → Stands old earlier → Allows old v
      → from.ahead ≡ bits_of_writing (levels_of old) v earlier
      (upto x y (asked_upto planes (v (leaf_node x y)))) ++ rest → ⊥
  no_fault fails within v earlier rest n s a e =
      let m = ahead_now v earlier rest n s a within e in
      fails v (earlier ++ upto x y k ∷ []) m.0 (numbering_now v n) (asked.stands earlier s) m.2 m.1

  module _ (below : Bool) (within : k + 1 ≤ planes)
      (width' : width_of new ≡ width_of now) (height' : height_of new ≡ height_of now)
      (same' : to.bytes ≡ mid.bytes)
      (stands' : (earlier : List Writing) → Stands now earlier
      → Stands new (earlier ++ upto x y (k + 1) ∷ []))
      (reads' : (v : ℕ → ℕ) (earlier : List Writing) (rest : List Bool)
      → IsNumbering (width_of now) (height_of now) v → Stands now earlier → Allows now v
      → mid.ahead ≡ bits_of_writing (levels_of now) v earlier (upto x y (k + 1)) ++ rest
      → (below ≡ nat_lt (v (leaf_node x y)) (k + 1)) × (to.ahead ≡ rest) × Allows new v)
      (read' : (v : ℕ → ℕ) (earlier : List Writing) → IsNumbering (width_of now) (height_of now) v
      → Stands now earlier → Allows new v
      → (below ≡ nat_lt (v (leaf_node x y)) (k + 1)) × Allows now v
      × Took mid (bits_of_writing (levels_of now) v earlier (upto x y (k + 1))) to) where
    pub stands_next : (earlier : List Writing) → Stands old earlier
        → Stands new (earlier ++ upto x y (k + 1) ∷ [])
    stands_next earlier s = stands_split new earlier x y k (k + 1) (omega arith)
        (stands' (earlier ++ upto x y k ∷ []) (asked.stands earlier s))

    reads_next : (v : ℕ → ℕ) (earlier : List Writing) (rest : List Bool)
        → IsNumbering (width_of old) (height_of old) v → Stands old earlier → Allows old v
        → from.ahead ≡ bits_of_writing (levels_of old) v earlier
        (upto x y (asked_upto planes (v (leaf_node x y)))) ++ rest → Allows new v
    reads_next v earlier rest n s a e =
        let m = ahead_now v earlier rest n s a within e in
        (reads' v (earlier ++ upto x y k ∷ []) m.0 (numbering_now v n) (asked.stands earlier s) m.2
        m.1).2

    read_next : (v : ℕ → ℕ) (earlier : List Writing) → IsNumbering (width_of old) (height_of old) v
        → Stands old earlier → Allows new v
        → (k ≤ v (leaf_node x y)) × (below ≡ nat_lt (v (leaf_node x y)) (k + 1)) × Allows old v
        × Took from (bits_of_writing (levels_of old) v earlier (upto x y (k + 1))) to
    read_next v earlier n s a =
        let r = read' v (earlier ++ upto x y k ∷ []) (numbering_now v n) (asked.stands earlier s)
        a in
        let q = asked.read v earlier n s r.1 in
        let two = split_thresholds (width_of old) (height_of old) v earlier x y k (k + 1) n column
        row (omega arith) in (
          q.0,
          r.0,
          q.1,
          along from to _ _ (ap (λ l. bits_of_writing (levels_of old) v earlier (upto x y k)
              ++ bits_of_writing l v (earlier ++ upto x y k ∷ []) (upto x y (k + 1))) levels_same
              ∙ two)
              (took_more from mid to _ _ q.2 r.2),
        )

    -- the result is no
    pub asked_next : below ≡ false → Asked old new from to x y planes (k + 1)
    asked_next below_is = record {
      width = width' ∙ asked.width;
      height = height' ∙ asked.height;
      same = same' ∙ asked.same;
      stands = stands_next;
      reads = reads_next;
      read = λ v earlier n s a. (let r = read_next v earlier n s a in
          (ltb-false (v (leaf_node x y)) (k + 1) (sym r.1 ∙ below_is), r.2, r.3));
    }

    -- the result is yes
    found_is : below ≡ true → (v : ℕ → ℕ) (earlier : List Writing)
        → IsNumbering (width_of old) (height_of old) v → Stands old earlier → Allows new v
        → v (leaf_node x y) ≡ k
    found_is below_is v earlier n s a =
        let r = read_next v earlier n s a in
        let low : k ≤ v (leaf_node x y) = r.0 in
        let high : v (leaf_node x y) < k + 1 = ltb-true (v (leaf_node x y)) (k + 1) (sym r.1
        ∙ below_is) in omega arith

    pub found_reads : (v : ℕ → ℕ) (earlier : List Writing) (rest : List Bool)
        → IsNumbering (width_of old) (height_of old) v → Stands old earlier → Allows old v
        → from.ahead ≡ bits_of_writing (levels_of old) v earlier
        (upto x y (asked_upto planes (v (leaf_node x y)))) ++ rest → Allows new v
    found_reads v earlier rest n s a e = reads_next v earlier rest n s a e

    pub found_here : below ≡ true → (earlier : List Writing) → Stands old earlier
        → FoundZeroPlanes old new from to x y planes earlier (Ok k)
    found_here below_is earlier s = record {
      asked = k + 1;
      stands = stands_next earlier s;
      ending = refl;
      read = λ v n a. (let r = read_next v earlier n s a in
          (found_is below_is v earlier n s a, r.2, r.3));
    }

-- All planes have been asked for.
module _ (old now : Tree) (from mid : BitSource) (x y planes : ℕ)
    (asked : Asked old now from mid x y planes planes) where
  pub all_found : (place : ℕ) → place ≡ last_place mid → (earlier : List Writing)
      → Stands old earlier → FoundZeroPlanes old now from mid x y planes earlier
      (Err (ZeroPlanesTooMany place))
  all_found place is earlier s = record {
    asked = planes;
    stands = asked.stands earlier s;
    ending = (refl, ap (λ p. ZeroPlanesTooMany p) is);
    read = λ v n a. asked.read v earlier n s a;
  }

-- the refusal of a fault of the bits is of another kind
pub fault_not_zero : (fault : BitFault) (place : ℕ) → refusal_of fault ≡ ZeroPlanesTooMany place → ⊥
fault_not_zero (OutOfBits p) place e = cc
fault_not_zero (StuffedBitSet p) place e = cc

pub all_found_at : (old now : Tree) (from mid : BitSource) (x y planes k place : ℕ)
    → Asked old now from mid x y planes k → k ≡ planes → place ≡ last_place mid
    → (earlier : List Writing) → Stands old earlier
    → FoundZeroPlanes old now from mid x y planes earlier (Err (ZeroPlanesTooMany place))
all_found_at old now from mid x y planes k place asked e is earlier s =
    let P : ℕ → Type 0 = λ n. Asked old now from mid x y planes n in
    all_found old now from mid x y planes (subst P e asked) place is earlier s

pub not_end : (r : Result ℕ PacketRefusal) (fault : BitFault) (place : ℕ)
    → r ≡ Err (ZeroPlanesTooMany place) → r ≡ Err (refusal_of fault) → ⊥
not_end r fault place d e = let f : refusal_of fault ≡ ZeroPlanesTooMany place = cc in
    fault_not_zero fault place f
