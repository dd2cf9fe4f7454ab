-- Where a code-block stands in its packet.
use Rattle.std.proofs.Common.{◌≡◌, ℕ, zero, suc, ◌+◌, ◌-◌, ◌*◌, ◌/◌, ◌<◌, min, List, [], ◌∷◌}
use Rattle.std.proofs.Common.{length, get_or, take, refl, sym, ap, ◌∙◌, subst, arith}
use Rattle.std.proofs.Common.{length-append, zero-add}
use Rattle.std.specs.List.{flat_map, range_with_len}
use Rattle.std.proofs.lemmas.List.{length-take-le}
use Rattle.std.proofs.lemmas.List.Concat.{get_or-flat_map}
use Rattle.std.proofs.lemmas.List.FromFn.{length-range_with_len, get_or-range_with_len}
use Rattle.std.proofs.lemmas.List.FromFn.{length-map-range_with_len, get_or-map-range_with_len}
use Rattle.cine_nums.specs.declared.orient.Orient.{Orient}
use Rattle.cine_nums.specs.declared.orient.Orient.TheVariants.{LL, HL, LH, HH}
use Rattle.band_geometry.specs.Bands.{IsBlock, IsOrientAt, precinct_blocks_of}
use Rattle.band_geometry.specs.Bands.{block_columns, block_rows}
use Rattle.band_geometry.specs.Numbering.{orients_of}
use Rattle.band_geometry.specs.declared.geometry.Geometry.{Geometry}
use Rattle.band_geometry.specs.declared.places.BlockId.{BlockId}
use Rattle.packet_order.specs.Blocks.{block_at, row_in, blocks_in, packet_of_block}
use Rattle.frame_packets.specs.Inside.{band_place, place_in}

-- ---- bands

pub orient_placed : (r : ℕ) (o : Orient) (d : Orient) → IsOrientAt r o →
    get_or (orients_of r) (band_place o) d ≡ o
orient_placed zero LL d is = refl
orient_placed zero HL d is = absurd (omega (arith, is))
orient_placed zero LH d is = absurd (omega (arith, is))
orient_placed zero HH d is = absurd (omega (arith, is))
orient_placed (suc r) LL d is = absurd (omega (arith, is))
orient_placed (suc r) HL d is = refl
orient_placed (suc r) LH d is = refl
orient_placed (suc r) HH d is = refl

pub orient_within : (r : ℕ) (o : Orient) → IsOrientAt r o → band_place o < length (orients_of r)
orient_within zero LL is = omega arith
orient_within zero HL is = absurd (omega (arith, is))
orient_within zero LH is = absurd (omega (arith, is))
orient_within zero HH is = absurd (omega (arith, is))
orient_within (suc r) LL is = absurd (omega (arith, is))
orient_within (suc r) HL is = omega arith
orient_within (suc r) LH is = omega arith
orient_within (suc r) HH is = omega arith

pub place_of_orient : (r k : ℕ) (d : Orient) → k < length (orients_of r) →
    band_place (get_or (orients_of r) k d) ≡ k
place_of_orient zero zero d below = refl
place_of_orient zero (suc k) d below = absurd (omega (arith, below))
place_of_orient (suc r) zero d below = refl
place_of_orient (suc r) (suc zero) d below = refl
place_of_orient (suc r) (suc (suc zero)) d below = refl
place_of_orient (suc r) (suc (suc (suc k))) d below = absurd (omega (arith, below))

pub orient_at : (r k : ℕ) (d : Orient) → k < length (orients_of r) →
    IsOrientAt r (get_or (orients_of r) k d)
orient_at zero zero d below = refl
orient_at zero (suc k) d below = absurd (omega (arith, below))
orient_at (suc r) zero d below = omega arith
orient_at (suc r) (suc zero) d below = omega arith
orient_at (suc r) (suc (suc zero)) d below = omega arith
orient_at (suc r) (suc (suc (suc k))) d below = absurd (omega (arith, below))

-- ---- blocks of a band

record IsOffset (x c : ℕ) : Type 0 where
  below : x - min (4 * (x / 4)) c < min (4 * (x / 4) + 4) c - min (4 * (x / 4)) c
  is : min (4 * (x / 4)) c + (x - min (4 * (x / 4)) c) ≡ x

offset : (x c : ℕ) → x < c → IsOffset x c
offset x c below = record { below = omega arith; is = omega arith }

uniform : {A B : Type 0} (f : A → List B) (c : ℕ) (xs : List A) → ((x : A) → length (f x) ≡ c) →
    length (flat_map f xs) ≡ length xs * c
uniform f c [] each = omega arith
uniform f c (x ∷ xs) each =
    one_more (length (flat_map f (x ∷ xs))) (length (f x)) (length (flat_map f xs)) (length xs) c
    (length-append (f x) (flat_map f xs)) (each x) (uniform f c xs each)
  where
    one_more : (w a b n m : ℕ) → w ≡ a + b → a ≡ m → b ≡ n * m → w ≡ suc n * m
    one_more w a b n m e h k = grind arith

-- pieces of c elements each
piece_at : {A : Type 0} (f : ℕ → List A) (n c j i : ℕ) (d : A) → ((x : ℕ) → length (f x) ≡ c) →
    j < n → i < c → get_or (flat_map f (range_with_len 0 n)) (j * c + i) d ≡ get_or (f j) i d
piece_at f n c j i d each row column =
    let xs = range_with_len 0 n in
    let count : length xs ≡ n = length-range_with_len 0 n in
    let before : length (take j xs) ≡ j = length-take-le j xs (omega (arith, count, row)) in
    let start : length (flat_map f (take j xs)) ≡ j * c =
    uniform f c (take j xs) each ∙ ap (λ m. m * c) before in
    let at : get_or xs j 0 ≡ j = get_or-range_with_len 0 n j 0 row ∙ zero-add j in
    let inside : i < length (f (get_or xs j 0)) = omega (arith, each (get_or xs j 0), column) in
    ap (λ m. get_or (flat_map f xs) (m + i) d) (sym start)
    ∙ get_or-flat_map f xs j i 0 d (omega (arith, count, row)) inside
    ∙ ap (λ m. get_or (f m) i d) at

piece_within : {A : Type 0} (f : ℕ → List A) (n c j i : ℕ) → ((x : ℕ) → length (f x) ≡ c) →
    j < n → i < c → j * c + i < length (flat_map f (range_with_len 0 n))
piece_within f n c j i each row column =
    let whole : length (flat_map f (range_with_len 0 n)) ≡ n * c =
    uniform f c (range_with_len 0 n) each ∙ ap (λ m. m * c) (length-range_with_len 0 n) in
    subst (λ m. j * c + i < m) (sym whole) (inside j i n c row column)
  where
    inside : (j i n c : ℕ) → j < n → i < c → j * c + i < n * c
    inside j i n c h k = grind arith

row_length : (g : Geometry) (b : BlockId) (j : ℕ) →
    let p = packet_of_block b in let range = precinct_blocks_of g b.res b.orient p.px p.py in
    length (row_in g p b.orient j) ≡ range.x1 - range.x0
row_length g b j =
    let p = packet_of_block b in let range = precinct_blocks_of g b.res b.orient p.px p.py in
    length-map-range_with_len (λ i. block_at p b.orient (range.y0 + j) (range.x0 + i)) 0
    (range.x1 - range.x0)

pub block_within : (g : Geometry) (b : BlockId) → IsBlock g b →
    place_in g b < length (blocks_in g (packet_of_block b) b.orient)
unfolding blocks_in
block_within g b is =
    let p = packet_of_block b in
    let o = b.orient in
    let range = precinct_blocks_of g b.res o p.px p.py in
    let x = offset b.x (block_columns g b.res o) is.column in
    let y = offset b.y (block_rows g b.res o) is.row in
    piece_within (row_in g p o) (range.y1 - range.y0) (range.x1 - range.x0) (b.y - range.y0)
    (b.x - range.x0) (row_length g b) y.below x.below

pub block_placed : (g : Geometry) (b : BlockId) (d : BlockId) → IsBlock g b →
    get_or (blocks_in g (packet_of_block b) b.orient) (place_in g b) d ≡ b
unfolding blocks_in
block_placed g b d is =
    let p = packet_of_block b in
    let o = b.orient in
    let range = precinct_blocks_of g b.res o p.px p.py in
    let x = offset b.x (block_columns g b.res o) is.column in
    let y = offset b.y (block_rows g b.res o) is.row in
    let j = b.y - range.y0 in
    let i = b.x - range.x0 in
    let at = λ (n : ℕ). block_at p o (range.y0 + j) (range.x0 + n) in
    piece_at (row_in g p o) (range.y1 - range.y0) (range.x1 - range.x0) j i d (row_length g b)
    y.below x.below
    ∙ get_or-map-range_with_len at 0 (range.x1 - range.x0) i i d x.below (zero-add i)
    ∙ ap (λ n. block_at p o n (range.x0 + i)) y.is ∙ ap (λ n. block_at p o b.y n) x.is
