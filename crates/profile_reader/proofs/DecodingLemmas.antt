-- By the same words a codestream has one decoding.
use Rattle.std.proofs.Common.{◌≡◌, ℕ, ◌+◌, ◌-◌, ◌*◌, ◌/◌, ◌%◌, ◌<◌, ◌≤◌, List, [], ◌∷◌}
use Rattle.std.proofs.Common.{length, get_or, sym, ap, subst, ◌∙◌, arith}
use Rattle.std.specs.List.{All, flat_map}
use Rattle.std.proofs.lemmas.List.{ext_get_or}
use Rattle.std.proofs.lemmas.List.Elements.{All-nil, All-append, All-head, All-tail}
use Rattle.std.proofs.lemmas.Option.{slice_get-get_or}
use Rattle.cine_nums.specs.declared.orient.Orient.{Orient}
use Rattle.cine_nums.specs.declared.orient.Orient.TheVariants.{LL}
use Rattle.band_geometry.specs.Bands.{HasBand, IsBlock, IsOrientAt, block_of, block_rows}
use Rattle.band_geometry.specs.Bands.{block_columns}
use Rattle.band_geometry.specs.Numbering.{all_blocks, blocks_of_component, blocks_of_res}
use Rattle.band_geometry.specs.Numbering.{orients_of}
use Rattle.band_geometry.specs.Numbering.{blocks_of_band, blocks_of_row}
use Rattle.band_geometry.specs.Places.{block_at_place, IsBlockAt}
use Rattle.band_geometry.specs.declared.geometry.Geometry.{Geometry}
use Rattle.band_geometry.specs.declared.places.BlockId.{BlockId}
use Rattle.band_geometry.proofs.BlockPlaces.{somewhere}
use Rattle.band_geometry.proofs.NumberLemmas.{number_of-listed}
use Rattle.codeblock_views.specs.KnownCells.{zero_known}
use Rattle.codeblock_views.specs.Rectangles.{place_in}
use Rattle.codeblock_views.proofs.Cells.{cells_in-at, place_of}
use Rattle.dz_quantiser.specs.Bands.{band_planes}
use Rattle.packet_order.proofs.MemberLemmas.{all_pieces, all_mapped}
use Rattle.profile_reader.specs.Packets.{BlockBytes}
use Rattle.profile_reader.specs.Reads.{Stream, StreamFits, Decoding, BlockMeans, Reads}
use Rattle.profile_reader.specs.Reads.{block_in, read_in, cells_of, nothing_read, PartsSay}
use Rattle.profile_reader.specs.Spelled.{SaidOnce, MeansOnce, OneDecoding}
use Rattle.profile_reader.proofs.BandLemmas.{all_orients}

-- The listed blocks are blocks of the frame.

all_joined : {A B : Type 0} (P : B → Type 0) (Q : A → Type 0) (f : A → List B) (xs : List A) →
    All Q xs → ((x : A) → Q x → All P (f x)) → All P (flat_map f xs)
all_joined P Q f [] all each = All-nil P
all_joined P Q f (x ∷ xs) all each =
    All-append P (f x) (flat_map f xs) (each x (All-head Q x xs all))
    (all_joined P Q f xs (All-tail Q x xs all) each)

band_blocks : (g : Geometry) (c r : ℕ) (o : Orient) → c < 3 → HasBand g r o →
    All (IsBlock g) (blocks_of_band g c r o)
unfolding blocks_of_band blocks_of_row
band_blocks g c r o component has =
    all_pieces (IsBlock g) (blocks_of_row g c r o) (block_rows g r o)
    (λ y row. all_mapped (IsBlock g)
    (λ x. record { component = c; res = r; orient = o; x = x; y = y }) (block_columns g r o)
    (λ x column. record { component = component; band = has; column = column; row = row }))

listed_are_blocks : (g : Geometry) → All (IsBlock g) (all_blocks g)
unfolding all_blocks blocks_of_component blocks_of_res
listed_are_blocks g =
    all_pieces (IsBlock g) (blocks_of_component g) 3
    (λ c component. all_pieces (IsBlock g) (blocks_of_res g c) (g.levels + 1)
    (λ r res. all_joined (IsBlock g) (IsOrientAt r) (blocks_of_band g c r) (orients_of r)
    (all_orients (IsOrientAt r) r (λ o at. at))
    (λ o at. band_blocks g c r o component (record { res = omega (arith, res); orient = at }))))

-- what a decoding has, of one codestream
record Decodes (s : Stream) (blocks : List BlockBytes) (d : Decoding) : Type 0 where
  main : d.main ≡ s.main
  says : PartsSay s.geometry blocks 0 s.parts
  counted : length d.blocks ≡ length (all_blocks s.geometry)
  means : (b : BlockId) → IsBlock s.geometry b →
      BlockMeans s.geometry (band_planes s.main.steps b.res b.orient) b
      (block_in s.geometry blocks b) (read_in s.geometry d b) (cells_of s.geometry d b)
  components : length d.planes ≡ 3
  sizes : (c : ℕ) → c < 3 → length (get_or d.planes c []) ≡ s.geometry.height * s.geometry.width

decodes : (bytes : List ℕ) (d : Decoding) (r : Reads bytes d) → Decodes r.stream r.blocks d
decodes bytes d r = record {
  main = r.main;
  says = r.says;
  counted = r.counted;
  means = r.means;
  components = r.components;
  sizes = λ c below. r.sizes c below
      ∙ ap (λ m. m.height * m.width) r.main
      ∙ ap (λ n. n * r.stream.main.width) (sym r.fits.geometry.height)
      ∙ ap (λ n. r.stream.geometry.height * n) (sym r.fits.geometry.width);
}

-- Two decodings of one codestream.
module _ (said : SaidOnce) (means_once : MeansOnce) (s : Stream) (fits : StreamFits s)
    (blocks others : List BlockBytes) (d e : Decoding) (x : Decodes s blocks d)
    (y : Decodes s others e) where
  same_block : (b : BlockId) → IsBlock s.geometry b →
      (read_in s.geometry d b ≡ read_in s.geometry e b)
      × (cells_of s.geometry d b ≡ cells_of s.geometry e b)
  same_block b is =
      means_once s.geometry (band_planes s.main.steps b.res b.orient) b
      (block_in s.geometry blocks b) (read_in s.geometry d b) (read_in s.geometry e b)
      (cells_of s.geometry d b) (cells_of s.geometry e b) (x.means b is)
      (subst (λ w. BlockMeans s.geometry (band_planes s.main.steps b.res b.orient) b w
      (read_in s.geometry e b) (cells_of s.geometry e b))
      (sym (said s blocks others fits x.says y.says b is)) (y.means b is))

  same_reads : d.blocks ≡ e.blocks
  same_reads =
      let g = s.geometry in
      ext_get_or nothing_read d.blocks e.blocks (x.counted ∙ sym y.counted)
      (λ i within.
      let none : BlockId = record { component = 0; res = 0; orient = LL; x = 0; y = 0 } in
      let b = get_or (all_blocks g) i none in
      let inside : i < length (all_blocks g) = omega (arith, within, x.counted) in
      let is = listed_are_blocks g i none inside in
      let number = number_of-listed g i b (slice_get-get_or (all_blocks g) i none inside) in
      ap (λ n. get_or d.blocks n nothing_read) (sym number) ∙ (same_block b is).0
      ∙ ap (λ n. get_or e.blocks n nothing_read) number)

  same_plane : (c : ℕ) → c < 3 → get_or d.planes c [] ≡ get_or e.planes c []
  same_plane c component =
      let g = s.geometry in
      ext_get_or zero_known (get_or d.planes c []) (get_or e.planes c [])
      (x.sizes c component ∙ sym (y.sizes c component))
      (λ k within.
      let at = place_of g.width g.height k (omega (arith, within, x.sizes c component)) in
      let b = block_at_place g c (k % g.width) (k / g.width) in
      let r = block_of g b in
      let there : IsBlockAt g c (k % g.width) (k / g.width) b =
      somewhere g c (k % g.width) (k / g.width) component at.column at.row in
      let column : k % g.width - r.x < r.width =
      omega (arith, there.place.left, there.place.right) in
      let row : k / g.width - r.y < r.height =
      omega (arith, there.place.top, there.place.bottom) in
      let place : place_in g.width r (k % g.width - r.x) (k / g.width - r.y) ≡ k =
      ap (λ n. n * g.width + (r.x + (k % g.width - r.x)))
      (back r.y (k / g.width) there.place.top)
      ∙ ap (λ n. k / g.width * g.width + n) (back r.x (k % g.width) there.place.left) ∙ at.is in
      let j = (k / g.width - r.y) * r.width + (k % g.width - r.x) in
      ap (λ n. get_or (get_or d.planes c []) n zero_known) (sym place)
      ∙ sym (cells_in-at zero_known zero_known g.width r (get_or d.planes c [])
      (k % g.width - r.x) (k / g.width - r.y) column row)
      ∙ ap (λ ks. get_or ks j zero_known) (same_block b there.exists).1
      ∙ cells_in-at zero_known zero_known g.width r (get_or e.planes c [])
      (k % g.width - r.x) (k / g.width - r.y) column row
      ∙ ap (λ n. get_or (get_or e.planes c []) n zero_known) place)
    where
      back : (a n : ℕ) → a ≤ n → a + (n - a) ≡ n
      back a n le = omega (arith, le)

  same_planes : d.planes ≡ e.planes
  same_planes = ext_get_or [] d.planes e.planes (x.components ∙ sym y.components)
      (λ c within. same_plane c (omega (arith, within, x.components)))

  same_decoding : d ≡ e
  same_decoding =
      let main = x.main ∙ sym y.main in
      λ i. record { main = main i; blocks = same_reads i; planes = same_planes i }

pub one_decoding : SaidOnce → MeansOnce → OneDecoding
one_decoding said means_once bytes others d e r q same =
    same_decoding said means_once r.stream r.fits r.blocks q.blocks d e (decodes bytes d r)
    (subst (λ s. Decodes s q.blocks e) (sym same) (decodes others e q))
