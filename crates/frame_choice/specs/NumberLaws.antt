-- The code-blocks of a frame and their numbers.
use Rattle.std.proofs.Common.{◌≡◌, ℕ, zero, suc, ◌+◌, ◌<◌, ◌≤◌, List, [], ◌++◌, length, Some}
use Rattle.std.proofs.Common.{refl, sym, ap, ◌∙◌, arith}
use Rattle.std.specs.List.{flat_map, All, slice_get}
use Rattle.std.proofs.lemmas.List.Elements.{All-nil, All-append}
use Rattle.std.proofs.lemmas.Option.{get_or_from_slice_get, slice_get-get_or}
use Rattle.std.proofs.lemmas.Option.{slice_get_within}
use Rattle.cine_nums.specs.declared.orient.Orient.{Orient}
use Rattle.cine_nums.specs.declared.orient.Orient.TheVariants.{LL, HL, LH, HH}
use Rattle.band_geometry.specs.Bands.{HasBand, IsBlock, IsOrientAt, block_columns, block_rows}
use Rattle.band_geometry.specs.Counts.{number_of}
use Rattle.band_geometry.specs.Numbering.{all_blocks, blocks_of_component, blocks_of_res}
use Rattle.band_geometry.specs.Numbering.{blocks_of_band, blocks_of_row, orients_of}
use Rattle.band_geometry.specs.declared.geometry.Geometry.{Geometry}
use Rattle.band_geometry.specs.declared.places.BlockId.{BlockId}
use Rattle.band_geometry.proofs.NumberLemmas.{number_of-listed, listed_at_number}
use Rattle.packet_order.proofs.MemberLemmas.{all_pieces, all_mapped}
use Rattle.frame_choice.specs.Blocks.{block_numbered}

-- ---- each listed block is one of the frame

all_bands : (P : BlockId → Type 0) (f : Orient → List BlockId) (r : ℕ) →
    ((o : Orient) → IsOrientAt r o → All P (f o)) → All P (flat_map f (orients_of r))
all_bands P f zero each = All-append P (f LL) [] (each LL refl) (All-nil P)
all_bands P f (suc r) each =
    All-append P (f HL) (f LH ++ (f HH ++ [])) (each HL (omega arith))
    (All-append P (f LH) (f HH ++ []) (each LH (omega arith))
    (All-append P (f HH) [] (each HH (omega arith)) (All-nil P)))

in_row : (g : Geometry) (c r : ℕ) (o : Orient) (y : ℕ) → c < 3 → HasBand g r o →
    y < block_rows g r o → All (IsBlock g) (blocks_of_row g c r o y)
unfolding blocks_of_row
in_row g c r o y component has row =
    all_mapped (IsBlock g) (λ x. record { component = c; res = r; orient = o; x = x; y = y })
    (block_columns g r o)
    (λ x below. record { component = component; band = has; column = below; row = row })

in_band : (g : Geometry) (c r : ℕ) (o : Orient) → c < 3 → HasBand g r o →
    All (IsBlock g) (blocks_of_band g c r o)
unfolding blocks_of_band
in_band g c r o component has =
    all_pieces (IsBlock g) (blocks_of_row g c r o) (block_rows g r o)
    (λ y below. in_row g c r o y component has below)

in_res : (g : Geometry) (c r : ℕ) → c < 3 → r ≤ g.levels → All (IsBlock g) (blocks_of_res g c r)
unfolding blocks_of_res
in_res g c r component res =
    all_bands (IsBlock g) (blocks_of_band g c r) r
    (λ o is. in_band g c r o component (record { res = res; orient = is }))

in_component : (g : Geometry) (c : ℕ) → c < 3 → All (IsBlock g) (blocks_of_component g c)
unfolding blocks_of_component
in_component g c component =
    all_pieces (IsBlock g) (blocks_of_res g c) (g.levels + 1)
    (λ r below. in_res g c r component (omega (arith, below)))

pub all_are_blocks : (g : Geometry) → All (IsBlock g) (all_blocks g)
unfolding all_blocks
all_are_blocks g = all_pieces (IsBlock g) (blocks_of_component g) 3
    (λ c below. in_component g c below)

-- ---- numbers

pub is_block : (g : Geometry) (n : ℕ) → n < length (all_blocks g) → IsBlock g (block_numbered g n)
is_block g n below =
    all_are_blocks g n (record { component = 0; res = 0; orient = LL; x = 0; y = 0 }) below

pub number_is : (g : Geometry) (n : ℕ) → n < length (all_blocks g) →
    number_of g (block_numbered g n) ≡ n
number_is g n below =
    number_of-listed g n (block_numbered g n)
    (slice_get-get_or (all_blocks g) n
    (record { component = 0; res = 0; orient = LL; x = 0; y = 0 })
    below)

pub block_is : (g : Geometry) (b : BlockId) → IsBlock g b → block_numbered g (number_of g b) ≡ b
block_is g b is =
    get_or_from_slice_get (all_blocks g) (number_of g b) b
    (record { component = 0; res = 0; orient = LL; x = 0; y = 0 }) (listed_at_number g b is)

pub number_below : (g : Geometry) (b : BlockId) → IsBlock g b →
    number_of g b < length (all_blocks g)
number_below g b is =
    slice_get_within (all_blocks g) (number_of g b) b (listed_at_number g b is)

-- two blocks of one number are one
pub same_number : (g : Geometry) (a b : BlockId) → IsBlock g a → IsBlock g b →
    number_of g a ≡ number_of g b → a ≡ b
same_number g a b is also same =
    sym (block_is g a is) ∙ ap (block_numbered g) same ∙ block_is g b also

-- the block that a geometry gives for a number
pub found_is : (g : Geometry) (n : ℕ) (b : BlockId) → slice_get (all_blocks g) n ≡ Some b →
    block_numbered g n ≡ b
found_is g n b here = get_or_from_slice_get (all_blocks g) n b
    (record { component = 0; res = 0; orient = LL; x = 0; y = 0 }) here
