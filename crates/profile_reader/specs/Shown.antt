-- What the codestream of a choice of coding passes shows: the frame's coefficients without the
-- bit-planes that these passes leave unknown (ISO/IEC 15444-1, Annex D).
use Rattle.std.specs.Prelude.{ℕ, zero, suc, ◌+◌, ◌-◌, ◌*◌, ◌/◌, ◌^◌, ◌<◌, ◌≤◌, ◌≡◌, ◌&&◌, nat_lt}
use Rattle.std.specs.Prelude.{List, [], map, get_or}
use Rattle.std.specs.List.{All}
use Rattle.cine_nums.specs.Profile.{levels_of}
use Rattle.band_geometry.specs.Bands.{block_of, IsBlock}
use Rattle.band_geometry.specs.Places.{block_at_place}
use Rattle.band_geometry.specs.declared.geometry.Geometry.{Geometry}
use Rattle.band_geometry.specs.declared.places.BlockId.{BlockId}
use Rattle.codeblock_views.specs.KnownCells.{zero_known}
use Rattle.codeblock_views.specs.declared.known.Known.{Known}
use Rattle.dz_quantiser.specs.Bands.{band_planes, AreUsable}
use Rattle.dz_quantiser.specs.Coefficient.{Coefficient, zero_coefficient}
use Rattle.dz_quantiser.specs.declared.steps.StepSizes.{StepSizes}
use Rattle.ebcot_contexts.specs.Cells.{view}
use Rattle.ebcot_contexts.specs.Meaning.{unknown_after}
use Rattle.profile_reader.specs.Chosen.{Planes, block_coefs, block_shape, chosen, chosen_passes}
use Rattle.profile_reader.specs.Reads.{BlockRead, Decoding, Reads, shape_with, known_of}
use Rattle.profile_reader.specs.Spell.{part_lengths, spell}
use Rattle.profile_reader.specs.Spelled.{decoding_with}

-- The bit-planes of a block that is decoded from so many passes: those of its largest magnitude.
-- Without passes nothing says how many of the band's are zero.
abbrev pub decoded_planes : ℕ → ℕ → ℕ → ℕ
decoded_planes band_planes block_planes zero = band_planes
decoded_planes band_planes block_planes (suc k) = block_planes

-- what is decoded of a block by a choice of passes
unfoldable pub chosen_read : Geometry → StepSizes → Planes → List ℕ → BlockId → BlockRead
chosen_read g steps planes choice b = record {
  planes = decoded_planes (band_planes steps b.res b.orient) (block_shape g planes b).planes
      (chosen_passes g choice b);
  passes = chosen_passes g choice b;
}

-- how many bit-planes of each place of a block its chosen passes leave unknown
unfoldable pub chosen_unknown : Geometry → StepSizes → Planes → List ℕ → BlockId → List ℕ
chosen_unknown g steps planes choice b =
    unknown_after (block_coefs g planes b)
    (shape_with g b (chosen_read g steps planes choice b).planes) (chosen_passes g choice b)

-- its coefficients cut to what is known after these passes
unfoldable pub chosen_cells : Geometry → StepSizes → Planes → List ℕ → BlockId → List Known
chosen_cells g steps planes choice b =
    map known_of (view (block_coefs g planes b) (chosen_unknown g steps planes choice b))

-- the decoding of a choice of passes
abbrev pub chosen_decoding : Geometry → StepSizes → Planes → List ℕ → Decoding
chosen_decoding g steps planes choice =
    decoding_with g steps (chosen g steps planes choice) (chosen_read g steps planes choice)
    (chosen_cells g steps planes choice)

-- A choice of passes can be spelled: the levels are those of the writer, the quantiser takes the
-- steps, no block has more bit-planes than its band, each block has at most the passes of its
-- bit-planes, and each tile-part has a length of 32 bits.
pub record CanChoose (g : Geometry) (steps : StepSizes) (planes : Planes) (choice : List ℕ)
    : Type 0 where
  pub levels : g.levels ≡ levels_of g.profile
  pub steps_usable : AreUsable g.levels steps
  pub below : (b : BlockId) → IsBlock g b →
      (block_shape g planes b).planes ≤ band_planes steps b.res b.orient
  pub passes : (b : BlockId) → IsBlock g b →
      chosen_passes g choice b ≤ 3 * (block_shape g planes b).planes - 2
  pub lengths : All (λ n. n < 2 ^ 32) (part_lengths g steps (chosen g steps planes choice))

-- The codestream of a choice of passes is read as the frame's coefficients cut to what these passes
-- leave known.
abbrev pub ChosenReads : Type 0
ChosenReads =
    (g : Geometry) (steps : StepSizes) (planes : Planes) (choice : List ℕ) →
    CanChoose g steps planes choice →
    Reads (spell g steps (chosen g steps planes choice)) (chosen_decoding g steps planes choice)

-- What is known of a coefficient is its bits above its lowest `unknown` bit-planes, and its sign
-- where one of these bits is 1 (Annex D.2). A sign that isn't known is plus.
pub record IsCut (q : Coefficient) (unknown : ℕ) (k : Known) : Type 0 where
  pub magnitude : k.magnitude ≡ q.magnitude / 2 ^ unknown
  pub sign : k.negative ≡ (nat_lt 0 k.magnitude && q.negative)
  pub unknown_is : k.unknown ≡ unknown

-- how many bit-planes the chosen passes of its block leave unknown at the place (x, y) of component
-- c: the block is the one that has the place, and in it the place has this column and row
abbrev pub unknown_at : Geometry → StepSizes → Planes → List ℕ → ℕ → ℕ → ℕ → ℕ
unknown_at g steps planes choice c x y =
    let b = block_at_place g c x y in
    let r = block_of g b in
    get_or (chosen_unknown g steps planes choice b) ((y - r.y) * r.width + (x - r.x)) 0

-- What a choice decodes to, place by place: at each place of each component stands the frame's
-- coefficient without the bit-planes that the chosen passes of its block leave unknown.
abbrev pub DecodesTo : Type 0
DecodesTo =
    (g : Geometry) (steps : StepSizes) (planes : Planes) (choice : List ℕ) →
    CanChoose g steps planes choice → (c x y : ℕ) → c < 3 → x < g.width → y < g.height →
    IsCut (get_or (planes c) (y * g.width + x) zero_coefficient)
    (unknown_at g steps planes choice c x y)
    (get_or (get_or (chosen_decoding g steps planes choice).planes c []) (y * g.width + x)
    zero_known)
