-- The planes that are put together from cells of blocks.
use Rattle.std.proofs.Common.{◌≡◌, ℕ, zero, suc, ◌*◌, ◌%◌, ◌/◌, ◌<◌, List, [], ◌∷◌, map, length}
use Rattle.std.proofs.Common.{get_or, refl, sym, ap, ◌∙◌, arith}
use Rattle.std.proofs.lemmas.List.{length-map}
use Rattle.std.proofs.lemmas.List.FromFn.{length-map-range_with_len}
use Rattle.band_geometry.specs.Bands.{IsBlock, block_of}
use Rattle.band_geometry.specs.declared.geometry.Geometry.{Geometry}
use Rattle.band_geometry.specs.declared.places.BlockId.{BlockId}
use Rattle.codeblock_views.specs.Blocks.{plane_of, cell_at_place}
use Rattle.codeblock_views.specs.KnownCells.{zero_known}
use Rattle.codeblock_views.specs.Rectangles.{cells_in}
use Rattle.codeblock_views.specs.declared.known.Known.{Known}
use Rattle.dz_quantiser.specs.declared.steps.StepSizes.{StepSizes}
use Rattle.ebcot_contexts.specs.Cells.{coef_of}
use Rattle.profile_reader.specs.Packets.{BlockBytes}
use Rattle.profile_reader.specs.Reads.{BlockRead, BlockMeans, cell_of_known, cells_of}
use Rattle.profile_reader.specs.Spelled.{decoding_with}

-- the law of the planes that are put together, as it comes from below
abbrev pub Assembled : Type 0
Assembled =
    (g : Geometry) (d : Known) (cells : BlockId → List Known) (id : BlockId) → IsBlock g id →
    length (cells id) ≡ (block_of g id).height * (block_of g id).width →
    cells_in d g.width (block_of g id) (plane_of d g id.component cells) ≡ cells id

three : {A : Type 0} (f : ℕ → A) (d : A) (c : ℕ) → c < 3 →
    get_or (f 0 ∷ f 1 ∷ f 2 ∷ []) c d ≡ f c
three f d zero below = refl
three f d (suc zero) below = refl
three f d (suc (suc zero)) below = refl
three f d (suc (suc (suc c))) below = absurd (omega (arith, below))

-- the plane of a component
pub plane_again : (g : Geometry) (steps : StepSizes) (given : BlockId → BlockBytes)
    (reads : BlockId → BlockRead) (cells : BlockId → List Known) (c : ℕ) → c < 3 →
    get_or (decoding_with g steps given reads cells).planes c []
    ≡ plane_of zero_known g c cells
plane_again g steps given reads cells c below = three (λ k. plane_of zero_known g k cells) [] c
    below

pub plane_length : (g : Geometry) (c : ℕ) (cells : BlockId → List Known) →
    length (plane_of zero_known g c cells) ≡ g.height * g.width
unfolding plane_of
plane_length g c cells =
    length-map-range_with_len
    (λ n. cell_at_place zero_known g c cells (n % g.width) (n / g.width)) 0 (g.height * g.width)

-- the cells of a block that have a meaning are as many as its rectangle has places
pub meaning_length : (g : Geometry) (most : ℕ) (b : BlockId) (written : BlockBytes)
    (read : BlockRead)
    (cells : List Known) → BlockMeans g most b written read cells →
    length cells ≡ (block_of g b).height * (block_of g b).width
meaning_length g most b written read cells means =
    let long = means.decoded.fits.long in
    sym (length-map cells cell_of_known) ∙ sym (length-map (map cell_of_known cells) coef_of)
    ∙ long ∙ omega arith

-- the cells of a block are those that were given
pub cells_again : Assembled → (g : Geometry) (steps : StepSizes) (given : BlockId → BlockBytes)
    (reads : BlockId → BlockRead) (cells : BlockId → List Known) (most : ℕ) (b : BlockId) →
    IsBlock g b → BlockMeans g most b (given b) (reads b) (cells b) →
    cells_of g (decoding_with g steps given reads cells) b ≡ cells b
cells_again assembled g steps given reads cells most b is means =
    ap (cells_in zero_known g.width (block_of g b))
    (plane_again g steps given reads cells b.component is.component)
    ∙ assembled g zero_known cells b is
    (meaning_length g most b (given b) (reads b) (cells b) means)
