use Rattle.std.proofs.Common.{◌≡◌, ◌∙◌, sym, ap, subst, refl, List}
use Rattle.codeblock_views.specs.Magnitudes.{block_planes}
use Rattle.distortion_sums.specs.Coefs.{coefs_of}
use Rattle.distortion_sums.specs.Distortion.{distortion}
use Rattle.dz_quantiser.specs.Coefficient.{Coefficient}
use Rattle.profile_reader.specs.Chosen.{block_shape}
use Rattle.ebcot_passes.specs.Code.{IsBlockCode}
use Rattle.coded_blocks.proofs.Planes.{seen}
use Rattle.coded_blocks.proofs.frame.code_block.Goals as goal

pub returns-clause-planes : goal.returns-clause-planes
returns-clause-planes c = λ planes cells.
    c.code.ensures.planes
    ∙ ap block_planes (seen c.args.geometry.now planes c.args.id c.args.plane.now c.of-block.result
    c.of-block.ensures.plane (c.of-block.ensures.rect ∙ c.block.ensures.value) c.requires.width
    cells)

pub returns-clause-codes : goal.returns-clause-codes
returns-clause-codes c = λ planes cells.
    let s = block_shape c.args.geometry.now planes c.args.id in
    let rect = c.of-block.ensures.rect ∙ c.block.ensures.value in
    let same = seen c.args.geometry.now planes c.args.id c.args.plane.now c.of-block.result
    c.of-block.ensures.plane rect c.requires.width cells in
    let planes_are = c.code.ensures.planes ∙ ap block_planes same in
    subst (λ (qs : List Coefficient). IsBlockCode (coefs_of qs) s c.code.result.passes.items
    c.code.new.bytes) same
    (c.code.ensures.codes s refl (sym (ap (λ r. r.width) rect)) (sym (ap (λ r. r.height) rect))
    (sym planes_are))

pub returns-clause-start : goal.returns-clause-start
returns-clause-start c = λ planes cells.
    let s = block_shape c.args.geometry.now planes c.args.id in
    let rect = c.of-block.ensures.rect ∙ c.block.ensures.value in
    let same = seen c.args.geometry.now planes c.args.id c.args.plane.now c.of-block.result
    c.of-block.ensures.plane rect c.requires.width cells in
    let planes_are = c.code.ensures.planes ∙ ap block_planes same in
    subst (λ (qs : List Coefficient). c.code.result.start ≡ distortion (coefs_of qs) s 0) same
    (c.code.ensures.start s refl (sym (ap (λ r. r.width) rect)) (sym (ap (λ r. r.height) rect))
    (sym planes_are))
