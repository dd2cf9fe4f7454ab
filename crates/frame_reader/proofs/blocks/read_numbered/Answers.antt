use Rattle.std.proofs.Common.{rules, ◌≡◌, sym, ◌∙◌, List, [], ◌∷◌}
use Rattle.band_geometry.specs.Bands.{block_of}
use Rattle.codeblock_views.specs.declared.known.Known.{Known}
use Rattle.codeblock_views.specs.declared.known.KnownPlane.{KnownPlane}
use Rattle.frame_reader.proofs.Decoding.{kept_first, kept_second, kept_third, span_fits, span_means}
use Rattle.frame_reader.proofs.Decoding.{at_first, at_second, at_third, not_numbered}
use Rattle.frame_reader.proofs.blocks.read_numbered.Goals as goal

abbrev three : KnownPlane → KnownPlane → KnownPlane → List (List Known)
three c0 c1 c2 = c0.cells.items ∷ c1.cells.items ∷ c2.cells.items ∷ []

pub read_block-requires-clause-fits : goal.read_block-requires-clause-fits
read_block-requires-clause-fits c =
    span_fits c.args.bytes.now c.args.found.now c.args.n c.block_id-id.result
    c.index-span.result.now c.requires.can c.block_id-id.ensures.value c.block_id-id.ensures.exists
    c.index-span.ensures

pub read_block-requires-in-1-clause-fits : goal.read_block-requires-in-1-clause-fits
read_block-requires-in-1-clause-fits c =
    span_fits c.args.bytes.now c.args.found.now c.args.n c.block_id-id.result
    c.index-span.result.now c.requires.can c.block_id-id.ensures.value c.block_id-id.ensures.exists
    c.index-span.ensures

pub read_block-requires-in_default-clause-fits : goal.read_block-requires-in_default-clause-fits
read_block-requires-in_default-clause-fits c =
    span_fits c.args.bytes.now c.args.found.now c.args.n c.block_id-id.result
    c.index-span.result.now c.requires.can c.block_id-id.ensures.value c.block_id-id.ensures.exists
    c.index-span.ensures

pub returns-in-0-clause-means : goal.returns-in-0-clause-means
returns-in-0-clause-means c b there =
    span_means c.args.bytes.now c.args.found.now c.args.n c.block_id-id.result b
    c.index-span.result.now c.read_block.result
    (three c.read_block.new.plane c.args.planes.now.c1 c.args.planes.now.c2) _ c.requires.can c.block_id-id.ensures.value there
    c.index-span.ensures
    (at_first c.block_id-id.result.component c.read_block.new.plane.cells.items
    c.args.planes.now.c1.cells.items c.args.planes.now.c2.cells.items c.in-0.is)
    c.read_block.ensures.means

pub returns-in-0-clause-others : goal.returns-in-0-clause-others
returns-in-0-clause-others c b is other =
    kept_first c.args.found.now.geometry.width (block_of c.args.found.now.geometry b) b.component
    c.read_block.new.plane.cells.items c.args.planes.now.c0.cells.items
    c.args.planes.now.c1.cells.items c.args.planes.now.c2.cells.items
    (λ first. c.read_block.ensures.others b is (first ∙ sym c.in-0.is)
    (not_numbered c.args.found.now.geometry c.args.n c.block_id-id.result b
    c.block_id-id.ensures.value other))

pub returns-in-1-clause-means : goal.returns-in-1-clause-means
returns-in-1-clause-means c b there =
    span_means c.args.bytes.now c.args.found.now c.args.n c.block_id-id.result b
    c.index-span.result.now c.read_block-in-1.result
    (three c.args.planes.now.c0 c.read_block-in-1.new.plane c.args.planes.now.c2) _ c.requires.can
    c.block_id-id.ensures.value there c.index-span.ensures
    (at_second c.block_id-id.result.component c.args.planes.now.c0.cells.items
    c.read_block-in-1.new.plane.cells.items c.args.planes.now.c2.cells.items c.in-1.is)
    c.read_block-in-1.ensures.means

pub returns-in-1-clause-others : goal.returns-in-1-clause-others
returns-in-1-clause-others c b is other =
    kept_second c.args.found.now.geometry.width (block_of c.args.found.now.geometry b) b.component
    c.read_block-in-1.new.plane.cells.items c.args.planes.now.c1.cells.items
    c.args.planes.now.c0.cells.items c.args.planes.now.c2.cells.items
    (λ second. c.read_block-in-1.ensures.others b is (second ∙ sym c.in-1.is)
    (not_numbered c.args.found.now.geometry c.args.n c.block_id-id.result b
    c.block_id-id.ensures.value other))

two : (c : goal.After-read_block-in_default) → c.block_id-id.result.component ≡ 2
two c = search rules

pub returns-in_default-clause-means : goal.returns-in_default-clause-means
returns-in_default-clause-means c b there =
    span_means c.args.bytes.now c.args.found.now c.args.n c.block_id-id.result b
    c.index-span.result.now c.read_block-in_default.result
    (three c.args.planes.now.c0 c.args.planes.now.c1 c.read_block-in_default.new.plane) _
    c.requires.can
    c.block_id-id.ensures.value there c.index-span.ensures
    (at_third c.block_id-id.result.component c.args.planes.now.c0.cells.items
    c.args.planes.now.c1.cells.items c.read_block-in_default.new.plane.cells.items
    (two c))
    c.read_block-in_default.ensures.means

pub returns-in_default-clause-others : goal.returns-in_default-clause-others
returns-in_default-clause-others c b is other =
    kept_third c.args.found.now.geometry.width (block_of c.args.found.now.geometry b) b.component
    c.read_block-in_default.new.plane.cells.items c.args.planes.now.c2.cells.items
    c.args.planes.now.c0.cells.items c.args.planes.now.c1.cells.items
    (λ third. c.read_block-in_default.ensures.others b is (third ∙ sym (two c))
    (not_numbered c.args.found.now.geometry c.args.n c.block_id-id.result b
    c.block_id-id.ensures.value other))
