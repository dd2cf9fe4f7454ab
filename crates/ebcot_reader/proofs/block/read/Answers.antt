use Rattle.std.proofs.Common.{ℕ, ◌≡◌, List, refl, sym}
use Rattle.ebcot_contexts.specs.Contexts.{Shape}
use Rattle.ebcot_contexts.specs.Meaning.{read_block}
use Rattle.ebcot_reader.specs.Results.{cells_of, shape_of}
use Rattle.ebcot_reader.proofs.Outcomes.{block_long, block_small, means_of, only_of, back_of}
use Rattle.ebcot_reader.proofs.block.read.Goals as goal

-- the cells that are set are those that the definition reads
shown : (g : goal.After-show) → cells_of g.show.new.out
    ≡ read_block g.args.bytes.now (shape_of g.args.orient g.args.planes g.args.out.now)
    g.args.passes
shown g =
    let bytes : List ℕ = g.args.bytes.now in
    let s : Shape = shape_of g.args.orient g.args.planes g.args.out.now in
    let k : ℕ = g.args.passes in
    let few = g.requires.passes in
    g.show.ensures.cells (read_block bytes s k) (block_long bytes s k few)
    (g.read_passes.ensures.known s refl (sym g.width-width.ensures) (sym g.height-height.ensures)
    refl)
    (g.read_passes.ensures.tops s refl (sym g.width-width.ensures) (sym g.height-height.ensures)
    refl)
    (block_small bytes s k few g.requires.planes)

pub returns-clause-means : goal.returns-clause-means
returns-clause-means g =
    means_of g.args.bytes.now (shape_of g.args.orient g.args.planes g.args.out.now) g.args.passes
    (cells_of g.show.new.out) g.requires.passes (shown g)

pub returns-clause-only : goal.returns-clause-only
returns-clause-only g =
    only_of g.args.bytes.now (shape_of g.args.orient g.args.planes g.args.out.now) g.args.passes
    (cells_of g.show.new.out) (shown g)

pub returns-clause-read_back : goal.returns-clause-read_back
returns-clause-read_back g =
    back_of g.args.bytes.now (shape_of g.args.orient g.args.planes g.args.out.now) g.args.passes
    (cells_of g.show.new.out) (shown g)
