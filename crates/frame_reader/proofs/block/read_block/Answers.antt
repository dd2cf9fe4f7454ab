use Rattle.std.proofs.Common.{◌≡◌, ap, sym, ◌∙◌, get_or}
use Rattle.band_geometry.specs.Bands.{block_of}
use Rattle.codeblock_views.specs.declared.known.KnownPlane.{KnownPlane}
use Rattle.frame_reader.proofs.Apart.{cells_kept, outside_again}
use Rattle.frame_reader.proofs.block.read_block.Goals as goal

-- what the plane holds once the view of the block is dropped
plane_is : (c : goal.After-plane-1) → c.plane-1.given.0 ≡ c.read.new.out.plane.now
plane_is c =
    c.plane-1.given.1 (sym c.of-block.ensures.same_reference ∙ sym c.read.ensures.same_reference)

pub returns-clause-others : goal.returns-clause-others
returns-clause-others c b is component other =
    cells_kept c.args.geometry.now b c.args.id c.args.plane.now.cells.items _ is
    c.requires.exists component other
    (λ k d out. ap (λ (p : KnownPlane). get_or p.cells.items k d) (plane_is c)
    ∙ c.read.ensures.outside k d
    (outside_again _ c.args.geometry.now.width _ (block_of c.args.geometry.now c.args.id) k
    (ap (λ (p : KnownPlane). p.width) c.of-block.ensures.plane ∙ c.requires.width)
    (c.of-block.ensures.rect ∙ c.block.ensures.value) out)
    ∙ ap (λ (p : KnownPlane). get_or p.cells.items k d) c.of-block.ensures.plane)

pub returns-clause-width : goal.returns-clause-width
returns-clause-width c =
    ap (λ (p : KnownPlane). p.width) (plane_is c)
    ∙ c.read.ensures.size.0 ∙ ap (λ (p : KnownPlane). p.width) c.of-block.ensures.plane

pub returns-clause-height : goal.returns-clause-height
returns-clause-height c =
    ap (λ (p : KnownPlane). p.height) (plane_is c)
    ∙ c.read.ensures.size.1 ∙ ap (λ (p : KnownPlane). p.height) c.of-block.ensures.plane
