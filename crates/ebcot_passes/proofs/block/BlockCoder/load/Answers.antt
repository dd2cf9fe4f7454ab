use Rattle.std.proofs.Common.{ℕ, Bool, List, ◌∙◌, sym, subst}
use Rattle.dz_quantiser.specs.Coefficient.{Coefficient}
use Rattle.ebcot_contexts.specs.Meaning.{IsBlock}
use Rattle.distortion_sums.specs.Coefs.{coefs_of}
use Rattle.ebcot_passes.specs.Coding.{AreCoefs}
use Rattle.ebcot_passes.proofs.Loading.{planes_few, block_fits}
use Rattle.ebcot_passes.proofs.block.BlockCoder.load.Goals as goal

pub begin-requires-clause-few_planes : goal.begin-requires-clause-few_planes
begin-requires-clause-few_planes g c =
    planes_few (g.C.Coefs.cells c.args.block.now) c.from.result
    (c.from.ensures ∙ c.requires.planes)
    (g.met.C.Coefs.small c.args.block.now)

pub returns-clause-loads : goal.returns-clause-loads
returns-clause-loads g c = λ s buffer orient wide high planes.
    let cells : List Coefficient = g.C.Coefs.cells c.args.block.now in
    let coefs : List (ℕ × Bool) = coefs_of cells in
    let fits : IsBlock coefs s =
    block_fits cells s (g.C.Coefs.rows c.args.block.now) (g.C.Coefs.columns c.args.block.now)
    (planes ∙ c.requires.planes) (g.met.C.Coefs.whole c.args.block.now) wide high in
    c.begin.ensures.begins coefs s buffer orient (wide ∙ sym c.width-width.ensures)
    (high ∙ sym c.height-height.ensures) (planes ∙ sym c.from.ensures)
    (subst (λ (w : ℕ). AreCoefs w c.height-height.result coefs c.fill.new.grid)
    (sym c.width-width.ensures)
    (subst (λ (h : ℕ). AreCoefs (g.C.Coefs.columns c.args.block.now) h coefs c.fill.new.grid)
    (sym c.height-height.ensures) c.fill.ensures))
    fits
    (c.undecoded_distortion-start.ensures s wide high (planes ∙ c.requires.planes))
