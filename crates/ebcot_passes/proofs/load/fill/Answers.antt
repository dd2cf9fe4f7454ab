use Rattle.std.proofs.Common.{ℕ, ◌≤◌, List, arith}
use Rattle.dz_quantiser.specs.Coefficient.{Coefficient}
use Rattle.ebcot_passes.proofs.Loading.{loaded_block}
use Rattle.ebcot_passes.proofs.load.fill.Goals as goal

pub returns : goal.returns
returns g c =
    let w : ℕ = g.C.Coefs.columns c.args.block.now in
    let h : ℕ = g.C.Coefs.rows c.args.block.now in
    let cells : List Coefficient = g.C.Coefs.cells c.args.block.now in
    let above : h ≤ c.loop-y.y = omega (arith, c.loop-y-test.false, c.height-y-end.ensures) in
    loaded_block w h c.loop-y.y cells c.loop-y.grid above (g.met.C.Coefs.whole c.args.block.now)
    (g.met.C.Coefs.small c.args.block.now) c.loop-y.invariant
