-- What the last pass leaves.
use Rattle.std.proofs.Common.{arith}
use Rattle.demand_blocks.specs.Blocks.{block_coefs, block_shape}
use Rattle.demand_blocks.proofs.Points.{last_anywhere}
use Rattle.demand_blocks.proofs.block.DemandBlock.distortion.Goals as goal

pub returns : goal.returns
returns c =
    let b = c.args.self.now in
    let other = c.if-k-eq0.false in
    let last = last_anywhere (block_coefs b) (block_shape b) b.start c.args.k b.passes.items
    c.last_of.result b.first (omega (arith, other)) c.requires c.last_of.ensures in
    last.distortion_is
