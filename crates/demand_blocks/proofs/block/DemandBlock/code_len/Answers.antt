-- The length of the ended code at the last mark.
use Rattle.std.proofs.Common.{length, ap, ◌∙◌, arith}
use Rattle.demand_blocks.specs.Blocks.{block_coefs, block_shape}
use Rattle.demand_blocks.proofs.Points.{code_is, last_anywhere}
use Rattle.demand_blocks.proofs.block.DemandBlock.code_len.Goals as goal

pub returns : goal.returns
returns c =
    let b = c.args.self.now in
    let other = c.if-k-eq0.false in
    let last = last_anywhere (block_coefs b) (block_shape b) b.start c.args.k b.passes.items
    c.last_of.result b.first (omega (arith, other)) c.requires c.last_of.ensures in
    c.ended_len.ensures.code _ _ last.mark
    ∙ ap length (code_is (block_coefs b) (block_shape b) c.args.k (omega (arith, other)))
