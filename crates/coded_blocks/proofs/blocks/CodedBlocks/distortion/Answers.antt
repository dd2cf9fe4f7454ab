use Rattle.std.proofs.Common.{arith}
use Rattle.dz_quantiser.specs.Bands.{band_planes}
use Rattle.profile_reader.specs.Chosen.{block_coefs, block_shape}
use Rattle.coded_blocks.specs.Coded.{row_at}
use Rattle.coded_blocks.proofs.Looking.{coded_at, last_at}
use Rattle.coded_blocks.proofs.blocks.CodedBlocks.distortion.Goals as goal

pub returns-else-k-eq0 : goal.returns-else-k-eq0
returns-else-k-eq0 c = λ g steps planes b are is number.
    let s = c.args.self.now in
    let coded = coded_at g steps planes b c.args.n s are is number c.requires.block in
    let last = last_at (block_coefs g planes b) (block_shape g planes b)
    (band_planes steps b.res b.orient) (row_at s c.args.n) s.passes.items s.bytes.items c.args.k
    c.pass.result coded (omega arith) c.requires.passes c.pass.ensures.value in
    last.distortion_is
