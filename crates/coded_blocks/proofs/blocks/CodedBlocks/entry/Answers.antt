use Rattle.std.proofs.Common.{◌∙◌, arith, ap}
use Rattle.dz_quantiser.specs.Bands.{band_planes}
use Rattle.profile_reader.specs.Chosen.{block_coefs, block_shape}
use Rattle.coded_blocks.specs.Coded.{row_at}
use Rattle.coded_blocks.proofs.Looking.{coded_at, last_at, entry_of, can_be_written}
use Rattle.coded_blocks.proofs.blocks.CodedBlocks.entry.Goals as goal

pub returns-clause-coded : goal.returns-clause-coded
returns-clause-coded c = λ g steps planes b are is number.
    let s = c.args.self.now in
    let coded = coded_at g steps planes b c.args.n s are is number c.requires.block in
    let last = last_at (block_coefs g planes b) (block_shape g planes b)
    (band_planes steps b.res b.orient) (row_at s c.args.n) s.passes.items s.bytes.items c.args.k
    c.pass-pass.result coded (omega arith) c.requires.passes c.pass-pass.ensures.value in
    entry_of (band_planes steps b.res b.orient) (block_coefs g planes b) (block_shape g planes b)
    c.args.k c.row.result.zero_planes c.ended_len.result (omega arith)
    (ap (λ r. r.zero_planes) c.row.ensures.value ∙ coded.zero_planes)
    (c.ended_len.ensures.code _ _ last.mark)

pub returns-clause-can_be_written : goal.returns-clause-can_be_written
returns-clause-can_be_written c = λ g steps planes b are is number included.
    let s = c.args.self.now in
    let coded = coded_at g steps planes b c.args.n s are is number c.requires.block in
    let last = last_at (block_coefs g planes b) (block_shape g planes b)
    (band_planes steps b.res b.orient) (row_at s c.args.n) s.passes.items s.bytes.items c.args.k
    c.pass-pass.result coded (omega arith) c.requires.passes c.pass-pass.ensures.value in
    can_be_written (block_coefs g planes b) (block_shape g planes b)
    (band_planes steps b.res b.orient) (row_at s c.args.n) s.passes.items s.bytes.items c.args.k
    c.row.result.zero_planes c.ended_len.result coded (ap (λ r. r.zero_planes) c.row.ensures.value)
    (omega arith) c.requires.passes c.ended_len.ensures.some
    (omega (arith, last.few, c.ended_len.ensures.two_more))
