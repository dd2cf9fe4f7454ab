use Rattle.std.proofs.Common.{◌≢◌, ◌≤◌, ◌∙◌, ℕ, arith, ap}
use Rattle.dz_quantiser.specs.Bands.{band_planes}
use Rattle.profile_reader.specs.Chosen.{block_coefs, block_shape}
use Rattle.coded_blocks.specs.Coded.{row_at}
use Rattle.coded_blocks.proofs.Looking.{coded_at, last_at, code_of, appended}
use Rattle.coded_blocks.proofs.blocks.CodedBlocks.push_code.Goals as goal

some_passes : (k : ℕ) → k ≢ 0 → 1 ≤ k
some_passes k not = omega (arith, not)

pub returns : goal.returns
returns c = λ g steps planes b are is number.
    let s = c.args.self.now in
    let row = row_at s c.args.n in
    let some = some_passes c.args.k c.if-k-eq0.false in
    let coded = coded_at g steps planes b c.args.n s are is number c.requires.block in
    let last = last_at (block_coefs g planes b) (block_shape g planes b)
    (band_planes steps b.res b.orient) row s.passes.items s.bytes.items c.args.k
    c.pass-pass.result coded some c.requires.passes c.pass-pass.ensures.value in
    appended _ _ _ s.bytes.items c.as_slice.result.now c.ending-end.result.tail.items
    c.as_slice-2.result.now _ row.at c.row-at.result.at c.ending-end.result.kept
    c.in_ok-extend_from_slice.ensures.items c.in_ok-extend_from_slice-2.ensures.items
    (ap (λ r. r.at) c.row-at.ensures.value) c.as_slice.ensures.value c.as_slice-2.ensures.value
    (c.ending-end.ensures.code _ _ last.mark
    ∙ code_of (band_planes steps b.res b.orient) (block_coefs g planes b) (block_shape g planes b)
    c.args.k some)
