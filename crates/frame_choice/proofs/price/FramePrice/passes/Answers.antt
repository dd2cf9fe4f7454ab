use Rattle.std.proofs.Common.{◌≡◌, ◌<◌, ap, get_or, length, arith}
use Rattle.frame_choice.specs.Blocks.{block_numbered}
use Rattle.frame_choice.specs.NumberLaws.{is_block}
use Rattle.frame_choice.specs.PriceLaws.{planes_in}
use Rattle.frame_choice.specs.declared.present.PresentBlock.{PresentBlock}
use Rattle.frame_choice.proofs.HullLemmas.{usable_few, within_band}
use Rattle.frame_choice.proofs.Taking.{most_at, no_block, row_is}
use Rattle.frame_choice.proofs.price.FramePrice.passes.Goals as goal

pub overflow_mul-planes : goal.overflow_mul-planes
overflow_mul-planes c =
    let s = c.args.self.now in
    let f = s.frame in
    let g = f.geometry.now in
    let n = c.args.block in
    let b = block_numbered g n in
    let block = is_block g n c.requires in
    let few = usable_few g.levels f.steps.now b.res b.orient f.usable block.band.res
    block.band.orient in
    let below = within_band f b block in
    let is = (s.present_are.each n c.requires).planes_are in
    let long = s.present_are.long in
    let inside = c.requires in
    let within : n < length s.present.items = omega (arith, inside, long) in
    let row = c.index.result.now in
    let same : row ≡ get_or s.present.items n no_block =
    row_is s.present.items n row within c.index.ensures in
    let of_row = ap (λ (p : PresentBlock). p.planes) same in
    omega (arith, few, below, is, of_row)

pub returns : goal.returns
returns c =
    let s = c.args.self.now in
    let f = s.frame in
    let n = c.args.block in
    let most = most_at f.geometry.now (planes_in f) n 0 c.requires in
    let is = (s.present_are.each n c.requires).planes_are in
    let long = s.present_are.long in
    let inside = c.requires in
    let within : n < length s.present.items = omega (arith, inside, long) in
    let row = c.index.result.now in
    let same : row ≡ get_or s.present.items n no_block =
    row_is s.present.items n row within c.index.ensures in
    let of_row = ap (λ (p : PresentBlock). p.planes) same in
    omega (arith, most, is, of_row)
