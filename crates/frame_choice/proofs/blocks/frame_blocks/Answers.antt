use Rattle.std.proofs.Common.{ℕ, ◌≡◌, ◌+◌, suc, List, arith, length, subst, sym}
use Rattle.band_geometry.specs.Numbering.{all_blocks}
use Rattle.band_geometry.specs.declared.places.BlockId.{BlockId}
use Rattle.demand_blocks.specs.declared.block.DemandBlock.{DemandBlock}
use Rattle.frame_choice.specs.Demanded.{AreDemandedBelow, IsSeenAs}
use Rattle.frame_choice.specs.NumberLaws.{found_is}
use Rattle.frame_choice.specs.PriceLaws.{planes_in}
use Rattle.frame_choice.proofs.Demanding.{none_demanded, one_demanded}
use Rattle.frame_choice.proofs.FewBlocks.{few_blocks}
use Rattle.frame_choice.proofs.blocks.frame_blocks.Goals as goal

pub loop-n-init : goal.loop-n-init
loop-n-init c =
    let f = c.args.frame.now in
    subst (λ (xs : List DemandBlock). AreDemandedBelow f.geometry.now (planes_in f) 0 xs)
    (sym c.new-blocks.ensures.items) (none_demanded f.geometry.now (planes_in f))

pub loop-n-preserved : goal.loop-n-preserved
loop-n-preserved c =
    let f = c.args.frame.now in
    let g = f.geometry.now in
    let n = c.loop-n.n in
    let block = c.in_ok-block.block in
    let more : suc n ≡ n + 1 = omega arith in
    subst (λ (m : ℕ). AreDemandedBelow g (planes_in f) m c.push.new.self.items) more
    (subst (λ (xs : List DemandBlock). AreDemandedBelow g (planes_in f) (suc n) xs)
    (sym c.in_ok-push.ensures.items)
    (one_demanded g (planes_in f) n c.loop-n.blocks.items block c.loop-n.invariant
    (subst (λ (b : BlockId). IsSeenAs g (planes_in f) b block.view block.orient)
    (sym (found_is g n c.block_id-id.result c.block_id-id.ensures.value)) c.in_ok-block.ensures)))

pub new-requires : goal.new-requires
new-requires c =
    let g = c.args.frame.now.geometry.now in
    let few = few_blocks g c.args.frame.now.levels in
    let long = c.loop-n.invariant.long in
    let end = c.loop-n.auto.n-end in
    let count = c.blocks-n-end.ensures in
    omega (arith, few, long, end, count)

pub returns : goal.returns
returns c =
    let f = c.args.frame.now in
    let g = f.geometry.now in
    let test = c.loop-n-test.false in
    let end = c.loop-n.auto.n-end in
    let count = c.blocks-n-end.ensures in
    let whole : c.loop-n.n ≡ length (all_blocks g) = omega (arith, test, end, count) in
    subst (λ (xs : List DemandBlock). AreDemandedBelow g (planes_in f) (length (all_blocks g)) xs)
    (sym c.in_ok-made.ensures)
    (subst (λ (m : ℕ). AreDemandedBelow g (planes_in f) m c.loop-n.blocks.items) whole
    c.loop-n.invariant)
