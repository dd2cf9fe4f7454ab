use Rattle.std.proofs.Common.{ℕ, ◌≡◌, ◌+◌, ◌<◌, suc, List, length, arith, refl, subst, sym}
use Rattle.std.proofs.Common.{◌∙◌}
use Rattle.band_geometry.specs.Numbering.{all_blocks}
use Rattle.frame_choice.specs.Blocks.{block_numbered}
use Rattle.frame_choice.specs.Present.{ArePresentBelow}
use Rattle.frame_choice.specs.PriceLaws.{planes_in}
use Rattle.frame_choice.specs.declared.present.PresentBlock.{PresentBlock}
use Rattle.frame_choice.proofs.Demanding.{planes_are, seen_at}
use Rattle.frame_choice.proofs.Taking.{present_more}
use Rattle.frame_choice.proofs.present.none_present.Goals as goal

pub block-requires : goal.block-requires
block-requires c =
    let long = c.requires.long in
    let test = c.loop-n-test.true in
    let count = c.blocks-n-end.ensures in
    omega (arith, long, test, count)

pub loop-n-preserved : goal.loop-n-preserved
loop-n-preserved c =
    let f = c.args.frame.now in
    let g = f.geometry.now in
    let planes = planes_in f in
    let n = c.loop-n.n in
    let test = c.loop-n-test.true in
    let count = c.blocks-n-end.ensures in
    let below : n < length (all_blocks g) = omega (arith, test, count) in
    let block = c.block.result.now in
    let seen = seen_at g planes c.args.blocks.now.blocks.items n block c.requires below
    c.block.ensures in
    let more : suc n ≡ n + 1 = omega arith in
    subst (λ (m : ℕ). ArePresentBelow g f.steps.now planes (λ b. 0) m c.push.new.self.items) more
    (subst (λ (xs : List PresentBlock). ArePresentBelow g f.steps.now planes (λ b. 0) (suc n) xs)
    (sym c.in_ok-push.ensures.items)
    (present_more g f.steps.now planes n c.loop-n.present.items _ c.loop-n.invariant
    (record {
      bytes = refl;
      planes_are = c.planes-planes.ensures ∙ planes_are g planes (block_numbered g n) block seen;
    })))
