use Rattle.std.proofs.Common.{◌≡◌, ◌<◌, ◌+◌, ◌∙◌, ◌++◌, ℕ, List, length, get_or, arith, sym, ap}
use Rattle.std.proofs.Common.{subst}
use Rattle.band_geometry.specs.Numbering.{all_blocks}
use Rattle.coded_blocks.specs.Codes.{written_code}
use Rattle.coded_blocks.proofs.NextCode.{all_codes, more_codes, no_codes}
use Rattle.demand_blocks.specs.Points.{code_of}
use Rattle.demand_blocks.specs.Views.{coefs_in, shape_in}
use Rattle.demand_blocks.specs.declared.block.DemandBlock.{DemandBlock}
use Rattle.frame_choice.specs.Blocks.{block_numbered}
use Rattle.frame_choice.specs.Demanded.{AreCodedUpTo, AreDemanded}
use Rattle.frame_choice.specs.PriceLaws.{planes_in}
use Rattle.frame_choice.proofs.Demanding.{chosen_code, passes_in, there}
use Rattle.frame_choice.proofs.blocks.codes_of.Goals as goal

pub loop-n-init : goal.loop-n-init
loop-n-init c =
    let f = c.args.frame.now in
    record {
      demanded = c.requires.blocks;
      coded = c.requires.coded;
      count = c.new-codes.ensures;
      below = no_codes f.geometry.now
          (written_code f.geometry.now f.steps.now (planes_in f) c.args.counts.now)
          c.new-codes.result;
    }

pub push_code-requires-clause-block : goal.push_code-requires-clause-block
push_code-requires-clause-block c =
    let long = c.loop-n.invariant.demanded.long in
    let test = c.loop-n-test.true in
    let count = c.blocks-n-end.ensures in
    omega (arith, long, test, count)

pub push_code-requires-clause-passes : goal.push_code-requires-clause-passes
push_code-requires-clause-passes c = λ d at.
    let n = c.loop-n.n in
    let test = c.loop-n-test.true in
    let end = c.blocks-n-end.ensures in
    passes_in c.loop-n.blocks.blocks.items n (get_or c.args.counts.now n 0) d at
    (c.loop-n.invariant.coded n (omega (arith, test, end)))

pub loop-n-preserved : goal.loop-n-preserved
loop-n-preserved c =
    let f = c.args.frame.now in
    let g = f.geometry.now in
    let planes = planes_in f in
    let counts = c.args.counts.now in
    let so_far = c.loop-n.invariant in
    let n = c.loop-n.n in
    let blocks = c.loop-n.blocks.blocks.items in
    let test = c.loop-n-test.true in
    let end = c.blocks-n-end.ensures in
    let below : n < length (all_blocks g) = omega (arith, test, end) in
    let is = there g planes (block_numbered g n) _ (so_far.demanded.each n below) in
    let d = is.0 in
    let of_block = λ (k : ℕ). code_of (coefs_in d.view) (shape_in d.view d.orient d.planes) k in
    let same = c.push_code.ensures.blocks in
    record {
      demanded = subst (λ (xs : List DemandBlock). AreDemanded g planes xs) (sym same)
          so_far.demanded;
      coded = subst (λ (xs : List DemandBlock). AreCodedUpTo g (length (all_blocks g))
          (λ k. get_or counts k 0) xs) (sym same) so_far.coded;
      count = c.in_ok-push.ensures.count ∙ ap (λ (k : ℕ). k + 1) so_far.count;
      below = more_codes g (written_code g f.steps.now planes counts) n c.loop-n.codes
          c.push.new.self so_far.count c.in_ok-push.ensures.before
          (λ b block number. c.in_ok-push.ensures.next ∙ c.as_slice.ensures.value
          ∙ c.in_ok-push_code.ensures.code d is.1
          ∙ ap (λ (l : List ℕ). l ++ of_block (get_or counts n 0)) c.clear.ensures.items
          ∙ chosen_code g f.steps.now planes counts blocks n d so_far.demanded below is.1 b block
          number)
          so_far.below;
    }

pub returns : goal.returns
returns c =
    let f = c.args.frame.now in
    let g = f.geometry.now in
    let so_far = c.loop-n.invariant in
    let test = c.loop-n-test.false in
    let end = c.loop-n.auto.n-end in
    let count = c.blocks-n-end.ensures in
    let whole : c.loop-n.n ≡ length (all_blocks g) = omega (arith, test, end, count) in
    record {
      count = so_far.count ∙ whole;
      each = all_codes g (written_code g f.steps.now (planes_in f) c.args.counts.now) c.loop-n.n
          c.loop-n.codes whole so_far.below;
    }
