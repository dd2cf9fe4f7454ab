use Rattle.std.proofs.Common.{◌≡◌, ◌∙◌, ◌+◌, ◌++◌, ℕ, List, length, get_or, arith, sym, ap}
use Rattle.band_geometry.specs.Numbering.{all_blocks}
use Rattle.dz_quantiser.specs.Bands.{band_planes}
use Rattle.profile_reader.specs.Chosen.{block_coefs, block_shape, chosen, written_of}
use Rattle.coded_blocks.specs.Codes.{written_code}
use Rattle.coded_blocks.proofs.NextCode.{all_codes, more_codes, no_codes}
use Rattle.coded_blocks.proofs.blocks.CodedBlocks.chosen.Goals as goal

pub loop-n-init : goal.loop-n-init
loop-n-init c = record {
  count = c.new-codes.ensures;
  below = λ g steps planes are.
      no_codes g (written_code g steps planes c.args.counts.now) c.new-codes.result;
}

pub loop-n-preserved : goal.loop-n-preserved
unfolding chosen
loop-n-preserved c =
    let so_far = c.loop-n.invariant in
    let n = c.loop-n.n in
    let counts = c.args.counts.now in
    record {
      count = c.in_ok-push.ensures.count ∙ ap (λ (k : ℕ). k + 1) so_far.count;
      below = λ g steps planes are.
          more_codes g (written_code g steps planes counts) n c.loop-n.codes c.push.new.self
          so_far.count c.in_ok-push.ensures.before
          (λ b is number.
          let code : ℕ → List ℕ = λ k. (written_of (band_planes steps b.res b.orient)
          (block_coefs g planes b) (block_shape g planes b) k).code in
          c.in_ok-push.ensures.next ∙ c.as_slice.ensures.value
          ∙ c.in_ok-push_code.ensures g steps planes b are is number
          ∙ ap (λ (l : List ℕ). l ++ code (get_or counts n 0)) c.clear.ensures.items
          ∙ ap (λ (m : ℕ). code (get_or counts m 0)) (sym number))
          (so_far.below g steps planes are);
    }

pub returns : goal.returns
returns c = λ g steps planes are.
    let so_far = c.loop-n.invariant in
    let written = written_code g steps planes c.args.counts.now in
    let whole : c.loop-n.n ≡ length (all_blocks g) = omega (arith, are.count) in
    record {
      count = so_far.count ∙ whole;
      each = all_codes g written c.loop-n.n c.loop-n.codes whole (so_far.below g steps planes are);
    }
