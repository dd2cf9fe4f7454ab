-- The passes are the block's first ones, and what is kept is where its coder was left.
use Rattle.std.proofs.Common.{ℕ, ◌≤◌, ◌≡◌, List, length, take, ap, ◌∙◌, arith}
use Rattle.std.proofs.lemmas.List.{length-take-le}
use Rattle.demand_blocks.specs.Blocks.{block_coefs, block_shape}
use Rattle.demand_blocks.proofs.Resuming.{first_of, kept_where}
use Rattle.demand_blocks.proofs.block.DemandBlock.code_more.Goals as goal

pub invariant_of-self : goal.invariant_of-self
invariant_of-self c =
    let b = c.args.self.now in
    let coefs = block_coefs b in
    let s = block_shape b in
    let passes = c.code_up_to-left.new.passes.items in
    let left = c.code_up_to-left.result in
    let buffer : List ℕ = c.code_up_to-left.new.buffer in
    let n : ℕ = c.kept.result in
    let e = c.code_up_to-left.ensures in
    let most = e.most in
    let all = c.most_passes.ensures in
    let capacity = e.capacity in
    let prepared = c.prepare.ensures.capacity in
    let room = b.room in
    let few = e.few in
    let kept = c.kept.ensures in
    let wide = c.requires.room in
    let long = e.length in
    let ready = c.prepare.ensures.length in
    let inside : n ≤ length buffer = omega (arith, few, kept, wide, long, ready) in
    let whole : length (take n buffer) ≡ n = length-take-le n buffer inside in
    let short = c.keep-kept.ensures.short in
    record {
      planes_are = b.planes_are;
      few_planes = b.few_planes;
      within = omega (arith, most, all);
      room = omega (arith, capacity, prepared, room);
      first = first_of coefs s b.start passes left buffer b.first.start_is e.can;
      short = omega (arith, short, whole, few, kept);
      kept = kept_where coefs s passes c.left_where.result c.keep-kept.result left
          c.keep-kept.new.bytes.items buffer c.left_where.ensures
          (λ are. c.keep-kept.ensures.kept are ∙ ap (λ (k : ℕ). take k buffer) kept) e.can;
    }
