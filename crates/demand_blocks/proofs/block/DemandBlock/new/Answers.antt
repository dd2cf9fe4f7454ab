-- No pass is coded, and nothing is kept.
use Rattle.std.proofs.Common.{ℕ, ◌≡◌, length, refl, ap, arith}
use Rattle.demand_blocks.specs.BlockLaws.{small_in}
use Rattle.demand_blocks.specs.Views.{coefs_in, shape_in}
use Rattle.demand_blocks.proofs.Resuming.{first_none}
use Rattle.demand_blocks.proofs.block.DemandBlock.new.Goals as goal

pub invariant_of-result : goal.invariant_of-result
unfolding coefs_in
invariant_of-result c =
    let planes : ℕ = c.planes-planes.result in
    let items = c.in_ok-passes.ensures.items in
    let none : length c.in_ok-passes.passes.items ≡ 0 = ap length items in
    let bytes : length c.new.result.items ≡ 0 = ap length c.new.ensures.items in
    let most = c.most_passes.ensures in
    let exact = c.in_ok-passes.ensures.exact in
    record {
      planes_are = c.planes-planes.ensures;
      few_planes = (small_in c.args.view c.args.orient planes c.planes-planes.ensures).few;
      within = omega (arith, none);
      room = omega (arith, exact, most);
      first = first_none (coefs_in c.args.view) (shape_in c.args.view c.args.orient planes)
          c.undecoded_distortion-start.result c.in_ok-passes.passes.items
          (c.undecoded_distortion-start.ensures
          (shape_in c.args.view c.args.orient planes) refl refl c.planes-planes.ensures) items;
      short = omega (arith, bytes);
      kept = tt;
    }
