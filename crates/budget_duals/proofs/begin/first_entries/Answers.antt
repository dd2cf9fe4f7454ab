-- One block more.
use Rattle.std.proofs.Common.{◌<◌, arith, subst}
use Rattle.std.specs.BinaryHeap.{heap_items}
use Rattle.budget_duals.proofs.BeginLemmas.{begun_none, begun_more}
use Rattle.budget_duals.proofs.begin.first_entries.Goals as goal

pub loop-block-init : goal.loop-block-init
loop-block-init g c = record {
  begun = begun_none (g.O.Offers.blocks c.args.offers.now) (g.O.Offers.left c.args.offers.now)
      (g.O.Offers.offered c.args.offers.now)
      (heap_items c.args.heap.now) c.requires.none;
  order = c.requires.order;
  few = (let e = c.requires.empty in omega arith);
  room = c.requires.room;
}

pub loop-block-preserved : goal.loop-block-preserved
loop-block-preserved g c =
    let inside : c.loop-block.block < g.O.Offers.blocks c.args.offers.now =
    subst (λ n. c.loop-block.block < n) c.count-block-end.ensures c.loop-block-test.true in
    let len = c.refill.ensures.len in
    let few = c.loop-block.invariant.few in
    let grown = c.refill.ensures.capacity in
    let room = c.loop-block.invariant.room in
    record {
      begun = begun_more (g.O.Offers.blocks c.args.offers.now) (g.O.Offers.left c.args.offers.now)
          (g.O.Offers.offered c.args.offers.now)
          c.loop-block.block (heap_items c.loop-block.heap) (heap_items c.refill.new.heap) inside
          (g.met.O.Offers.true_offers c.args.offers.now c.loop-block.block inside)
          c.loop-block.invariant.begun c.refill.ensures.refilled;
      order = c.refill.ensures.order;
      few = omega arith;
      room = omega arith;
    }
