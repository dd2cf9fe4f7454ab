use Rattle.std.proofs.Common.{false, refl, ◌/◌, ◌%◌, [], ◌++◌, map, take, get_or, append_assoc, sym}
use Rattle.std.proofs.Common.{ap, ◌∙◌, subst, arith}
use Rattle.std.proofs.lemmas.List.{append-nil}
use Rattle.packet_headers.specs.Words.{blocks_bits}
use Rattle.packet_headers.specs.Written.{written_block, written_trees}
use Rattle.packet_headers.proofs.BlockLemmas.{blocks_bits-push, written_push}
use Rattle.packet_headers.proofs.MarkLemmas.{marks_further, order_kept, seen_kept}
use Rattle.packet_headers.proofs.InnerNodeLemmas.{entry_bits}
use Rattle.packet_headers.proofs.EntryLemmas.{entry_at, entry_kept, list_kept}
use Rattle.packet_headers.proofs.writing.band.put_band.Goals as goal

pub loop-place-init : goal.loop-place-init
unfolding blocks_bits
loop-place-init g c = record {
  marks = c.fresh_marks-marks.ensures.stand;
  visited_order = c.fresh_marks-marks.ensures.inclusion;
  beyond_order = c.fresh_marks-marks.ensures.zero_planes;
  seen = c.fresh_marks-marks.ensures.seen;
  bits = λ bits h. subst (λ r. g.S.BitSink.StandsFor c.args.out.now r) (sym (append-nil bits)) h;
  few = omega arith;
}

pub put_block-requires-clause-top : goal.put_block-requires-clause-top
put_block-requires-clause-top g c =
    let a = entry_kept c.args.band.now _ c.loop-place.place _ (record {
      included = false;
      zero_planes = 0;
      passes = 0;
      len = 0;
    }) _ _ c.requires.band
    c.as_slice-entry-items.ensures.value c.loop-place-test.true
    c.quarter_of-quarter.ensures.node c.quarter_of-quarter.ensures.below
    c.inner_nodes_of-inner_nodes.ensures.stand c.inner_nodes_of-inner_nodes.ensures.four in
    a.rises.top_le

pub put_block-requires-clause-middle : goal.put_block-requires-clause-middle
put_block-requires-clause-middle g c =
    let a = entry_kept c.args.band.now _ c.loop-place.place _ (record {
      included = false;
      zero_planes = 0;
      passes = 0;
      len = 0;
    }) _ _ c.requires.band
    c.as_slice-entry-items.ensures.value c.loop-place-test.true
    c.quarter_of-quarter.ensures.node c.quarter_of-quarter.ensures.below
    c.inner_nodes_of-inner_nodes.ensures.stand c.inner_nodes_of-inner_nodes.ensures.four in
    a.rises.middle_le

pub loop-place-preserved : goal.loop-place-preserved
loop-place-preserved g c =
    let words = written_trees c.args.band.now in
    let k = c.loop-place.invariant in
    let a = entry_at c.args.band.now _ c.loop-place.place
    (c.loop-place.place % c.args.band.now.width) (c.loop-place.place / c.args.band.now.width) _
    (record { included = false; zero_planes = 0; passes = 0; len = 0 }) _ _ c.requires.band
    c.as_slice-entry-items.ensures.value c.loop-place-test.true refl refl
    c.quarter_of-quarter.ensures.node c.quarter_of-quarter.ensures.below
    c.inner_nodes_of-inner_nodes.ensures.stand in
    let push = written_push c.args.band.now.entries.items _ c.loop-place.place
    (record { included = false; zero_planes = 0; passes = 0; len = 0 })
    c.as_slice-entry-items.ensures.value c.loop-place-test.true in
    let own = list_kept c.loop-place.marks.inclusion c.loop-place.marks.zero_planes
    c.args.band.now.planes c.quarter_of-quarter.result
    (get_or c.as_slice-entry-items.result.now c.loop-place.place (record {
      included = false;
      zero_planes = 0;
      passes = 0;
      len = 0;
    })) c.inner_nodes_of-inner_nodes.result.top
    c.inner_nodes_of-inner_nodes.result.middle _
    c.inner_nodes_of-inner_nodes.ensures.four c.quarter_of-quarter.ensures.below
    (entry_bits words _ _ _ _ _ _ _ _ _ c.quarter_of-quarter.ensures.node
    c.quarter_of-quarter.ensures.below a.at c.inner_nodes_of-inner_nodes.ensures.stand k.marks
    a.rises a.includes a.zero_planes a.fresh a.zero_fresh) in
    record {
      marks = rw push (marks_further words _ _ _ _ _
          (omega (arith, a.inside.column, c.requires.band.width))
          (omega (arith, a.inside.row, c.requires.band.height)) c.quarter_of-quarter.ensures.node
          a.at a.rises.below
          _ _ _ _ k.marks c.put_block.ensures.inclusion c.put_block.ensures.zero_planes);
      visited_order = λ q h m. c.put_block.ensures.inclusion.top;
      beyond_order = order_kept _ _ _ _ c.put_block.ensures.zero_planes k.beyond_order;
      seen = seen_kept _ _ _ _ _ _ c.put_block.ensures.inclusion c.put_block.ensures.zero_planes
          k.seen;
      bits = λ bits h. rw (push, blocks_bits-push)
          (subst (λ r. g.S.BitSink.StandsFor c.put_block.new.out r)
          (ap (λ r. (bits ++ blocks_bits words [] (map written_block
          (take c.loop-place.place c.args.band.now.entries.items))) ++ r) own
          ∙ append_assoc bits _ _)
          (c.put_block.ensures.bits _ (k.bits bits h)));
      few = omega (arith, c.put_block.ensures.few, k.few);
    }
