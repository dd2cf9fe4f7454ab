use Rattle.std.proofs.Common.{arith, length}
use Rattle.lift97_fixed.specs.Line.{at}
use Rattle.lift97_fixed.proofs.Moves.{index_is, index_read, index_written, wanted_place, moved_none}
use Rattle.lift97_fixed.proofs.Moves.{moved_turn, moved_all}
use Rattle.lift97_fixed.proofs.Written.{row_in}
use Rattle.lift97_fixed.proofs.vertical.split_rows.Goals as goal

pub loop-y-2-init : goal.loop-y-2-init
loop-y-2-init c = moved_none c.args.stride c.args.width c.args.height c.loop-y.y c.args.cells.now c.loop-y.held c.loop-y.placed (omega arith) c.requires.cells c.loop-y.invariant

pub overflow_cast-from : goal.overflow_cast-from
overflow_cast-from c =
    let t = wanted_place c.args.height c.loop-y-2.y c.source_of-wanted.result c.loop-y-2.held c.loop-y-2.placed c.loop-y-2-test.true c.source_of-wanted.ensures c.loop-y-2.invariant.tracks in
    index_read (at c.loop-y-2.placed c.source_of-wanted.result) t.place t.is
    (omega (arith, t.below))

pub overflow_cast-here : goal.overflow_cast-here
overflow_cast-here c =
    let u = c.loop-y-2.invariant.tracks.hold c.loop-y-2.y c.loop-y-2-test.true in
    index_read (at c.loop-y-2.held c.loop-y-2.y) u.row u.is (omega (arith, u.below))

pub swap_rows-requires-clause-there : goal.swap_rows-requires-clause-there
swap_rows-requires-clause-there c =
    let t = wanted_place c.args.height c.loop-y-2.y c.source_of-wanted.result c.loop-y-2.held c.loop-y-2.placed c.loop-y-2-test.true c.source_of-wanted.ensures c.loop-y-2.invariant.tracks in
    rw (index_is (at c.loop-y-2.placed c.source_of-wanted.result) t.place t.is
    (omega (arith, t.below)))
    (row_in t.place c.args.height c.args.stride (length c.loop-y-2.cells) t.below (omega arith))

pub overflow_cast-held-in-loop-y-2 : goal.overflow_cast-held-in-loop-y-2
overflow_cast-held-in-loop-y-2 c =
    let u = c.loop-y-2.invariant.tracks.hold c.loop-y-2.y c.loop-y-2-test.true in
    index_written (at c.loop-y-2.held c.loop-y-2.y) u.row u.is (omega (arith, u.below))

pub bounds-held-from : goal.bounds-held-from
bounds-held-from c =
    let t = wanted_place c.args.height c.loop-y-2.y c.source_of-wanted.result c.loop-y-2.held c.loop-y-2.placed c.loop-y-2-test.true c.source_of-wanted.ensures c.loop-y-2.invariant.tracks in
    rw (index_is (at c.loop-y-2.placed c.source_of-wanted.result) t.place t.is
    (omega (arith, t.below))) (omega (arith, t.below))

pub overflow_cast-placed-in-loop-y-2 : goal.overflow_cast-placed-in-loop-y-2
overflow_cast-placed-in-loop-y-2 c =
    let t = wanted_place c.args.height c.loop-y-2.y c.source_of-wanted.result c.loop-y-2.held c.loop-y-2.placed c.loop-y-2-test.true c.source_of-wanted.ensures c.loop-y-2.invariant.tracks in
    index_written (at c.loop-y-2.placed c.source_of-wanted.result) t.place t.is
    (omega (arith, t.below))

pub bounds-placed-here : goal.bounds-placed-here
bounds-placed-here c =
    let u = c.loop-y-2.invariant.tracks.hold c.loop-y-2.y c.loop-y-2-test.true in
    rw (index_is (at c.loop-y-2.held c.loop-y-2.y) u.row u.is (omega (arith, u.below)))
    (omega (arith, u.below))

pub loop-y-2-preserved : goal.loop-y-2-preserved
loop-y-2-preserved c =
    moved_turn c.args.stride c.args.width c.args.height c.loop-y-2.y c.args.cells.now c.loop-y-2.cells c.swap_rows.new.cells c.loop-y-2.held c.loop-y-2.placed c.source_of-wanted.result
    c.requires.width.1 c.loop-y-2-test.true c.requires.height.0 (omega arith)
    (omega arith) c.source_of-wanted.ensures c.loop-y-2.invariant
    (record {
      size = c.swap_rows.auto.cells;
      within = c.swap_rows.ensures.within;
      here =
          c.swap_rows.ensures.here;
      there = c.swap_rows.ensures.there;
      kept =
          c.swap_rows.ensures.kept;
    })

pub returns-clause-value : goal.returns-clause-value
returns-clause-value c =
    moved_all c.args.stride c.args.width c.args.height c.loop-y-2.y c.args.cells.now c.loop-y-2.cells c.loop-y-2.held c.loop-y-2.placed c.requires.width.0 (omega arith) c.loop-y-2.invariant
