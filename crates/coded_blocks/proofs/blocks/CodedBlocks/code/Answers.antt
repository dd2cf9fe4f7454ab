use Rattle.std.proofs.Common.{◌≡◌, ◌+◌, suc, length, arith, sym, ap, subst}
use Rattle.band_geometry.specs.Counts.{number_of}
use Rattle.band_geometry.specs.Numbering.{all_blocks}
use Rattle.band_geometry.proofs.NumberLemmas.{number_of-listed}
use Rattle.coded_blocks.specs.Coded.{AreCodedBelow}
use Rattle.coded_blocks.specs.Frame.{CanBeCoded}
use Rattle.coded_blocks.proofs.Joining.{none_coded}
use Rattle.coded_blocks.proofs.Planes.{of_three, few_planes_of}
use Rattle.coded_blocks.proofs.blocks.CodedBlocks.code.Goals as goal

pub loop-n-init : goal.loop-n-init
loop-n-init c = record {
  room = omega (arith, c.in_ok-buffer.ensures, c.as_mut_slice-bytes.ensures.len);
  count = ap length c.new-blocks.ensures.rows;
  coded = λ planes first second third. none_coded c.args.geometry.now c.args.steps.now planes
      c.new-blocks.result c.new-blocks.ensures.rows;
}

pub code_next-requires-clause-plane : goal.code_next-requires-clause-plane
code_next-requires-clause-plane c =
    of_three (λ k p. CanBeCoded c.args.geometry.now c.args.steps.now p)
    c.block_id-id.result.component c.component-plane.result.now c.args.c0.now c.args.c1.now
    c.args.c2.now c.block_id-id.ensures.exists.component c.component-plane.ensures.first
    c.component-plane.ensures.second c.component-plane.ensures.third c.requires.first
    c.requires.second c.requires.third

pub loop-n-preserved : goal.loop-n-preserved
loop-n-preserved c = record {
  room = omega (arith, c.loop-n.invariant.room);
  count = omega (arith, c.loop-n.invariant.count, c.in_ok-code_next.ensures.count);
  coded = λ planes first second third.
      let g = c.args.geometry.now in
      let id = c.block_id-id.result in
      let cells = of_three (λ k p. planes k ≡ p.cells.items) id.component
      c.component-plane.result.now
      c.args.c0.now c.args.c1.now c.args.c2.now c.block_id-id.ensures.exists.component
      c.component-plane.ensures.first c.component-plane.ensures.second
      c.component-plane.ensures.third first second third in
      let number : number_of g id ≡ c.loop-n.n =
      number_of-listed g c.loop-n.n id c.block_id-id.ensures.value in
      let before = subst (λ n. AreCodedBelow g c.args.steps.now planes n c.loop-n.blocks)
      (sym number) (c.loop-n.invariant.coded planes first second third) in
      let after = c.in_ok-code_next.ensures.coded planes cells before in
      let more : suc (number_of g id) ≡ c.loop-n.n + 1 = omega (arith, number) in
      subst (λ n. AreCodedBelow g c.args.steps.now planes n c.code_next.new.self) more after;
}

pub returns-clause-count : goal.returns-clause-count
returns-clause-count c =
    omega (
      arith,
      c.blocks-n-end.ensures,
      c.loop-n-test.false,
      c.loop-n.auto.n-end,
      c.loop-n.invariant.count,
    )

pub returns-clause-coded : goal.returns-clause-coded
returns-clause-coded c = λ planes first second third.
    let all : c.loop-n.n ≡ length (all_blocks c.args.geometry.now) =
    omega (arith, c.blocks-n-end.ensures, c.loop-n-test.false, c.loop-n.auto.n-end) in
    subst (λ n. AreCodedBelow c.args.geometry.now c.args.steps.now planes n c.loop-n.blocks) all
    (c.loop-n.invariant.coded planes first second third)

pub returns-clause-below : goal.returns-clause-below
returns-clause-below c =
    λ planes first second third.
    few_planes_of c.args.geometry.now c.args.steps.now planes c.args.c0.now c.args.c1.now
    c.args.c2.now c.requires.first c.requires.second c.requires.third first second third
