use Rattle.std.proofs.Common.{false, ◌/◌, ◌%◌, min, length, get_or, refl, sym, ap, ◌∙◌, arith}
use Rattle.std.proofs.lemmas.List.{length-set}
use Rattle.packet_headers.proofs.BandLemmas.{least_none, least_more, inside, taken_push}
use Rattle.packet_headers.proofs.BandLemmas.{taken_length, level_zero, level_one, level_two}
use Rattle.packet_headers.proofs.BandLemmas.{above_zero, above_one, above_two, least_all}
use Rattle.packet_headers.proofs.writing.band.inner_nodes_of.Goals as goal

pub loop-place-init : goal.loop-place-init
loop-place-init c = record {
  kept = least_none _ _;
  four = refl;
}

pub loop-place-preserved : goal.loop-place-preserved
loop-place-preserved c =
    let k = c.loop-place.invariant in
    let count = ap length c.as_slice-entry-items.ensures.value ∙ c.requires.count in
    let i = inside c.args.band.now.width c.args.band.now.height c.loop-place.place _ _
    (omega (arith, c.loop-place-test.true)) refl refl in
    let l = taken_length _ _ _ c.as_slice-entry-items.ensures.value c.loop-place-test.true in
    record {
      kept = rw (taken_push _ _ c.loop-place.place (record {
        included = false;
        zero_planes = 0;
        passes = 0;
        len = 0;
      }) c.as_slice-entry-items.ensures.value c.loop-place-test.true)
          (least_more _ _ _ _ (c.loop-place.place % c.args.band.now.width)
          (c.loop-place.place / c.args.band.now.width) _ _ _
          (ap (λ r. r % c.args.band.now.width) (sym l))
          (ap (λ r. r / c.args.band.now.width) (sym l))
          (omega (arith, i.column, c.requires.width)) (omega (arith, i.row, c.requires.height))
          c.quarter_of-quarter.ensures.below k.four c.quarter_of-quarter.ensures.node k.kept
          (c.min.ensures
          ∙ ap (λ r. min r (get_or c.loop-place.middle c.quarter_of-quarter.result 0))
          c.leaf_zero_planes-zero_planes.ensures));
      four = length-set _ _ _ ∙ k.four;
    }

pub returns-then-side-le1-clause-stand : goal.returns-then-side-le1-clause-stand
returns-then-side-le1-clause-stand c = above_zero c.args.band.now c.requires
    (level_zero _ _ (omega (arith, c.max-side.ensures, c.if-side-le1.true)))

pub returns-then-side-le2-clause-stand : goal.returns-then-side-le2-clause-stand
returns-then-side-le2-clause-stand c = above_one c.args.band.now c.requires _
    c.loop-place.invariant.four
    (least_all c.args.band.now _ _ _ c.as_slice-entry-items.ensures.value c.loop-place-test.false
    c.loop-place.invariant.kept)
    (level_one _ _ (omega (arith, c.max-side.ensures, c.if-side-le1.false))
    (omega (arith, c.max-side.ensures, c.if-side-le2.true)))

pub returns-clause-stand : goal.returns-clause-stand
returns-clause-stand c = above_two c.args.band.now c.requires _ c.loop-place.invariant.four
    (least_all c.args.band.now _ _ _ c.as_slice-entry-items.ensures.value c.loop-place-test.false
    c.loop-place.invariant.kept)
    _ (level_two _ _ (omega (arith, c.max-side.ensures, c.if-side-le2.false))) (c.min-top.ensures
    ∙ ap (λ r. min r (get_or c.loop-place.middle 3 0)) (c.min-3.ensures
    ∙ ap (λ r. min r (get_or c.loop-place.middle 2 0)) c.min-2.ensures))
