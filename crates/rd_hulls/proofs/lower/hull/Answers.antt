-- The corner moves to the end of the found step; where none is found it is the lowest point.
use Rattle.std.proofs.Common.{List, subst, sym, arith}
use Rattle.rd_hulls.specs.Hull.{IsLowest, end_of}
use Rattle.rd_hulls.specs.Points.{ArePoints, point_at}
use Rattle.rd_hulls.specs.declared.point.Point.{Point}
use Rattle.rd_hulls.proofs.Corners.{IsCorner, start, found, found_room, ended}
use Rattle.rd_hulls.proofs.lower.hull.Goals as goal

pub loop-step-init : goal.loop-step-init
loop-step-init c =
    let are = subst ArePoints (sym c.as_slice-all.ensures.value) c.requires in
    let all = c.as_slice-all.result.now in
    subst (IsCorner c.args.block all (point_at all 0)) (sym c.new-steps.ensures)
    (start c.args.block all are)

pub push-requires : goal.push-requires
push-requires c =
    let few = c.as_slice-all.ensures.fits in
    (omega arith, found_room c.args.block _ _ _ _ few c.loop-step.invariant c.in-Some.ensures)

pub loop-step-smaller : goal.loop-step-smaller
loop-step-smaller c =
    let few = c.as_slice-all.ensures.fits in
    omega (arith, found_room c.args.block _ _ _ _ few c.loop-step.invariant c.in-Some.ensures)

pub loop-step-preserved : goal.loop-step-preserved
loop-step-preserved c =
    let corner = found c.args.block _ _ _ _ c.loop-step.invariant c.in-Some.ensures in
    rw (c.from.ensures, c.push.ensures.items) corner

pub returns-clause-lowest : goal.returns-clause-lowest
returns-clause-lowest c =
    let all = c.as_slice-all.result.now in
    let is = ended c.args.block all _ _ c.loop-step.invariant c.in_default.ensures in
    subst (λ (points : List Point). IsLowest points (end_of 0 c.loop-step.steps.items)) c.as_slice-all.ensures.value
    is.lowest
