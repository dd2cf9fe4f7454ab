-- The kept bytes, then the tail.
use Rattle.demand_blocks.proofs.Points.{appended}
use Rattle.demand_blocks.proofs.bytes.push_ended.Goals as goal

pub returns : goal.returns
returns c = λ symbols is.
    appended _ _ _ c.args.bytes.now c.ending-end.result.tail.items c.as_slice.result.now _
    c.ending-end.result.kept c.in_ok-extend_from_slice.ensures.items
    c.in_ok-extend_from_slice-2.ensures.items c.as_slice.ensures.value
    (c.ending-end.ensures.code _ _ is)
