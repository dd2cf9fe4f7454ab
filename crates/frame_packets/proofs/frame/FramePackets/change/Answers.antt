use Rattle.std.proofs.Common.{◌≡◌, get_or, ap, subst, sym}
use Rattle.frame_packets.specs.Inside.{IsKept}
use Rattle.frame_packets.specs.Keeps.{FrameKept, PartKept, no_part}
use Rattle.frame_packets.proofs.Bounds.{entry_few}
use Rattle.frame_packets.proofs.Frames.{CanChange, can_change, part_is}
use Rattle.frame_packets.proofs.frame.FramePackets.change.Goals as goal

kept : (c : goal.After-index) → IsKept c.args.self.now
kept c = subst (λ s. IsKept s) c.self.view_is c.self.invariant

same : (c : goal.After-index) →
    c.index.result.now ≡ get_or c.args.self.now.parts c.args.spot.part no_part
same c =
    part_is c.args.self.now c.args.spot.part c.index.result.now c.self.inside.parts.items (kept c)
    c.requires.spot.exists (ap (λ (s : FrameKept). s.parts) c.self.view_is) c.index.ensures

can : (c : goal.After-index) → CanChange c.index.result.now c.args.spot c.args.entry
can c =
    subst (λ (part : PartKept). CanChange part c.args.spot c.args.entry) (sym (same c))
    (can_change c.args.self.now c.args.id c.args.entry c.args.spot (kept c) c.requires.block
    c.requires.entry c.requires.spot)

pub change-requires-clause-place : goal.change-requires-clause-place
change-requires-clause-place c = (can c).place

pub change-requires-clause-at : goal.change-requires-clause-at
change-requires-clause-at c = (can c).inside

pub change-requires-clause-enough : goal.change-requires-clause-enough
change-requires-clause-enough c = (can c).enough

pub change-requires-clause-few : goal.change-requires-clause-few
change-requires-clause-few c = (can c).few

pub change-requires-clause-entry : goal.change-requires-clause-entry
change-requires-clause-entry c = entry_few _ c.args.entry c.requires.entry c.requires.plain
