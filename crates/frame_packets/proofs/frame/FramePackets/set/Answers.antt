use Rattle.std.proofs.Common.{◌≡◌, set, ap, subst, sym, ◌∙◌}
use Rattle.band_geometry.specs.Bands.{IsBlock}
use Rattle.dz_quantiser.specs.Bands.{band_planes}
use Rattle.packet_headers.specs.Written.{CanWriteEntry}
use Rattle.frame_packets.specs.Inside.{IsChange, IsKept, IsSpot}
use Rattle.frame_packets.specs.Keeps.{FrameKept, Keeps, PartKept}
use Rattle.frame_packets.proofs.Parts.{part_after}
use Rattle.frame_packets.proofs.Frames.{CanChange, can_change, frame_after, frame_changed}
use Rattle.frame_packets.proofs.Frames.{kept_changed, part_is}
use Rattle.frame_packets.proofs.frame.FramePackets.set.Goals as goal

pub put-requires-clause-at : goal.put-requires-clause-at
put-requires-clause-at c =
    let s = c.args.self.now in
    let kept : IsKept s = subst (λ t. IsKept t) c.self.view_is c.self.invariant in
    let spot = c.spot-spot.result in
    let same = part_is s spot.part c.index_mut-part.result.now c.self.inside.parts.items kept
    c.spot-spot.ensures.exists (ap (λ (t : FrameKept). t.parts) c.self.view_is)
    c.index_mut-part.ensures.value in
    let can = can_change s c.args.id c.args.entry spot kept c.requires.block c.requires.entry
    c.spot-spot.ensures in
    let there = subst (λ (q : PartKept). CanChange q spot c.args.entry) (sym same) can in
    there.inside

pub put-requires-clause-place : goal.put-requires-clause-place
put-requires-clause-place c =
    let s = c.args.self.now in
    let kept : IsKept s = subst (λ t. IsKept t) c.self.view_is c.self.invariant in
    let spot = c.spot-spot.result in
    let same = part_is s spot.part c.index_mut-part.result.now c.self.inside.parts.items kept
    c.spot-spot.ensures.exists (ap (λ (t : FrameKept). t.parts) c.self.view_is)
    c.index_mut-part.ensures.value in
    let can = can_change s c.args.id c.args.entry spot kept c.requires.block c.requires.entry
    c.spot-spot.ensures in
    let there = subst (λ (q : PartKept). CanChange q spot c.args.entry) (sym same) can in
    there.place

pub put-requires-clause-change : goal.put-requires-clause-change
put-requires-clause-change c =
    let s = c.args.self.now in
    let kept : IsKept s = subst (λ t. IsKept t) c.self.view_is c.self.invariant in
    let spot = c.spot-spot.result in
    let same = part_is s spot.part c.index_mut-part.result.now c.self.inside.parts.items kept
    c.spot-spot.ensures.exists (ap (λ (t : FrameKept). t.parts) c.self.view_is)
    c.index_mut-part.ensures.value in
    subst (λ (q : PartKept). IsChange q spot.at spot.band spot.place c.args.entry
    c.change-change.result) (sym same) c.change-change.ensures

-- what is kept then
is_after : (c : goal.After-self-1) →
    record {
      geometry = c.self.inside.geometry;
      steps = c.self.inside.steps;
      parts = set c.self.inside.parts.items c.spot-spot.result.part c.put.new.self;
    }
    ≡ frame_after c.args.self.now c.spot-spot.result c.args.entry c.change-change.result
is_after c =
    let s = c.args.self.now in
    let kept : IsKept s = subst (λ t. IsKept t) c.self.view_is c.self.invariant in
    let spot = c.spot-spot.result in
    let change = c.change-change.result in
    let same = part_is s spot.part c.index_mut-part.result.now c.self.inside.parts.items kept
    c.spot-spot.ensures.exists (ap (λ (t : FrameKept). t.parts) c.self.view_is)
    c.index_mut-part.ensures.value in
    let with_part : FrameKept → PartKept → FrameKept = λ t q. record {
      geometry = t.geometry;
      steps = t.steps;
      parts = set t.parts spot.part q;
    } in
    ap (λ t. with_part t c.put.new.self) c.self.view_is
    ∙ ap (with_part s) (c.put.ensures ∙ ap (λ q. part_after q spot c.args.entry change) same)

pub invariant_of-self : goal.invariant_of-self
invariant_of-self c =
    let s = c.args.self.now in
    let kept : IsKept s = subst (λ t. IsKept t) c.self.view_is c.self.invariant in
    subst (λ t. IsKept t) (sym (is_after c))
    (kept_changed s c.args.id c.args.entry c.spot-spot.result c.change-change.result kept
    c.requires.block c.requires.entry c.requires.plain c.spot-spot.ensures c.change-change.ensures)

pub returns-clause-keeps : goal.returns-clause-keeps
returns-clause-keeps c g steps given changed keeps is =
    let s = c.args.self.now in
    let id = c.args.id in
    let entry = c.args.entry in
    let spot = c.spot-spot.result in
    let block : IsBlock g id = subst (λ h. IsBlock h id) keeps.geometry c.requires.block in
    let at : IsSpot g id spot = subst (λ h. IsSpot h id spot) keeps.geometry c.spot-spot.ensures in
    let can_write : CanWriteEntry (band_planes steps id.res id.orient) entry =
    subst (λ t. CanWriteEntry (band_planes t id.res id.orient) entry) keeps.steps_are
    c.requires.entry in
    subst (λ t. Keeps g steps changed t) (sym (is_after c))
    (frame_changed g steps id entry given changed s spot c.change-change.result can_write
    c.requires.plain keeps block is at c.change-change.ensures)

pub returns-clause-geometry : goal.returns-clause-geometry
returns-clause-geometry c = ap (λ (t : FrameKept). t.geometry) c.self.view_is

pub returns-clause-steps : goal.returns-clause-steps
returns-clause-steps c = ap (λ (t : FrameKept). t.steps) c.self.view_is
