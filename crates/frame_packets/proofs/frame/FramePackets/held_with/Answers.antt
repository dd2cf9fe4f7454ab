use Rattle.std.proofs.Common.{◌≡◌, List, ℕ, length, set, sum, ap, arith, subst, ◌∙◌}
use Rattle.std.proofs.lemmas.List.{length-set}
use Rattle.std.specs.List.{refill}
use Rattle.band_geometry.specs.Bands.{IsBlock}
use Rattle.budget_duals.specs.Held.{held_of}
use Rattle.cinema_markers.specs.MainHeader.{main_length}
use Rattle.profile_reader.specs.Spell.{part_lengths}
use Rattle.frame_packets.specs.Inside.{IsKept, IsSpot}
use Rattle.frame_packets.specs.Keeps.{FrameKept}
use Rattle.frame_packets.proofs.Frames.{after_few, held_is, lengths_changed, main_few}
use Rattle.frame_packets.proofs.Lists.{refill_is}
use Rattle.frame_packets.proofs.frame.FramePackets.held_with.Goals as goal

-- a slice that was changed at a place and put back
written_back : (items slice now : List ℕ) (n bytes : ℕ) → slice ≡ items →
    now ≡ refill (length items) items (set slice n bytes) → now ≡ set items n bytes
written_back items slice now n bytes same back =
    back ∙ refill_is items (set slice n bytes) (length-set slice n bytes ∙ ap length same)
    ∙ ap (λ (ns : List ℕ). set ns n bytes) same

pub bounds-deref_mut-spot : goal.bounds-deref_mut-spot
bounds-deref_mut-spot c =
    let inside = c.spot-spot.ensures.exists in
    let count = c.part_lengths-lengths.ensures.count in
    let same = ap (λ (ns : List ℕ). length ns) c.deref_mut.ensures.value in
    omega (arith, inside, count, same)

pub of-requires-clause-short : goal.of-requires-clause-short
of-requires-clause-short c =
    let s = c.args.self.now in
    let kept : IsKept s = subst (λ t. IsKept t) c.self.view_is c.self.invariant in
    let items = c.part_lengths-lengths.result.items in
    let spot = c.spot-spot.result in
    let back = written_back items c.deref_mut.result.now c.as_slice.result.now spot.part
    c.change-change.result.bytes c.deref_mut.ensures.value c.as_slice.ensures.value in
    let are = c.part_lengths-lengths.ensures.value s.geometry s.steps kept.given kept.keeps in
    let lengths = ap (λ (ns : List ℕ). sum ns)
    (back ∙ ap (λ (ns : List ℕ). set ns spot.part c.change-change.result.bytes) are) in
    let all = after_few s c.args.id c.args.entry spot c.change-change.result kept c.requires.block
    c.requires.entry c.requires.plain c.spot-spot.ensures c.change-change.ensures in
    let main = main_few c.self.inside.geometry.profile in
    let is = c.main_bytes.ensures in
    omega (arith, all, lengths, main, is)

pub returns : goal.returns
returns c g steps given changed keeps is =
    let s = c.args.self.now in
    let id = c.args.id in
    let spot = c.spot-spot.result in
    let change = c.change-change.result in
    let items = c.part_lengths-lengths.result.items in
    let block : IsBlock g id = subst (λ h. IsBlock h id) keeps.geometry c.requires.block in
    let at : IsSpot g id spot = subst (λ h. IsSpot h id spot) keeps.geometry c.spot-spot.ensures in
    let profile = ap (λ (t : FrameKept). t.geometry.profile) c.self.view_is
    ∙ ap (λ h. h.profile) keeps.geometry in
    let back = written_back items c.deref_mut.result.now c.as_slice.result.now spot.part
    change.bytes c.deref_mut.ensures.value c.as_slice.ensures.value in
    let lengths : c.as_slice.result.now ≡ part_lengths g steps changed = back
    ∙ ap (λ (ns : List ℕ). set ns spot.part change.bytes)
    (c.part_lengths-lengths.ensures.value g steps given keeps)
    ∙ lengths_changed g steps id c.args.entry given changed s spot change keeps block is at
    c.change-change.ensures in
    c.of.ensures
    ∙ ap (λ p. held_of p c.main_bytes.result c.as_slice.result.now) profile
    ∙ ap (λ n. held_of g.profile n c.as_slice.result.now)
    (c.main_bytes.ensures ∙ ap main_length profile)
    ∙ held_is g steps given s keeps c.as_slice.result.now changed lengths
