use Rattle.std.proofs.Common.{◌≡◌, List, ℕ, sum, ap, arith, subst, ◌∙◌}
use Rattle.budget_duals.specs.Held.{held_of}
use Rattle.cinema_markers.specs.MainHeader.{main_length}
use Rattle.frame_packets.specs.Inside.{IsKept}
use Rattle.frame_packets.specs.Keeps.{FrameKept}
use Rattle.frame_packets.proofs.Bounds.{frame_few}
use Rattle.frame_packets.proofs.Frames.{held_is, main_few}
use Rattle.frame_packets.proofs.frame.FramePackets.held.Goals as goal

pub of-requires-clause-short : goal.of-requires-clause-short
of-requires-clause-short c =
    let s = c.args.self.now in
    let kept : IsKept s = subst (λ t. IsKept t) c.self.view_is c.self.invariant in
    let all = frame_few s.geometry s.steps kept.given kept.keeps.levels kept.keeps.can_write
    kept.short in
    let lengths = ap (λ (ns : List ℕ). sum ns) (c.as_slice.ensures.value
    ∙ c.part_lengths-lengths.ensures.value s.geometry s.steps kept.given kept.keeps) in
    let main = main_few c.self.inside.geometry.profile in
    let is = c.main_bytes.ensures in
    omega (arith, all, lengths, main, is)

pub returns : goal.returns
returns c g steps given keeps =
    let profile : c.self.inside.geometry.profile ≡ g.profile =
    ap (λ (s : FrameKept). s.geometry.profile) c.self.view_is ∙ ap (λ h. h.profile) keeps.geometry
    in
    let lengths = c.as_slice.ensures.value
    ∙ c.part_lengths-lengths.ensures.value g steps given keeps in
    c.of.ensures
    ∙ ap (λ p. held_of p c.main_bytes.result c.as_slice.result.now) profile
    ∙ ap (λ n. held_of g.profile n c.as_slice.result.now)
    (c.main_bytes.ensures ∙ ap main_length profile)
    ∙ held_is g steps given c.args.self.now keeps c.as_slice.result.now given lengths
