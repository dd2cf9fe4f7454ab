use Rattle.std.proofs.Common.{ℕ, ◌+◌, ◌-◌, ◌*◌, ◌/◌, ◌%◌, ◌<◌, ◌≡◌, List, sym, ap, ◌∙◌}
use Rattle.std.proofs.Common.{subst, arith}
use Rattle.mq_coder.specs.Decisions.{Interval}
use Rattle.ebcot_contexts.specs.Cells.{Cell}
use Rattle.ebcot_contexts.specs.Passes.{significance, refinement, cleanup, plane_of}
use Rattle.flag_words.specs.Words.{AreFlags}
use Rattle.ebcot_reader.specs.Reading.{Holds, state_after}
use Rattle.ebcot_reader.specs.Runs.{IsSettled}
use Rattle.ebcot_reader.proofs.Blocks.{holds_plane, next_holds, kind_significance, kind_refinement}
use Rattle.ebcot_reader.proofs.Blocks.{kind_cleanup, plane_begins, plane_above, same_plane}
use Rattle.ebcot_reader.proofs.Blocks.{cleanup_settled}
use Rattle.ebcot_reader.proofs.passes.read_next.Goals as goal

pub returns-then-turn-eq0 : goal.returns-then-turn-eq0
returns-then-turn-eq0 g = λ bytes s wide high planes contexts blank h.
    let k : ℕ = g.args.k in
    let more = g.requires.more in
    let few : k < 3 * s.planes - 2 = omega arith in
    let turn : (k + 2) % 3 ≡ 0 = g.if-turn-eq0.true in
    let p : ℕ = plane_of s k in
    let q : ℕ = g.args.planes - 1 - (k + 2) / 3 in
    let plane : q ≡ p = ap (λ (v : ℕ). v - 1 - (k + 2) / 3) (sym planes) in
    let st : List Cell × Interval = state_after bytes s k in
    let above = subst (λ (v : ℕ). AreFlags s.width v st.0 g.args.words.now)
    (plane_above s k few turn) h.flags in
    let flags = g.next_plane.ensures s p st.0 (omega arith) blank h.long
    (plane_begins bytes s k few turn) above in
    let held = subst (λ (v : ℕ). Holds bytes s v st g.next_plane.new.words g.args.grid.now
    g.args.decoder.now) (sym plane) (holds_plane bytes s _ p st _ _ _ _ h flags) in
    next_holds bytes s k q significance _ _ _ (kind_significance k turn) (sym plane)
    (g.significance_pass.ensures bytes s st wide high contexts held)

pub returns-then-turn-eq1 : goal.returns-then-turn-eq1
returns-then-turn-eq1 g = λ bytes s wide high planes contexts blank h.
    let k : ℕ = g.args.k in
    let more = g.requires.more in
    let few : k < 3 * s.planes - 2 = omega arith in
    let turn : (k + 2) % 3 ≡ 1 = g.if-turn-eq1.true in
    let p : ℕ = plane_of s k in
    let q : ℕ = g.args.planes - 1 - (k + 2) / 3 in
    let plane : q ≡ p = ap (λ (v : ℕ). v - 1 - (k + 2) / 3) (sym planes) in
    let st : List Cell × Interval = state_after bytes s k in
    let held = subst (λ (v : ℕ). Holds bytes s v st g.args.words.now g.args.grid.now
    g.args.decoder.now) (same_plane s k few g.if-turn-eq0.false ∙ sym plane) h in
    next_holds bytes s k q refinement _ _ _ (kind_refinement k turn) (sym plane)
    (g.refinement_pass.ensures bytes s st wide high held)

pub returns : goal.returns
returns g = λ bytes s wide high planes contexts blank h.
    let k : ℕ = g.args.k in
    let more = g.requires.more in
    let few : k < 3 * s.planes - 2 = omega arith in
    let turn : (k + 2) % 3 ≡ 2 = omega arith in
    let p : ℕ = plane_of s k in
    let q : ℕ = g.args.planes - 1 - (k + 2) / 3 in
    let plane : q ≡ p = ap (λ (v : ℕ). v - 1 - (k + 2) / 3) (sym planes) in
    let st : List Cell × Interval = state_after bytes s k in
    let held = subst (λ (v : ℕ). Holds bytes s v st g.args.words.now g.args.grid.now
    g.args.decoder.now) (same_plane s k few g.if-turn-eq0.false ∙ sym plane) h in
    let settled = subst (λ (v : ℕ). IsSettled v st.0) (sym plane)
    (cleanup_settled bytes s k few turn h.long) in
    next_holds bytes s k q cleanup _ _ _ (kind_cleanup k turn) (sym plane)
    (g.cleanup_pass.ensures bytes s st wide high contexts settled held)
