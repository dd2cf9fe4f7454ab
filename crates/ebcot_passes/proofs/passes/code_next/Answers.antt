use Rattle.ebcot_passes.specs.PassCoder.{coder_of}
use Rattle.std.proofs.Common.{ℕ, suc, ◌+◌, ◌-◌, ◌*◌, ◌/◌, ◌%◌, ◌<◌, ◌≡◌, sym, ap}
use Rattle.std.proofs.Common.{subst, arith}
use Rattle.ebcot_contexts.specs.Passes.{significance, refinement, cleanup, plane_of}
use Rattle.ebcot_contexts.specs.Meaning.{symbols_of, known_after}
use Rattle.flag_words.specs.Words.{AreFlags}
use Rattle.ebcot_passes.specs.Coding.{Holds}
use Rattle.ebcot_passes.specs.Runs.{IsSettled}
use Rattle.ebcot_passes.proofs.Encoding.{at_most}
use Rattle.ebcot_passes.proofs.Blocks.{block_holds, next_holds, kind_significance, kind_refinement}
use Rattle.ebcot_passes.proofs.Blocks.{kind_cleanup, plane_begins, plane_above, same_plane}
use Rattle.ebcot_passes.proofs.Blocks.{cleanup_settled}
use Rattle.ebcot_passes.proofs.passes.code_next.Goals as goal

pub returns-then-turn-eq0-clause-codes : goal.returns-then-turn-eq0-clause-codes
returns-then-turn-eq0-clause-codes g = λ s coefs wide high planes contexts a blank flags stands kept
    fits.
    let k : ℕ = g.args.k in
    let more = g.requires.more in
    let few : k < 3 * s.planes - 2 = omega arith in
    let turn : (k + 2) % 3 ≡ 0 = g.if-turn-eq0.true in
    let p : ℕ = plane_of s k in
    let plane : g.args.planes - 1 - (k + 2) / 3 ≡ p =
    ap (λ (v : ℕ). v - 1 - (k + 2) / 3) (sym planes) in
    let above = subst (λ (v : ℕ). AreFlags s.width v (known_after coefs s k) g.args.words.now)
    (plane_above s k few turn) flags in
    let start = block_holds coefs s k p g.next_plane.new.words
    (coder_of g.args.encoder.now g.args.distortion.now) fits kept
    (g.next_plane.ensures s p (known_after coefs s k) (omega arith) blank
    (block_holds coefs s k (suc p) g.args.words.now
    (coder_of g.args.encoder.now g.args.distortion.now) fits kept above stands).long
    (plane_begins coefs s k few turn) above) stands in
    let held = subst (λ (v : ℕ). Holds coefs s v (known_after coefs s k)
    (symbols_of coefs s k) g.next_plane.new.words
    (coder_of g.args.encoder.now g.args.distortion.now)) (sym plane) start in
    let after = g.significance_pass.ensures.codes s coefs (symbols_of coefs s k)
    (known_after coefs s k) wide high contexts a held in
    subst (λ (v : ℕ). Holds coefs s v (known_after coefs s (suc k))
    (symbols_of coefs s (suc k)) g.significance_pass.new.words
    (coder_of g.significance_pass.new.encoder g.significance_pass.new.distortion))
    plane
    (next_holds coefs s k (g.args.planes - 1 - (k + 2) / 3) significance _ _
    (kind_significance k turn) (sym plane) after)

pub returns-then-turn-eq1-clause-codes : goal.returns-then-turn-eq1-clause-codes
returns-then-turn-eq1-clause-codes g = λ s coefs wide high planes contexts a blank flags stands kept
    fits.
    let k : ℕ = g.args.k in
    let more = g.requires.more in
    let few : k < 3 * s.planes - 2 = omega arith in
    let turn : (k + 2) % 3 ≡ 1 = g.if-turn-eq1.true in
    let p : ℕ = plane_of s k in
    let plane : g.args.planes - 1 - (k + 2) / 3 ≡ p =
    ap (λ (v : ℕ). v - 1 - (k + 2) / 3) (sym planes) in
    let own = subst (λ (v : ℕ). AreFlags s.width v (known_after coefs s k) g.args.words.now)
    (same_plane s k few g.if-turn-eq0.false) flags in
    let start = block_holds coefs s k p g.args.words.now
    (coder_of g.args.encoder.now g.args.distortion.now) fits kept own stands in
    let held = subst (λ (v : ℕ). Holds coefs s v (known_after coefs s k)
    (symbols_of coefs s k) g.args.words.now (coder_of g.args.encoder.now g.args.distortion.now))
    (sym plane) start in
    let after = g.refinement_pass.ensures.codes s coefs (symbols_of coefs s k)
    (known_after coefs s k) wide high a held in
    subst (λ (v : ℕ). Holds coefs s v (known_after coefs s (suc k))
    (symbols_of coefs s (suc k)) g.refinement_pass.new.words
    (coder_of g.refinement_pass.new.encoder g.refinement_pass.new.distortion)) plane
    (next_holds coefs s k (g.args.planes - 1 - (k + 2) / 3) refinement _ _ (kind_refinement k turn)
    (sym plane) after)

pub returns-clause-codes : goal.returns-clause-codes
returns-clause-codes g = λ s coefs wide high planes contexts a blank flags stands kept fits.
    let k : ℕ = g.args.k in
    let more = g.requires.more in
    let few : k < 3 * s.planes - 2 = omega arith in
    let turn : (k + 2) % 3 ≡ 2 = omega arith in
    let p : ℕ = plane_of s k in
    let plane : g.args.planes - 1 - (k + 2) / 3 ≡ p =
    ap (λ (v : ℕ). v - 1 - (k + 2) / 3) (sym planes) in
    let own = subst (λ (v : ℕ). AreFlags s.width v (known_after coefs s k) g.args.words.now)
    (same_plane s k few g.if-turn-eq0.false) flags in
    let start = block_holds coefs s k p g.args.words.now
    (coder_of g.args.encoder.now g.args.distortion.now) fits kept own stands in
    let held = subst (λ (v : ℕ). Holds coefs s v (known_after coefs s k)
    (symbols_of coefs s k) g.args.words.now (coder_of g.args.encoder.now g.args.distortion.now))
    (sym plane) start in
    let settled = subst (λ (v : ℕ). IsSettled v (known_after coefs s k)) (sym plane)
    (cleanup_settled coefs s k few turn) in
    let after = g.cleanup_pass.ensures.codes s coefs (symbols_of coefs s k)
    (known_after coefs s k) wide high contexts a settled held in
    subst (λ (v : ℕ). Holds coefs s v (known_after coefs s (suc k))
    (symbols_of coefs s (suc k)) g.cleanup_pass.new.words
    (coder_of g.cleanup_pass.new.encoder g.cleanup_pass.new.distortion)) plane
    (next_holds coefs s k (g.args.planes - 1 - (k + 2) / 3) cleanup _ _ (kind_cleanup k turn)
    (sym plane) after)

pub returns-then-turn-eq0-clause-goes_on : goal.returns-then-turn-eq0-clause-goes_on
returns-then-turn-eq0-clause-goes_on g =
    at_most g.args.encoder.now g.significance_pass.new.encoder 6144 9216
    (omega arith) g.significance_pass.ensures.goes_on

pub returns-then-turn-eq1-clause-goes_on : goal.returns-then-turn-eq1-clause-goes_on
returns-then-turn-eq1-clause-goes_on g =
    at_most g.args.encoder.now g.refinement_pass.new.encoder 3072 9216
    (omega arith) g.refinement_pass.ensures.goes_on

pub returns-then-turn-eq0-clause-same_reference : goal.returns-then-turn-eq0-clause-same_reference
returns-then-turn-eq0-clause-same_reference g = g.significance_pass.ensures.goes_on.same_reference

pub returns-then-turn-eq1-clause-same_reference : goal.returns-then-turn-eq1-clause-same_reference
returns-then-turn-eq1-clause-same_reference g = g.refinement_pass.ensures.goes_on.same_reference

pub returns-clause-same_reference : goal.returns-clause-same_reference
returns-clause-same_reference g = g.cleanup_pass.ensures.goes_on.same_reference
