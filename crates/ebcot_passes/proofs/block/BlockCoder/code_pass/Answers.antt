use Rattle.ebcot_passes.specs.PassCoder.{coder_of}
use Rattle.std.proofs.Common.{rules, ℕ, suc, sym, subst, arith}
use Rattle.mq_coder.specs.Encoder.{Stands}
use Rattle.mq_coder.specs.Mark.{IsMarkOf, IsLeft}
use Rattle.ebcot_contexts.specs.Passes.{plane_of}
use Rattle.ebcot_contexts.specs.Meaning.{symbols_of, known_after}
use Rattle.distortion_sums.specs.Places.{IsHeld}
use Rattle.flag_words.specs.Words.{AreFlags}
use Rattle.ebcot_passes.specs.Coding.{Holds}
use Rattle.ebcot_passes.specs.Runs.{plane_before}
use Rattle.mq_coder.proofs.MarkLemmas.{mark_kept}
use Rattle.ebcot_passes.proofs.Blocks.{few_after, held_before, exact_after}
use Rattle.ebcot_passes.proofs.block.BlockCoder.code_pass.Goals as goal

pub returns-clause-codes : goal.returns-clause-codes
returns-clause-codes c = λ coefs s k h.
    let passes = h.passes_are in
    let stands = c.resume-encoder.ensures.stands (symbols_of coefs s k) h.left in
    let held = subst (λ (v : ℕ). Holds coefs s (plane_of s v) (known_after coefs s (suc v))
    (symbols_of coefs s (suc v)) c.code_next.new.words
    (coder_of c.code_next.new.encoder c.code_next.new.distortion)) passes
    (c.code_next.ensures.codes s coefs h.wide h.high h.planes_are h.contexts h.grid h.blank
    (subst (λ (v : ℕ). AreFlags s.width (plane_before s v)
    (known_after coefs s v) c.args.self.now.words) (sym passes) h.flags)
    (subst (λ (v : ℕ). Stands c.resume-encoder.result (symbols_of coefs s v)) (sym passes) stands)
    (subst (λ (v : ℕ). IsHeld c.args.self.now.distortion coefs (known_after coefs s v)) (sym passes)
    (held_before coefs s k c.args.self.now c.args.bytes.now h)) h.fits) in
    record {
      wide = h.wide;
      high = h.high;
      planes_are = h.planes_are;
      contexts = h.contexts;
      grid = h.grid;
      blank = h.blank;
      passes_are = omega arith;
      flags = held.flags;
      fits = h.fits;
      distortion_is = exact_after coefs s k c.code_next.new.distortion c.args.self.now
          c.args.bytes.now h held.held;
      left = (
          let left : IsLeft c.mark-self.result c.contexts-self.result
          c.code_next.new.encoder.bytes.now (symbols_of coefs s (suc k)) =
          c.contexts-self.ensures.left c.mark-self.result (symbols_of coefs s (suc k)) held.stands
          (c.mark-self.ensures.stands (symbols_of coefs s (suc k)) held.stands) in
          search rules);
    }

pub returns-clause-distortion : goal.returns-clause-distortion
returns-clause-distortion c = λ coefs s k h.
    let passes = h.passes_are in
    let stands = c.resume-encoder.ensures.stands (symbols_of coefs s k) h.left in
    let held = subst (λ (v : ℕ). Holds coefs s (plane_of s v) (known_after coefs s (suc v))
    (symbols_of coefs s (suc v)) c.code_next.new.words
    (coder_of c.code_next.new.encoder c.code_next.new.distortion)) passes
    (c.code_next.ensures.codes s coefs h.wide h.high h.planes_are h.contexts h.grid h.blank
    (subst (λ (v : ℕ). AreFlags s.width (plane_before s v)
    (known_after coefs s v) c.args.self.now.words) (sym passes) h.flags)
    (subst (λ (v : ℕ). Stands c.resume-encoder.result (symbols_of coefs s v)) (sym passes) stands)
    (subst (λ (v : ℕ). IsHeld c.args.self.now.distortion coefs (known_after coefs s v)) (sym passes)
    (held_before coefs s k c.args.self.now c.args.bytes.now h)) h.fits) in
    exact_after coefs s k c.code_next.new.distortion c.args.self.now c.args.bytes.now h held.held

pub returns-clause-mark : goal.returns-clause-mark
returns-clause-mark c = λ coefs s k h.
    let passes = h.passes_are in
    let stands = c.resume-encoder.ensures.stands (symbols_of coefs s k) h.left in
    let held = subst (λ (v : ℕ). Holds coefs s (plane_of s v) (known_after coefs s (suc v))
    (symbols_of coefs s (suc v)) c.code_next.new.words
    (coder_of c.code_next.new.encoder c.code_next.new.distortion)) passes
    (c.code_next.ensures.codes s coefs h.wide h.high h.planes_are h.contexts h.grid h.blank
    (subst (λ (v : ℕ). AreFlags s.width (plane_before s v)
    (known_after coefs s v) c.args.self.now.words) (sym passes) h.flags)
    (subst (λ (v : ℕ). Stands c.resume-encoder.result (symbols_of coefs s v)) (sym passes) stands)
    (subst (λ (v : ℕ). IsHeld c.args.self.now.distortion coefs (known_after coefs s v)) (sym passes)
    (held_before coefs s k c.args.self.now c.args.bytes.now h)) h.fits) in
    let mark : IsMarkOf c.mark-self.result c.code_next.new.encoder.bytes.now
    (symbols_of coefs s (suc k)) =
    c.mark-self.ensures.stands (symbols_of coefs s (suc k)) held.stands in
    search rules

pub returns-clause-later : goal.returns-clause-later
returns-clause-later c = λ coefs s k later h.
    let passes = h.passes_are in
    let stands = c.resume-encoder.ensures.stands (symbols_of coefs s k) h.left in
    let held = subst (λ (v : ℕ). Holds coefs s (plane_of s v) (known_after coefs s (suc v))
    (symbols_of coefs s (suc v)) c.code_next.new.words
    (coder_of c.code_next.new.encoder c.code_next.new.distortion)) passes
    (c.code_next.ensures.codes s coefs h.wide h.high h.planes_are h.contexts h.grid h.blank
    (subst (λ (v : ℕ). AreFlags s.width (plane_before s v)
    (known_after coefs s v) c.args.self.now.words) (sym passes) h.flags)
    (subst (λ (v : ℕ). Stands c.resume-encoder.result (symbols_of coefs s v)) (sym passes) stands)
    (subst (λ (v : ℕ). IsHeld c.args.self.now.distortion coefs (known_after coefs s v)) (sym passes)
    (held_before coefs s k c.args.self.now c.args.bytes.now h)) h.fits) in
    c.mark-self.ensures.later (symbols_of coefs s (suc k)) later held.stands

pub returns-clause-few : goal.returns-clause-few
returns-clause-few c = λ coefs s k h.
    let narrow = c.args.self.now.narrow in
    let low = c.args.self.now.low in
    let few_planes = c.args.self.now.few_planes in
    let more = c.requires.more in
    let wide = h.wide in
    let high = h.high in
    let planes = h.planes_are in
    let passes = h.passes_are in
    let stands = c.resume-encoder.ensures.stands (symbols_of coefs s k) h.left in
    let held = subst (λ (v : ℕ). Holds coefs s (plane_of s v) (known_after coefs s (suc v))
    (symbols_of coefs s (suc v)) c.code_next.new.words
    (coder_of c.code_next.new.encoder c.code_next.new.distortion)) passes
    (c.code_next.ensures.codes s coefs h.wide h.high h.planes_are h.contexts h.grid h.blank
    (subst (λ (v : ℕ). AreFlags s.width (plane_before s v)
    (known_after coefs s v) c.args.self.now.words) (sym passes) h.flags)
    (subst (λ (v : ℕ). Stands c.resume-encoder.result (symbols_of coefs s v)) (sym passes) stands)
    (subst (λ (v : ℕ). IsHeld c.args.self.now.distortion coefs (known_after coefs s v)) (sym passes)
    (held_before coefs s k c.args.self.now c.args.bytes.now h)) h.fits) in
    let count = few_after coefs s (suc k) c.code_next.new.encoder held.stands (omega arith)
    (omega arith) (omega arith) (omega arith) in
    let same = c.mark-self.ensures.count in
    omega arith

pub returns-clause-marks : goal.returns-clause-marks
returns-clause-marks c = λ m symbols within h.
    let on = c.code_next.ensures.goes_on in
    let count = c.resume-encoder.ensures.count in
    let kept : IsMarkOf m c.code_next.new.encoder.bytes.now symbols =
    mark_kept m c.resume-encoder.result.bytes.now c.code_next.new.encoder.bytes.now
    c.resume-encoder.result.registers.count symbols
    on.fixed (omega arith) (c.resume-encoder.ensures.marks m symbols within h) in
    search rules
