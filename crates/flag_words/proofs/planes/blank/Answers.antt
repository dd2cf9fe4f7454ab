use Rattle.std.proofs.Common.{ℕ, ◌-◌, ◌≡◌, inl, inr, get_or, set, sym, ◌∙◌}
use Rattle.std.proofs.Common.{arith, subst}
use Rattle.std.proofs.lemmas.Bool.{cases_eq}
use Rattle.std.proofs.lemmas.List.{get_or-set_same, get_or-set_other, length-set, length-replicate}
use Rattle.ebcot_contexts.specs.Passes.{start}
use Rattle.flag_words.specs.Words.{AreFlags}
use Rattle.flag_words.specs.Blank.{blank_of}
use Rattle.flag_words.proofs.BlankLemmas.{blank_flags}
use Rattle.flag_words.proofs.planes.blank.Goals as goal

pub loop-n-init : goal.loop-n-init
loop-n-init c = (length-replicate {A = ℕ} 340 0, λ j l. absurd (omega arith))

pub loop-n-preserved : goal.loop-n-preserved
loop-n-preserved c = (
  length-set c.loop-n.words c.loop-n.n _ ∙ c.loop-n.invariant.0,
  λ j l. elim (cases_eq j c.loop-n.n) [
    | inl e ↦
        subst (λ (v : ℕ). get_or (set c.loop-n.words c.loop-n.n c.blank_word.result) v 0
        ≡ blank_of c.args.width c.args.height v) (sym e)
        (get_or-set_same c.loop-n.words c.loop-n.n c.blank_word.result 0
        (omega (arith, c.loop-n.invariant.0)) ∙ c.blank_word.ensures)
    | inr e ↦ get_or-set_other c.loop-n.words c.loop-n.n j c.blank_word.result 0 e
        ∙ c.loop-n.invariant.1 j (omega arith)
  ],
)

pub returns : goal.returns
returns c = λ s ew eh some.
    subst (λ (w : ℕ). AreFlags w (s.planes - 1) (start s) c.loop-n.words) ew
    (blank_flags s some c.loop-n.words c.loop-n.invariant.0
    (λ n l. c.loop-n.invariant.1 n (omega arith) ∙ (λ j. blank_of (sym ew j) (sym eh j) n)))
