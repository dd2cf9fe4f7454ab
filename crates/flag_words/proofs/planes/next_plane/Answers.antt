use Rattle.std.proofs.Common.{ℕ, ◌≡◌, inl, inr, get_or, set, refl, sym, ap, ◌∙◌, arith}
use Rattle.std.proofs.Common.{subst}
use Rattle.std.proofs.lemmas.Bool.{cases_eq}
use Rattle.std.proofs.lemmas.List.{get_or-set_same, get_or-set_other, length-set}
use Rattle.flag_words.specs.Blank.{next_of}
use Rattle.flag_words.proofs.BlankLemmas.{next_flags}
use Rattle.flag_words.proofs.planes.next_plane.Goals as goal

pub loop-n-init : goal.loop-n-init
loop-n-init c = (c.told-words, λ j l. absurd (omega arith), λ j l. refl)

pub loop-n-preserved : goal.loop-n-preserved
loop-n-preserved c =
    let word : ℕ = next_of (get_or c.loop-n.words c.loop-n.n 0)
    (get_or c.args.blank.now c.loop-n.n 0) in (
      length-set c.loop-n.words c.loop-n.n word ∙ c.loop-n.invariant.0,
      λ j l. elim (cases_eq j c.loop-n.n) [
        | inl e ↦
            subst (λ (v : ℕ). get_or (set c.loop-n.words c.loop-n.n word) v 0
            ≡ next_of (get_or c.args.words.now v 0) (get_or c.args.blank.now v 0)) (sym e)
            (get_or-set_same c.loop-n.words c.loop-n.n word 0 (omega (arith, c.loop-n.invariant.0))
            ∙ ap (λ (v : ℕ). next_of v (get_or c.args.blank.now c.loop-n.n 0))
            (c.loop-n.invariant.2 c.loop-n.n (omega arith)))
        | inr e ↦ get_or-set_other c.loop-n.words c.loop-n.n j word 0 e
            ∙ c.loop-n.invariant.1 j (omega arith)
      ],
      λ j l. get_or-set_other c.loop-n.words c.loop-n.n j word 0 (λ e. omega arith)
          ∙ c.loop-n.invariant.2 j (omega arith),
    )

pub returns : goal.returns
returns c = λ s p cells some blank long unknown old.
    next_flags s some p cells c.args.words.now c.args.blank.now c.loop-n.words blank long unknown c.loop-n.invariant.0
    (λ n l. c.loop-n.invariant.1 n (omega arith)) old
