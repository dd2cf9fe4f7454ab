use Rattle.std.proofs.Common.{◌<◌, Bool, true, false, not, eqb, ◌∙◌, arith}
use Rattle.std.proofs.lemmas.Bool.{ltb-true}
use Rattle.ebcot_contexts.specs.Cells.{cell_at}
use Rattle.ebcot_contexts.specs.Contexts.{refinement_context}
use Rattle.flag_words.proofs.Quiet.{context_test}
use Rattle.flag_words.proofs.looks.refinement_context.Goals as goal

few_of : (first around : Bool) → refinement_context first around < 19
few_of true true = omega arith
few_of true false = omega arith
few_of false around = omega arith

pub returns-clause-few : goal.returns-clause-few
returns-clause-few c = rw c.refinement.ensures (few_of _ _)

pub returns-clause-context : goal.returns-clause-context
returns-clause-context c = λ s p i column stripe cells at some is significant.
    c.refinement.ensures
    ∙ (λ j. refinement_context (not (c.has.ensures j)) (not (eqb (c.neighbours-quiet.ensures j) 0)))
    ∙ context_test s p i column stripe c.args.r cells c.args.word c.requires at some is
    (ltb-true 0 (cell_at cells i).magnitude significant)
