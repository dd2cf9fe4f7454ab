use Rattle.std.proofs.Common.{ℕ, get_or, ap, ◌∙◌}
use Rattle.flag_words.proofs.Neighbours.{context_by, neighbours_few}
use Rattle.flag_words.proofs.contexts.significance_context.Goals as goal

pub returns-clause-context : goal.returns-clause-context
returns-clause-context c = λ s p i column stripe cells table at some is.
    ap (λ (k : ℕ). get_or c.args.contexts.now k 0) c.neighbours.ensures
    ∙ table _ (neighbours_few c.args.word c.args.r)
    ∙ context_by s p i column stripe c.args.r cells c.args.word c.requires at some is
