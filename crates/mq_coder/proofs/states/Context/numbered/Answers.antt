use Rattle.std.proofs.Common.{sym, ap, subst, ◌∙◌}
use Rattle.mq_coder.specs.States.{state_table, row, after_symbol}
use Rattle.mq_coder.specs.Rows.{row_word, context_of, IsRow}
use Rattle.mq_coder.proofs.RowWords.{word_at, is_row, found}
use Rattle.mq_coder.proofs.states.Context.numbered.Goals as goal

pub invariant_of-result : goal.invariant_of-result
unfolding row_word state_table row after_symbol
invariant_of-result c = subst IsRow (sym (word_at c.args.number c.requires))
    (is_row c.args.number c.requires)

pub returns : goal.returns
unfolding row_word state_table row after_symbol
returns c = ap context_of (word_at c.args.number c.requires) ∙ found c.args.number c.requires
