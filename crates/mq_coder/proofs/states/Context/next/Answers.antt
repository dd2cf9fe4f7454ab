use Rattle.std.proofs.Common.{sym, ap, subst, ◌∙◌, inl, inr}
use Rattle.mq_coder.specs.States.{state_table, row, after_symbol}
use Rattle.mq_coder.specs.Rows.{row_word, context_of, IsRow}
use Rattle.mq_coder.proofs.RowWords.{word_at, is_row, found, next_place}
use Rattle.mq_coder.proofs.states.Context.next.Goals.{then-is_lps, else-is_lps}
use Rattle.mq_coder.proofs.states.Context.next.Goals as goal

pub bounds-place : goal.bounds-place
bounds-place c =
    (next_place c.self.inside.row c.args.self c.args.is_lps c.if-is_lps.place c.self.invariant c.self.view_is
    (elim c.if-is_lps.branch [
      | then-is_lps w ↦ inl (w.if-is_lps.true, w.place-is)
      | else-is_lps w ↦ inr (w.if-is_lps.false, w.place-is)
    ])).below

pub invariant_of-result : goal.invariant_of-result
unfolding row_word state_table row after_symbol
invariant_of-result c =
    let next = next_place c.self.inside.row c.args.self c.args.is_lps c.if-is_lps.place c.self.invariant c.self.view_is
    (elim c.if-is_lps.branch [
      | then-is_lps w ↦ inl (w.if-is_lps.true, w.place-is)
      | else-is_lps w ↦ inr (w.if-is_lps.false, w.place-is)
    ]) in
    subst IsRow (sym (word_at c.if-is_lps.place next.below)) (is_row c.if-is_lps.place next.below)

pub returns : goal.returns
unfolding row_word state_table row after_symbol
returns c =
    let next = next_place c.self.inside.row c.args.self c.args.is_lps c.if-is_lps.place c.self.invariant c.self.view_is
    (elim c.if-is_lps.branch [
      | then-is_lps w ↦ inl (w.if-is_lps.true, w.place-is)
      | else-is_lps w ↦ inr (w.if-is_lps.false, w.place-is)
    ]) in
    ap context_of (word_at c.if-is_lps.place next.below)
    ∙ (found c.if-is_lps.place next.below ∙ next.is_next)
