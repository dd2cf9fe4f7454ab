use Rattle.std.proofs.Common.{ℕ, ◌≡◌, true, false, sym, ◌∙◌}
use Rattle.ebcot_contexts.specs.Cells.{cell_at, is_significant}
use Rattle.ebcot_contexts.specs.Passes.{cleanup, is_coded}
use Rattle.ebcot_reader.proofs.Places.{own_word, not_visited, visited, untouched_inside}
use Rattle.ebcot_reader.proofs.rows.cleanup_row.Goals as goal

pub returns-then-not-codes_cleanup : goal.returns-then-not-codes_cleanup
returns-then-not-codes_cleanup c = λ bytes s i column stripe st at contexts settled h.
    let own = own_word s.width c.args.p i column stripe c.args.r c.args.n c.args.j st.0
    c.args.words.now c.args.word at h.flags in
    not_visited bytes cleanup s c.args.p i st _ _ _
    (sym (c.codes_cleanup.ensures s c.args.p i column stripe st.0 at.place at.some own)
    ∙ c.if-not-codes_cleanup.true) h

pub returns : goal.returns
returns c = λ bytes s i column stripe st at contexts settled h.
    let p : ℕ = c.args.p in
    let own = own_word s.width p i column stripe c.args.r c.args.n c.args.j st.0 c.args.words.now
    c.args.word at h.flags in
    let coded : is_coded cleanup s p i st.0 ≡ true =
    sym (c.codes_cleanup.ensures s p i column stripe st.0 at.place at.some own)
    ∙ c.if-not-codes_cleanup.false in
    let none : is_significant (cell_at st.0 i) ≡ false = settled coded in
    let inside = untouched_inside p i st.0 coded in
    visited bytes cleanup s p i c.significance_context-cx.result st _ _ _ coded
    (c.significance_context-cx.ensures.context s p i column stripe st.0 contexts at.place at.some
    own)
    (c.read_place.ensures bytes s i column stripe st at inside none h)
