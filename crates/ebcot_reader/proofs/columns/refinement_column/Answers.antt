use Rattle.std.proofs.Common.{ℕ, List, get_or, arith}
use Rattle.ebcot_contexts.specs.Passes.{refinement}
use Rattle.ebcot_reader.proofs.Places.{own_word, own_held}
use Rattle.ebcot_reader.proofs.ColumnTrees.{none_coded, rows_hold, none_significant, unrefined}
use Rattle.ebcot_reader.proofs.columns.refinement_column.Goals as goal

pub returns-then-word-eq0 : goal.returns-then-word-eq0
returns-then-word-eq0 c = λ bytes s at stripe is st col h.
    let p : ℕ = c.args.p in
    let n : ℕ = c.args.n in
    let j : ℕ = c.args.j in
    let words : List ℕ = c.args.words.now in
    let word : ℕ = get_or words n 0 in
    let none = none_significant word c.if-word-eq0.true in
    let held = own_held bytes s p n st words _ _ h in
    none_coded bytes refinement s p is col.a col.b col.c col.d st _ _ _ col.places
    (unrefined s p col.a at stripe 0 st.0 word (omega arith) col.rows.first.place
    col.rows.first.some
    (own_word s.width p col.a at stripe 0 n j st.0 words word col.rows.first held.flags) none.0)
    (unrefined s p col.b at stripe 1 st.0 word (omega arith) col.rows.second.place
    col.rows.second.some
    (own_word s.width p col.b at stripe 1 n j st.0 words word col.rows.second held.flags) none.1)
    (unrefined s p col.c at stripe 2 st.0 word (omega arith) col.rows.third.place
    col.rows.third.some
    (own_word s.width p col.c at stripe 2 n j st.0 words word col.rows.third held.flags) none.2)
    (unrefined s p col.d at stripe 3 st.0 word (omega arith) col.rows.fourth.place
    col.rows.fourth.some
    (own_word s.width p col.d at stripe 3 n j st.0 words word col.rows.fourth held.flags) none.3)
    h

pub returns : goal.returns
returns c = λ bytes s at stripe is st col h.
    let p : ℕ = c.args.p in
    let n : ℕ = c.args.n in
    let words : List ℕ = c.args.words.now in
    let h0 = own_held bytes s p n st words _ _ h in
    let h1 = c.refinement_row-first.ensures bytes s col.a at stripe n st words col.rows.first h0 in
    let h2 = c.refinement_row-second.ensures bytes s col.b at stripe n _ words col.rows.second h1 in
    let h3 = c.refinement_row-third.ensures bytes s col.c at stripe n _ words col.rows.third h2 in
    let h4 = c.refinement_row-fourth.ensures bytes s col.d at stripe n _ words col.rows.fourth h3 in
    rows_hold bytes refinement s p is col.a col.b col.c col.d st _ _ _ col.places h.long h4
