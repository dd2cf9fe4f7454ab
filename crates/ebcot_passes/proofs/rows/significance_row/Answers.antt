use Rattle.std.proofs.lemmas.Bool.{eqb-true}
use Rattle.ebcot_passes.proofs.Places.{next_place}
use Rattle.std.proofs.Common.{ℕ, ◌≡◌, ◌*◌, ◌<◌, true, false, sym, ◌∙◌, arith}
use Rattle.std.proofs.lemmas.Bool.{and_parts}
use Rattle.ebcot_contexts.specs.Cells.{cell_at, is_significant}
use Rattle.ebcot_contexts.specs.Passes.{significance, is_coded}
use Rattle.ebcot_passes.proofs.Places.{own_word, coef_word, not_visited, visited, untouched_inside}
use Rattle.ebcot_passes.proofs.Places.{not_true}
use Rattle.ebcot_passes.proofs.rows.significance_row.Goals as goal

pub returns-then-not-codes_significance-clause-codes :
    goal.returns-then-not-codes_significance-clause-codes
returns-then-not-codes_significance-clause-codes c =
    λ s i column stripe coefs l cells at contexts a h.
    let own = own_word s.width c.args.p i column stripe c.args.r c.args.n c.args.j cells
    c.args.words.now c.args.word at h.flags in
    not_visited significance s c.args.p i coefs l cells _ _
    (sym (c.codes_significance.ensures s c.args.p i column stripe cells at.place at.some own)
    ∙ c.if-not-codes_significance.true) h

pub returns-clause-codes : goal.returns-clause-codes
returns-clause-codes c = λ s i column stripe coefs l cells at contexts a h.
    let p : ℕ = c.args.p in
    let own = own_word s.width p i column stripe c.args.r c.args.n c.args.j cells c.args.words.now
    c.args.word at h.flags in
    let coded : is_coded significance s p i cells ≡ true =
    sym (c.codes_significance.ensures s p i column stripe cells at.place at.some own)
    ∙ c.if-not-codes_significance.false in
    let parts = and_parts _ _ coded in
    let first = and_parts _ _ parts.0 in
    let untouched = first.0 in
    let none : is_significant (cell_at cells i) ≡ false = not_true _ first.1 in
    let inside = untouched_inside p i cells untouched in
    let long = h.long in
    let within : i < s.width * s.height = omega arith in
    let coef = coef_word s.width s.height i column stripe c.args.r c.args.n c.args.j coefs
    c.args.grid.now at a within in
    visited significance s p i c.significance_context-cx.result coefs l cells _ _ coded
    (c.significance_context-cx.ensures.context s p i column stripe cells contexts at.place at.some
    own)
    (c.code_place.ensures.codes s i column stripe c.args.j coefs l cells at
    (next_place coefs s p i cells l _ _ h inside (eqb-true _ _ untouched)) coef
    (a.below i) none h)
