use Rattle.std.proofs.Common.{eqb-true}
use Rattle.ebcot_passes.proofs.Places.{next_place}
use Rattle.std.proofs.Common.{ℕ, ◌≡◌, ◌*◌, ◌<◌, true, false, sym, ◌∙◌, arith}
use Rattle.ebcot_contexts.specs.Cells.{cell_at, is_significant}
use Rattle.ebcot_contexts.specs.Passes.{cleanup, is_coded}
use Rattle.ebcot_passes.proofs.Places.{own_word, coef_word, not_visited, visited, untouched_inside}
use Rattle.ebcot_passes.proofs.rows.cleanup_row.Goals as goal

pub returns-then-not-codes_cleanup-clause-codes : goal.returns-then-not-codes_cleanup-clause-codes
returns-then-not-codes_cleanup-clause-codes c =
    λ s i column stripe coefs l cells at contexts a settled h.
    let own = own_word s.width c.args.p i column stripe c.args.r c.args.n c.args.j cells
    c.args.words.now c.args.word at h.flags in
    not_visited cleanup s c.args.p i coefs l cells _ _
    (sym (c.codes_cleanup.ensures s c.args.p i column stripe cells at.place at.some own)
    ∙ c.if-not-codes_cleanup.true) h

pub returns-clause-codes : goal.returns-clause-codes
returns-clause-codes c = λ s i column stripe coefs l cells at contexts a settled h.
    let p : ℕ = c.args.p in
    let own = own_word s.width p i column stripe c.args.r c.args.n c.args.j cells c.args.words.now
    c.args.word at h.flags in
    let coded : is_coded cleanup s p i cells ≡ true =
    sym (c.codes_cleanup.ensures s p i column stripe cells at.place at.some own)
    ∙ c.if-not-codes_cleanup.false in
    let untouched = coded in
    let none : is_significant (cell_at cells i) ≡ false = settled coded in
    let inside = untouched_inside p i cells untouched in
    let long = h.long in
    let within : i < s.width * s.height = omega arith in
    let coef = coef_word s.width s.height i column stripe c.args.r c.args.n c.args.j coefs
    c.args.grid.now at a within in
    visited cleanup s p i c.significance_context-cx.result coefs l cells _ _ coded
    (c.significance_context-cx.ensures.context s p i column stripe cells contexts at.place at.some
    own)
    (c.code_place.ensures.codes s i column stripe c.args.j coefs l cells at
    (next_place coefs s p i cells l _ _ h inside (eqb-true _ _ untouched)) coef
    (a.below i) none h)
