use Rattle.std.proofs.Common.{◌∙◌, inl}
use Rattle.std.proofs.lemmas.Bool.{eqb-true}
use Rattle.ebcot_passes.proofs.Places.{word_magnitude, some_bits, next_place}
use Rattle.std.proofs.Common.{ℕ, ◌≡◌, ◌*◌, ◌<◌, ◌∷◌, [], ◌++◌, Bool, true, sym, subst, arith}
use Rattle.std.proofs.lemmas.Bool.{and_parts}
use Rattle.mq_coder.specs.Encoder.{Stands}
use Rattle.ebcot_contexts.specs.Cells.{cell_at, coef_at, bit_of}
use Rattle.ebcot_contexts.specs.Passes.{refinement, is_coded}
use Rattle.ebcot_passes.proofs.Places.{open_row, own_word, coef_word, word_bit, not_visited}
use Rattle.ebcot_passes.proofs.Places.{visited, untouched_inside, learn_place, kept_plain}
use Rattle.ebcot_passes.proofs.Places.{unsigned_of}
use Rattle.ebcot_passes.proofs.rows.refinement_row.Goals as goal

pub returns-then-not-codes_refinement-clause-codes :
    goal.returns-then-not-codes_refinement-clause-codes
returns-then-not-codes_refinement-clause-codes c = λ s i column stripe n coefs l cells words at a h.
    let own = own_word s.width c.args.p i column stripe c.args.r n c.args.j cells words c.args.word
    at h.flags in
    not_visited refinement s c.args.p i coefs l cells _ _
    (sym (c.codes_refinement.ensures s c.args.p i column stripe cells at.place at.some own)
    ∙ c.if-not-codes_refinement.true) h

pub returns-clause-codes : goal.returns-clause-codes
returns-clause-codes c = λ s i column stripe n coefs l cells words at a h.
    let p : ℕ = c.args.p in
    let own = own_word s.width p i column stripe c.args.r n c.args.j cells words c.args.word at
    h.flags in
    let coded : is_coded refinement s p i cells ≡ true =
    sym (c.codes_refinement.ensures s p i column stripe cells at.place at.some own)
    ∙ c.if-not-codes_refinement.false in
    let parts = and_parts _ _ coded in
    let inside = untouched_inside p i cells parts.0 in
    let long = h.long in
    let within : i < s.width * s.height = omega arith in
    let coef = coef_word s.width s.height i column stripe c.args.r n c.args.j coefs c.args.grid.now
    at a within in
    let next = next_place coefs s p i cells l _ _ h inside (eqb-true _ _ parts.0) in
    let b : Bool = bit_of (coef_at coefs i).0 p in
    let bit = word_bit _ p (coef_at coefs i) coef c.requires.plane in
    let stands = subst (λ (v : Bool). Stands c.put.new.self
    (l ++ (c.refinement_context.result, v) ∷ [])) bit (c.put.ensures.stands l h.stands) in
    visited refinement s p i c.refinement_context.result coefs l cells _ _ coded
    (c.refinement_context.ensures.context s p i column stripe cells at.place at.some own parts.1)
    (learn_place s c.refinement_context.result p i coefs l cells _ _ _ _ b next
    (unsigned_of b _ parts.1) (inl parts.1) (λ k. b)
    (kept_plain p b (cell_at cells i) parts.1) h
    (c.refine.ensures s.width p i column stripe n cells words b
    (open_row s.width i column stripe c.args.r n c.args.j cells at inside) parts.1 h.flags)
    stands
    (c.with_refined.ensures coefs cells i next
    (word_magnitude _ (coef_at coefs i) coef (a.below i))
    (some_bits coefs cells p i next h.shown parts.1) (h.held)))
