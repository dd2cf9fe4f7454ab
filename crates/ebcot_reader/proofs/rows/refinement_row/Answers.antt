use Rattle.std.proofs.Common.{ℕ, ◌+◌, ◌*◌, ◌≡◌, true, suc, sym, ◌∙◌, arith}
use Rattle.std.proofs.lemmas.Bool.{and_parts, eqb-true}
use Rattle.ebcot_contexts.specs.Cells.{Cell, cell_at, learn}
use Rattle.ebcot_contexts.specs.Passes.{refinement, is_coded}
use Rattle.ebcot_reader.proofs.Decoding.{taken}
use Rattle.ebcot_reader.proofs.Grids.{known_set, refined_value, grid_word}
use Rattle.ebcot_reader.proofs.Places.{open_row, own_word, not_visited, visited, holds_set}
use Rattle.ebcot_reader.proofs.Places.{untouched_inside, learn_place, kept_plain, unsigned_of}
use Rattle.ebcot_reader.proofs.rows.refinement_row.Goals as goal

pub returns-then-not-codes_refinement : goal.returns-then-not-codes_refinement
returns-then-not-codes_refinement c = λ bytes s i column stripe n st words at h.
    let own = own_word s.width c.args.p i column stripe c.args.r n c.args.j st.0 words c.args.word
    at
    h.flags in
    not_visited bytes refinement s c.args.p i st _ _ _
    (sym (c.codes_refinement.ensures s c.args.p i column stripe st.0 at.place at.some own)
    ∙ c.if-not-codes_refinement.true) h

pub returns : goal.returns
returns c = λ bytes s i column stripe n st words at h.
    let p : ℕ = c.args.p in
    let k : ℕ = c.args.j + 32 * c.args.r in
    let own = own_word s.width p i column stripe c.args.r n c.args.j st.0 words c.args.word at
    h.flags in
    let coded : is_coded refinement s p i st.0 ≡ true =
    sym (c.codes_refinement.ensures s p i column stripe st.0 at.place at.some own)
    ∙ c.if-not-codes_refinement.false in
    let parts = and_parts _ _ coded in
    let some = parts.1 in
    let inside = untouched_inside p i st.0 parts.0 in
    let cell : Cell = cell_at st.0 i in
    let open_place : cell.unknown ≡ suc p = eqb-true _ _ parts.0 in
    let cx : ℕ = c.refinement_context.result in
    let step = taken bytes st.1 cx c.take-bit.result c.args.decoder.now c.take-bit.new.self
    h.decoder
    c.take-bit.ensures.decides c.take-bit.ensures.stands c.take-bit.ensures.bytes in
    let x : Cell = learn p c.take-bit.result cell in
    let row = c.requires.row in
    let room = c.requires.grid in
    visited bytes refinement s p i cx st _ _ _ coded
    (c.refinement_context.ensures.context s p i column stripe st.0 at.place at.some own some)
    (learn_place bytes s cx p i st _ _ _ c.take-bit.result (unsigned_of c.take-bit.result _ some)
    step.bit
    (holds_set bytes s p i x st _ _ _ _ _ _ _ inside (kept_plain p c.take-bit.result cell some) h
    (c.refine.ensures s.width p i column stripe n st.0 words c.take-bit.result
    (open_row s.width i column stripe c.args.r n c.args.j st.0 at inside) some h.flags)
    (known_set s.width i k _ x st.0 c.args.grid.now at.some h.narrow at.grid (omega arith)
    (refined_value p _ c.from.result c.take-bit.result cell c.requires.plane open_place
    c.from.ensures (grid_word s.width i k st.0 c.args.grid.now at.grid inside h.grid_is))
    inside h.grid_is)
    step.at))
