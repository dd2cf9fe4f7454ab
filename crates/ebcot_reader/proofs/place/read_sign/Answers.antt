use Rattle.std.proofs.Common.{ℕ, ◌+◌, ◌*◌, Bool, not, ◌∙◌, arith}
use Rattle.std.proofs.Math.Bool.{beq}
use Rattle.ebcot_contexts.specs.Cells.{Cell, cell_at, become_significant}
use Rattle.ebcot_reader.proofs.Decoding.{taken}
use Rattle.ebcot_reader.proofs.Grids.{known_set, new_word, sign_word, sign_few}
use Rattle.ebcot_reader.proofs.Places.{open_row, own_word, word_before, word_after, holds_set}
use Rattle.ebcot_reader.proofs.Places.{significant_plain, sign_holds}
use Rattle.ebcot_reader.proofs.place.read_sign.Goals as goal

pub overflow_add-grid : goal.overflow_add-grid
overflow_add-grid c =
    let e = sign_few c.args.p c.from.result _ c.requires.plane c.from.ensures in
    omega (arith, e)

pub returns : goal.returns
returns c = λ bytes s i column stripe st at inside none h.
    let p : ℕ = c.args.p in
    let r : ℕ = c.args.r in
    let n : ℕ = c.args.n in
    let j : ℕ = c.args.j in
    let some = at.place.column_is in
    let left = word_before s.width p i column stripe r n j st.0 c.args.words.now c.args.word at
    (omega arith) h.flags in
    let own = own_word s.width p i column stripe r n j st.0 c.args.words.now c.args.word at h.flags
    in
    let right = word_after s.width p i column stripe r n j st.0 c.args.words.now c.args.word at
    h.flags in
    let sign = c.sign_context-cx.ensures.context s p i column stripe st.0 at.place at.some left own
    right in
    let step = taken bytes st.1 c.sign_context-cx.result.0 c.take.result c.args.decoder.now
    c.take.new.self h.decoder c.take.ensures.decides c.take.ensures.stands c.take.ensures.bytes in
    let negative : Bool = not (beq c.sign_context-cx.result.1 c.take.result) in
    let x : Cell = become_significant p negative (cell_at st.0 i) in
    let row = c.requires.row in
    let room = c.requires.grid in
    sign_holds bytes s p i st _ _ _ c.sign_context-cx.result c.take.result sign step.bit
    (holds_set bytes s p i x st _ _ _ _ _ _ _ inside
    (significant_plain p negative (cell_at st.0 i)) h
    (c.become_significant.ensures s.width p i column stripe st.0
    (open_row s.width i column stripe r n j st.0 at inside)
    (record { insignificant = none; plain = h.plain i none }) h.flags)
    (known_set s.width i (j + 32 * r) _ x st.0 c.args.grid.now at.some h.narrow at.grid
    (omega arith)
    (sign_word p c.from.result negative c.requires.plane c.from.ensures
    ∙ new_word p negative (cell_at st.0 i) none) inside h.grid_is)
    step.at)
