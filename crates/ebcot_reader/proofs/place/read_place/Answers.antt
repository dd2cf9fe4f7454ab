use Rattle.std.proofs.Common.{ℕ, false, refl, sym, ◌∙◌}
use Rattle.ebcot_contexts.specs.Cells.{cell_at, learn}
use Rattle.ebcot_contexts.specs.Meaning.{next_decision}
use Rattle.ebcot_reader.proofs.Decoding.{taken}
use Rattle.ebcot_reader.proofs.Grids.{known_kept, zero_word}
use Rattle.ebcot_reader.proofs.Places.{open_row, holds_set, holds_taken, one_place, learn_place}
use Rattle.ebcot_reader.proofs.Places.{zero_plain}
use Rattle.ebcot_reader.proofs.place.read_place.Goals as goal

pub returns-then-take : goal.returns-then-take
returns-then-take c = λ bytes s i column stripe st at inside none h.
    let p : ℕ = c.args.p in
    let step = taken bytes st.1 c.args.cx c.take.result c.args.decoder.now c.take.new.self h.decoder
    c.take.ensures.decides c.take.ensures.stands c.take.ensures.bytes in
    one_place bytes s c.args.cx p i st _ _ _ c.take.result none c.if-take.true step.bit
    (c.read_sign.ensures bytes s i column stripe
    (st.0, (next_decision bytes st.1 c.args.cx).1) at inside none
    (holds_taken bytes s p st _ _ _ _ _ h step.at))

pub returns-else-take : goal.returns-else-take
returns-else-take c = λ bytes s i column stripe st at inside none h.
    let p : ℕ = c.args.p in
    let step = taken bytes st.1 c.args.cx c.take.result c.args.decoder.now c.take.new.self h.decoder
    c.take.ensures.decides c.take.ensures.stands c.take.ensures.bytes in
    learn_place bytes s c.args.cx p i st _ _ _ false refl (sym c.if-take.false ∙ step.bit)
    (holds_set bytes s p i (learn p false (cell_at st.0 i)) st _ _ _ _ _ _ _ inside
    (zero_plain p (cell_at st.0 i) none (h.plain i)) h
    (c.touch.ensures s.width p i column stripe c.args.n st.0 c.args.words.now
    (open_row s.width i column stripe c.args.r c.args.n c.args.j st.0 at inside) none h.flags)
    (known_kept s.width i (learn p false (cell_at st.0 i)) st.0 c.args.grid.now inside
    (zero_word p (cell_at st.0 i) none) h.grid_is)
    step.at)
