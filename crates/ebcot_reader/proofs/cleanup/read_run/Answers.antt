use Rattle.std.proofs.Common.{ℕ, List, [], ◌∷◌, set, take, sym, ◌∙◌, subst}
use Rattle.mq_coder.specs.Decisions.{Interval}
use Rattle.ebcot_contexts.specs.Cells.{Cell}
use Rattle.ebcot_contexts.specs.Passes.{sign_asked, zeros}
use Rattle.ebcot_reader.specs.Reading.{Holds, after}
use Rattle.ebcot_reader.proofs.Decoding.{taken}
use Rattle.ebcot_reader.proofs.Places.{holds_taken}
use Rattle.ebcot_reader.proofs.RunTrees.{picked, row_place}
use Rattle.ebcot_reader.proofs.Zeros.{run_none, run_some, after_17, after_high, after_low}
use Rattle.ebcot_reader.proofs.cleanup.read_run.Goals as goal

pub returns-then-not-take : goal.returns-then-not-take
returns-then-not-take g = λ bytes s column stripe xa xb xc xd st rows new h.
    let p : ℕ = g.args.p in
    let step = taken bytes st.1 17 g.take.result g.args.decoder.now g.take.new.self h.decoder
    g.take.ensures.decides g.take.ensures.stands g.take.ensures.bytes in
    run_none bytes s p xa xb xc xd st _ _ _ (sym g.if-not-take.true ∙ step.bit)
    (g.touched.ensures bytes s p column stripe g.args.n g.args.j xa xb xc xd
    (st.0, after_17 bytes st) g.args.words.now g.args.grid.now g.take.new.self rows new
    (holds_taken bytes s p st _ _ _ _ _ h step.at))

pub returns : goal.returns
returns g = λ bytes s column stripe xa xb xc xd st rows new h.
    let p : ℕ = g.args.p in
    let n : ℕ = g.args.n in
    let j : ℕ = g.args.j in
    let row : ℕ = g.row_of-row.result in
    let some = taken bytes st.1 17 g.take.result g.args.decoder.now g.take.new.self h.decoder
    g.take.ensures.decides g.take.ensures.stands g.take.ensures.bytes in
    let high = taken bytes (after_17 bytes st) 18 g.take-high.result g.take.new.self
    g.take-high.new.self some.at g.take-high.ensures.decides g.take-high.ensures.stands
    g.take-high.ensures.bytes in
    let low = taken bytes (after_high bytes st) 18 g.take-low.result g.take-high.new.self
    g.take-low.new.self high.at g.take-low.ensures.decides g.take-low.ensures.stands
    g.take-low.ensures.bytes in
    let it : Interval = after_low bytes st in
    let known : List Cell = zeros p (take row (xa ∷ xb ∷ xc ∷ xd ∷ [])) st.0 in
    let held = g.touched-before.ensures bytes s p column stripe n j xa xb xc xd (st.0, it)
    g.args.words.now g.args.grid.now g.take-low.new.self rows new
    (holds_taken bytes s p st it _ _ _ _ h low.at) in
    let pick = picked s.width p column stripe row n j xa xb xc xd st.0 rows new
    g.row_of-row.ensures.few in
    let sign = g.read_sign.ensures bytes s (row_place row xa xb xc xd) column stripe (known, it)
    pick.at pick.inside pick.none held in
    run_some bytes s p xa xb xc xd st _ _ _ g.take-high.result g.take-low.result
    (sym g.if-not-take.false ∙ some.bit) high.bit low.bit
    (subst (λ (k : ℕ). Holds bytes s p (after bytes
    (zeros p (take k (xa ∷ xb ∷ xc ∷ xd ∷ [])) st.0, it)
    (sign_asked s p (row_place k xa xb xc xd)))
    (set g.read_sign.new.words n g.read_sign.result) g.read_sign.new.grid
    g.read_sign.new.decoder) g.row_of-row.ensures.row sign)
