use Rattle.std.proofs.Common.{ℕ, ◌≡◌, Bool, true, false, List, get_or, set, sym, ◌∙◌, subst}
use Rattle.ebcot_contexts.specs.Asks.{read}
use Rattle.ebcot_contexts.specs.Meaning.{next_decision}
use Rattle.ebcot_reader.specs.Reading.{Holds}
use Rattle.ebcot_reader.specs.Runs.{calm_head, all_calm}
use Rattle.ebcot_reader.proofs.Places.{own_word, own_held}
use Rattle.ebcot_reader.proofs.RunTrees.{calm_new}
use Rattle.ebcot_reader.proofs.cleanup.read_head.Goals as goal

pub returns-then-codes_run : goal.returns-then-codes_run
returns-then-codes_run g = λ bytes s at stripe xa xb xc xd st rows h.
    let p : ℕ = g.args.p in
    let n : ℕ = g.args.n in
    let words : List ℕ = g.args.words.now in
    let word : ℕ = get_or words n 0 in
    let held = own_held bytes s p n st words _ _ h in
    let own = own_word s.width p xa at stripe 0 n g.args.j st.0 words word rows.first held.flags in
    let calm : all_calm s p st.0 xa xb xc xd ≡ true =
    sym (g.codes_run.ensures.run s p at stripe xa xb xc xd st.0
    (record {
      first = rows.first.place;
      second = rows.second.place;
      third = rows.third.place;
      fourth = rows.fourth.place;
    }) rows.first.some own)
    ∙ g.if-codes_run.true in
    subst (λ (t : Bool). Holds bytes s p (read (next_decision bytes) st.1
    (calm_head s p xa xb xc xd st.0 t))
    (set g.read_run.new.words n g.read_run.result) g.read_run.new.grid g.read_run.new.decoder)
    (sym calm)
    (g.read_run.ensures bytes s at stripe xa xb xc xd st rows
    (calm_new s p xa xb xc xd st.0 calm) held)

pub returns-else-codes_run : goal.returns-else-codes_run
returns-else-codes_run g = λ bytes s at stripe xa xb xc xd st rows h.
    let p : ℕ = g.args.p in
    let n : ℕ = g.args.n in
    let words : List ℕ = g.args.words.now in
    let word : ℕ = get_or words n 0 in
    let held = own_held bytes s p n st words _ _ h in
    let own = own_word s.width p xa at stripe 0 n g.args.j st.0 words word rows.first held.flags in
    let calm : all_calm s p st.0 xa xb xc xd ≡ false =
    sym (g.codes_run.ensures.run s p at stripe xa xb xc xd st.0
    (record {
      first = rows.first.place;
      second = rows.second.place;
      third = rows.third.place;
      fourth = rows.fourth.place;
    }) rows.first.some own)
    ∙ g.if-codes_run.false in
    subst (λ (t : Bool). Holds bytes s p (read (next_decision bytes) st.1
    (calm_head s p xa xb xc xd st.0 t))
    (set words n word) g.args.grid.now g.args.decoder.now) (sym calm) held
