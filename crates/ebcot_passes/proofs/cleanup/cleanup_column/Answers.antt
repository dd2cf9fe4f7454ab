use Rattle.ebcot_passes.specs.PassCoder.{coder_of}
use Rattle.std.proofs.Common.{ℕ, ◌*◌, List, get_or, set, subst, refl, arith}
use Rattle.std.proofs.lemmas.List.{set-get_or}
use Rattle.ebcot_contexts.specs.Passes.{cleanup, each}
use Rattle.ebcot_passes.specs.Coding.{HoldsAfter}
use Rattle.ebcot_passes.proofs.Encoding.{then_on}
use Rattle.ebcot_passes.proofs.Settling.{settled_visit}
use Rattle.ebcot_passes.proofs.Places.{own_word, own_held}
use Rattle.ebcot_passes.proofs.ColumnLemmas.{none_coded, all_touched, touched_uncoded}
use Rattle.ebcot_passes.proofs.RunLemmas.{plain_column}
use Rattle.ebcot_passes.proofs.Cleanups.{head_settled, cleanup_holds, touched_calm}
use Rattle.ebcot_passes.proofs.cleanup.cleanup_column.Goals as goal

pub returns-then-words-n-eq1226833920-clause-codes :
    goal.returns-then-words-n-eq1226833920-clause-codes
returns-then-words-n-eq1226833920-clause-codes g =
    λ s at stripe is coefs l cells col contexts a settled h.
    let p : ℕ = g.args.p in
    let n : ℕ = g.args.n in
    let words : List ℕ = g.args.words.now in
    let word : ℕ = get_or words n 0 in
    let all = all_touched word g.if-words-n-eq1226833920.true in
    let held = own_held coefs s p n cells l words _ h in
    let own = own_word s.width p col.a at stripe 0 n g.args.j cells words word col.first held.flags
    in
    let open_place = touched_uncoded s p col.a at stripe 0 cells word
    (omega arith) col.first.place col.first.some own all.0 in
    plain_column coefs s p is col.a col.b col.c col.d
    (s.width * s.height) cells l words (coder_of g.args.encoder.now g.args.distortion.now)
    col.places
    (touched_calm s p col.a col.b col.c col.d cells open_place)
    (subst (λ (ws : List ℕ). HoldsAfter coefs s p
    (each cleanup s p is cells) l ws (coder_of g.args.encoder.now g.args.distortion.now))
    (set-get_or words n 0)
    (none_coded coefs s p cleanup is col.a col.b col.c col.d cells l (set words n word) _ col.places
    (λ cs k hk. touched_uncoded s p col.a at stripe 0 cs word
    (omega arith) col.first.place col.first.some
    (own_word s.width p col.a at stripe 0 n g.args.j cs words word col.first hk.flags) all.0)
    (λ cs k hk. touched_uncoded s p col.b at stripe 1 cs word
    (omega arith) col.second.place col.second.some
    (own_word s.width p col.b at stripe 1 n g.args.j cs words word col.second hk.flags) all.1)
    (λ cs k hk. touched_uncoded s p col.c at stripe 2 cs word
    (omega arith) col.third.place col.third.some
    (own_word s.width p col.c at stripe 2 n g.args.j cs words word col.third hk.flags) all.2)
    (λ cs k hk. touched_uncoded s p col.d at stripe 3 cs word
    (omega arith) col.fourth.place col.fourth.some
    (own_word s.width p col.d at stripe 3 n g.args.j cs words word col.fourth hk.flags) all.3)
    held))

pub returns-clause-codes : goal.returns-clause-codes
returns-clause-codes g = λ s at stripe is coefs l cells col contexts a settled h.
    let p : ℕ = g.args.p in
    let h0 = g.code_head-word.ensures.codes s at stripe col.a col.b col.c col.d coefs l cells
    (record {
      first = col.first;
      second = col.second;
      third = col.third;
      fourth =
          col.fourth;
    }) a h in
    let s0 = head_settled coefs s p col.a col.b col.c col.d cells settled in
    let h1 = g.cleanup_row-first.ensures.codes s col.a at stripe coefs _ _ col.first contexts a
    (s0 col.a) h0 in
    let s1 = settled_visit coefs s p cleanup col.a _ s0 in
    let h2 = g.cleanup_row-second.ensures.codes s col.b at stripe coefs _ _ col.second contexts a
    (s1 col.b) h1 in
    let s2 = settled_visit coefs s p cleanup col.b _ s1 in
    let h3 = g.cleanup_row-third.ensures.codes s col.c at stripe coefs _ _ col.third contexts a
    (s2 col.c) h2 in
    let s3 = settled_visit coefs s p cleanup col.c _ s2 in
    let h4 = g.cleanup_row-fourth.ensures.codes s col.d at stripe coefs _ _ col.fourth contexts a
    (s3 col.d) h3 in
    cleanup_holds coefs s p is col.a col.b col.c col.d cells l _ _ _ refl h.long col.places
    (record { one = h1.long; two = h2.long; three = h3.long }) h4

pub returns-clause-goes_on : goal.returns-clause-goes_on
returns-clause-goes_on g =
    then_on g.args.encoder.now g.cleanup_row-third.new.encoder g.cleanup_row-fourth.new.encoder 30 6
    36 (omega arith)
    (then_on g.args.encoder.now g.cleanup_row-second.new.encoder g.cleanup_row-third.new.encoder 24
    6 30 (omega arith)
    (then_on g.args.encoder.now g.cleanup_row-first.new.encoder g.cleanup_row-second.new.encoder 18
    6 24 (omega arith)
    (then_on g.args.encoder.now g.code_head-word.new.encoder g.cleanup_row-first.new.encoder 12 6 18
    (omega arith)
    g.code_head-word.ensures.goes_on g.cleanup_row-first.ensures.goes_on)
    g.cleanup_row-second.ensures.goes_on)
    g.cleanup_row-third.ensures.goes_on)
    g.cleanup_row-fourth.ensures.goes_on
