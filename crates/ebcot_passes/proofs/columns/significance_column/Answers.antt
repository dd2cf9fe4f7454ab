use Rattle.ebcot_passes.specs.PassCoder.{coder_of}
use Rattle.std.proofs.Common.{ℕ, List, get_or, set, subst, arith}
use Rattle.std.proofs.lemmas.List.{set-get_or}
use Rattle.ebcot_contexts.specs.Passes.{significance, each}
use Rattle.ebcot_passes.specs.Coding.{HoldsAfter}
use Rattle.ebcot_passes.proofs.Encoding.{then_on}
use Rattle.ebcot_passes.proofs.Places.{own_word, own_held}
use Rattle.ebcot_passes.proofs.ColumnLemmas.{none_coded, rows_hold, quiet_word, quiet_uncoded}
use Rattle.ebcot_passes.proofs.ColumnLemmas.{all_significant, significant_uncoded}
use Rattle.ebcot_passes.proofs.columns.significance_column.Goals as goal

pub returns-then-word-eq0-clause-codes : goal.returns-then-word-eq0-clause-codes
returns-then-word-eq0-clause-codes c = λ s at stripe is coefs l cells col contexts a h.
    let p : ℕ = c.args.p in
    let n : ℕ = c.args.n in
    let words : List ℕ = c.args.words.now in
    let word : ℕ = get_or words n 0 in
    let none = quiet_word word c.if-word-eq0.true in
    let held = own_held coefs s p n cells l words _ h in
    subst (λ (ws : List ℕ). HoldsAfter coefs s p
    (each significance s p is cells) l ws (coder_of c.args.encoder.now c.args.distortion.now))
    (set-get_or words n 0)
    (none_coded coefs s p significance is col.a col.b col.c col.d cells l
    (set words n word) _ col.places
    (λ cs k hk. quiet_uncoded s p col.a at stripe 0 cs word
    (omega arith) col.first.place col.first.some
    (own_word s.width p col.a at stripe 0 n c.args.j cs words word col.first hk.flags) none.0)
    (λ cs k hk. quiet_uncoded s p col.b at stripe 1 cs word
    (omega arith) col.second.place col.second.some
    (own_word s.width p col.b at stripe 1 n c.args.j cs words word col.second hk.flags) none.1)
    (λ cs k hk. quiet_uncoded s p col.c at stripe 2 cs word
    (omega arith) col.third.place col.third.some
    (own_word s.width p col.c at stripe 2 n c.args.j cs words word col.third hk.flags) none.2)
    (λ cs k hk. quiet_uncoded s p col.d at stripe 3 cs word
    (omega arith) col.fourth.place col.fourth.some
    (own_word s.width p col.d at stripe 3 n c.args.j cs words word col.fourth hk.flags) none.3)
    held)

pub returns-then-word-eq9360-clause-codes : goal.returns-then-word-eq9360-clause-codes
returns-then-word-eq9360-clause-codes c = λ s at stripe is coefs l cells col contexts a h.
    let p : ℕ = c.args.p in
    let n : ℕ = c.args.n in
    let words : List ℕ = c.args.words.now in
    let word : ℕ = get_or words n 0 in
    let none = all_significant word c.if-word-eq9360.true in
    let held = own_held coefs s p n cells l words _ h in
    subst (λ (ws : List ℕ). HoldsAfter coefs s p
    (each significance s p is cells) l ws (coder_of c.args.encoder.now c.args.distortion.now))
    (set-get_or words n 0)
    (none_coded coefs s p significance is col.a col.b col.c col.d cells l
    (set words n word) _ col.places
    (λ cs k hk. significant_uncoded s p col.a at stripe 0 cs word
    (omega arith) col.first.place col.first.some
    (own_word s.width p col.a at stripe 0 n c.args.j cs words word col.first hk.flags) none.0)
    (λ cs k hk. significant_uncoded s p col.b at stripe 1 cs word
    (omega arith) col.second.place col.second.some
    (own_word s.width p col.b at stripe 1 n c.args.j cs words word col.second hk.flags) none.1)
    (λ cs k hk. significant_uncoded s p col.c at stripe 2 cs word
    (omega arith) col.third.place col.third.some
    (own_word s.width p col.c at stripe 2 n c.args.j cs words word col.third hk.flags) none.2)
    (λ cs k hk. significant_uncoded s p col.d at stripe 3 cs word
    (omega arith) col.fourth.place col.fourth.some
    (own_word s.width p col.d at stripe 3 n c.args.j cs words word col.fourth hk.flags) none.3)
    held)

pub returns-clause-codes : goal.returns-clause-codes
returns-clause-codes c = λ s at stripe is coefs l cells col contexts a h.
    let p : ℕ = c.args.p in
    let h0 = own_held coefs s p c.args.n cells l c.args.words.now _ h in
    let h1 = c.significance_row-first.ensures.codes s col.a at stripe coefs _ _ col.first contexts a
    h0 in
    let h2 = c.significance_row-second.ensures.codes s col.b at stripe coefs _ _ col.second contexts
    a h1 in
    let h3 = c.significance_row-third.ensures.codes s col.c at stripe coefs _ _ col.third contexts a
    h2 in
    let h4 = c.significance_row-fourth.ensures.codes s col.d at stripe coefs _ _ col.fourth contexts
    a h3 in
    rows_hold coefs s p significance is col.a col.b col.c col.d cells l _ _ col.places h1.long
    h2.long h3.long h4

pub returns-clause-goes_on : goal.returns-clause-goes_on
returns-clause-goes_on c =
    then_on c.args.encoder.now c.significance_row-third.new.encoder
    c.significance_row-fourth.new.encoder 18 6 24 (omega arith)
    (then_on c.args.encoder.now c.significance_row-second.new.encoder
    c.significance_row-third.new.encoder 12 6 18 (omega arith)
    (then_on c.args.encoder.now c.significance_row-first.new.encoder
    c.significance_row-second.new.encoder 6 6 12 (omega arith)
    c.significance_row-first.ensures.goes_on c.significance_row-second.ensures.goes_on)
    c.significance_row-third.ensures.goes_on)
    c.significance_row-fourth.ensures.goes_on
