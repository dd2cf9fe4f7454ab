use Rattle.ebcot_passes.specs.PassCoder.{coder_of}
use Rattle.std.proofs.Common.{ℕ, ◌≡◌, Bool, true, false, List, get_or, set, sym, ◌∙◌}
use Rattle.std.proofs.Common.{subst, append-nil}
use Rattle.ebcot_passes.specs.Coding.{Holds, HoldsAfter}
use Rattle.ebcot_passes.specs.Runs.{calm_head, all_calm}
use Rattle.ebcot_passes.proofs.Places.{own_word, own_held}
use Rattle.ebcot_passes.proofs.Cleanups.{calm_new}
use Rattle.ebcot_passes.proofs.cleanup.code_head.Goals as goal

pub returns-then-codes_run-clause-codes : goal.returns-then-codes_run-clause-codes
returns-then-codes_run-clause-codes g = λ s at stripe xa xb xc xd coefs l cells rows a h.
    let p : ℕ = g.args.p in
    let n : ℕ = g.args.n in
    let words : List ℕ = g.args.words.now in
    let word : ℕ = get_or words n 0 in
    let held = own_held coefs s p n cells l words _ h in
    let own = own_word s.width p xa at stripe 0 n g.args.j cells words word rows.first held.flags in
    let calm : all_calm s p cells xa xb xc xd ≡ true =
    sym (g.codes_run.ensures.run s p at stripe xa xb xc xd cells
    (record {
      first = rows.first.place;
      second = rows.second.place;
      third =
          rows.third.place;
      fourth = rows.fourth.place;
    }) rows.first.some own)
    ∙ g.if-codes_run.true in
    subst (λ (t : Bool). HoldsAfter coefs s p (calm_head s p xa xb xc xd cells t) l
    (set g.code_run.new.words n g.code_run.result)
    (coder_of g.code_run.new.encoder g.code_run.new.distortion)) (sym calm)
    (g.code_run.ensures.codes s at stripe xa xb xc xd coefs l cells rows
    (calm_new s p xa xb xc xd cells calm) a held)

pub returns-else-codes_run-clause-codes : goal.returns-else-codes_run-clause-codes
returns-else-codes_run-clause-codes g = λ s at stripe xa xb xc xd coefs l cells rows a h.
    let p : ℕ = g.args.p in
    let n : ℕ = g.args.n in
    let words : List ℕ = g.args.words.now in
    let word : ℕ = get_or words n 0 in
    let held = own_held coefs s p n cells l words _ h in
    let own = own_word s.width p xa at stripe 0 n g.args.j cells words word rows.first held.flags in
    let calm : all_calm s p cells xa xb xc xd ≡ false =
    sym (g.codes_run.ensures.run s p at stripe xa xb xc xd cells
    (record {
      first = rows.first.place;
      second = rows.second.place;
      third =
          rows.third.place;
      fourth = rows.fourth.place;
    }) rows.first.some own)
    ∙ g.if-codes_run.false in
    subst (λ (t : Bool). HoldsAfter coefs s p (calm_head s p xa xb xc xd cells t) l
    (set words n word) (coder_of g.args.encoder.now g.args.distortion.now)) (sym calm)
    (subst (λ (k : List (ℕ × Bool)). Holds coefs s p cells k (set words n word)
    (coder_of g.args.encoder.now g.args.distortion.now))
    (sym (append-nil l)) held)
