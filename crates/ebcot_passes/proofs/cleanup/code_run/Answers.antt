use Rattle.std.proofs.Common.{refl}
use Rattle.ebcot_passes.specs.PassCoder.{coder_of}
use Rattle.ebcot_passes.proofs.Cleanups.{row_one}
use Rattle.ebcot_passes.proofs.Places.{next_place}
use Rattle.std.proofs.Common.{ℕ, ◌%◌, ◌<◌, ◌≤◌, ◌≡◌, Bool, true, false, ◌==◌, nat_lt}
use Rattle.std.proofs.Common.{nat_le, List, [], ◌∷◌, ◌++◌, set, take, subst, arith}
use Rattle.std.proofs.lemmas.Bool.{lt-ltb, le-ltb}
use Rattle.mq_coder.specs.Encoder.{Stands}
use Rattle.ebcot_contexts.specs.Cells.{Cell}
use Rattle.ebcot_contexts.specs.Passes.{zeros}
use Rattle.ebcot_passes.specs.Coding.{Holds}
use Rattle.ebcot_passes.specs.Runs.{row_place}
use Rattle.ebcot_passes.proofs.Encoding.{then_on, put_on}
use Rattle.ebcot_passes.proofs.Places.{put_holds}
use Rattle.ebcot_passes.proofs.RunLemmas.{head_zeros, head_holds}
use Rattle.ebcot_passes.proofs.Cleanups.{own_answers, no_answers, picked, row_word, three_more}
use Rattle.ebcot_passes.proofs.cleanup.code_run.Goals as goal

pub returns-then-row-ge4-clause-codes : goal.returns-then-row-ge4-clause-codes
returns-then-row-ge4-clause-codes g = λ s column stripe xa xb xc xd coefs l cells rows new a h.
    let p : ℕ = g.args.p in
    let n : ℕ = g.args.n in
    let row : ℕ = g.zeros_before-row.result in
    let ia = new.in_first in
    let ib = new.in_second in
    let ic = new.in_third in
    let id = new.in_fourth in
    let long = h.long in
    let few = g.zeros_before-row.ensures.few in
    let many : 4 ≤ row = g.if-row-ge4.true in
    let is = g.zeros_before-row.ensures.zeros s.width s.height column stripe n xa xb xc xd coefs
    rows a
    (omega arith) (omega arith) (omega arith) (omega arith) in
    let no_ones = no_answers coefs p xa xb xc xd row is many in
    let bit : nat_lt row 4 ≡ false = le-ltb row 4 many in
    let stands = subst (λ (b : Bool). Stands g.put.new.self (l ++ (17, b) ∷ [])) bit
    (g.put.ensures.stands l h.stands) in
    let held = g.touched-before.ensures s p column stripe n g.args.j xa xb xc xd coefs cells
    (l ++ (17, false) ∷ []) g.args.words.now (coder_of g.put.new.self g.args.distortion.now) rows
    new is
    (put_holds coefs s p cells l (l ++ (17, false) ∷ []) _ _
    (coder_of g.put.new.self g.args.distortion.now)
    refl h stands) in
    let four : row ≡ 4 = omega arith in
    head_zeros coefs s p xa xb xc xd cells l _ _ no_ones
    (subst (λ (r : ℕ). Holds coefs s p (zeros p (take r (xa ∷ xb ∷ xc ∷ xd ∷ [])) cells)
    (l ++ (17, false) ∷ [])
    (set g.args.words.now n g.touched-before.result)
    (coder_of g.put.new.self g.args.distortion.now)) four held)

pub returns-clause-codes : goal.returns-clause-codes
returns-clause-codes g = λ s column stripe xa xb xc xd coefs l cells rows new a h.
    let p : ℕ = g.args.p in
    let n : ℕ = g.args.n in
    let row : ℕ = g.zeros_before-row.result in
    let ia = new.in_first in
    let ib = new.in_second in
    let ic = new.in_third in
    let id = new.in_fourth in
    let long = h.long in
    let low : row < 4 = g.if-row-ge4.false in
    let is = g.zeros_before-row.ensures.zeros s.width s.height column stripe n xa xb xc xd coefs
    rows a
    (omega arith) (omega arith) (omega arith) (omega arith) in
    let bit : nat_lt row 4 ≡ true = lt-ltb row 4 low in
    let q : List (ℕ × Bool) = (17, true) ∷ (18, nat_le 2 row) ∷ (18, row % 2 == 1) ∷ [] in
    let s1 = subst (λ (b : Bool). Stands g.put.new.self (l ++ (17, b) ∷ [])) bit
    (g.put.ensures.stands l h.stands) in
    let s2 = g.put-2.ensures.stands _ s1 in
    let s3 = subst (λ (k : List (ℕ × Bool)). Stands g.put-3.new.self k)
    (three_more l (17, true) (18, nat_le 2 row) (18, row % 2 == 1))
    (g.put-3.ensures.stands _ s2) in
    let held = g.touched-before.ensures s p column stripe n g.args.j xa xb xc xd coefs cells
    (l ++ q) g.args.words.now (coder_of g.put-3.new.self g.args.distortion.now) rows new is
    (put_holds coefs s p cells l (l ++ q) _ _ (coder_of g.put-3.new.self g.args.distortion.now)
    refl h s3) in
    let known : List Cell = zeros p (take row (xa ∷ xb ∷ xc ∷ xd ∷ [])) cells in
    let i : ℕ = row_place row xa xb xc xd in
    let pick = picked s.width p column stripe row n g.args.j xa xb xc xd cells rows new low in
    let inside = pick.inside in
    let long' = held.long in
    let word = row_word s.width s.height i column stripe row n g.args.j _ coefs g.args.grid.now
    pick.at a (omega arith) (omega arith) in
    head_holds coefs s p xa xb xc xd cells l _ _ row _ _ _ _
    (own_answers coefs p xa xb xc xd) is low
    (g.code_sign.ensures.codes s i column stripe g.args.j coefs (l ++ q) known pick.at
    (next_place coefs s p i known (l ++ q) _ _ held inside pick.open_place) word (a.below i)
    pick.none
    (row_one coefs p xa xb xc xd row is low) held)

pub returns-clause-goes_on : goal.returns-clause-goes_on
returns-clause-goes_on g =
    then_on g.args.encoder.now g.put-3.new.self g.code_sign.new.encoder 9 3 12 (omega arith)
    (then_on g.args.encoder.now g.put-2.new.self g.put-3.new.self 6 3 9 (omega arith)
    (then_on g.args.encoder.now g.put.new.self g.put-2.new.self 3 3 6 (omega arith)
    (put_on g.args.encoder.now g.put.new.self g.put.ensures.grows g.put.ensures.three
    g.put.ensures.fixed g.put.ensures.room g.put.ensures.same_reference)
    (put_on g.put.new.self g.put-2.new.self g.put-2.ensures.grows g.put-2.ensures.three
    g.put-2.ensures.fixed g.put-2.ensures.room g.put-2.ensures.same_reference))
    (put_on g.put-2.new.self g.put-3.new.self g.put-3.ensures.grows g.put-3.ensures.three
    g.put-3.ensures.fixed g.put-3.ensures.room g.put-3.ensures.same_reference))
    g.code_sign.ensures.goes_on
