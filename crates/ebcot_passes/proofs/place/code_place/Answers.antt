use Rattle.ebcot_passes.specs.PassCoder.{coder_of}
use Rattle.ebcot_passes.proofs.Places.{zero_held}
use Rattle.std.proofs.Common.{inr}
use Rattle.std.proofs.Common.{◌∷◌, [], ◌++◌, Bool, false, true, refl, sym, ◌∙◌, subst}
use Rattle.std.proofs.Common.{arith}
use Rattle.mq_coder.specs.Encoder.{Stands}
use Rattle.ebcot_contexts.specs.Cells.{cell_at, coef_at}
use Rattle.ebcot_passes.proofs.Encoding.{then_on, put_on}
use Rattle.ebcot_passes.proofs.Places.{open_row, word_bit, one_bit, no_bit, one_place}
use Rattle.ebcot_passes.proofs.Places.{learn_place, put_holds, zero_plain}
use Rattle.ebcot_passes.proofs.place.code_place.Goals as goal

pub returns-then-one-clause-codes : goal.returns-then-one-clause-codes
returns-then-one-clause-codes c = λ s i column stripe j coefs l cells at next coef small none h.
    let one = one_bit _ c.if-one.true in
    let bit = sym (word_bit c.args.coef c.args.p (coef_at coefs i) coef c.requires.plane) ∙ one in
    let stands = subst (λ (b : Bool). Stands c.put.new.self (l ++ (c.args.cx, b) ∷ [])) one
    (c.put.ensures.stands l h.stands) in
    one_place s c.args.cx c.args.p i coefs l cells _ _ none bit
    (c.code_sign.ensures.codes s i column stripe j coefs
    (l ++ (c.args.cx, true) ∷ []) cells at next coef small none bit
    (put_holds coefs s c.args.p cells l (l ++ (c.args.cx, true) ∷ []) _ _
    (coder_of c.put.new.self c.args.distortion.now)
    refl h stands))

pub returns-then-one-clause-goes_on : goal.returns-then-one-clause-goes_on
returns-then-one-clause-goes_on c =
    then_on c.args.encoder.now c.put.new.self c.code_sign.new.encoder 3 3 6 (omega arith)
    (put_on c.args.encoder.now c.put.new.self c.put.ensures.grows c.put.ensures.three
    c.put.ensures.fixed c.put.ensures.room c.put.ensures.same_reference)
    c.code_sign.ensures.goes_on

pub returns-else-one-clause-codes : goal.returns-else-one-clause-codes
returns-else-one-clause-codes c = λ s i column stripe j coefs l cells at next coef small none h.
    let zero_bit = no_bit _ c.if-one.false in
    let bit = sym (word_bit c.args.coef c.args.p (coef_at coefs i) coef c.requires.plane)
    ∙ zero_bit in
    let stands = subst (λ (b : Bool). Stands c.put.new.self (l ++ (c.args.cx, b) ∷ [])) zero_bit
    (c.put.ensures.stands l h.stands) in
    learn_place s c.args.cx c.args.p i coefs l cells _ _ _ _ false next refl (inr refl) bit
    (zero_plain c.args.p (cell_at cells i) none (h.plain i)) h
    (c.touch.ensures s.width c.args.p i column stripe c.args.n cells c.args.words.now
    (open_row s.width i column stripe c.args.r c.args.n j cells at next.inside) none h.flags)
    stands
    (zero_held coefs cells c.args.p i c.args.distortion.now next h.shown none bit
    (h.held))
