use Rattle.ebcot_contexts.specs.Cells.{coef_at}
use Rattle.ebcot_passes.proofs.Places.{word_magnitude, no_bits}
use Rattle.ebcot_passes.proofs.Places.{word_sign}
use Rattle.std.proofs.Common.{ℕ}
use Rattle.std.proofs.Common.{arith}
use Rattle.ebcot_passes.proofs.Places.{open_row, own_word, word_before, word_after, sign_holds}
use Rattle.ebcot_passes.proofs.place.code_sign.Goals as goal

pub returns-clause-codes : goal.returns-clause-codes
returns-clause-codes c = λ s i column stripe j coefs l cells at next coef small none one h.
    let p : ℕ = c.args.p in
    let inside = next.inside in
    let negative = word_sign c.args.coef (coef_at coefs i) coef small in
    let some = at.place.column_is in
    let left = word_before s.width p i column stripe c.args.r c.args.n j cells c.args.words.now
    c.args.word at (omega arith) h.flags in
    let own = own_word s.width p i column stripe c.args.r c.args.n j cells c.args.words.now
    c.args.word at h.flags in
    let right = word_after s.width p i column stripe c.args.r c.args.n j cells c.args.words.now
    c.args.word at h.flags in
    sign_holds s p i coefs l cells _ _ _ _ c.sign_context-cx.result _ next negative one
    (c.sign_context-cx.ensures.context s p i column stripe cells at.place at.some left own right) h
    (c.become_significant.ensures s.width p i column stripe cells
    (open_row s.width i column stripe c.args.r c.args.n j cells at inside)
    (record { insignificant = none; plain = h.plain i none }) h.flags)
    (c.put.ensures.stands l h.stands)
    (c.with_new.ensures coefs cells i _ next
    (word_magnitude c.args.coef (coef_at coefs i) coef small)
    (no_bits coefs cells p i next h.shown none) one (h.held))
