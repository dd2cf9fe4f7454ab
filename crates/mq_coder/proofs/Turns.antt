-- The turns of RENORME.
use Rattle.std.proofs.Common.{ℕ, zero, suc, ◌+◌, ◌-◌, ◌^◌, ◌<◌, ◌≤◌, ◌≡◌, arith, refl}
use Rattle.std.proofs.lemmas.Grind.{common_steps}
use Rattle.mq_coder.specs.Code.{Coding, shift, renormalise}

-- a turn where A is below three quarters
pub renormalise_turn : (n : ℕ) (x : Coding) → x.a < 2 ^ 15 →
    renormalise (suc n) x ≡ renormalise n (shift x)
unfolding renormalise
renormalise_turn n x small = grind (arith, common_steps)

-- no turn where A isn't
pub renormalise_done : (n : ℕ) (x : Coding) → 2 ^ 15 ≤ x.a → renormalise n x ≡ x
unfolding renormalise
renormalise_done zero x wide = refl
renormalise_done (suc n) x wide = grind (arith, common_steps)

-- a turn, counted from below
pub renormalise_next : (k : ℕ) (x : Coding) → k < 15 → x.a < 2 ^ 15
    → renormalise (15 - k) x ≡ renormalise (15 - (k + 1)) (shift x)
renormalise_next k x more small =
    let e : 15 - k ≡ suc (15 - (k + 1)) = omega arith in
    rw e (renormalise_turn (15 - (k + 1)) x small)

pub renormalise_none : (x : Coding) → renormalise zero x ≡ x
unfolding renormalise
renormalise_none x = refl
