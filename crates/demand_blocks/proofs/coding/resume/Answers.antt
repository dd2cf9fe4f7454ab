-- A coder is as it was left, or at the beginning.
use Rattle.std.proofs.Common.{ℕ, ◌≡◌, Option, Box, refl, sym, subst}
use Rattle.std.specs.Prelude.{MatchOption}
use Rattle.std.specs.declared.alloc.Global.{Global}
use Rattle.ebcot_passes.specs.Block.{IsAfter}
use Rattle.ebcot_passes.specs.Left.{IsLeftAfter}
use Rattle.ebcot_passes.specs.declared.left.LeftBlock.{LeftBlock}
use Rattle.demand_blocks.specs.Views.{coefs_in, shape_in}
use Rattle.demand_blocks.proofs.coding.resume.Goals as goal

pub returns-in-Some-clause-after : goal.returns-in-Some-clause-after
unfolding coefs_in
returns-in-Some-clause-after c = λ k buffer left.
    let coefs = coefs_in c.args.view.now in
    let s = shape_in c.args.view.now c.args.orient c.args.planes in
    let here : IsLeftAfter coefs s k c.in-Some.left.value buffer =
    subst (λ (o : Option (Box LeftBlock Global)). MatchOption o (k ≡ 0)
    (λ l. IsLeftAfter coefs s k l.value buffer)) c.in-Some.is left in
    c.go_on.ensures.goes_on s k buffer buffer refl refl refl refl refl
    (subst (λ (l : LeftBlock). IsLeftAfter coefs s k l buffer) (sym c.deref.ensures) here)

pub returns-in-None-clause-after : goal.returns-in-None-clause-after
unfolding coefs_in
returns-in-None-clause-after c = λ k buffer left.
    let coefs = coefs_in c.args.view.now in
    let s = shape_in c.args.view.now c.args.orient c.args.planes in
    let none : k ≡ 0 =
    subst (λ (o : Option (Box LeftBlock Global)). MatchOption o (k ≡ 0)
    (λ l. IsLeftAfter coefs s k l.value buffer)) c.in-None.is left in
    subst (λ (n : ℕ). IsAfter coefs s n c.load.result buffer) (sym none)
    (c.load.ensures.loads s buffer refl refl refl refl)
