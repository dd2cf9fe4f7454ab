-- What the present count has above the least term over all counts.
use Rattle.std.proofs.Common.{ℕ, ◌≡◌, ◌≤◌, ◌*◌, ◌⊎◌, inl, inr, true, ap, arith, subst}
use Rattle.allocation_bound.specs.Passes.{term}
use Rattle.rd_hulls.specs.Points.{point_at}
use Rattle.partial_hulls.proofs.Terms.{least_of_all, above_least}
use Rattle.partial_hulls.proofs.known.KnownPoints.excess.Goals as goal
use Rattle.partial_hulls.proofs.known.KnownPoints.excess.Goals.{else-not-self-via-then-not-self+else-multiplier-from, else-not-self-via-else-not-self}

pub returns : goal.returns
returns c = λ all done left is between agrees.
    let self = c.args.self.now in
    let known = self.points.now in
    let m = c.args.multiplier in
    let least = c.least_term-least.result in
    let enough : (self.whole ≡ true) ⊎ (least ≤ m * self.low) = elim c.else-not-self.branch [
      | else-not-self-via-then-not-self+else-multiplier-from w ↦
          inr (subst (λ (n : ℕ). least ≤ m * n) w.from.ensures w.if-multiplier-from.false)
      | else-not-self-via-else-not-self w ↦ inl w.if-not-self.false
    ] in
    let of = least_of_all known self.low self.whole all m least is c.least_term-least.ensures
    enough in
    let above = above_least self.block all c.args.present m least done left known self.low
    self.whole is between agrees of in
    let here = subst (λ (k : ℕ). c.term.result ≡ term m (point_at known k)) c.from-2.ensures
    c.term.ensures in
    omega (arith, above, here, ap (term m) (is.first c.args.present c.requires.present))
