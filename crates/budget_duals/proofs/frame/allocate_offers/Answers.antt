-- What is held at first decides whether a limit is too small.
use Rattle.std.proofs.Common.{◌<◌, subst, ap, ◌∙◌}
use Rattle.budget_duals.specs.Held.{held_in, IsWithin, IsOutermostBroken}
use Rattle.budget_duals.specs.declared.held.Held.{Held}
use Rattle.budget_duals.proofs.CertifiedLemmas.{no_inner_multiplier}
use Rattle.budget_duals.proofs.FrameLemmas.{each_within}
use Rattle.budget_duals.proofs.TooSmall.{too_small_at, not_too_small}
use Rattle.budget_duals.proofs.frame.allocate_offers.Goals as goal

pub returns-in-Some-clause-too_small : goal.returns-in-Some-clause-too_small
returns-in-Some-clause-too_small g c =
    too_small_at c.args.limits.now
    (g.P.Price.held_for c.args.price.now (g.P.Price.counts c.args.price.now)) c.in-Some.budget
    c.bytes-needed.result
    (subst (λ (h : Held). IsOutermostBroken c.args.limits.now h c.in-Some.budget)
    c.held-held.ensures c.in-Some.ensures)
    (c.bytes-needed.ensures ∙ ap (λ (h : Held). held_in h c.in-Some.budget) c.held-held.ensures)

pub allocate_within-requires-clause-within : goal.allocate_within-requires-clause-within
allocate_within-requires-clause-within g c =
    subst (λ (h : Held). IsWithin c.args.limits.now h) c.held-held.ensures c.in_default.ensures

pub returns-in-Ok-clause-too_small : goal.returns-in-Ok-clause-too_small
returns-in-Ok-clause-too_small g c =
    not_too_small c.args.limits.now
    (g.P.Price.held_for c.args.price.now (g.P.Price.counts c.args.price.now)) _
    (subst (λ (h : Held). IsWithin c.args.limits.now h) c.held-held.ensures c.in_default.ensures)
    (λ budget needed e. let bad : ⊥ = cc in bad)

pub returns-in-Ok-clause-within : goal.returns-in-Ok-clause-within
returns-in-Ok-clause-within g c =
    each_within c.args.limits.now
    (g.P.Price.held_for c.args.price.now (g.P.Price.counts c.allocate_within.new.price))
    (λ j below. c.in-Ok.ensures.certified.settled.kept.within j below)

pub returns-in-Err-clause-too_small : goal.returns-in-Err-clause-too_small
returns-in-Err-clause-too_small g c =
    not_too_small c.args.limits.now
    (g.P.Price.held_for c.args.price.now (g.P.Price.counts c.args.price.now)) _
    (subst (λ (h : Held). IsWithin c.args.limits.now h) c.held-held.ensures c.in_default.ensures)
    (λ budget needed e. let bad : ⊥ = cc in bad)

pub returns-in-Ok-clause-no_inner : goal.returns-in-Ok-clause-no_inner
returns-in-Ok-clause-no_inner g c = λ none.
    no_inner_multiplier c.args.limits.now (g.O.Offers.blocks c.args.offers.now)
    (g.P.Price.inside_of c.args.price.now)
    (g.P.Price.held_for c.args.price.now) (g.O.Offers.left c.args.offers.now)
    (g.P.Price.counts c.allocate_within.new.price)
    (g.O.Offers.done c.allocate_within.new.offers) (g.O.Offers.left c.allocate_within.new.offers)
    c.args.start c.in-Ok.certificate
    (λ b below. c.requires.ready.members b (subst (λ n. b < n) c.requires.blocks below)) none
    c.in-Ok.ensures.certified
