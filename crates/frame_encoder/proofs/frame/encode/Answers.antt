use Rattle.std.proofs.Common.{Ok, Err, ◌≡◌, sym, ap, subst, ◌∙◌}
use Rattle.budget_duals.specs.Held.{held_in, limits_of, IsOutermostBroken, IsWithin}
use Rattle.budget_duals.specs.declared.held.Held.{Held}
use Rattle.budget_duals.specs.declared.limits.Limits.{Limits}
use Rattle.pnm_frames.specs.View.{picture_of}
use Rattle.frame_encoder.proofs.Once.{memory_other, not_refused, ok_other, refused_so}
use Rattle.frame_encoder.specs.declared.refusal.EncodeRefusal.TheVariants.{Memory}
use Rattle.frame_encoder.proofs.frame.encode.Goals as goal

pub encode_within-requires-clause-limits : goal.encode_within-requires-clause-limits
encode_within-requires-clause-limits c =
    subst (λ (held : Held). IsWithin c.args.order.now.limits held) c.empty_held-empty.ensures.value
    c.in-None.ensures

pub returns-in-Some-clause-too_small : goal.returns-in-Some-clause-too_small
returns-in-Some-clause-too_small c =
    refused_so c.args.order.now (picture_of c.args.frame.now) c.geometry_of-geometry.result
    c.in-Some.budget c.bytes.result c.geometry_of-geometry.ensures
    (subst (λ (held : Held). IsOutermostBroken c.args.order.now.limits held c.in-Some.budget)
    c.empty_held-empty.ensures.value c.in-Some.ensures)
    (c.bytes.ensures
    ∙ ap (λ (held : Held). held_in held c.in-Some.budget) c.empty_held-empty.ensures.value)

pub returns-in-Some-clause-never : goal.returns-in-Some-clause-never
returns-in-Some-clause-never c = λ same budget needed _.
    let limits : limits_of c.geometry_of-geometry.result.profile ≡ c.args.order.now.limits =
    ap limits_of c.geometry_of-geometry.ensures.profile_is ∙ sym same in
    let within = subst (λ (l : Limits). IsWithin l c.empty_held-empty.result) limits
    c.empty_held-empty.ensures.few in
    within c.in-Some.budget c.in-Some.ensures.broken

pub returns-in-Ok-clause-too_small : goal.returns-in-Ok-clause-too_small
returns-in-Ok-clause-too_small c =
    not_refused c.args.order.now (picture_of c.args.frame.now) c.geometry_of-geometry.result
    (Ok c.in-Ok.made) c.geometry_of-geometry.ensures
    (subst (λ (held : Held). IsWithin c.args.order.now.limits held)
    c.empty_held-empty.ensures.value c.in-None.ensures) (ok_other c.in-Ok.made)

pub returns-in-Err-clause-too_small : goal.returns-in-Err-clause-too_small
returns-in-Err-clause-too_small c =
    not_refused c.args.order.now (picture_of c.args.frame.now) c.geometry_of-geometry.result
    (Err Memory) c.geometry_of-geometry.ensures
    (subst (λ (held : Held). IsWithin c.args.order.now.limits held)
    c.empty_held-empty.ensures.value c.in-None.ensures) memory_other
