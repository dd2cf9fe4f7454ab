use Rattle.cine_nums.specs.declared.budget.Budget.TheVariants.{Frame, Inner, C0, C1, C2}
use Rattle.frame_encoder.proofs.Allowed.{one_too_high}
use Rattle.frame_encoder.proofs.order.EncodeOrder.is_allowed.Goals as goal

pub returns-then-not-is_low : goal.returns-then-not-is_low
returns-then-not-is_low c =
    one_too_high c.args.self.now.profile c.args.self.now.limits Frame c.is_low.result
    c.is_low.ensures c.if-not-is_low.true

pub returns-then-not-is_low-2 : goal.returns-then-not-is_low-2
returns-then-not-is_low-2 c =
    one_too_high c.args.self.now.profile c.args.self.now.limits Inner c.is_low-2.result
    c.is_low-2.ensures c.if-not-is_low-2.true

pub returns-then-not-is_low-3 : goal.returns-then-not-is_low-3
returns-then-not-is_low-3 c =
    one_too_high c.args.self.now.profile c.args.self.now.limits C0 c.is_low-3.result
    c.is_low-3.ensures c.if-not-is_low-3.true

pub returns-then-not-is_low-4 : goal.returns-then-not-is_low-4
returns-then-not-is_low-4 c =
    one_too_high c.args.self.now.profile c.args.self.now.limits C1 c.is_low-4.result
    c.is_low-4.ensures c.if-not-is_low-4.true

pub returns-then-not-is_low-5 : goal.returns-then-not-is_low-5
returns-then-not-is_low-5 c =
    one_too_high c.args.self.now.profile c.args.self.now.limits C2 c.is_low-5.result
    c.is_low-5.ensures c.if-not-is_low-5.true
