use Rattle.std.proofs.Common.{◌+◌, ◌-◌, ◌<◌, ◌/◌, arith}
use Rattle.std.proofs.lemmas.Grind.{common_steps}
use Rattle.mq_coder.specs.Code.{byte_out}
use Rattle.mq_coder.proofs.Lists.{take-set-set}
use Rattle.mq_coder.proofs.byte_out.byte_out.Goals as goal

pub returns-then-last-2-clause-put : goal.returns-then-last-2-clause-put
unfolding byte_out
returns-then-last-2-clause-put c =
    let some : 0 < c.args.count = grind (arith, common_steps) in
    let e = take-set-set c.args.bytes.now c.args.count (c.if-end-eq0.last + 1)
    ((c.args.c - 134217728) / 1048576) some c.requires.room in
    λ x. rw e (grind (arith, common_steps))

pub returns-clause-put : goal.returns-clause-put
unfolding byte_out
returns-clause-put c =
    let some : 0 < c.args.count = grind (arith, common_steps) in
    let e = take-set-set c.args.bytes.now c.args.count (c.if-end-eq0.last + 1)
    ((c.args.c - 134217728) / 524288) some c.requires.room in
    λ x. rw e (grind (arith, common_steps))
