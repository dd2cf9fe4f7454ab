use Rattle.std.proofs.Common.{◌≡◌, ◌*◌, ◌%◌, ◌^◌, arith}
use Rattle.mq_coder.specs.Code.{shift_out}
use Rattle.mq_coder.proofs.flush.shift_out.Goals as goal

pub returns-clause-put : goal.returns-clause-put
unfolding shift_out
returns-clause-put c = λ x.
    let e : c.args.c * 2 ^ c.args.ct % 4294967296 ≡ c.args.c * 2 ^ c.args.ct = omega arith in
    rw e at (c.byte_out.ensures.put (record x { ct = 0 }))
