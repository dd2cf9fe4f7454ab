use Rattle.std.proofs.Common.{arith}
use Rattle.bit_stuffing.proofs.RegisterLemmas.{held_small, shifted_whole}
use Rattle.bit_stuffing.proofs.bit_register.held_with.Goals as goal

pub overflow_add-result : goal.overflow_add-result
overflow_add-result c =
    let s = held_small c.args.part c.args.width c.args.value c.requires.part c.requires.width
    c.requires.value in
    let e = shifted_whole c.args.part c.args.width c.args.value c.requires.part c.requires.width
    c.requires.value in
    rw (c.from.ensures, e) (omega arith)

pub returns : goal.returns
returns c =
    let e = shifted_whole c.args.part c.args.width c.args.value c.requires.part c.requires.width
    c.requires.value in
    rw (c.from.ensures, e)
