use Rattle.std.proofs.Common.{arith}
use Rattle.bit_stuffing.proofs.RegisterLemmas.{register_fits, counts_more}
use Rattle.bit_stuffing.proofs.bit_count.BitCount.with_number.Goals as goal

pub returns-clause-counts : goal.returns-clause-counts
returns-clause-counts c = λ bits h. counts_more _ _ _ _ _ _ _ h c.requires.value c.requires.room
    c.requires.few

pub overflow_add-result : goal.overflow_add-result
overflow_add-result c = let f = register_fits c.args.self.held c.args.width c.args.value
    c.requires.width c.requires.value in omega arith
