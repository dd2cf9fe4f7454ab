use Rattle.packet_headers.proofs.PassLemmas.{pass_table, row_is}
use Rattle.packet_headers.proofs.writing.passes.pass_row.Goals as goal

pub returns-clause-bits : goal.returns-clause-bits
unfolding pass_table
returns-clause-bits c = (row_is c.args.passes _ c.requires.most).bits

pub returns-clause-fits : goal.returns-clause-fits
unfolding pass_table
returns-clause-fits c = (row_is c.args.passes _ c.requires.most).fits

pub returns-clause-some : goal.returns-clause-some
unfolding pass_table
returns-clause-some c = (row_is c.args.passes _ c.requires.most).some

pub returns-clause-few : goal.returns-clause-few
unfolding pass_table
returns-clause-few c = (row_is c.args.passes _ c.requires.most).few

pub returns-clause-short : goal.returns-clause-short
unfolding pass_table
returns-clause-short c = (row_is c.args.passes _ c.requires.most).short

pub returns-clause-log : goal.returns-clause-log
unfolding pass_table
returns-clause-log c = (row_is c.args.passes _ c.requires.most).log
