use Rattle.packet_headers.proofs.FitsLemmas.{words_fit, packet_same}
use Rattle.packet_headers.proofs.HeaderLemmas.{empty_header}
use Rattle.packet_headers.proofs.laws.writing.Goals as goal

pub returns-clause-fits : goal.returns-clause-fits
returns-clause-fits c = words_fit

pub returns-clause-packet : goal.returns-clause-packet
returns-clause-packet c = packet_same

pub returns-clause-empty : goal.returns-clause-empty
returns-clause-empty c = empty_header
