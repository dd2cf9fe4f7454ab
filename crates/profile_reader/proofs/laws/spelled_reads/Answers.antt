use Rattle.profile_reader.proofs.ReadsLemmas.{spelled_is_read}
use Rattle.profile_reader.proofs.laws.spelled_reads.Goals as goal

pub returns : goal.returns
returns c = record { reads = spelled_is_read c.assembled.ensures.cells }
