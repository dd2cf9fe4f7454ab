use Rattle.frame_packets.proofs.Budgets.{spelled_length}
use Rattle.frame_packets.proofs.laws.codestream.Goals as goal

pub returns : goal.returns
returns c = spelled_length
