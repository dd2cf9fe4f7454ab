use Rattle.frame_packets.proofs.Budgets.{keeps_alike}
use Rattle.frame_packets.proofs.laws.keeping.Goals as goal

pub returns : goal.returns
returns c = keeps_alike
