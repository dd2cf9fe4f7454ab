use Rattle.frame_packets.proofs.Budgets.{depends, other_budget, same_change}
use Rattle.frame_packets.proofs.laws.changes.Goals as goal

pub returns : goal.returns
returns c = record { same_change = same_change; elsewhere = other_budget; depends = depends }
