-- Both directions.
use Rattle.budget_duals.proofs.FrameLemmas.{named_on}
use Rattle.budget_duals.proofs.frame.frame_members.Goals as goal

pub returns : goal.returns
returns c = named_on
