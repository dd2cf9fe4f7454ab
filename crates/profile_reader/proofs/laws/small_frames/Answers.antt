use Rattle.profile_reader.proofs.SmallFrames.{two_k, four_k}
use Rattle.profile_reader.proofs.laws.small_frames.Goals as goal

pub returns : goal.returns
returns c = record { two_k = two_k; four_k = four_k }
