use Rattle.std.proofs.Common.{rules, ap}
use Rattle.cine_ports.proofs.memory_frames.MemoryFramesFrames.list.Goals as goal

pub returns-in_err-next_call-clause-gives : goal.returns-in_err-next_call-clause-gives
returns-in_err-next_call-clause-gives c = let plan = ap (λ f. f.plan) c.self.view_is in search rules
