use Rattle.std.proofs.Common.{rules, ◌<◌, length, ap, IsTrue}
use Rattle.cine_ports.proofs.Sources.{left-whole}
use Rattle.cine_ports.proofs.memory_frames.MemoryFramesFrames.begin.Goals as goal

pub returns-in_err-planned-clause-gives : goal.returns-in_err-planned-clause-gives
returns-in_err-planned-clause-gives c = let plan = ap (λ f. f.plan) c.self.view_is in search rules

pub returns-clause-left : goal.returns-clause-left
returns-clause-left c =
    let memory = c.begin.new.self in
    let begun : IsTrue memory.is_begun = search rules in
    let within : c.args.i < length memory.files.items = search rules in
    let whole = left-whole memory.is_begun memory.files.items c.args.i begun within in
    let asked = c.begin.ensures.asked in
    let at = c.begin.ensures.at in
    cc
