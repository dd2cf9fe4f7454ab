use Rattle.std.proofs.Common.{rules, ◌≤◌, length, drop, ap, sym, arith, subst, IsTrue}
use Rattle.cine_ports.proofs.Sources.{left-moved}
use Rattle.cine_ports.proofs.memory_frames.MemoryFramesFrames.read.Goals as goal

pub returns-clause-moved : goal.returns-clause-moved
returns-clause-moved c told =
    let memory = c.self.inside.memory in
    let n = c.read.result in
    let rest = drop c.most-most.result c.args.buf.now in
    let seen = ap (λ f. f.reading.left) c.self.view_is in
    let begun = subst (λ f. IsTrue f.reading.is_begun) (sym c.self.view_is) c.requires.begun in
    let within : n ≤ length c.read.new.buf =
    omega (arith, c.most-most.ensures.value, c.read.ensures.count, c.read.ensures.len) in
    let moved = left-moved memory.is_begun memory.files.items memory.asked memory.at n c.read.new.buf rest begun within c.read.ensures.moved in
    let files = ap (λ files. files.items) c.read.ensures.files in
    let still = c.read.ensures.begun in
    let asked = c.read.ensures.asked in
    let at = c.read.ensures.at in
    cc

pub returns-in_err-next_call-clause-gives : goal.returns-in_err-next_call-clause-gives
returns-in_err-next_call-clause-gives c = let plan = ap (λ f. f.plan) c.self.view_is in search rules
