use Rattle.ebcot_passes.specs.PassCoder.{coder_of}
use Rattle.std.proofs.Common.{ℕ, ◌*◌, ◌≡◌, Bool, List, take}
use Rattle.ebcot_contexts.specs.Cells.{Cell}
use Rattle.ebcot_contexts.specs.Contexts.{Shape}
use Rattle.ebcot_contexts.specs.Passes.{significance, scan, columns}
use Rattle.ebcot_passes.specs.Coding.{AreCoefs, AreContexts, Holds, HoldsAfter, GoesOn}
use Rattle.ebcot_passes.proofs.passes.significance_pass.Given as goal

abbrev pub invariant-loop-stripe : goal.invariant-loop-stripe
invariant-loop-stripe l = record {
  codes : (s : Shape) (coefs k : List (ℕ × Bool)) (cells : List Cell) → s.width ≡ l.width →
      s.height ≡ l.height
      → AreContexts s.orient l.contexts → AreCoefs s.width s.height coefs l.grid
      → Holds coefs s l.p cells k l.initial.words (coder_of l.initial.encoder l.initial.distortion)
      → HoldsAfter coefs s l.p (columns significance s l.p
      (take (l.stripe * l.width) (scan s.width s.height)) cells) k l.words
      (coder_of l.encoder l.distortion);
  goes_on : GoesOn l.initial.encoder l.encoder (768 * l.stripe);
}
