use Rattle.ebcot_passes.specs.PassCoder.{coder_of}
use Rattle.std.proofs.Common.{ℕ, ◌+◌, ◌*◌, ◌<◌, ◌≡◌, Bool, List, take}
use Rattle.ebcot_contexts.specs.Cells.{Cell}
use Rattle.ebcot_contexts.specs.Contexts.{Shape}
use Rattle.ebcot_contexts.specs.Passes.{significance, scan, columns}
use Rattle.ebcot_passes.specs.Coding.{AreCoefs, AreContexts, HoldsAfter, GoesOn}
use Rattle.ebcot_passes.proofs.stripes.significance_stripe.Given as goal

abbrev pub invariant-loop-x : goal.invariant-loop-x
invariant-loop-x l = record {
  codes : (s : Shape) (coefs k : List (ℕ × Bool)) (cells : List Cell) → s.width ≡ l.width →
      4 * l.stripe < s.height
      → AreContexts s.orient l.contexts → AreCoefs s.width s.height coefs l.grid
      → HoldsAfter coefs s l.p (columns significance s l.p
      (take (l.stripe * l.width)
      (scan s.width s.height)) cells) k l.initial.words
      (coder_of l.initial.encoder l.initial.distortion)
      → HoldsAfter coefs s l.p (columns significance s l.p
      (take (l.stripe * l.width + l.x) (scan s.width s.height)) cells) k l.words
      (coder_of l.encoder l.distortion);
  goes_on : GoesOn l.initial.encoder l.encoder (24 * l.x);
}
