use Rattle.std.proofs.Common.{ℕ, ◌*◌, ◌≡◌, List}
use Rattle.mq_coder.specs.Decisions.{Interval}
use Rattle.ebcot_contexts.specs.Cells.{Cell}
use Rattle.ebcot_contexts.specs.Contexts.{Shape}
use Rattle.ebcot_contexts.specs.Passes.{significance}
use Rattle.ebcot_reader.specs.Columns.{AreContexts}
use Rattle.ebcot_reader.specs.Reading.{Holds}
use Rattle.ebcot_reader.proofs.Scans.{begun}
use Rattle.ebcot_reader.proofs.passes.significance_pass.Given as goal

abbrev pub invariant-loop-stripe : goal.invariant-loop-stripe
invariant-loop-stripe l =
    (bytes : List ℕ) (s : Shape) (st : List Cell × Interval) → s.width ≡ l.width
    → s.height ≡ l.height
    → AreContexts s.orient l.contexts
    → Holds bytes s l.p st l.initial.words l.initial.grid l.initial.decoder
    → Holds bytes s l.p (begun bytes significance s l.p (l.stripe * l.width) st)
    l.words l.grid l.decoder
