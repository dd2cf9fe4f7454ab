use Rattle.std.proofs.Common.{ℕ, ◌+◌, ◌*◌, ◌<◌, ◌≡◌, List}
use Rattle.mq_coder.specs.Decisions.{Interval}
use Rattle.ebcot_contexts.specs.Cells.{Cell}
use Rattle.ebcot_contexts.specs.Contexts.{Shape}
use Rattle.ebcot_contexts.specs.Passes.{significance}
use Rattle.ebcot_reader.specs.Columns.{AreContexts}
use Rattle.ebcot_reader.specs.Reading.{Holds}
use Rattle.ebcot_reader.proofs.Scans.{begun}
use Rattle.ebcot_reader.proofs.stripes.significance_stripe.Given as goal

abbrev pub invariant-loop-x : goal.invariant-loop-x
invariant-loop-x l =
    (bytes : List ℕ) (s : Shape) (st : List Cell × Interval) → s.width ≡ l.width
    → 4 * l.stripe < s.height
    → AreContexts s.orient l.contexts
    → Holds bytes s l.p (begun bytes significance s l.p (l.stripe * l.width) st)
    l.initial.words l.initial.grid l.initial.decoder
    → Holds bytes s l.p (begun bytes significance s l.p (l.stripe * l.width + l.x) st)
    l.words l.grid l.decoder
