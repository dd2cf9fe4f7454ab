use Rattle.std.proofs.Common.{◌≡◌, ◌∙◌, sym, None}
use Rattle.cine_nums.specs.Faults.{first_fault}
use Rattle.cinema_markers.specs.Tables.{soc_rows}
use Rattle.cinema_markers.proofs.Walking.{stood_at_first, nothing_is_whole, stood_further}
use Rattle.cinema_markers.proofs.Walking.{still_whole}
use Rattle.cinema_markers.proofs.read.go_over.Goals as goal

pub loop-to-init : goal.loop-to-init
loop-to-init c =
    let bytes = c.args.bytes.now in
    let none : first_fault (soc_rows bytes) ≡ None = sym c.soc_fault.ensures.value
    ∙ c.in_default.is in
    record {
      stood = stood_at_first bytes none;
      whole = nothing_is_whole bytes;
      inside = (rw c.in_default.is at c.soc_fault.ensures.inside);
    }

pub loop-to-preserved : goal.loop-to-preserved
loop-to-preserved c =
    let bytes = c.args.bytes.now in
    record {
      stood = stood_further bytes c.loop-to.found c.noted-found.result c.loop-to.at
          c.in-Some-2.to c.word_at.result c.loop-to.invariant.stood
          (rw c.in-Some-2.is at c.in_ok-to.ensures.next) c.word_at.ensures c.noted-found.ensures;
      whole = still_whole bytes c.loop-to.found c.noted-found.result c.loop-to.at c.word_at.result
          (rw c.in-Some-2.is at c.in_ok-to.ensures.whole) c.word_at.ensures c.noted-found.ensures;
      inside = (rw c.in-Some-2.is at c.in_ok-to.ensures.inside);
    }
