use Rattle.std.proofs.Common.{◌∙◌, ap, take, ◌++◌, subst, IsSome, sym}
use Rattle.cine_ports.proofs.Appends.{read-step, read-within}
use Rattle.cine_ports.proofs.whole_pieces.read_fully.Goals as goal

pub loop-done-preserved : goal.loop-done-preserved
loop-done-preserved g c =
    let ensured = c.in_ok-n.ensures in
    let kept = c.loop-done.invariant in
    let i = c.loop-done.done in
    let n = c.in_ok-n.n in
    let buf = c.loop-done.buf in
    let part = c.read.new.buf in
    let left = (g.F.Frames.reading c.read.new.self).left in
    let before = (g.F.Frames.reading c.loop-done.frames).left in (
      read-within i n buf part kept.0 ensured.count,
      (λ told. kept.1 told ∙ read-step i n buf part before left kept.0 ensured.count
          (ap (λ bytes. take i buf ++ bytes)
          (ensured.moved (subst (λ source. IsSome source.files) (sym kept.4) told)))),
      ensured.begun,
      ensured.asked ∙ kept.3,
      ensured.source ∙ kept.4,
      ensured.failed,
    )
