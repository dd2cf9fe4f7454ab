use Rattle.std.proofs.Common.{inr, arith, ap, ◌∙◌, Err}
use Rattle.std.proofs.lemmas.Result.{err_from_is_err_and}
use Rattle.packet_headers.proofs.ReadIncluded.{zero_at, found_zero_err, found_many, found_block}
use Rattle.packet_headers.proofs.ReadIncluded.{told_at, zero_less, took_less, reads_zero_err}
use Rattle.packet_headers.proofs.ReadIncluded.{reads_no_passes, reads_many, reads_no_len}
use Rattle.packet_headers.proofs.ReadIncluded.{reads_block}
use Rattle.packet_headers.proofs.reading.block.read_included.Goals as goal

pub returns-in_err-zero_planes-clause-found : goal.returns-in_err-zero_planes-clause-found
returns-in_err-zero_planes-clause-found c before e s =
    let p = err_from_is_err_and c.from_residual.result c.from_residual.ensures.1 in
    found_zero_err c.args.shape c.args.tree.now c.requires.sides before c.args.place e
    c.read_zero_planes.new.tree c.args.bits.now c.read_zero_planes.new.bits _ _ _ (p.1
    ∙ ap (λ k. Err k) p.2) (c.in_err-zero_planes.ensures.found _ s)

pub returns-then-passes-shape-clause-found : goal.returns-then-passes-shape-clause-found
returns-then-passes-shape-clause-found c before e s = inr
    (found_many c.args.shape c.args.tree.now c.requires.sides before c.args.place e
    c.read_zero_planes.new.tree c.args.bits.now c.read_zero_planes.new.bits
    c.read_passes.new.bits
    _ _ _ (zero_at c.args.shape c.args.tree.now c.requires.sides before c.args.place e _ _ _ _ _
    (c.in_ok-zero_planes.ensures.found _ s))
    c.in_ok-zero_planes.ensures.below c.in_ok-passes.ensures.took.1 c.in_ok-passes.ensures.took.2
    (omega arith) c.place.ensures)

pub returns-clause-found : goal.returns-clause-found
returns-clause-found c before e s = inr
    (found_block c.args.shape c.args.tree.now c.requires.sides before c.args.place e
    c.read_zero_planes.new.tree c.args.bits.now c.read_zero_planes.new.bits
    c.read_passes.new.bits c.read_length.new.bits
    _ _ _ (zero_at c.args.shape c.args.tree.now c.requires.sides before c.args.place e _ _ _ _ _
    (c.in_ok-zero_planes.ensures.found _ s))
    c.in_ok-zero_planes.ensures.below c.in_ok-passes.ensures.took.0 c.in_ok-passes.ensures.took.2
    (λ h. omega arith) c.in_ok-len.ensures.took)

pub read_length-requires-clause-few : goal.read_length-requires-clause-few
read_length-requires-clause-few c =
    let z = zero_less _ _ _ _ _ _ _ _ _ _ c.in_ok-zero_planes.ensures.width
    c.in_ok-zero_planes.ensures.height (c.in_ok-zero_planes.ensures.found c.requires.known.0
    c.requires.known.1) in
    let l = took_less _ _ _ c.in_ok-passes.ensures.took.2 in
    omega (arith, c.requires.few)

pub returns-in_err-zero_planes-clause-reads : goal.returns-in_err-zero_planes-clause-reads
returns-in_err-zero_planes-clause-reads c before trees ending rest e s fits i a inside t ahead =
    let p = err_from_is_err_and c.from_residual.result c.from_residual.ensures.1 in
    reads_zero_err c.args.shape c.args.tree.now c.requires.sides before c.args.place e
    c.read_zero_planes.new.tree c.args.bits.now c.read_zero_planes.new.bits _ _ _ (p.1
    ∙ ap (λ k. Err k) p.2)
    c.in_err-zero_planes.ensures.reads (c.in_err-zero_planes.ensures.found _ s) s trees ending rest
    fits a inside (told_at _ _ _ _ _ e t) ahead

pub returns-in_err-passes-clause-reads : goal.returns-in_err-passes-clause-reads
returns-in_err-passes-clause-reads c before trees ending rest e s fits i a inside t ahead = absurd
    (reads_no_passes c.args.shape c.args.tree.now c.requires.sides before c.args.place e
    c.read_zero_planes.new.tree c.args.bits.now c.read_zero_planes.new.bits _ _
    c.in_ok-zero_planes.ensures.below c.in_ok-zero_planes.ensures.reads
    (zero_at c.args.shape c.args.tree.now c.requires.sides before c.args.place e _ _ _ _ _
    (c.in_ok-zero_planes.ensures.found _ s)) s
    trees ending rest fits a inside (told_at _ _ _ _ _ e t) ahead c.in_err-passes.ensures.reads
    c.requires.shape.planes)

pub returns-then-passes-shape-clause-reads : goal.returns-then-passes-shape-clause-reads
returns-then-passes-shape-clause-reads c before trees ending rest e s fits i a inside t ahead =
    reads_many c.args.shape c.args.tree.now c.requires.sides before c.args.place e
    c.read_zero_planes.new.tree c.args.bits.now c.read_zero_planes.new.bits _ _
    c.in_ok-zero_planes.ensures.below c.in_ok-zero_planes.ensures.reads
    (zero_at c.args.shape c.args.tree.now c.requires.sides before c.args.place e _ _ _ _ _
    (c.in_ok-zero_planes.ensures.found _ s)) s
    trees ending rest fits a inside (told_at _ _ _ _ _ e t) ahead
    c.read_passes.new.bits _ c.in_ok-passes.ensures.took.2 c.requires.shape.planes
    c.in_ok-passes.ensures.reads _ c.place.ensures (omega arith)

pub returns-in_err-len-clause-reads : goal.returns-in_err-len-clause-reads
returns-in_err-len-clause-reads c before trees ending rest e s fits i a inside t ahead = absurd
    (reads_no_len c.args.shape c.args.tree.now c.requires.sides before c.args.place e
    c.read_zero_planes.new.tree c.args.bits.now c.read_zero_planes.new.bits _ _
    c.in_ok-zero_planes.ensures.below c.in_ok-zero_planes.ensures.reads
    (zero_at c.args.shape c.args.tree.now c.requires.sides before c.args.place e _ _ _ _ _
    (c.in_ok-zero_planes.ensures.found _ s)) s
    trees ending rest fits a inside (told_at _ _ _ _ _ e t) ahead
    c.read_passes.new.bits _ c.in_ok-passes.ensures.took.2 c.requires.shape.planes
    c.in_ok-passes.ensures.reads (λ h. omega arith) c.in_err-len.ensures.reads)

pub returns-clause-reads : goal.returns-clause-reads
returns-clause-reads c before trees ending rest e s fits i a inside t ahead =
    reads_block c.args.shape c.args.tree.now c.requires.sides before c.args.place e
    c.read_zero_planes.new.tree c.args.bits.now c.read_zero_planes.new.bits _ _
    c.in_ok-zero_planes.ensures.below c.in_ok-zero_planes.ensures.reads
    (zero_at c.args.shape c.args.tree.now c.requires.sides before c.args.place e _ _ _ _ _
    (c.in_ok-zero_planes.ensures.found _ s)) s
    trees ending rest fits a inside (told_at _ _ _ _ _ e t) ahead
    c.read_passes.new.bits _ c.in_ok-passes.ensures.took.2 c.requires.shape.planes
    c.in_ok-passes.ensures.reads (λ h. omega arith)
    c.read_length.new.bits _ c.in_ok-len.ensures.took c.in_ok-len.ensures.reads
