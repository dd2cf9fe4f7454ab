use Rattle.std.proofs.Common.{List, inr, arith, refl, sym, ap, subst, ◌∙◌, Err}
use Rattle.std.proofs.lemmas.Result.{err_from_is_err_and}
use Rattle.packet_headers.specs.declared.entry.Entry.{Entry}
use Rattle.packet_headers.proofs.ReadBands.{Sofar, sofar_none, less_now, sofar_next, found_err}
use Rattle.packet_headers.proofs.ReadBands.{reads_err, found_whole, reads_whole}
use Rattle.packet_headers.proofs.reading.band.read_band.Goals as goal

pub loop-place-init : goal.loop-place-init
loop-place-init c =
    let P : List Entry → Type 0 = λ k. Sofar c.args.shape c.unread-inclusion.result
    c.unread-zero_planes.result c.args.bits.now c.args.bits.now k 0 in
    subst P (sym c.new-entries.ensures) (sofar_none _ _ _ _
    (record {
      width = c.unread-inclusion.ensures.width;
      height =
          c.unread-inclusion.ensures.height;
    })
    (record {
      width = c.unread-zero_planes.ensures.width;
      height =
          c.unread-zero_planes.ensures.height;
    })
    c.unread-inclusion.ensures.stands c.unread-zero_planes.ensures.stands
    c.unread-inclusion.ensures.allows c.unread-zero_planes.ensures.allows)

pub read_block-requires-clause-few : goal.read_block-requires-clause-few
read_block-requires-clause-few c = let l = less_now _ _ _ _ _ _ _ c.loop-place.invariant in
    omega (arith, c.requires.few)

pub returns-in_err-entry-clause-found : goal.returns-in_err-entry-clause-found
returns-in_err-entry-clause-found c =
    let p = err_from_is_err_and c.from_residual.result c.from_residual.ensures.1 in
    found_err _ _ _ _ _ _ _ c.loop-place.invariant c.read_block.new.inclusion
    c.read_block.new.zero_planes c.read_block.new.bits _
    c.in_err-entry.ensures.found c.in_err-entry.ensures.reads _ _ refl (p.1
    ∙ ap (λ k. Err k) p.2) (omega arith) c.in_err-entry.ensures.inclusion
    c.in_err-entry.ensures.zero_planes

pub returns-in_err-entry-clause-reads : goal.returns-in_err-entry-clause-reads
returns-in_err-entry-clause-reads c =
    let p = err_from_is_err_and c.from_residual.result c.from_residual.ensures.1 in
    reads_err _ _ _ _ _ _ _ c.loop-place.invariant c.read_block.new.inclusion
    c.read_block.new.zero_planes c.read_block.new.bits _
    c.in_err-entry.ensures.found c.in_err-entry.ensures.reads _ _ refl (p.1
    ∙ ap (λ k. Err k) p.2) (omega arith)

pub loop-place-preserved : goal.loop-place-preserved
loop-place-preserved c =
    sofar_next _ _ _ _ _ _ _ c.loop-place.invariant c.read_block.new.inclusion
    c.read_block.new.zero_planes c.read_block.new.bits _
    c.in_ok-entry.ensures.found c.in_ok-entry.ensures.reads _ _ refl c.push.ensures.items
    c.in_ok-entry.ensures.inclusion c.in_ok-entry.ensures.zero_planes c.in_ok-entry.ensures.same

pub returns-clause-found : goal.returns-clause-found
returns-clause-found c = inr (found_whole _ _ _ _ _ _ _ c.loop-place.invariant _ refl refl refl refl
    (omega arith))

pub returns-clause-reads : goal.returns-clause-reads
returns-clause-reads c = reads_whole _ _ _ _ _ _ _ c.loop-place.invariant _ refl refl refl refl
    (omega arith)
