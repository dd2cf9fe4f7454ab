use Rattle.std.proofs.Common.{◌∙◌, sym, arith}
use Rattle.cine_nums.specs.Profile.{parts_of}
use Rattle.cinema_markers.specs.Tables.{tile_row, tile_rows}
use Rattle.cine_nums.proofs.FaultLemmas.{all_rows}
use Rattle.cinema_markers.proofs.RowLaws.{tile_refused}
use Rattle.cinema_markers.proofs.tlm.tile_fault.Goals as goal

pub returns-then-index-ne0 : goal.returns-then-index-ne0
unfolding tile_rows
returns-then-index-ne0 c =
    let bytes = c.args.bytes.now in
    sym (tile_refused bytes c.args.at c.loop-i.i
    (parts_of c.args.profile) c.entry_place-place.result c.index.result (omega arith)
    c.entry_place-place.ensures c.index.ensures c.if-index-ne0.true)
    ∙ c.loop-i.invariant ∙ all_rows (tile_row bytes c.args.at) (parts_of c.args.profile)
