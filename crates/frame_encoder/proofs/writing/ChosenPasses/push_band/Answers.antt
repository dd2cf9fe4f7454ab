use Rattle.std.proofs.Common.{◌≡◌, ◌-◌, ◌++◌, ◌∙◌, ℕ, List, ap, arith}
use Rattle.std.specs.List.{flat_map, range_with_len}
use Rattle.band_geometry.specs.declared.places.BlockRange.{BlockRange}
use Rattle.packet_order.specs.Blocks.{row_in, blocks_in}
use Rattle.frame_encoder.specs.Writing.{code_of}
use Rattle.frame_encoder.proofs.Appends.{step_range, pieces_pieces}
use Rattle.frame_encoder.proofs.writing.ChosenPasses.push_band.Goals as goal

pub loop-row-preserved : goal.loop-row-preserved
loop-row-preserved c = λ planes is.
    step_range (λ j. flat_map (code_of planes c.args.self.now)
    (row_in c.args.self.now.geometry c.args.packet c.args.orient j)) c.loop-row.row
    c.args.out.now.items c.loop-row.out.items c.push_row.new.out.items
    (c.loop-row.invariant planes is) (c.in_ok-push_row.ensures planes is)

pub returns : goal.returns
unfolding blocks_in
returns c = λ planes is.
    let s = c.args.self.now in
    let range = c.precinct_blocks-range.result in
    let f = code_of planes s in
    let h = row_in s.geometry c.args.packet c.args.orient in
    let end : c.loop-row.row ≡ range.y1 - range.y0 = omega (arith, c.loop-row-test.false) in
    c.loop-row.invariant planes is
    ∙ ap (λ (n : ℕ). c.args.out.now.items
    ++ flat_map (λ j. flat_map f (h j)) (range_with_len 0 n)) end
    ∙ ap (λ (bytes : List ℕ). c.args.out.now.items ++ bytes)
    (pieces_pieces f h (range_with_len 0 (range.y1 - range.y0))
    ∙ ap (λ (r : BlockRange). flat_map f (flat_map h (range_with_len 0 (r.y1 - r.y0))))
    c.precinct_blocks-range.ensures.value)
