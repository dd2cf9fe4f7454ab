use Rattle.std.proofs.Common.{◌≡◌, ◌+◌, ◌-◌, ◌++◌, ◌∙◌, ℕ, List, map, ap, arith}
use Rattle.std.specs.List.{flat_map, range_with_len}
use Rattle.band_geometry.specs.declared.places.BlockRange.{BlockRange}
use Rattle.packet_order.specs.Blocks.{block_at}
use Rattle.frame_encoder.specs.Writing.{code_of}
use Rattle.frame_encoder.proofs.Appends.{step_range, pieces_map}
use Rattle.frame_encoder.proofs.writing.ChosenPasses.push_row.Goals as goal

pub loop-column-preserved : goal.loop-column-preserved
loop-column-preserved c = λ planes is.
    step_range (λ i. code_of planes c.args.self.now (block_at c.args.packet c.args.orient
    (c.args.range.y0 + c.args.row) (c.args.range.x0 + i))) c.loop-column.column
    c.args.out.now.items c.loop-column.out.items c.push_block.new.out.items
    (c.loop-column.invariant planes is) (c.in_ok-push_block.ensures planes is)

pub returns : goal.returns
returns c = λ planes is.
    let s = c.args.self.now in
    let range = c.args.range in
    let f = code_of planes s in
    let h : BlockRange → ℕ → _ = λ r i. block_at c.args.packet c.args.orient
    (r.y0 + c.args.row) (r.x0 + i) in
    let end : c.loop-column.column ≡ range.x1 - range.x0 =
    omega (arith, c.loop-column-test.false) in
    c.loop-column.invariant planes is
    ∙ ap (λ (n : ℕ). c.args.out.now.items
    ++ flat_map (λ i. f (h range i)) (range_with_len 0 n)) end
    ∙ ap (λ (bytes : List ℕ). c.args.out.now.items ++ bytes)
    (pieces_map f (h range) (range_with_len 0 (range.x1 - range.x0))
    ∙ ap (λ (r : BlockRange). flat_map f (map (h r) (range_with_len 0 (r.x1 - r.x0))))
    c.requires.range)
