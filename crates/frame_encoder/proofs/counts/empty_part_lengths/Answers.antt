use Rattle.std.proofs.Common.{◌≡◌, ◌++◌, ◌∷◌, ◌+◌, [], ◌∙◌, ℕ, List, length, map, sym, ap}
use Rattle.std.proofs.Common.{arith}
use Rattle.std.specs.List.{range_with_len}
use Rattle.std.proofs.lemmas.List.FromFn.{length-map-range_with_len, map-range_with_len_more}
use Rattle.frame_encoder.specs.Empty.{empty_part_length}
use Rattle.frame_encoder.proofs.Lengths.{body_count, parts_few}
use Rattle.frame_encoder.proofs.counts.empty_part_lengths.Goals as goal

pub push-requires : goal.push-requires
push-requires c =
    let made = ap (λ (lengths : List ℕ). length lengths) c.loop-index.invariant in
    let count = length-map-range_with_len
    (empty_part_length c.args.geometry.now) 0 c.loop-index.index in
    let few = parts_few c.args.geometry.now.profile in
    (omega arith, omega (arith, made, count, few, c.parts-index-end.ensures))

pub loop-index-preserved : goal.loop-index-preserved
loop-index-preserved c =
    let g = c.args.geometry.now in
    let i = c.loop-index.index in
    let body = body_count g i in
    let one : 14 + c.packet_count.result ≡ empty_part_length g i =
    omega (arith, body, c.packet_count.ensures.count) in
    c.push.ensures.items
    ∙ ap (λ lengths. lengths ++ (14 + c.packet_count.result) ∷ []) c.loop-index.invariant
    ∙ ap (λ n. map (empty_part_length g) (range_with_len 0 i) ++ n ∷ []) one
    ∙ sym (map-range_with_len_more (empty_part_length g) 0 i i (omega arith))
