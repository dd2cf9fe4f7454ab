-- One point more.
use Rattle.std.proofs.Common.{ℕ, ◌+◌, ◌≡◌, List, [], ◌∷◌, ◌++◌, length, map, sym, ap, ◌∙◌, arith}
use Rattle.std.specs.List.{range_with_len}
use Rattle.std.proofs.Math.Nat.{zero-add}
use Rattle.std.proofs.lemmas.List.FromFn.{map-range_with_len_more}
use Rattle.rd_hulls.specs.declared.point.Point.{Point}
use Rattle.demand_blocks.specs.Blocks.{block_coefs, block_shape}
use Rattle.demand_blocks.specs.Points.{point_of, points_upto}
use Rattle.demand_blocks.proofs.block.DemandBlock.points.Goals as goal

pub loop-k-preserved : goal.loop-k-preserved
loop-k-preserved c =
    let b = c.args.self.now in
    let of : ℕ → Point = point_of (block_coefs b) (block_shape b) in
    let k : ℕ = c.loop-k.k in
    let before : List Point = c.loop-k.points.items in
    let here : c.point.result ≡ of k = c.point.ensures in
    record {
      count = omega arith;
      made = c.push.ensures.items ∙ ap (λ (p : Point). before ++ p ∷ []) here
          ∙ ap (λ (ps : List Point). ps ++ of k ∷ []) c.loop-k.invariant.made
          ∙ sym (map-range_with_len_more of 0 k k (zero-add k));
    }

pub returns : goal.returns
unfolding points_upto
returns c =
    let b = c.args.self.now in
    let of : ℕ → Point = point_of (block_coefs b) (block_shape b) in
    let end = c.loop-k-test.false in
    let most = c.loop-k.auto.k-end in
    let coded = c.coded-k-end.ensures in
    let all : c.loop-k.k ≡ length b.passes.items + 1 = omega (arith, end, most, coded) in
    c.loop-k.invariant.made ∙ ap (λ (n : ℕ). map of (range_with_len 0 n)) all
