use Rattle.std.proofs.Common.{◌≡◌, ◌≤◌, pos, get_or, arith, sym, ap, refl, ◌∙◌, inl, inr}
use Rattle.std.proofs.lemmas.Bool.{cases_lt}
use Rattle.band_geometry.specs.Sizes.{res_side}
use Rattle.band_geometry.proofs.SideLemmas.{res_side-monotone, res_side-top}
use Rattle.frame_coefficients.specs.Places.{index_at}
use Rattle.frame_coefficients.proofs.Rows.{before-le, before-suc, index_at-is, coef_in_column}
use Rattle.frame_coefficients.proofs.quantise.quantise_row.Goals as goal

pub quantise_run-requires-clause-order : goal.quantise_run-requires-clause-order
quantise_run-requires-clause-order c =
    let le = before-le c.args.geometry.now.levels c.args.geometry.now.width c.loop-column.column
    (omega arith) in
    omega (arith, c.loop-column.invariant.reached, c.res_size.ensures.width, le)

pub loop-column-preserved : goal.loop-column-preserved
loop-column-preserved c =
    let g = c.args.geometry.now in
    let column = c.loop-column.column in
    let widest : res_side g.levels g.width column ≤ res_side g.levels g.width g.levels =
    res_side-monotone g.levels g.width column g.levels (omega arith) (omega arith) in
    let whole : res_side g.levels g.width g.levels ≡ g.width = res_side-top g.levels g.width in
    record {
      reached = rw (before-suc (res_side g.levels g.width) column, c.res_size.ensures.width) refl;
      earlier = λ k d lt. c.quantise_run.ensures.before k d
          (omega (arith, c.loop-column.invariant.reached))
          ∙ c.loop-column.invariant.earlier k d lt;
      done = λ k d low high.
          elim (cases_lt k c.loop-column.from) [
            | inl lt ↦ c.quantise_run.ensures.before k d lt
                ∙ c.loop-column.invariant.done k d low lt
            | inr le ↦
                c.quantise_run.ensures.done k d le high
                ∙ index_at-is c.args.steps.now column c.row_res-row.result
                (get_or c.args.cells.now k (pos 0))
                c.band_at-band.result.step c.band_at-band.result.range c.band_at-band.result.planes
                c.band_at-band.ensures.step c.band_at-band.ensures.range c.band_at-band.ensures.planes
                ∙ ap (λ r. index_at c.args.steps.now column r
                (get_or c.args.cells.now k (pos 0))) c.row_res-row.ensures.value
                ∙ sym (coef_in_column g.levels g.width g.height c.args.steps.now c.args.cells.now c.args.y column k (omega arith)
                (omega (arith, c.loop-column.invariant.reached))
                (omega (arith, c.res_size.ensures.width))
                (omega (arith, c.res_size.ensures.width)))
          ];
    }
