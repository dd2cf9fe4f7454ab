use Rattle.std.proofs.Common.{rules, ◌≤◌, arith}
use Rattle.cine_nums.specs.declared.orient.Orient.TheVariants.{HL, LH, HH}
use Rattle.dz_quantiser.specs.Bands.{IsUsableAt}
use Rattle.dz_quantiser.proofs.Usable.{one_more}
use Rattle.dz_quantiser.proofs.steps.StepSizes.are_usable.Goals as goal

pub loop-res-preserved : goal.loop-res-preserved
loop-res-preserved c = record {
  done = one_more c.args.self.now c.loop-res.res c.loop-res.invariant.done
      (search rules) (search rules) (search rules) (search rules);
}

pub returns-then-not-all : goal.returns-then-not-all
returns-then-not-all c =
    let low : 1 ≤ c.loop-res.res = c.loop-res.auto.res in
    let high : c.loop-res.res ≤ c.args.levels = omega arith in (
      λ never. search rules,
      λ usable.
          let hl : IsUsableAt c.args.self.now c.loop-res.res HL =
          usable.above c.loop-res.res HL low high in
          let lh : IsUsableAt c.args.self.now c.loop-res.res LH =
          usable.above c.loop-res.res LH low high in
          let hh : IsUsableAt c.args.self.now c.loop-res.res HH =
          usable.above c.loop-res.res HH low high in
          search rules,
    )
