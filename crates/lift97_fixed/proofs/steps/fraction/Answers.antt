use Rattle.std.proofs.lemmas.Int.{to_z-of_z}
use Rattle.lift97_fixed.proofs.Products.{halved}
use Rattle.lift97_fixed.proofs.steps.fraction.Goals as goal

pub overflow_add-result : goal.overflow_add-result
overflow_add-result c = let h = halved c.args.d c.args.x c.requires.low c.requires.high c.ranges.x in
    rw (to_z-of_z _ _ h.part) h.whole

pub overflow_cast-result-3 : goal.overflow_cast-result-3
overflow_cast-result-3 c =
    let h = halved c.args.d c.args.x c.requires.low c.requires.high c.ranges.x in
    rw (to_z-of_z _ _ h.part, to_z-of_z _ _ h.whole, h.kept) h.fits

pub returns : goal.returns
returns c = record {
  value = let h = halved c.args.d c.args.x c.requires.low c.requires.high c.ranges.x in
      rw (to_z-of_z _ _ h.part, to_z-of_z _ _ h.whole, h.kept, to_z-of_z _ _ h.fits) h.value;
}
