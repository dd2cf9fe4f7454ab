use Rattle.cine_nums.specs.Fixed.{mul16}
use Rattle.cine_nums.proofs.Product.{product_of, computed, shifted_low, shifted_high}
use Rattle.cine_nums.proofs.fixed.mul16.Goals as goal

pub returns-clause-value : goal.returns-clause-value
unfolding mul16
returns-clause-value c = computed c.args.c c.args.x c.ranges.c c.ranges.x

pub returns-clause-low : goal.returns-clause-low
returns-clause-low c = rw (computed c.args.c c.args.x c.ranges.c c.ranges.x)
    (shifted_low _ (product_of c.args.c c.args.x c.ranges.c c.ranges.x))

pub returns-clause-high : goal.returns-clause-high
returns-clause-high c = rw (computed c.args.c c.args.x c.ranges.c c.ranges.x)
    (shifted_high _ (product_of c.args.c c.args.x c.ranges.c c.ranges.x))
