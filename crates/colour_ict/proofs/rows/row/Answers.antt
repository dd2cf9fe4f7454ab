use Rattle.std.proofs.Common.{◌≤◌, pos, sym, subst, arith}
use Rattle.std.specs.List.{All}
use Rattle.cine_nums.specs.Fixed.{Within30}
use Rattle.colour_ict.specs.Ict.{component0, component1, component2}
use Rattle.colour_ict.proofs.Places.{pointwise-from_places, All-pointwise}
use Rattle.colour_ict.proofs.Range.{component0-within, component1-within, component2-within}
use Rattle.colour_ict.proofs.rows.row.Goals as goal

pub returns-clause-out0 : goal.returns-clause-out0
returns-clause-out0 c =
    pointwise-from_places component0 c.args.x.now c.args.y.now c.args.z.now c.loop-i.out0 0 (pos 0)
    c.requires.y_len c.requires.z_len (omega arith)
    (λ k lt. c.loop-i.invariant.done0 k (omega arith))

pub returns-clause-within0 : goal.returns-clause-within0
returns-clause-within0 c =
    subst (All Within30) (sym (returns-clause-out0 c))
    (All-pointwise (λ s. s ≤ 4095) Within30 component0 component0-within
    c.args.x.now c.args.y.now c.args.z.now
    c.requires.x_in_range c.requires.y_in_range c.requires.z_in_range)

pub returns-clause-out1 : goal.returns-clause-out1
returns-clause-out1 c =
    pointwise-from_places component1 c.args.x.now c.args.y.now c.args.z.now c.loop-i.out1 0 (pos 0)
    c.requires.y_len c.requires.z_len (omega arith)
    (λ k lt. c.loop-i.invariant.done1 k (omega arith))

pub returns-clause-within1 : goal.returns-clause-within1
returns-clause-within1 c =
    subst (All Within30) (sym (returns-clause-out1 c))
    (All-pointwise (λ s. s ≤ 4095) Within30 component1 component1-within
    c.args.x.now c.args.y.now c.args.z.now
    c.requires.x_in_range c.requires.y_in_range c.requires.z_in_range)

pub returns-clause-out2 : goal.returns-clause-out2
returns-clause-out2 c =
    pointwise-from_places component2 c.args.x.now c.args.y.now c.args.z.now c.loop-i.out2 0 (pos 0)
    c.requires.y_len c.requires.z_len (omega arith)
    (λ k lt. c.loop-i.invariant.done2 k (omega arith))

pub returns-clause-within2 : goal.returns-clause-within2
returns-clause-within2 c =
    subst (All Within30) (sym (returns-clause-out2 c))
    (All-pointwise (λ s. s ≤ 4095) Within30 component2 component2-within
    c.args.x.now c.args.y.now c.args.z.now
    c.requires.x_in_range c.requires.y_in_range c.requires.z_in_range)
