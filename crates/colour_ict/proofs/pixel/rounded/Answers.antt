use Rattle.std.proofs.Common.{ℤ, pos, negsuc, ◌+ℤ◌, arith, w32, FitsSigned}
use Rattle.std.specs.Int.{int_shr}
use Rattle.std.proofs.lemmas.Int.{ints, to_z-of_z}
use Rattle.colour_ict.proofs.pixel.rounded.Goals as goal

shr_fits : (z : ℤ) → FitsSigned w32 z → FitsSigned w32 (int_shr z 3)
shr_fits (pos a) f = omega arith
shr_fits (negsuc a) f = omega arith

pub returns : goal.returns
returns c =
    let a_fits : FitsSigned w32 c.args.a = omega (arith, ints) in
    let b_fits : FitsSigned w32 c.args.b = omega (arith, ints) in
    let c_fits : FitsSigned w32 c.args.c = omega (arith, ints) in
    let ab_fits : FitsSigned w32 (c.args.a +ℤ c.args.b) = omega (arith, ints) in
    let abc_fits : FitsSigned w32 ((c.args.a +ℤ c.args.b) +ℤ c.args.c) = omega (arith, ints) in
    let sum_fits : FitsSigned w32 (((c.args.a +ℤ c.args.b) +ℤ c.args.c) +ℤ pos 4) =
    omega (arith, ints) in
    let fits : FitsSigned w32 (int_shr (((c.args.a +ℤ c.args.b) +ℤ c.args.c) +ℤ pos 4) 3) =
    shr_fits _ sum_fits in
    simp to_z-of_z
