use Rattle.std.proofs.Common.{negsuc, pos, ◌*ℤ◌, ◌∙◌, arith, w32, FitsSigned}
use Rattle.std.proofs.lemmas.Int.{ints, to_z-of_z}
use Rattle.colour_ict.proofs.Matrix.{component1-is}
use Rattle.colour_ict.proofs.pixel.component1.Goals as goal

pub returns : goal.returns
returns c =
    let a_fits : FitsSigned w32 c.shifted.result = omega (arith, ints) in
    let b_fits : FitsSigned w32 c.shifted-2.result = omega (arith, ints) in
    let c_fits : FitsSigned w32 c.shifted-3.result = omega (arith, ints) in
    let pa_fits : FitsSigned w32 (negsuc 11058 *ℤ c.shifted.result) = omega (arith, ints) in
    let pb_fits : FitsSigned w32 (negsuc 21708 *ℤ c.shifted-2.result) = omega (arith, ints) in
    let pc_fits : FitsSigned w32 (pos 32768 *ℤ c.shifted-3.result) = omega (arith, ints) in
    let r_fits : FitsSigned w32 c.rounded.result = omega (arith, ints) in
    let e = simp to_z-of_z at c.rounded.ensures in
    let f = rw (c.shifted.ensures, c.shifted-2.ensures, c.shifted-3.ensures) at e in
    simp to_z-of_z (f ∙ component1-is c.args.x c.args.y c.args.z)
