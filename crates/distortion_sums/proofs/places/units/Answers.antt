use Rattle.std.proofs.Common.{◌*◌, ◌^◌, ◌<◌, ◌≤◌, arith}
use Rattle.std.proofs.lemmas.Nat.{mul-le}
use Rattle.std.proofs.Math.Nat.{pow-le-pow_right}
use Rattle.distortion_sums.proofs.places.units.Goals as goal

pub returns-clause-small : goal.returns-clause-small
returns-clause-small c =
    let l : 2 ^ c.args.plane ≤ 2 ^ 19 =
    pow-le-pow_right {n = 2} (omega arith) {i = c.args.plane} {j = 19}
    (let p : c.args.plane < 20 = c.requires.plane in omega arith) in
    let m : c.args.count * 2 ^ c.args.plane ≤ 3 * 524288 =
    mul-le c.args.count (2 ^ c.args.plane) 3 524288 c.requires.count l in
    omega arith
