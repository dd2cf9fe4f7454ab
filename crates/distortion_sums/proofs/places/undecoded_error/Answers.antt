use Rattle.std.proofs.Common.{ℕ, ◌+◌, ◌*◌, ◌/◌, ◌^◌, ◌<◌, ◌≤◌, ◌≡◌, sym, ap, ◌∙◌, arith}
use Rattle.std.proofs.lemmas.Nat.{mul-le}
use Rattle.distortion_sums.proofs.Errors.{unknown_error, middle_whole}
use Rattle.distortion_sums.proofs.places.undecoded_error.Goals as goal

pub returns-clause-small : goal.returns-clause-small
returns-clause-small c =
    let small : c.args.magnitude < 1048576 = c.requires.magnitude in
    let size : c.from-size.result ≡ 2 * c.args.magnitude + 1 = c.from-size.ensures in
    let fits : c.from-size.result * c.from-size.result ≤ 2097151 * 2097151 =
    mul-le c.from-size.result c.from-size.result 2097151 2097151 (omega arith) (omega arith) in
    omega arith
