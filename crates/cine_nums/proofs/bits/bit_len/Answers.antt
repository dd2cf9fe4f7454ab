use Rattle.std.proofs.Common.{◌≡◌, ℕ, ◌-◌, ◌^◌, ◌<◌, arith, sym}
use Rattle.std.proofs.lemmas.Nat.{leading_length}
use Rattle.std.specs.Int.Count.{count_leading_zeros}
use Rattle.cine_nums.specs.Bits.{bit_len}
use Rattle.cine_nums.proofs.BitLength.{bit_len-unique, bit_len-above, bit_len-below}
use Rattle.cine_nums.proofs.bits.bit_len.Goals as goal

-- 32 less the leading zeros is the bit length
from_leading : (m : ℕ) → m < 2 ^ 32 → 32 - count_leading_zeros 32 m ≡ bit_len m
from_leading m lt =
    let reached = leading_length 32 m lt in
    let digits : ℕ = reached.0 in
    let is : 32 - count_leading_zeros 32 m ≡ digits = omega (arith, reached.1) in
    rw is (sym (bit_len-unique m digits reached.2 reached.3))

pub returns-clause-value : goal.returns-clause-value
returns-clause-value c = from_leading c.args.m c.ranges.m.fits

pub returns-clause-above : goal.returns-clause-above
returns-clause-above c = rw (from_leading c.args.m c.ranges.m.fits) (bit_len-above c.args.m)

pub returns-clause-below : goal.returns-clause-below
returns-clause-below c = rw (from_leading c.args.m c.ranges.m.fits) (bit_len-below c.args.m)
