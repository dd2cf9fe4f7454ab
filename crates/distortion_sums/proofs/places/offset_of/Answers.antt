use Rattle.std.proofs.Common.{ℕ, ◌+◌, ◌-◌, ◌*◌, ◌/◌, ◌%◌, ◌^◌, ◌<◌, ◌≤◌, ◌≡◌, ◌≢◌, Bool, true, false, nat_eq, bit_and}
use Rattle.std.proofs.Common.{sym, ap, ◌∙◌, subst, arith}
use Rattle.std.specs.Prelude.{if◌then◌else◌}
use Rattle.std.proofs.lemmas.Bool.{ne_eqb}
use Rattle.std.proofs.lemmas.Nat.{and_mask, mod_below, pow_pos}
use Rattle.std.proofs.lemmas.Nat.Bits.{shr_and_one}
use Rattle.std.proofs.Math.Nat.{mod-eq_of_lt}
use Rattle.std.proofs.Math.Pow.{pow-lt}
use Rattle.ebcot_contexts.specs.Cells.{bit_of}
use Rattle.distortion_sums.specs.Places.{offset}
use Rattle.distortion_sums.proofs.places.offset_of.Goals as goal

unit_few : (p : ℕ) → p < 20 → 2 ^ p < 2 ^ 20
unit_few p few = pow-lt few

unit_is : (p : ℕ) → p < 20 → 1 * 2 ^ p % 4294967296 ≡ 2 ^ p
unit_is p few =
    let l : 2 ^ p < 1048576 = unit_few p few in
    let e : 1 * 2 ^ p ≡ 2 ^ p = omega arith in
    ap (λ (v : ℕ). v % 4294967296) e ∙ mod-eq_of_lt (omega arith)

low_is : (m p : ℕ) → p < 20 → bit_and m (1 * 2 ^ p % 4294967296 - 1) ≡ m % 2 ^ p
low_is m p few = ap (λ (u : ℕ). bit_and m (u - 1)) (unit_is p few) ∙ and_mask m p

offset_one : (m p : ℕ) (b : Bool) → bit_of m p ≡ b →
    offset p m ≡ (if b then m % 2 ^ p else 2 ^ p - 1 - m % 2 ^ p)
offset_one m p b e = ap (λ (v : Bool). if v then m % 2 ^ p else 2 ^ p - 1 - m % 2 ^ p) e

low_few : (m p : ℕ) → p < 20 → m % 2 ^ p < 1048576
low_few m p few =
    let a : m % 2 ^ p < 2 ^ p = mod_below m (2 ^ p) (pow_pos p) in
    let b : 2 ^ p < 1048576 = unit_few p few in
    omega arith

bit_one : (m p : ℕ) → bit_and (m / 2 ^ p) 1 ≡ 1 → bit_of m p ≡ true
bit_one m p e = ap (λ (v : ℕ). nat_eq v 1) (sym (shr_and_one m p) ∙ e)

bit_zero : (m p : ℕ) → bit_and (m / 2 ^ p) 1 ≢ 1 → bit_of m p ≡ false
bit_zero m p e = ap (λ (v : ℕ). nat_eq v 1) (sym (shr_and_one m p)) ∙ ne_eqb _ 1 e

pub returns-then-magnitude-plane-eq1-clause-value :
    goal.returns-then-magnitude-plane-eq1-clause-value
returns-then-magnitude-plane-eq1-clause-value c =
    low_is c.args.magnitude c.args.plane c.requires.plane
    ∙ sym (offset_one c.args.magnitude c.args.plane true
    (bit_one c.args.magnitude c.args.plane c.if-magnitude-plane-eq1.true))

pub returns-then-magnitude-plane-eq1-clause-small :
    goal.returns-then-magnitude-plane-eq1-clause-small
returns-then-magnitude-plane-eq1-clause-small c =
    subst (λ (v : ℕ). v < 1048576) (sym (low_is c.args.magnitude c.args.plane c.requires.plane))
    (low_few c.args.magnitude c.args.plane c.requires.plane)

pub returns-else-magnitude-plane-eq1-clause-value :
    goal.returns-else-magnitude-plane-eq1-clause-value
returns-else-magnitude-plane-eq1-clause-value c =
    (λ i. unit_is c.args.plane c.requires.plane i - 1
    - low_is c.args.magnitude c.args.plane c.requires.plane i)
    ∙ sym (offset_one c.args.magnitude c.args.plane false
    (bit_zero c.args.magnitude c.args.plane c.if-magnitude-plane-eq1.false))

pub returns-else-magnitude-plane-eq1-clause-small :
    goal.returns-else-magnitude-plane-eq1-clause-small
returns-else-magnitude-plane-eq1-clause-small c =
    let e : 1 * 2 ^ c.args.plane % 4294967296 ≡ 2 ^ c.args.plane =
    unit_is c.args.plane c.requires.plane in
    let l : 2 ^ c.args.plane < 1048576 = unit_few c.args.plane c.requires.plane in
    omega arith
