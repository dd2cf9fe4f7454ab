-- A significance context is one of the 19 contexts of the coder.
use Rattle.std.proofs.Common.{ℕ, ◌+◌, ◌≤◌, ◌<◌, ◌≡◌, Bool, true, false, leb, refl, arith}
use Rattle.std.specs.Prelude.{if◌then◌else◌, nat_le, ◌==◌}
use Rattle.std.specs.Int.{bit_at}
use Rattle.std.proofs.lemmas.Bool.{leb-false}
use Rattle.cine_nums.specs.declared.orient.Orient.{Orient}
use Rattle.cine_nums.specs.declared.orient.Orient.TheVariants.{LL, HL, LH, HH}
use Rattle.ebcot_contexts.specs.Contexts.{lh_context, hh_context, significance_context}
use Rattle.flag_words.specs.Lookups.{neighbour_context}

lh_if : (a b c e f g t : Bool) (d : ℕ) → (t ≡ false → d ≤ 8)
    → (if a then 8 else if b then
    (if c then 7 else if e then 6 else 5) else if f then 4 else if g then 3 else if t then 2 else d) ≤ 8
lh_if true b c e f g t d h = omega arith
lh_if false true true e f g t d h = omega arith
lh_if false true false true f g t d h = omega arith
lh_if false true false false f g t d h = omega arith
lh_if false false c e true g t d h = omega arith
lh_if false false c e false true t d h = omega arith
lh_if false false c e false false true d h = omega arith
lh_if false false c e false false false d h = h refl

below_two : (d : ℕ) → leb 2 d ≡ false → d ≤ 8
below_two d e = let l : d < 2 = leb-false 2 d e in omega arith

lh_few : (h v d : ℕ) → lh_context h v d ≤ 8
unfolding lh_context
lh_few h v d = lh_if (h == 2) (h == 1) (nat_le 1 v) (nat_le 1 d) (v == 2) (v == 1) (nat_le 2 d) d
    (below_two d)

hh_if : (a b c e f t : Bool) (s : ℕ) → (f ≡ false → s ≤ 8) → (t ≡ false → s ≤ 8)
    → (if a then 8 else if b then (if c then 7 else 6) else if e then
    (if f then 5 else 3 + s) else if t then 2 else s) ≤ 8 + 3
hh_if true b c e f t s h k = omega arith
hh_if false true true e f t s h k = omega arith
hh_if false true false e f t s h k = omega arith
hh_if false false c true true t s h k = omega arith
hh_if false false c true false t s h k = let l : s ≤ 8 = h refl in omega arith
hh_if false false c false f true s h k = omega arith
hh_if false false c false f false s h k = let l : s ≤ 8 = k refl in omega arith

hh_few : (hv d : ℕ) → hh_context hv d ≤ 11
unfolding hh_context
hh_few hv d = hh_if (nat_le 3 d) (d == 2) (nat_le 1 hv) (d == 1) (nat_le 2 hv) (nat_le 2 hv) hv
    (below_two hv) (below_two hv)

few_of : (o : Orient) (h v d : ℕ) → significance_context o h v d ≤ 11
few_of LL h v d = let l : lh_context h v d ≤ 8 = lh_few h v d in omega arith
few_of LH h v d = let l : lh_context h v d ≤ 8 = lh_few h v d in omega arith
few_of HL h v d = let l : lh_context v h d ≤ 8 = lh_few v h d in omega arith
few_of HH h v d = hh_few (h + v) d

-- so it is one of the coder's contexts
pub neighbour_few : (o : Orient) (k : ℕ) → neighbour_context o k < 19
unfolding neighbour_context
neighbour_few o k =
    let l : significance_context o (bit_at k 3 + bit_at k 5) (bit_at k 1 + bit_at k 7)
    (bit_at k 0 + bit_at k 2 + (bit_at k 6 + bit_at k 8)) ≤ 11 =
    few_of o (bit_at k 3 + bit_at k 5) (bit_at k 1 + bit_at k 7)
    (bit_at k 0 + bit_at k 2 + (bit_at k 6 + bit_at k 8)) in
    omega arith
