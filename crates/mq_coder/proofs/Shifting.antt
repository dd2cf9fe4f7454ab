-- Turns of RENORME at once.
use Rattle.std.proofs.Common.{ℕ, zero, suc, ◌+◌, ◌-◌, ◌*◌, ◌^◌, ◌<◌, ◌≤◌, ◌≡◌, inl, inr, Bool, List}
use Rattle.std.proofs.Common.{arith, refl, sym, ap, ◌∙◌, add-one}
use Rattle.std.proofs.lemmas.Bool.{cases_eq}
use Rattle.std.proofs.Math.Nat.{pow-succ', mul-le-mul_left}
use Rattle.std.proofs.Math.Pow.{pow_mono}
use Rattle.std.proofs.lemmas.Grind.{common_steps}
use Rattle.mq_coder.specs.Code.{Coding, byte_out, shift, renormalise}
use Rattle.mq_coder.specs.Shifts.{shifts}
use Rattle.mq_coder.proofs.Turns.{renormalise_turn, renormalise_done}

-- turns after turns
pub shifts_add : (m n : ℕ) (x : Coding) → shifts (m + n) x ≡ shifts n (shifts m x)
unfolding shifts
shifts_add zero n x = let e : 0 + n ≡ n = omega arith in rw e refl
shifts_add (suc m) n x = let e : suc m + n ≡ suc (m + n) =
    omega arith in rw e (shifts_add m n (shift x))

shift_within : (x : Coding) → 1 < x.ct →
    shift x ≡ record x { a = 2 * x.a; c = 2 * x.c; ct = x.ct - 1 }
unfolding shift
shift_within x h = grind (arith, common_steps)

pub shift_full : (x : Coding) → x.ct ≡ 1 →
    shift x ≡ byte_out (record x { a = 2 * x.a; c = 2 * x.c; ct = 0 })
unfolding shift
shift_full x h = grind (arith, common_steps)

abbrev pub moved : ℕ → Coding → Coding
moved n x = record x { a = x.a * 2 ^ n; c = x.c * 2 ^ n; ct = x.ct - n }

pub same_coding : (a b c d e f : ℕ) (bytes : List ℕ) (contexts : List (ℕ × Bool)) → a ≡ b → c ≡ d →
    e ≡ f
    → (let x : Coding = record { a = a; c = c; ct = e; bytes = bytes; contexts = contexts } in x)
    ≡ record { a = b; c = d; ct = f; bytes = bytes; contexts = contexts }
same_coding a b c d e f bytes contexts p q r = cc

-- turns with no byte
pub shifts_within : (n : ℕ) (x : Coding) → n < x.ct → shifts n x ≡ moved n x
unfolding shifts
shifts_within zero x h = same_coding _ _ _ _ _ _ x.bytes x.contexts (omega arith) (omega arith)
    (omega arith)
shifts_within (suc n) x h =
    ap (shifts n) (shift_within x (omega arith))
    ∙ (shifts_within n (record x { a = 2 * x.a; c = 2 * x.c; ct = x.ct - 1 }) (omega arith)
    ∙ same_coding _ _ _ _ _ _ x.bytes x.contexts (rw (pow-succ' 2 n) (omega arith))
    (rw (pow-succ' 2 n) (omega arith)) (omega arith))

-- turns up to the next byte
pub shifts_full : (x : Coding) → 1 ≤ x.ct
    → shifts x.ct x ≡ byte_out (record x { a = x.a * 2 ^ x.ct; c = x.c * 2 ^ x.ct; ct = 0 })
unfolding shifts
shifts_full x h =
    let k : ℕ = x.ct - 1 in
    let e : k + 1 ≡ x.ct = omega arith in
    let whole : shifts x.ct x ≡ shift (shifts k x) =
    ap (λ (n : ℕ). shifts n x) (sym e) ∙ shifts_add k 1 x in
    let at : shifts k x ≡ moved k x = shifts_within k x (omega arith) in
    let p : 2 ^ x.ct ≡ 2 * 2 ^ k = ap (λ (n : ℕ). 2 ^ n) (sym e ∙ add-one k) ∙ pow-succ' 2 k in
    whole ∙ (ap shift at ∙ (shift_full (moved k x) (omega arith)
    ∙ ap byte_out (same_coding _ _ _ _ _ _ x.bytes x.contexts (rw p (omega arith))
    (rw p (omega arith)) refl)))

byte_out_width : (x : Coding) → (byte_out x).a ≡ x.a
unfolding byte_out
byte_out_width x = grind (arith, common_steps)

pub shift_none : (x : Coding) → (x.ct ≡ 1 → ⊥) →
    shift x ≡ record x { a = 2 * x.a; c = 2 * x.c; ct = x.ct - 1 }
unfolding shift
shift_none x h = grind (arith, common_steps)

shift_width : (x : Coding) → (shift x).a ≡ 2 * x.a
shift_width x = elim (cases_eq x.ct 1) [
  | inl one ↦ ap (λ (y : Coding). y.a) (shift_full x one)
      ∙ byte_out_width (record x { a = 2 * x.a; c = 2 * x.c; ct = 0 })
  | inr other ↦ ap (λ (y : Coding). y.a) (shift_none x other)
]

-- as many turns as A needs
pub renormalise_shifts : (m n : ℕ) (x : Coding) → n ≤ m → 2 ^ 15 ≤ x.a * 2 ^ n →
    x.a * 2 ^ n < 2 ^ 16
    → renormalise m x ≡ shifts n x
unfolding shifts
renormalise_shifts m zero x few wide narrow = renormalise_done m x (omega arith)
renormalise_shifts zero (suc n) x few wide narrow = absurd (omega arith)
renormalise_shifts (suc m) (suc n) x few wide narrow =
    let twice : x.a * 2 ^ suc n ≡ 2 * x.a * 2 ^ n = rw (pow-succ' 2 n) (omega arith) in
    let pos : 1 ≤ 2 ^ n = pow_mono {i = 0} (omega arith) in
    let some : x.a * 1 ≤ x.a * 2 ^ n = mul-le-mul_left x.a pos in
    let width = shift_width x in
    let e : (shift x).a * 2 ^ n ≡ x.a * 2 ^ suc n = rw width (sym twice) in
    renormalise_turn m x (omega arith)
    ∙ renormalise_shifts m n (shift x) (omega arith) (omega arith) (omega arith)
