-- The ending: its bytes spell a whole number of the last interval, followed by ones.
use Rattle.std.proofs.Common.{◌≡◌, ℕ, ◌+◌, ◌-◌, ◌*◌, ◌/◌, ◌%◌, ◌^◌, ◌<◌, ◌≤◌, false, List, [], ◌∷◌}
use Rattle.std.proofs.Common.{◌++◌, length, refl, sym, arith, inl, inr, subst}
use Rattle.std.proofs.lemmas.Bool.{cases_lt, cond-true, cond-false, lt-ltb, le-ltb}
use Rattle.std.proofs.lemmas.Nat.{pow_pos, pow_below, div-add-mod', mod_below}
use Rattle.mq_coder.specs.Decisions.{width}
use Rattle.mq_coder.specs.Code.{Coding, byte_out, set_bits, shift_out}
use Rattle.mq_coder.proofs.Consumed.{ends_ff, Clean, width_low}
use Rattle.mq_coder.proofs.Out.{Shape, Shape.none, Shape.some, Out, out}
use Rattle.mq_coder.proofs.Held.{Held, less_bound, narrowed, moved, out_held, out_small, width_top}

pub shape_clean : (bs : List ℕ) (bound ct : ℕ) → Shape bs bound ct → Clean false bs
shape_clean bs bound ct (none e le) = rw e tt
shape_clean bs bound ct (some pre x e clean low le after) = rw e clean

-- SETBITS gives the last number of the interval whose 15 low bits are ones
pub record Filled (c size filled : ℕ) : Type 0 where
  pub d : ℕ
  pub units : ℕ
  pub is : c + d ≡ filled
  pub fits : d + 1 ≤ size
  pub ones : filled + 1 ≡ units * 2 ^ 15

filled_in : (c size : ℕ) → 2 ^ 15 ≤ size → c / 2 ^ 16 * 2 ^ 16 + 65535 < c + size →
    Filled c size (c / 2 ^ 16 * 2 ^ 16 + 65535)
filled_in c size wide lt =
    let whole : c / 2 ^ 16 * 2 ^ 16 + c % 2 ^ 16 ≡ c = div-add-mod' c (2 ^ 16) in
    let low : c % 2 ^ 16 < 2 ^ 16 = mod_below c (2 ^ 16) (pow_pos 16) in
    record {
      d = 65535 - c % 2 ^ 16;
      units = 2 * (c / 2 ^ 16) + 2;
      is = omega arith;
      fits =
          omega arith;
      ones = omega arith;
    }

filled_less : (c size : ℕ) → 2 ^ 15 ≤ size → c + size ≤ c / 2 ^ 16 * 2 ^ 16 + 65535 →
    Filled c size (c / 2 ^ 16 * 2 ^ 16 + 65535 - 2 ^ 15)
filled_less c size wide le =
    let whole : c / 2 ^ 16 * 2 ^ 16 + c % 2 ^ 16 ≡ c = div-add-mod' c (2 ^ 16) in
    let low : c % 2 ^ 16 < 2 ^ 16 = mod_below c (2 ^ 16) (pow_pos 16) in
    record {
      d = 32767 - c % 2 ^ 16;
      units = 2 * (c / 2 ^ 16) + 1;
      is = omega arith;
      fits =
          omega arith;
      ones = omega arith;
    }

pub bits_set : (x : Coding) → 2 ^ 15 ≤ x.a → Filled x.c x.a (set_bits x).c
unfolding set_bits
bits_set x wide =
    elim (cases_lt (x.c / 2 ^ 16 * 2 ^ 16 + 65535) (x.c + x.a)) [
      | inl lt ↦ subst (λ v. Filled x.c x.a v) (sym (cond-true _ _ _ (lt-ltb _ _ lt)))
          (filled_in x.c x.a wide lt)
      | inr ge ↦ subst (λ v. Filled x.c x.a v) (sym (cond-false _ _ _ (le-ltb _ _ ge)))
          (filled_less x.c x.a wide ge)
    ]

pub set_bytes : (x : Coding) → (set_bits x).bytes ≡ x.bytes
unfolding set_bits
set_bytes x = refl

pub set_ct : (x : Coding) → (set_bits x).ct ≡ x.ct
unfolding set_bits
set_ct x = refl

abbrev shifted : Coding → Coding
shifted x = record x { c = x.c * 2 ^ x.ct; ct = 0 }

shift_out_is : (x : Coding) → shift_out x ≡ byte_out (shifted x)
unfolding shift_out
shift_out_is x = refl

-- y is x after a shift and BYTEOUT of the ending
pub record Shifted (from to p : ℕ) (x : Coding) (low s : ℕ) (y : Coding) : Type 0 where
  pub held : Held from to p y.bytes y.c y.ct (low * 2 ^ x.ct) 1 (s + x.ct)
  pub small : y.c * 2 ^ y.ct < 2 ^ 27
  pub seven : 7 ≤ y.ct
  pub eight : y.ct ≤ 8
  pub base : List ℕ
  pub byte : ℕ
  pub bytes_are : y.bytes ≡ base ++ byte ∷ []
  pub clean_all : Clean false (base ++ byte ∷ [])
  pub length_is : length base ≡ length x.bytes

shifted_held : (from to p : ℕ) (x : Coding) (low s : ℕ) → Held from to p x.bytes x.c x.ct low 1 s →
    Held from to p (shifted x).bytes (shifted x).c 0 (low * 2 ^ x.ct) (1 * 2 ^ x.ct) (s + x.ct)
shifted_held from to p x low s h =
    let few : x.ct ≤ 12 = h.few in
    let lt : 2 ^ x.ct < 2 ^ 13 = pow_below x.ct 13 (omega arith) in
    moved from to p x.bytes x.c x.ct low 1 s x.ct 0 h (omega arith) (omega arith)

pub shift_out_held : (from to p : ℕ) (x : Coding) (low s : ℕ) →
    Held from to p x.bytes x.c x.ct low 1 s → Shifted from to p x low s (shift_out x)
shift_out_held from to p x low s h =
    let held : Held from to p (shifted x).bytes (shifted x).c 0 (low * 2 ^ x.ct) (1 * 2 ^ x.ct)
    (s + x.ct) = shifted_held from to p x low s h in
    let o : Out (shifted x) (1 * 2 ^ x.ct) (byte_out (shifted x)) =
    out (shifted x) (1 * 2 ^ x.ct)
    (less_bound x.bytes ((x.c * 2 ^ x.ct + 1 * 2 ^ x.ct) * 2 ^ 0)
    (x.c * 2 ^ x.ct + 1 * 2 ^ x.ct) 0 0 held.shape (omega arith) (omega arith))
    held.pos held.top in
    let y : Coding = byte_out (shifted x) in
    let after : Held from to p (byte_out (shifted x)).bytes (byte_out (shifted x)).c
    (byte_out (shifted x)).ct (low * 2 ^ x.ct) (1 * 2 ^ x.ct) (s + x.ct) =
    out_held from to p (shifted x) (byte_out (shifted x)) (low * 2 ^ x.ct) (1 * 2 ^ x.ct)
    (s + x.ct) held o in
    let pos : 0 < 2 ^ x.ct = pow_pos x.ct in
    let one : Held from to p (byte_out (shifted x)).bytes ((byte_out (shifted x)).c + 0)
    (byte_out (shifted x)).ct (low * 2 ^ x.ct + 0) 1 (s + x.ct) =
    narrowed from to p (byte_out (shifted x)).bytes (byte_out (shifted x)).c
    (byte_out (shifted x)).ct (low * 2 ^ x.ct) (1 * 2 ^ x.ct) (s + x.ct) 0 1 after (omega arith)
    (omega arith) in
    let e1 : (byte_out (shifted x)).c + 0 ≡ (byte_out (shifted x)).c = omega arith in
    let e2 : low * 2 ^ x.ct + 0 ≡ low * 2 ^ x.ct = omega arith in
    let wide : 7 ≤ width (ends_ff false o.base) = width_low (ends_ff false o.base) in
    let is : width (ends_ff false o.base) ≡ (byte_out (shifted x)).ct = o.width_is in
    rw (shift_out_is x) record {
      held = rw e1 at (rw e2 at one);
      small = out_small (shifted x) (byte_out (shifted x)) (1 * 2 ^ x.ct) o;
      seven = omega arith;
      eight = width_top (ends_ff false o.base) _ o.width_is;
      base = o.base;
      byte = o.byte;
      bytes_are = o.bytes_are;
      clean_all = o.clean_all;
      length_is = o.length_is;
    }
