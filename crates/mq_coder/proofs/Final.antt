-- The ended code lies in every interval that its symbols left.
use Rattle.std.proofs.Common.{◌≡◌, ℕ, ◌+◌, ◌-◌, ◌*◌, ◌^◌, ◌<◌, ◌≤◌, Bool, false, ◌⊎◌, List, [], ◌∷◌}
use Rattle.std.proofs.Common.{◌++◌, take, refl, sym, ap, ◌∙◌, arith, inl, inr, subst}
use Rattle.std.proofs.lemmas.Bool.{cases_lt, cases_eq, cond-true, cond-false, eq-eqb, ne_eqb}
use Rattle.std.proofs.lemmas.Nat.{pow_pos, pow-add}
use Rattle.std.proofs.Math.Nat.{le_of_mul-le-mul_right, le_antisymm}
use Rattle.std.proofs.Math.Seq.{take-append_seam}
use Rattle.mq_coder.specs.Decisions.{look, digits, Interval}
use Rattle.mq_coder.specs.Code.{Coding, byte_out, set_bits, shift_out, drop_ff, flush}
use Rattle.mq_coder.proofs.Arithmetic.{split_pow, last_units, above_ones, below_top}
use Rattle.mq_coder.proofs.Look.{look_more}
use Rattle.mq_coder.proofs.Consumed.{taken, bits, Clean, look_full}
use Rattle.mq_coder.proofs.Out.{Shape, Shape.none, Shape.some, last_place, last_snoc}
use Rattle.mq_coder.proofs.Held.{Held, digits_look, narrowed}
use Rattle.mq_coder.proofs.Stands.{Ready}
use Rattle.mq_coder.proofs.Ends.{look_ff}
use Rattle.mq_coder.proofs.FlushShifts.{shape_clean, Filled, bits_set, set_bytes, set_ct, Shifted}
use Rattle.mq_coder.proofs.FlushShifts.{shift_out_held}

same_factor : (a b k : ℕ) → 0 < k → a * k ≡ b * k → a ≡ b
same_factor a b k pos e =
    le_antisymm (le_of_mul-le-mul_right (let h : a * k ≤ b * k = omega arith in h) pos)
    (le_of_mul-le-mul_right (let h : b * k ≤ a * k = omega arith in h) pos)

-- the number of the ending is, but for its ones, a whole number of units of 2 ^ 15
whole_units : (low t c d filled units ct m : ℕ) → low * 2 ^ ct ≡ t * 2 ^ 27 + c * 2 ^ ct →
    c + d ≡ filled → filled + 1 ≡ units * 2 ^ 15 → m + ct ≡ 12 →
    low + d + 1 ≡ (t * 2 ^ m + units) * 2 ^ 15
whole_units low t c d filled units ct m e1 e2 e3 e4 =
    let s1 : 2 ^ 27 ≡ 2 ^ (m + 15) * 2 ^ ct = split_pow (m + 15) ct 27 (omega arith) in
    let s2 : 2 ^ (m + 15) ≡ 2 ^ m * 2 ^ 15 = pow-add 2 m 15 in
    let s3 : t * 2 ^ 27 ≡ t * (2 ^ (m + 15) * 2 ^ ct) = ap (λ x. t * x) s1 in
    let s4 : low ≡ t * 2 ^ (m + 15) + c =
    same_factor low (t * 2 ^ (m + 15) + c) (2 ^ ct) (pow_pos ct) (omega arith) in
    let s5 : t * 2 ^ (m + 15) ≡ t * (2 ^ m * 2 ^ 15) = ap (λ x. t * x) s2 in
    omega arith

units_of : (f u g k : ℕ) → f + 1 ≡ u * 2 ^ 15 → k + g ≡ 15 → f + 1 ≡ u * 2 ^ k * 2 ^ g
units_of f u g k e h =
    let s1 : 2 ^ 15 ≡ 2 ^ k * 2 ^ g = split_pow k g 15 h in
    let s2 : u * 2 ^ 15 ≡ u * (2 ^ k * 2 ^ g) = ap (λ x. u * x) s1 in
    omega arith

-- the number over the bytes of the ending
number : (f a b c n rest u g k : ℕ) → f * 2 ^ a * 2 ^ b * 2 ^ c ≡ n * 2 ^ 27 + rest →
    rest < 2 ^ 27 → a + b + c + g ≡ 27 → f + 1 ≡ u * 2 ^ 15 → k + g ≡ 15 → f + 1 ≡ (n + 1) * 2 ^ g
number f a b c n rest u g k e small sum units h =
    let s1 : 2 ^ (a + b + c) ≡ 2 ^ (a + b) * 2 ^ c = pow-add 2 (a + b) c in
    let s2 : 2 ^ (a + b) ≡ 2 ^ a * 2 ^ b = pow-add 2 a b in
    let s3 : 2 ^ (a + b + c) ≡ 2 ^ a * 2 ^ b * 2 ^ c = s1 ∙ ap (λ x. x * 2 ^ c) s2 in
    let s4 : f * 2 ^ (a + b + c) ≡ f * (2 ^ a * 2 ^ b * 2 ^ c) = ap (λ x. f * x) s3 in
    last_units f (2 ^ (a + b + c)) n rest (u * 2 ^ k) (2 ^ g) (pow_pos (a + b + c)) (pow_pos g)
    (omega arith) small
    (sym (split_pow (a + b + c) g 27 sum)) (units_of f u g k units h)

-- CT is 12 only before the first doubling, and then the ending is FF 7F
first_ct : (a c ct : ℕ) (bytes : List ℕ) (contexts : List (ℕ × Bool)) → bytes ≡ [] → c ≡ 0 →
    ct ≡ 12 → a ≡ 2 ^ 15 → (shift_out
    (shift_out (set_bits (record {
      a = a;
      c = c;
      ct = ct;
      bytes = bytes;
      contexts =
          contexts;
    })))).ct ≡ 7
unfolding shift_out set_bits byte_out
first_ct a c ct bytes contexts e1 e2 e3 e4 = rw (e1, e2, e3, e4) refl

few_turns : (x : Coding) (it : Interval) (from to p : ℕ) → Ready from to p x it →
    x.ct ≤ 11 ⊎ ((shift_out (shift_out (set_bits x))).ct ≡ 7)
few_turns x it from to p h =
    let few : x.ct ≤ 12 = h.stands.held.few in
    elim (cases_lt x.ct 12) [
      | inl lt ↦ inl (omega arith)
      | inr ge ↦ inr (first x it h.wide h.stands.a_is (omega arith) h.stands.held.shape)
    ]
  where
    first : (x : Coding) (it : Interval) → 2 ^ 15 ≤ it.size → x.a ≡ it.size → x.ct ≡ 12 →
        Shape x.bytes ((x.c + it.size) * 2 ^ x.ct) x.ct →
        (shift_out (shift_out (set_bits x))).ct ≡ 7
    first x it wide a_is is (none e le) =
        let le' : (x.c + it.size) * 2 ^ 12 ≤ 2 ^ 27 = rw is at le in
        first_ct x.a x.c x.ct x.bytes x.contexts e (omega arith) is (omega arith)
    first x it wide a_is is (some pre l e clean low le after) = absurd (omega arith)

-- what the two bytes of the ending make
pub record Spelt (from p : ℕ) (bytes : List ℕ) (low size s : ℕ) : Type 0 where
  pub number : ℕ
  pub ones : ℕ
  pub bits_are : bits false bytes + ones ≡ s + 15
  pub units : number + 1 ≡ (taken 0 false bytes + 1) * 2 ^ ones
  pub clean : Clean false bytes
  pub above : from * 2 ^ s ≤ number * 2 ^ p
  pub inside : number < low + size
  pub reached : p + 15 ≤ bits false bytes → from ≤ digits bytes p

set_held : (from to p : ℕ) (x : Coding) (it : Interval) → Ready from to p x it →
    (f : Filled x.c x.a (set_bits x).c) →
    Held from to p (set_bits x).bytes (set_bits x).c (set_bits x).ct (it.low + f.d) 1 it.scale
set_held from to p x it h f =
    let a_is : x.a ≡ it.size = h.stands.a_is in
    let fits : f.d + 1 ≤ x.a = f.fits in
    rw (set_bytes x, set_ct x, ← f.is)
    (narrowed from to p x.bytes x.c x.ct it.low it.size it.scale f.d 1 h.stands.held
    (omega arith) (omega arith))

-- over plain numbers: a, b and c are the three values of CT
spell : (from to p : ℕ) (bs raw : List ℕ) (held_c rest low size s d filled units a b c : ℕ) →
    Held from to p bs held_c a low size s → held_c + d ≡ filled → d + 1 ≤ size →
    filled + 1 ≡ units * 2 ^ 15 →
    Held from to p raw rest c ((low + d) * 2 ^ a * 2 ^ b) 1 (s + a + b) → rest * 2 ^ c < 2 ^ 27 →
    a + b + c ≤ 27 → 14 ≤ b + c → Spelt from p raw low size s
spell from to p bs raw held_c rest low size s d filled units a b c h is fits whole last small most least =
    let few : a ≤ 12 = h.few in
    let g : ℕ = 27 - (a + b + c) in
    let k : ℕ = a + b + c - 12 in
    let low_is : low * 2 ^ a ≡ taken 0 false bs * 2 ^ 27 + held_c * 2 ^ a = h.low_is in
    let last_is : (low + d) * 2 ^ a * 2 ^ b * 2 ^ c ≡ taken 0 false raw * 2 ^ 27 + rest * 2 ^ c =
    last.low_is in
    let last_bits : s + a + b + c ≡ bits false raw + 12 = last.bits_are in
    let above : from * 2 ^ s ≤ low * 2 ^ p = h.above in
    let units' : low + d + 1 ≡ (taken 0 false bs * 2 ^ (12 - a) + units) * 2 ^ 15 =
    whole_units low (taken 0 false bs) held_c d filled units a (12 - a) low_is is whole
    (omega arith) in
    record {
      number = low + d;
      ones = 27 - (a + b + c);
      bits_are = omega arith;
      units = number (low + d) a b c (taken 0 false raw) (rest * 2 ^ c)
          (taken 0 false bs * 2 ^ (12 - a) + units) (27 - (a + b + c))
          (a + b + c - 12) last_is small (omega arith) units' (omega arith);
      clean = shape_clean raw _ _ last.shape;
      above = omega arith;
      inside = omega arith;
      reached = last.reached;
    }

turns_fit : (a b c : ℕ) → a ≤ 12 → b ≤ 8 → c ≤ 8 → a ≤ 11 ⊎ (c ≡ 7) → a + b + c ≤ 27
turns_fit a b c h1 h2 h3 (inl h) = omega arith
turns_fit a b c h1 h2 h3 (inr h) = omega arith

-- the two shifts of an ending
pub record Shifts (from to p : ℕ) (x : Coding) (low s : ℕ) : Type 0 where
  pub f : Filled x.c x.a (set_bits x).c
  pub one : Shifted from to p (set_bits x) (low + f.d) s (shift_out (set_bits x))
  pub two : Shifted from to p (shift_out (set_bits x)) ((low + f.d) * 2 ^ (set_bits x).ct)
      (s + (set_bits x).ct) (shift_out (shift_out (set_bits x)))

pub shifts : (from to p : ℕ) (x : Coding) (it : Interval) → Ready from to p x it →
    Shifts from to p x it.low it.scale
shifts from to p x it h =
    let a_is : x.a ≡ it.size = h.stands.a_is in
    let f : Filled x.c x.a (set_bits x).c =
    bits_set x (let w : 2 ^ 15 ≤ x.a = rw a_is h.wide in w) in
    let one : Shifted from to p (set_bits x) (it.low + f.d) it.scale (shift_out (set_bits x)) =
    shift_out_held from to p (set_bits x) (it.low + f.d) it.scale (set_held from to p x it h f) in
    record {
      f = f;
      one = one;
      two = shift_out_held from to p (shift_out (set_bits x)) ((it.low + f.d) * 2 ^ (set_bits x).ct)
          (it.scale + (set_bits x).ct) one.held;
    }

spelt : (from to p : ℕ) (x : Coding) (it : Interval) → Ready from to p x it →
    Spelt from p (shift_out (shift_out (set_bits x))).bytes it.low it.size it.scale
spelt from to p x it h =
    let a_is : x.a ≡ it.size = h.stands.a_is in
    let few : x.ct ≤ 12 = h.stands.held.few in
    let t : Shifts from to p x it.low it.scale = shifts from to p x it h in
    let fits : t.f.d + 1 ≤ x.a = t.f.fits in
    let last : Held from to p (shift_out (shift_out (set_bits x))).bytes
    (shift_out (shift_out (set_bits x))).c (shift_out (shift_out (set_bits x))).ct
    ((it.low + t.f.d) * 2 ^ x.ct * 2 ^ (shift_out (set_bits x)).ct) 1
    (it.scale + x.ct + (shift_out (set_bits x)).ct) =
    subst (λ v. Held from to p (shift_out (shift_out (set_bits x))).bytes
    (shift_out (shift_out (set_bits x))).c (shift_out (shift_out (set_bits x))).ct
    ((it.low + t.f.d) * 2 ^ v * 2 ^ (shift_out (set_bits x)).ct) 1
    (it.scale + v + (shift_out (set_bits x)).ct)) (set_ct x) t.two.held in
    let seven : 7 ≤ (shift_out (set_bits x)).ct = t.one.seven in
    let seven' : 7 ≤ (shift_out (shift_out (set_bits x))).ct = t.two.seven in
    spell from to p x.bytes (shift_out (shift_out (set_bits x))).bytes x.c
    (shift_out (shift_out (set_bits x))).c it.low it.size it.scale t.f.d
    (set_bits x).c t.f.units x.ct (shift_out (set_bits x)).ct
    (shift_out (shift_out (set_bits x))).ct
    h.stands.held t.f.is (omega arith) t.f.ones last t.two.small
    (turns_fit x.ct (shift_out (set_bits x)).ct
    (shift_out (shift_out (set_bits x))).ct few t.one.eight t.two.eight
    (few_turns x it from to p h))
    (omega arith)

-- at a bound's scale the digits are those of the number's prefix, in which the bound lies
spelt_above : (from p : ℕ) (bytes : List ℕ) (low size s : ℕ) → Spelt from p bytes low size s →
    from ≤ digits bytes p
spelt_above from p bytes low size s h =
    elim (cases_lt (bits false bytes) (p + 15)) [
      | inr enough ↦ h.reached enough
      | inl few ↦
          let k : ℕ = p + 15 - bits false bytes in
          let bits_are : bits false bytes + h.ones ≡ s + 15 = h.bits_are in
          let e : digits bytes p ≡ (taken 0 false bytes + 1) * 2 ^ (p + 15 - bits false bytes) - 1 =
          digits_look bytes p ∙ look_full 0 false bytes (p + 15) (p + 15 - bits false bytes) h.clean
          (omega arith) (omega arith) in
          let s1 : 2 ^ (p + 15 - bits false bytes + s) ≡ 2 ^ (p + 15 - bits false bytes) * 2 ^ s =
          pow-add 2 (p + 15 - bits false bytes) s in
          let s2 : 2 ^ (p + h.ones) ≡ 2 ^ p * 2 ^ h.ones = pow-add 2 p h.ones in
          let s3 : p + 15 - bits false bytes + s ≡ p + h.ones = omega arith in
          let s4 : 2 ^ (p + 15 - bits false bytes) * 2 ^ s ≡ 2 ^ p * 2 ^ h.ones = sym s1
          ∙ ap (λ x. 2 ^ x) s3 ∙ s2 in
          let m : from + 1 ≤ (taken 0 false bytes + 1) * 2 ^ (p + 15 - bits false bytes) =
          above_ones from (2 ^ s) h.number (2 ^ p) (taken 0 false bytes) (2 ^ h.ones)
          (2 ^ (p + 15 - bits false bytes)) (pow_pos p) h.above h.units s4 in
          rw e (omega arith)
    ]

spelt_number : (from p : ℕ) (bytes : List ℕ) (low size s : ℕ) →
    (h : Spelt from p bytes low size s) → digits bytes s ≡ h.number
spelt_number from p bytes low size s h =
    let e : digits bytes s ≡ (taken 0 false bytes + 1) * 2 ^ h.ones - 1 =
    digits_look bytes s ∙ look_full 0 false bytes (s + 15) h.ones h.clean (omega arith)
    (sym h.bits_are) in
    let u : h.number + 1 ≡ (taken 0 false bytes + 1) * 2 ^ h.ones = h.units in
    e ∙ omega arith

spelt_below : (from to p : ℕ) (bytes : List ℕ) (low size s : ℕ) → Spelt from p bytes low size s →
    p ≤ s → (low + size) * 2 ^ p ≤ to * 2 ^ s → digits bytes p < to
spelt_below from to p bytes low size s h later below =
    let m : look 0 false bytes (p + 15) * 2 ^ (s - p) ≤ look 0 false bytes (p + 15 + (s - p)) =
    look_more 0 false bytes (p + 15) (s - p) in
    let e1 : p + 15 + (s - p) ≡ s + 15 = omega arith in
    let e2 : look 0 false bytes (p + 15 + (s - p)) ≡ h.number = ap (λ v. look 0 false bytes v) e1
    ∙ sym (digits_look bytes s) ∙ spelt_number from p bytes low size s h in
    let e3 : 2 ^ s ≡ 2 ^ p * 2 ^ (s - p) = split_pow p (s - p) s (omega arith) in
    let low_part : digits bytes p * 2 ^ (s - p) ≤ h.number =
    rw (digits_look bytes p) (omega arith) in
    below_top (digits bytes p) (2 ^ (s - p)) h.number (low + size) (2 ^ p) to (2 ^ s)
    (pow_pos p) low_part h.inside below e3

-- a last byte FF makes no difference
pub drop_ff_is : (base : List ℕ) → drop_ff (base ++ 255 ∷ []) ≡ base
unfolding drop_ff
drop_ff_is base =
    cond-true _ _ _ (eq-eqb _ _ (last_snoc base 255))
    ∙ ap (λ n. take n (base ++ 255 ∷ [])) (last_place base 255)
    ∙ take-append_seam base (255 ∷ [])

pub drop_ff_not : (base : List ℕ) (x : ℕ) → (x ≡ 255 → ⊥) →
    drop_ff (base ++ x ∷ []) ≡ base ++ x ∷ []
unfolding drop_ff
drop_ff_not base x h = cond-false _ _ _ (ne_eqb _ _ (λ e. h (sym (last_snoc base x) ∙ e)))

drop_ff_look : (base : List ℕ) (x d : ℕ) →
    look 0 false (drop_ff (base ++ x ∷ [])) d ≡ look 0 false (base ++ x ∷ []) d
drop_ff_look base x d =
    elim (cases_eq x 255) [
      | inl e ↦ rw (e, drop_ff_is base) (sym (look_ff 0 false base d))
      | inr ne ↦ ap (λ v. look 0 false v d) (drop_ff_not base x ne)
    ]

pub ended_is : (x : Coding) → flush x ≡ drop_ff (shift_out (shift_out (set_bits x))).bytes
unfolding flush
ended_is x = refl

ended_digits : (from to p : ℕ) (x : Coding) (it : Interval) (s : ℕ) → Ready from to p x it →
    digits (flush x) s ≡ digits (shift_out (shift_out (set_bits x))).bytes s
ended_digits from to p x it s h =
    let t : Shifts from to p x it.low it.scale = shifts from to p x it h in
    rw (ended_is x, digits_look, digits_look, t.two.bytes_are)
    (drop_ff_look t.two.base t.two.byte (s + 15))

-- an ended code lies within the bounds of an earlier interval
pub ended_within : (from to p : ℕ) (x : Coding) (it : Interval) → Ready from to p x it →
    (from ≤ digits (flush x) p) × (digits (flush x) p < to)
ended_within from to p x it h =
    let e : digits (flush x) p ≡ digits (shift_out (shift_out (set_bits x))).bytes p =
    ended_digits from to p x it p h in
    let s : Spelt from p (shift_out (shift_out (set_bits x))).bytes it.low it.size it.scale =
    spelt from to p x it h in
    rw e (spelt_above from p _ it.low it.size it.scale s, spelt_below from to p _ it.low it.size it.scale s h.stands.held.later h.stands.held.below)
