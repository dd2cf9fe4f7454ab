-- What an encoder keeps true: its bytes and registers hold the low end of the interval, and once
-- the bytes give the digits asked for at a scale, they have reached an earlier low end there.
use Rattle.std.proofs.Common.{◌≡◌, ℕ, suc, ◌+◌, ◌-◌, ◌*◌, ◌/◌, ◌^◌, ◌<◌, ◌≤◌, Bool, true, false}
use Rattle.std.proofs.Common.{List, [], ◌∷◌, ◌++◌, refl, sym, ap, ◌∙◌, arith, inl, inr}
use Rattle.std.proofs.lemmas.Bool.{cases_lt}
use Rattle.std.proofs.lemmas.Nat.{pow_pos, pow-add}
use Rattle.std.proofs.Math.Nat.{mul-le-mul_right}
use Rattle.mq_coder.specs.Decisions.{look, digits, width}
use Rattle.mq_coder.specs.Code.{Coding}
use Rattle.mq_coder.proofs.Arithmetic.{split_pow, reach}
use Rattle.mq_coder.proofs.Consumed.{taken, bits, ends_ff, Clean, taken_snoc, bits_snoc, look_front}
use Rattle.mq_coder.proofs.Consumed.{look_last}
use Rattle.mq_coder.proofs.Out.{Shape, Shape.none, Shape.some, Out}

pub digits_look : (bs : List ℕ) (p : ℕ) → digits bs p ≡ look 0 false bs (p + 15)
unfolding digits
digits_look bs p = refl

-- bs, c and ct hold the interval from low on, of the given size, after s doublings; from and to are
-- bounds of an earlier interval, after p doublings
pub record Held (from to p : ℕ) (bs : List ℕ) (c ct low size s : ℕ) : Type 0 where
  pub pos : 1 ≤ size
  pub top : size < 2 ^ 16
  pub few : ct ≤ 12
  pub bits_are : s + ct ≡ bits false bs + 12
  pub low_is : low * 2 ^ ct ≡ taken 0 false bs * 2 ^ 27 + c * 2 ^ ct
  pub shape : Shape bs ((c + size) * 2 ^ ct) ct
  pub later : p ≤ s
  pub above : from * 2 ^ s ≤ low * 2 ^ p
  pub below : (low + size) * 2 ^ p ≤ to * 2 ^ s
  pub reached : p + 15 ≤ bits false bs → from ≤ digits bs p

pub less_bound : (bs : List ℕ) (bound bound' ct ct' : ℕ) → Shape bs bound ct → bound' ≤ bound →
    ct' ≤ ct → Shape bs bound' ct'
less_bound bs bound bound' ct ct' (none e le) h h' = none e (omega arith)
less_bound bs bound bound' ct ct' (some pre x e clean low le after) h h' =
    some pre x e clean (omega arith) (omega arith)
    (λ f. let i : x * 2 ^ 27 + bound ≤ 144 * 2 ^ 27 = after f in omega arith)

-- a part of the interval
pub narrowed : (from to p : ℕ) (bs : List ℕ) (c ct low size s d size' : ℕ) →
    Held from to p bs c ct low size s → 1 ≤ size' → d + size' ≤ size →
    Held from to p bs (c + d) ct (low + d) size' s
narrowed from to p bs c ct low size s d size' h one fits =
    let top : size < 2 ^ 16 = h.top in
    let low_is : low * 2 ^ ct ≡ taken 0 false bs * 2 ^ 27 + c * 2 ^ ct = h.low_is in
    let above : from * 2 ^ s ≤ low * 2 ^ p = h.above in
    let below : (low + size) * 2 ^ p ≤ to * 2 ^ s = h.below in
    let m1 : (d + size') * 2 ^ ct ≤ size * 2 ^ ct = mul-le-mul_right (2 ^ ct) fits in
    let m2 : (d + size') * 2 ^ p ≤ size * 2 ^ p = mul-le-mul_right (2 ^ p) fits in
    record {
      pos = one;
      top = omega arith;
      few = h.few;
      bits_are = h.bits_are;
      low_is = omega arith;
      shape = less_bound bs ((c + size) * 2 ^ ct) _ ct ct h.shape (omega arith) (omega arith);
      later = h.later;
      above = omega arith;
      below = omega arith;
      reached = h.reached;
    }

moved_low : (low q k t ct c : ℕ) → q ≡ k * t → low * q ≡ ct * 2 ^ 27 + c * q →
    low * k * t ≡ ct * 2 ^ 27 + c * k * t
moved_low low q k t ct c e h =
    let m1 : low * q ≡ low * (k * t) = ap (λ x. low * x) e in
    let m2 : c * q ≡ c * (k * t) = ap (λ x. c * x) e in
    omega arith

moved_bound : (c size q k t : ℕ) → q ≡ k * t → (c * k + size * k) * t ≤ (c + size) * q
moved_bound c size q k t e =
    let m1 : (c + size) * q ≡ (c + size) * (k * t) = ap (λ x. (c + size) * x) e in
    omega arith

moved_above : (from low s k r p : ℕ) → r ≡ s * k → from * s ≤ low * p → from * r ≤ low * k * p
moved_above from low s k r p e h =
    let m1 : from * r ≡ from * (s * k) = ap (λ x. from * x) e in
    let m2 : from * s * k ≤ low * p * k = mul-le-mul_right k h in
    omega arith

-- doubled k times
pub moved : (from to p : ℕ) (bs : List ℕ) (c ct low size s k t : ℕ) →
    Held from to p bs c ct low size s → ct ≡ k + t → size * 2 ^ k < 2 ^ 16 →
    Held from to p bs (c * 2 ^ k) t (low * 2 ^ k) (size * 2 ^ k) (s + k)
moved from to p bs c ct low size s k t h e lt =
    let q : 2 ^ ct ≡ 2 ^ k * 2 ^ t = split_pow k t ct (sym e) in
    let r : 2 ^ (s + k) ≡ 2 ^ s * 2 ^ k = pow-add 2 s k in
    let pk : 0 < 2 ^ k = pow_pos k in
    let pos : 1 ≤ size = h.pos in
    let few : ct ≤ 12 = h.few in
    let later : p ≤ s = h.later in
    let bits_are : s + ct ≡ bits false bs + 12 = h.bits_are in
    let m1 : 1 * 2 ^ k ≤ size * 2 ^ k = mul-le-mul_right (2 ^ k) pos in
    record {
      pos = omega arith;
      top = lt;
      few = omega arith;
      bits_are = omega arith;
      low_is = moved_low low (2 ^ ct) (2 ^ k) (2 ^ t) (taken 0 false bs) c q h.low_is;
      shape = less_bound bs ((c + size) * 2 ^ ct) _ ct t h.shape
          (moved_bound c size (2 ^ ct) (2 ^ k) (2 ^ t) q) (omega arith);
      later = omega arith;
      above = moved_above from low (2 ^ s) (2 ^ k) (2 ^ (s + k)) (2 ^ p) r h.above;
      below = moved_below low size (2 ^ s) (2 ^ k) (2 ^ (s + k)) (2 ^ p) to r h.below;
      reached = h.reached;
    }
  where
    moved_below : (low size s k r p to : ℕ) → r ≡ s * k → (low + size) * p ≤ to * s →
        (low * k + size * k) * p ≤ to * r
    moved_below low size s k r p to e h =
        let m1 : to * r ≡ to * (s * k) = ap (λ x. to * x) e in
        let m2 : (low + size) * p * k ≤ to * s * k = mul-le-mul_right k h in
        omega arith

-- the low end over a byte put out
out_low : (low t c carry b k w rest u t' j : ℕ) → low * 1 ≡ t * 2 ^ 27 + c * 1 →
    c ≡ carry * 2 ^ 27 + b * k + rest → w * k ≡ 2 ^ 27 → u ≡ t + carry → t' ≡ u * w + b →
    low * w ≡ t' * 2 ^ 27 + rest * w
out_low low t c carry b k w rest u t' j e1 e2 e3 e4 e5 =
    let m1 : low * w ≡ (t * 2 ^ 27 + (carry * 2 ^ 27 + b * k + rest)) * w =
    ap (λ x. x * w) (let e : low ≡ t * 2 ^ 27 + (carry * 2 ^ 27 + b * k + rest) =
    omega arith in e) in
    let m2 : b * (w * k) ≡ b * 2 ^ 27 = ap (λ x. b * x) e3 in
    let m3 : t' ≡ (t + carry) * w + b = e5 ∙ ap (λ x. x * w + b) e4 in
    omega arith

rest_small : (rest k w : ℕ) → 0 < w → rest < k → w * k ≡ 2 ^ 27 → rest * w < 2 ^ 27
rest_small rest k w pos lt e =
    let m : suc rest * w ≤ k * w = mul-le-mul_right w lt in
    omega arith

-- the digits that the new byte completes have reached the bound
out_reached : (from p s ct low r : ℕ) (bs : List ℕ) (rest : ℕ) → from * 2 ^ s ≤ low * 2 ^ p →
    low * 2 ^ ct ≡ taken 0 false bs * 2 ^ 27 + rest * 2 ^ ct → rest * 2 ^ ct < 2 ^ 27 →
    s + ct ≡ p + r + 27 → from ≤ taken 0 false bs / 2 ^ r
out_reached from p s ct low r bs rest above low_is small e =
    let s1 : 2 ^ (s + ct) ≡ 2 ^ s * 2 ^ ct = pow-add 2 s ct in
    let s2 : 2 ^ (p + r + 27) ≡ 2 ^ (p + r) * 2 ^ 27 = pow-add 2 (p + r) 27 in
    let s3 : 2 ^ (p + r) ≡ 2 ^ p * 2 ^ r = pow-add 2 p r in
    let scale : 2 ^ s * 2 ^ ct ≡ 2 ^ p * 2 ^ r * 2 ^ 27 = sym s1 ∙ ap (λ x. 2 ^ x) e ∙ s2
    ∙ ap (λ x. x * 2 ^ 27) s3 in
    reach from (2 ^ s) low (2 ^ p) (2 ^ ct) (taken 0 false bs) (2 ^ r) (pow_pos p) (pow_pos r) above
    (omega arith) scale

-- what BYTEOUT leaves below the last byte is less than one unit of it
pub out_small : (x y : Coding) (size : ℕ) → Out x size y → y.c * 2 ^ y.ct < 2 ^ 27
out_small x y size o =
    let s : 2 ^ 27 ≡ 2 ^ y.ct * 2 ^ o.k = split_pow y.ct o.k 27 o.unit in
    rest_small y.c (2 ^ o.k) (2 ^ y.ct) (pow_pos y.ct) o.small (sym s)

new_digits : (bs base : List ℕ) (byte p r : ℕ) → bs ≡ base ++ byte ∷ [] →
    Clean false (base ++ byte ∷ []) → bits false base < p + 15 → p + 15 + r ≡ bits false bs →
    digits bs p ≡ taken 0 false bs / 2 ^ r
new_digits bs base byte p r e clean lt enough =
    let e' : p + 15 + r ≡ bits false (base ++ byte ∷ []) = enough ∙ ap (λ v. bits false v) e in
    digits_look bs p ∙ rw e (look_last 0 false base byte (p + 15) r clean lt e')

pub width_top : (ff : Bool) (n : ℕ) → width ff ≡ n → n ≤ 8
width_top true n e = omega arith
width_top false n e = omega arith

pub out_held : (from to p : ℕ) (x y : Coding) (low size s : ℕ) →
    Held from to p x.bytes x.c 0 low size s → Out x size y →
    Held from to p y.bytes y.c y.ct low size s
out_held from to p x y low size s h o =
    let width_is : width (ends_ff false o.base) ≡ y.ct = o.width_is in
    let unit : 2 ^ y.ct * 2 ^ o.k ≡ 2 ^ 27 = sym (split_pow y.ct o.k 27 o.unit) in
    let new_bits : bits false y.bytes ≡ bits false x.bytes + y.ct =
    rw o.bytes_are (bits_snoc false o.base o.byte
    ∙ ap (λ v. v + width (ends_ff false o.base)) o.bits_are
    ∙ ap (λ v. bits false x.bytes + v) o.width_is) in
    let new_taken : taken 0 false y.bytes ≡ taken 0 false o.base * 2 ^ y.ct + o.byte =
    rw o.bytes_are (taken_snoc 0 false o.base o.byte
    ∙ ap (λ v. taken 0 false o.base * 2 ^ v + o.byte) o.width_is) in
    let low_is : low * 2 ^ y.ct ≡ taken 0 false y.bytes * 2 ^ 27 + y.c * 2 ^ y.ct =
    out_low low (taken 0 false x.bytes) x.c o.carry o.byte (2 ^ o.k) (2 ^ y.ct) y.c
    (taken 0 false o.base)
    (taken 0 false y.bytes) 0 h.low_is o.split unit o.taken_is new_taken in
    let narrow : y.ct ≤ 8 = width_top (ends_ff false o.base) y.ct o.width_is in
    let bits_are : s + 0 ≡ bits false x.bytes + 12 = h.bits_are in
    record {
      pos = h.pos;
      top = h.top;
      few = omega arith;
      bits_are = omega arith;
      low_is = low_is;
      shape = o.shape;
      later = h.later;
      above = h.above;
      below = h.below;
      reached = λ enough. elim (cases_lt (bits false x.bytes) (p + 15)) [
        | inl new ↦
            let r : ℕ = bits false y.bytes - (p + 15) in
            let base_bits : bits false o.base < p + 15 = rw o.bits_are new in
            let value : digits y.bytes p ≡ taken 0 false y.bytes / 2 ^ r =
            new_digits y.bytes o.base o.byte p r o.bytes_are o.clean_all base_bits (omega arith) in
            rw value (out_reached from p s y.ct low r y.bytes y.c h.above low_is
            (out_small x y size o) (omega arith))
        | inr old ↦
            let before : from ≤ look 0 false x.bytes (p + 15) =
            rw (← digits_look x.bytes p) (h.reached old) in
            let raised : look 0 false x.bytes (p + 15) ≤ look 0 false o.base (p + 15) =
            o.grows (p + 15) old in
            let in_base : p + 15 ≤ bits false o.base = rw o.bits_are old in
            let value : digits y.bytes p ≡ look 0 false o.base (p + 15) =
            digits_look y.bytes p ∙ rw o.bytes_are
            (look_front 0 false o.base (o.byte ∷ []) (p + 15) o.clean (omega arith) in_base) in
            rw value (omega arith)
      ];
    }

-- an interval bounds itself
pub fresh : (from to p : ℕ) (bs : List ℕ) (c ct low size s : ℕ) →
    Held from to p bs c ct low size s → Held low (low + size) s bs c ct low size s
fresh from to p bs c ct low size s h =
    let few : ct ≤ 12 = h.few in
    let bits_are : s + ct ≡ bits false bs + 12 = h.bits_are in
    record {
      pos = h.pos;
      top = h.top;
      few = few;
      bits_are = bits_are;
      low_is = h.low_is;
      shape = h.shape;
      later = omega arith;
      above = omega arith;
      below = omega arith;
      reached = λ enough. absurd (omega arith);
    }
