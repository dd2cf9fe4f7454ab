-- What a sink keeps while the bits of a number fill its bytes.
use Rattle.std.proofs.Common.{◌≡◌, ℕ, suc, zero, ◌+◌, ◌-◌, ◌*◌, ◌/◌, ◌%◌, ◌^◌, ◌<◌, ◌≤◌, Bool, true}
use Rattle.std.proofs.Common.{false, List, [], ◌∷◌, ◌++◌, length, refl, sym, ap, subst, ◌∙◌, arith}
use Rattle.std.proofs.Common.{eqb, append_assoc, length-append, add-one}
use Rattle.std.proofs.lemmas.Bool.{eq-eqb, ne_eqb}
use Rattle.std.specs.Prelude.{◌==◌, replicate, bit_and}
use Rattle.std.proofs.lemmas.List.{append-nil, replicate_more, length_push}
use Rattle.std.proofs.lemmas.Nat.{pow-add, div-add-mod', and_mask, field_of, mod-pow-add}
use Rattle.std.proofs.lemmas.Nat.{div-mul-add, mod-mul-add}
use Rattle.std.proofs.Math.Pow.{pow_mono, mod-mod-pow}
use Rattle.std.proofs.Math.Nat.{pow-suc, one-le-pow, mul-le-mul_right, mod-lt, mod-eq_of_lt}
use Rattle.std.proofs.Math.Nat.{div-lt_iff_lt-mul}
use Rattle.bit_stuffing.specs.Bits.{number, byte_width, useful, IsStuffed, ends_in_ff}
use Rattle.bit_stuffing.specs.Inside.{Keeps, HoldsBits, Counts}
use Rattle.bit_stuffing.specs.Stuffing.{packed}
use Rattle.bit_stuffing.proofs.PackLemmas.{finish_part, finish_ff, finish_whole}
use Rattle.bit_stuffing.proofs.BitLemmas.{number-length, useful-push, ends-push, stuffed-push}
use Rattle.bit_stuffing.proofs.BitLemmas.{useful-length, seven_le, width_le}

-- the bits of one number after those of another
pub number-join : (a b x y : ℕ) → y < 2 ^ b → number (a + b) (x * 2 ^ b + y) ≡ number a x
    ++ number b y
unfolding number
number-join a zero x y h =
    let e : x * 2 ^ 0 + y ≡ x = omega arith in
    let z : a + 0 ≡ a = omega arith in
    rw (z, e) (sym (append-nil (number a x)))
number-join a (suc b) x y h =
    let p : 2 ^ suc b ≡ 2 ^ b * 2 = pow-suc 2 b in
    let below : y / 2 < 2 ^ b = omega arith in
    let half : (x * 2 ^ suc b + y) / 2 ≡ x * 2 ^ b + y / 2 = rw p (grind arith) in
    let odd : (x * 2 ^ suc b + y) % 2 ≡ y % 2 = rw p (grind arith) in
    let m : a + suc b ≡ suc (a + b) = omega arith in
    let s : number (a + suc b) (x * 2 ^ suc b + y) ≡ number (suc (a + b)) (x * 2 ^ suc b + y) =
    ap (λ k. number k (x * 2 ^ suc b + y)) m in
    s ∙ ap (λ k. number (a + b) k ++ ((x * 2 ^ suc b + y) % 2 == 1) ∷ []) half
    ∙ ap (λ k. number (a + b) (x * 2 ^ b + y / 2) ++ (k == 1) ∷ []) odd
    ∙ ap (λ k. k ++ (y % 2 == 1) ∷ []) (number-join a b x (y / 2) below)
    ∙ append_assoc (number a x) (number b (y / 2)) ((y % 2 == 1) ∷ [])

pub number-split : (a b n : ℕ) → number (a + b) n ≡ number a (n / 2 ^ b) ++ number b (n % 2 ^ b)
number-split a b n =
    let p : 0 < 2 ^ b = one-le-pow b 2 (omega arith) in
    let below : n % 2 ^ b < 2 ^ b = mod-lt n p in
    ap (number (a + b)) (sym (div-add-mod' n (2 ^ b)))
    ∙ number-join a b (n / 2 ^ b) (n % 2 ^ b) below

pub number-zeros : (k : ℕ) → number k 0 ≡ replicate k false
unfolding number
number-zeros zero = refl
number-zeros (suc k) = ap (λ r. r ++ false ∷ []) (number-zeros k)
    ∙ rw add-one at (replicate_more k false)

pub number-one : (k : ℕ) → number (k + 1) 1 ≡ replicate k false ++ true ∷ []
unfolding number
number-one k = rw add-one (ap (λ r. r ++ true ∷ []) (number-zeros k))

pub join_below : (part filled value w : ℕ) → part < 2 ^ filled → value < 2 ^ w
    → part * 2 ^ w + value < 2 ^ (filled + w)
join_below part filled value w below h =
    let p : 2 ^ (filled + w) ≡ 2 ^ filled * 2 ^ w = pow-add 2 filled w in
    let m : (part + 1) * 2 ^ w ≤ 2 ^ filled * 2 ^ w = mul-le-mul_right (2 ^ w) (omega arith) in
    omega arith

-- a number is added after a byte begun
pub register_more : (bytes : List ℕ) (part filled width value w : ℕ) (bits : List Bool)
    → HoldsBits bytes part filled width bits → value < 2 ^ w → length bits + w ≤ 7000
    → HoldsBits bytes (part * 2 ^ w + value) (filled + w) width (bits ++ number w value)
register_more bytes part filled width value w bits s h few = record {
  width_is = s.width_is;
  below = join_below part filled value w s.below h;
  few = simp (length-append, number-length) (omega arith);
  stuffed = s.stuffed;
  bits_are =
      ap (λ r. useful false bytes ++ r) (number-join filled w part value h)
      ∙ sym (append_assoc (useful false bytes) (number filled part) (number w value))
      ∙ ap (λ r. r ++ number w value) s.bits_are;
}

-- a byte is full
pub register_byte : (bytes : List ℕ) (held filled width left byte low next : ℕ) (bits : List Bool)
    → HoldsBits bytes held filled width bits → left + width ≡ filled
    → byte ≡ held / 2 ^ left → low ≡ held % 2 ^ left → next ≡ byte_width (byte == 255)
    → HoldsBits (bytes ++ byte ∷ []) low left next bits
register_byte bytes held filled width left byte low next bits s e b l n =
    let p : 0 < 2 ^ left = one-le-pow left 2 (omega arith) in
    let below : held < 2 ^ filled = s.below in
    let q : 2 ^ filled ≡ 2 ^ left * 2 ^ width = ap (λ k. 2 ^ k) (sym e) ∙ pow-add 2 left width in
    let same : width + left ≡ filled = omega arith in
    let fits : byte < 2 ^ width = rw b ((div-lt_iff_lt-mul p).1 (omega arith)) in
    record {
      width_is = n ∙ ap byte_width (sym (ends-push false bytes byte));
      below = rw l (mod-lt held p);
      few = s.few;
      stuffed = stuffed-push false bytes byte s.stuffed (rw s.width_is at fits);
      bits_are =
          ap (λ r. r ++ number left low) (useful-push false bytes byte)
          ∙ append_assoc (useful false bytes) (number (byte_width (ends_in_ff false bytes)) byte)
          (number left low)
          ∙ ap (λ r. useful false bytes ++ r) (
          ap (λ k. number k byte ++ number left low) (sym s.width_is)
          ∙ ap (λ k. number width k ++ number left low) b
          ∙ ap (λ k. number width (held / 2 ^ left) ++ number left k) l
          ∙ sym (number-split width left held)
          ∙ ap (λ k. number k held) same)
          ∙ s.bits_are;
    }

-- a byte begun is shorter than its width
pub register_keeps : (bytes : List ℕ) (part filled width : ℕ) (bits : List Bool)
    → HoldsBits bytes part filled width bits → filled < width → Keeps bytes part filled width
register_keeps bytes part filled width bits s h = record {
  width_is = s.width_is;
  below = s.below;
  room = h;
  few = (let l = ap length s.bits_are in
      omega (
        arith,
        s.few,
        length-append (useful false bytes) (number filled part),
        number-length filled part,
      ));
  stuffed = s.stuffed;
}

pub keeps_register : (bytes : List ℕ) (part filled width : ℕ) (bits : List Bool)
    → Keeps bytes part filled width → useful false bytes ++ number filled part ≡ bits
    → HoldsBits bytes part filled width bits
keeps_register bytes part filled width bits k e = record {
  width_is = k.width_is;
  below = k.below;
  few = (let l = ap length e in
      omega (
        arith,
        k.few,
        length-append (useful false bytes) (number filled part),
        number-length filled part,
      ));
  stuffed = k.stuffed;
  bits_are = e;
}

-- the bytes of a sink have room for one more
pub room_for_register : (bytes : List ℕ) (held filled width : ℕ) (bits : List Bool)
    → HoldsBits bytes held filled width bits → length bytes < 1024
room_for_register bytes held filled width bits s =
    let l = ap length s.bits_are in
    omega (
      arith,
      s.few,
      useful-length false bytes,
      length-append (useful false bytes)
          (number filled held),
    )

-- the bits of a byte begun and of a number fit 58 bits
pub held_small : (part w value : ℕ) → part < 256 → w ≤ 50 → value < 2 ^ w
    → part * 2 ^ w + value < 2 ^ 58
held_small part w value a b h =
    let p : 2 ^ w ≤ 2 ^ 50 = pow_mono b in
    let m : part * 2 ^ w ≤ 255 * 2 ^ w = mul-le-mul_right (2 ^ w) (omega arith) in
    omega arith

pub shifted_whole : (part w value : ℕ) → part < 256 → w ≤ 50 → value < 2 ^ w
    → part * 2 ^ w % 2 ^ 64 ≡ part * 2 ^ w
shifted_whole part w value a b h = let s = held_small part w value a b h in omega arith

pub mask_is : (held left : ℕ) → left ≤ 57 → bit_and held (1 * 2 ^ left % 18446744073709551616 - 1)
    ≡ held % 2 ^ left
mask_is held left h =
    let p : 2 ^ left ≤ 2 ^ 57 = pow_mono h in
    let e : 1 * 2 ^ left % 18446744073709551616 ≡ 2 ^ left = omega arith in
    ap (λ k. bit_and held (k - 1)) e ∙ and_mask held left

-- a byte that is full has 256 values at most
byte_fits : (held filled width left : ℕ) → held < 2 ^ filled → left + width ≡ filled → width ≤ 8
    → held / 2 ^ left < 256
byte_fits held filled width left below e most =
    let p : 0 < 2 ^ left = one-le-pow left 2 (omega arith) in
    let q : 2 ^ filled ≡ 2 ^ left * 2 ^ width = ap (λ k. 2 ^ k) (sym e) ∙ pow-add 2 left width in
    let fits : held / 2 ^ left < 2 ^ width = (div-lt_iff_lt-mul p).1 (omega arith) in
    let small : 2 ^ width ≤ 2 ^ 8 = pow_mono most in
    omega arith

pub byte_small : (bytes : List ℕ) (held filled width left : ℕ) (bits : List Bool)
    → HoldsBits bytes held filled width bits → left + width ≡ filled → held / 2 ^ left < 256
byte_small bytes held filled width left bits s e =
    byte_fits held filled width left s.below e (rw s.width_is (width_le (ends_in_ff false bytes)))

-- a number after bits in a register of 64, of which those counted leave at the high end
low_shifted : (held k w : ℕ) → held * 2 ^ w % 2 ^ (k + w) ≡ held % 2 ^ k * 2 ^ w
low_shifted held k w =
    let p : 0 < 2 ^ w = one-le-pow w 2 (omega arith) in
    let half = div-mul-add held (2 ^ w) 0 p in
    let none = mod-mul-add held (2 ^ w) 0 p in
    let z : held * 2 ^ w + 0 ≡ held * 2 ^ w = omega arith in
    let e = mod-pow-add (held * 2 ^ w) k w in
    let half' : held * 2 ^ w / 2 ^ w ≡ held = ap (λ n. n / 2 ^ w) (sym z) ∙ half in
    let none' : held * 2 ^ w % 2 ^ w ≡ 0 = ap (λ n. n % 2 ^ w) (sym z) ∙ none in
    e ∙ ap (λ n. n % 2 ^ k * 2 ^ w + held * 2 ^ w % 2 ^ w) half'
    ∙ ap (λ n. held % 2 ^ k * 2 ^ w + n) none' ∙ (omega arith)

register_shifted : (held w : ℕ) → w ≤ 64 → held * 2 ^ w % 18446744073709551616 ≡ held % 2 ^ (64 - w)
    * 2 ^ w
register_shifted held w h =
    let e : 64 ≡ 64 - w + w = omega arith in
    ap (λ n. held * 2 ^ w % 2 ^ n) e ∙ low_shifted held (64 - w) w

pub register_fits : (held w value : ℕ) → w ≤ 50 → value < 2 ^ w
    → held * 2 ^ w % 18446744073709551616 + value < 18446744073709551616
register_fits held w value h v =
    let p : 0 < 2 ^ (64 - w) = one-le-pow (64 - w) 2 (omega arith) in
    let e : 64 - w + w ≡ 64 = omega arith in
    let b = join_below (held % 2 ^ (64 - w)) (64 - w) value w (mod-lt held p) v in
    rw (register_shifted held w (omega arith)) (rw e at b)

register_low : (held w filled value : ℕ) → value < 2 ^ w → filled + w ≤ 64
    → (held * 2 ^ w % 18446744073709551616 + value) % 2 ^ (filled + w) ≡ held % 2 ^ filled * 2 ^ w
    + value
register_low held w filled value v r =
    let s = register_shifted held w (omega arith) in
    let e : 64 - w ≡ 64 - w - filled + filled = omega arith in
    let m : held % 2 ^ (64 - w) % 2 ^ filled ≡ held % 2 ^ filled =
    ap (λ n. held % 2 ^ n % 2 ^ filled) e ∙ mod-mod-pow held (64 - w - filled) filled in
    ap (λ n. (n + value) % 2 ^ (filled + w)) s
    ∙ mod-pow-add (held % 2 ^ (64 - w) * 2 ^ w + value) filled w
    ∙ ap (λ n. n % 2 ^ filled * 2 ^ w + (held % 2 ^ (64 - w) * 2 ^ w + value) % 2 ^ w)
    (div-mul-add (held % 2 ^ (64 - w)) (2 ^ w) value v)
    ∙ ap (λ n. held % 2 ^ (64 - w) % 2 ^ filled * 2 ^ w + n)
    (mod-mul-add (held % 2 ^ (64 - w)) (2 ^ w) value v)
    ∙ ap (λ n. n * 2 ^ w + value) m

-- a counter has the same bits as the bytes that it counts
pub counts_more : (whole held filled all value w : ℕ) (bits : List Bool)
    → Counts whole held filled all bits → value < 2 ^ w → filled + w ≤ 64 → all + w ≤ 7000
    → Counts whole (held * 2 ^ w % 18446744073709551616 + value) (filled + w) (all + w) (bits
    ++ number w value)
counts_more whole held filled all value w bits s h room few =
    let n : length bits ≡ all = s.all_are in
    let f : filled ≡ s.begun + (8 - s.width) = s.filled_is in
    record {
      bytes = s.bytes;
      begun = s.begun + w;
      width = s.width;
      whole_are = s.whole_are;
      all_are = simp (length-append, number-length) (omega arith);
      filled_is = omega arith;
      holds = rw (register_low held w filled value h room)
          (register_more s.bytes (held % 2 ^ filled) s.begun s.width value w bits s.holds h
          (omega arith));
    }

-- a byte is counted, and what is left is this
byte_counted : (whole held filled all left : ℕ) (bits : List Bool)
    (s : Counts whole held filled all bits) → left + 8 ≡ filled
    → HoldsBits (s.bytes ++ held / 2 ^ left % 2 ^ 8 ∷ []) (held % 2 ^ left) left
    (byte_width (held / 2 ^ left % 2 ^ 8 == 255)) bits
byte_counted whole held filled all left bits s e =
    let f : filled ≡ s.begun + (8 - s.width) = s.filled_is in
    let w : s.width ≤ 8 = rw s.holds.width_is (width_le (ends_in_ff false s.bytes)) in
    let k : 8 + left ≡ filled = omega arith in
    register_byte s.bytes (held % 2 ^ filled) s.begun s.width left (held / 2 ^ left % 2 ^ 8)
    (held % 2 ^ left) _ bits s.holds (omega arith)
    (sym (ap (λ n. held % 2 ^ n / 2 ^ left) (sym k) ∙ field_of held 8 left))
    (sym (ap (λ n. held % 2 ^ n % 2 ^ left) (sym k) ∙ mod-mod-pow held 8 left)) refl

pub counts_byte : (whole held filled all left : ℕ) (bits : List Bool)
    → Counts whole held filled all bits → left + 8 ≡ filled → (held / 2 ^ left % 2 ^ 8 ≡ 255 → ⊥)
    → Counts (whole + 1) held left all bits
counts_byte whole held filled all left bits s e h =
    let b = byte_counted whole held filled all left bits s e in
    let w : length s.bytes ≡ whole = s.whole_are in
    let o : eqb (held / 2 ^ left % 2 ^ 8) 255 ≡ false = ne_eqb (held / 2 ^ left % 2 ^ 8) 255 h in
    record {
      bytes = s.bytes ++ held / 2 ^ left % 2 ^ 8 ∷ [];
      begun = left;
      width = 8;
      whole_are = simp length-append (omega arith);
      all_are = s.all_are;
      filled_is = omega arith;
      holds = subst (λ n. HoldsBits (s.bytes ++ held / 2 ^ left % 2 ^ 8 ∷ []) (held % 2 ^ left) left
          n bits) (ap byte_width o) b;
    }

-- after a byte FF stands a stuffed 0
pub counts_byte_ff : (whole held filled all left low : ℕ) (bits : List Bool)
    → Counts whole held filled all bits → left + 8 ≡ filled → held / 2 ^ left % 2 ^ 8 ≡ 255
    → low ≡ held % 2 ^ left → Counts (whole + 1) low (left + 1) all bits
counts_byte_ff whole held filled all left low bits s e h l =
    let b = byte_counted whole held filled all left bits s e in
    let w : length s.bytes ≡ whole = s.whole_are in
    let o : eqb (held / 2 ^ left % 2 ^ 8) 255 ≡ true = eq-eqb (held / 2 ^ left % 2 ^ 8) 255 h in
    let p : 0 < 2 ^ left = one-le-pow left 2 (omega arith) in
    let q : 2 ^ left ≤ 2 ^ (left + 1) = pow_mono (omega arith) in
    let below : held % 2 ^ left < 2 ^ left = mod-lt held p in
    let same : low % 2 ^ (left + 1) ≡ held % 2 ^ left = rw l (mod-eq_of_lt (omega arith)) in
    record {
      bytes = s.bytes ++ held / 2 ^ left % 2 ^ 8 ∷ [];
      begun = left;
      width = 7;
      whole_are = simp length-append (omega arith);
      all_are = s.all_are;
      filled_is = omega arith;
      holds = rw same (subst (λ n. HoldsBits (s.bytes ++ held / 2 ^ left % 2 ^ 8 ∷ [])
          (held % 2 ^ left) left n bits) (ap byte_width o) b);
    }

-- the number of bytes at the end: one more where a bit is left, and be it a stuffed 0
one_more : (bytes all : List ℕ) (byte whole : ℕ) → length bytes ≡ whole → bytes ++ byte ∷ [] ≡ all
    → whole + 1 ≡ length all
one_more bytes all byte whole w e = let l = ap length e in let m = length_push bytes byte in
    omega arith

left_counted : (bytes : List ℕ) (part begun whole : ℕ) (bits : List Bool) (ff : Bool)
    → length bytes ≡ whole → HoldsBits bytes part begun (byte_width ff) bits
    → begun + (8 - byte_width ff) < 8
    → 0 < begun + (8 - byte_width ff) → whole + 1 ≡ length (packed bits)
left_counted bytes part (suc begun) whole bits ff w s h f =
    let most = width_le ff in
    one_more _ _ _ whole w (finish_part bytes part (suc begun) (byte_width ff)
    (register_keeps bytes part (suc begun) (byte_width ff) bits s (omega arith)) (omega arith)
    ∙ ap packed s.bits_are)
left_counted bytes part zero whole bits true w s h f =
    one_more _ _ _ whole w (finish_ff bytes part 0 7 (register_keeps bytes part 0 7 bits s
    (omega arith)) (omega arith) refl ∙ ap packed s.bits_are)
left_counted bytes part zero whole bits false w s h f = absurd (omega arith)

pub counts_begun : (whole held filled all : ℕ) (bits : List Bool)
    → Counts whole held filled all bits → filled < 8 → 0 < filled → whole + 1 ≡ length (packed bits)
counts_begun whole held filled all bits s h f =
    let e : filled ≡ s.begun + (8 - s.width) = s.filled_is in
    let w : s.width ≡ byte_width (ends_in_ff false s.bytes) = s.holds.width_is in
    left_counted s.bytes (held % 2 ^ filled) s.begun whole bits (ends_in_ff false s.bytes)
    s.whole_are (subst (λ n. HoldsBits s.bytes (held % 2 ^ filled) s.begun n bits) w s.holds)
    (rw (← w, ← e) h) (rw (← w, ← e) f)

pub counts_whole : (whole held filled all : ℕ) (bits : List Bool)
    → Counts whole held filled all bits → filled ≤ 0 → whole ≡ length (packed bits)
counts_whole whole held filled all bits s f =
    let e : filled ≡ s.begun + (8 - s.width) = s.filled_is in
    let w : 7 ≤ s.width = rw s.holds.width_is (seven_le (ends_in_ff false s.bytes)) in
    sym s.whole_are
    ∙ ap length (finish_whole s.bytes (held % 2 ^ filled) s.begun s.width
    (register_keeps s.bytes (held % 2 ^ filled) s.begun s.width bits s.holds (omega arith))
    (omega arith) (λ k. omega arith) ∙ ap packed s.holds.bits_are)

pub counts_none : Counts 0 0 0 0 []
unfolding useful number IsStuffed ends_in_ff
counts_none = record {
  bytes = [];
  begun = 0;
  width = 8;
  whole_are = refl;
  all_are = refl;
  filled_is = refl;
  holds = record {
    width_is = refl;
    below = omega arith;
    few = omega arith;
    stuffed = tt;
    bits_are =
        refl;
  };
}

-- a 1 fits any width
pub one_fits : (k : ℕ) → 1 < 2 ^ (k + 1)
one_fits k = rw add-one (let p = one-le-pow k 2 (omega arith) in let e = pow-suc 2 k in omega arith)
