-- The bits of numbers and of bytes.
use Rattle.std.proofs.Common.{◌≡◌, ℕ, suc, zero, ◌+◌, ◌*◌, ◌/◌, ◌%◌, ◌^◌, ◌<◌, ◌≤◌, Bool, true}
use Rattle.std.proofs.Common.{false, List, [], ◌∷◌, ◌++◌, length, refl, sym, ap, ◌∙◌, arith}
use Rattle.std.proofs.Common.{append_assoc, length-append, add-one}
use Rattle.std.specs.Prelude.{◌==◌, replicate}
use Rattle.std.proofs.lemmas.List.{append-nil}
use Rattle.std.proofs.Math.Nat.{pow-suc}
use mir.Val.{bool_byte}
use Rattle.bit_stuffing.specs.Bits.{bit_value, number, value_from, value, byte_width, useful}
use Rattle.bit_stuffing.specs.Bits.{IsStuffed, ends_in_ff}

-- the byte of a bit is its number
pub bit_of : (n : ℕ) (b : Bool) → n ≡ bool_byte b → n ≡ bit_value b
bit_of n true h = h
bit_of n false h = h

pub bit_le : (b : Bool) → bit_value b ≤ 1
bit_le true = omega arith
bit_le false = omega arith

pub number-length : (w n : ℕ) → length (number w n) ≡ w
unfolding number
number-length zero n = refl
number-length (suc w) n = simp (length-append, number-length w (n / 2)) (omega arith)

-- one more bit at the end
pub number-push : (w p : ℕ) (bit : Bool) → number (w + 1) (p * 2 + bit_value bit) ≡ number w p
    ++ bit ∷ []
unfolding number
number-push w p true = rw add-one (
    let half : (p * 2 + 1) / 2 ≡ p = omega arith in
    let odd : (p * 2 + 1) % 2 ≡ 1 = omega arith in
    rw (half, odd))
number-push w p false = rw add-one (
    let half : (p * 2 + 0) / 2 ≡ p = omega arith in
    let odd : (p * 2 + 0) % 2 ≡ 0 = omega arith in
    rw (half, odd))

pub seven_le : (a : Bool) → 7 ≤ byte_width a
seven_le true = omega arith
seven_le false = omega arith

pub width_le : (a : Bool) → byte_width a ≤ 8
width_le true = omega arith
width_le false = omega arith

pub useful-append : (a : Bool) (xs ys : List ℕ) → useful a (xs ++ ys) ≡ useful a xs
    ++ useful (ends_in_ff a xs) ys
unfolding useful ends_in_ff
useful-append a [] ys = refl
useful-append a (x ∷ xs) ys =
    ap (λ r. number (byte_width a) x ++ r) (useful-append (x == 255) xs ys)
    ∙ sym (append_assoc (number (byte_width a) x) (useful (x == 255) xs)
    (useful (ends_in_ff (x == 255) xs) ys))

pub useful-one : (a : Bool) (x : ℕ) → useful a (x ∷ []) ≡ number (byte_width a) x
unfolding useful
useful-one a x = append-nil (number (byte_width a) x)

pub useful-push : (a : Bool) (xs : List ℕ) (x : ℕ) → useful a (xs ++ x ∷ []) ≡ useful a xs
    ++ number (byte_width (ends_in_ff a xs)) x
useful-push a xs x = useful-append a xs (x ∷ []) ∙ ap (λ r. useful a xs
    ++ r) (useful-one (ends_in_ff a xs) x)

pub ends-push : (a : Bool) (xs : List ℕ) (x : ℕ) → ends_in_ff a (xs ++ x ∷ []) ≡ (x == 255)
unfolding ends_in_ff
ends-push a [] x = refl
ends-push a (y ∷ xs) x = ends-push (y == 255) xs x

pub ends-append : (a : Bool) (xs ys : List ℕ) → ends_in_ff a (xs ++ ys)
    ≡ ends_in_ff (ends_in_ff a xs) ys
unfolding ends_in_ff
ends-append a [] ys = refl
ends-append a (y ∷ xs) ys = ends-append (y == 255) xs ys

pub stuffed-append : (a : Bool) (xs ys : List ℕ) → IsStuffed a xs → IsStuffed (ends_in_ff a xs) ys
    → IsStuffed a (xs ++ ys)
unfolding IsStuffed ends_in_ff
stuffed-append a [] ys h k = k
stuffed-append a (x ∷ xs) ys h k = (h.0, stuffed-append (x == 255) xs ys h.1 k)

pub stuffed-push : (a : Bool) (xs : List ℕ) (x : ℕ) → IsStuffed a xs
    → x < 2 ^ byte_width (ends_in_ff a xs) → IsStuffed a (xs ++ x ∷ [])
unfolding IsStuffed
stuffed-push a xs x h k = stuffed-append a xs (x ∷ []) h (k, tt)

pub stuffed-split : (a : Bool) (xs ys : List ℕ) → IsStuffed a (xs ++ ys) → IsStuffed a xs
    × IsStuffed (ends_in_ff a xs) ys
unfolding IsStuffed ends_in_ff
stuffed-split a [] ys h = (tt, h)
stuffed-split a (x ∷ xs) ys h = let r = stuffed-split (x == 255) xs ys h.1 in ((h.0, r.0), r.1)

-- each byte holds at least seven bits
pub useful-length : (a : Bool) (bytes : List ℕ) → 7 * length bytes ≤ length (useful a bytes)
unfolding useful
useful-length a [] = omega arith
useful-length a (x ∷ bytes) =
    simp (length-append, number-length (byte_width a) x)
    (omega (arith, useful-length (x == 255) bytes, seven_le a))

pub value-append : (n : ℕ) (xs ys : List Bool) → value_from n (xs ++ ys)
    ≡ value_from (value_from n xs) ys
unfolding value_from
value-append n [] ys = refl
value-append n (x ∷ xs) ys = value-append (2 * n + bit_value x) xs ys

pub value-push : (n : ℕ) (xs : List Bool) (x : Bool) → value_from n (xs ++ x ∷ []) ≡ 2
    * value_from n xs + bit_value x
unfolding value_from
value-push n xs x = value-append n xs (x ∷ [])

pub value-zeros : (n k : ℕ) → value_from n (replicate k false) ≡ n * 2 ^ k
unfolding value_from
value-zeros n zero = omega arith
value-zeros n (suc k) = value-zeros (2 * n + 0) k ∙ rw (pow-suc 2 k) (omega arith)

half_value : (n : ℕ) → 2 * (n / 2) + bit_value (n % 2 == 1) ≡ n
half_value n = grind arith

-- the number with the bits of n is n
pub value-number : (w n : ℕ) → n < 2 ^ w → value (number w n) ≡ n
unfolding number value_from
value-number zero n h = omega arith
value-number (suc w) n h =
    let below : n / 2 < 2 ^ w = grind (arith, pow-suc) in
    value-push 0 (number w (n / 2)) (n % 2 == 1)
    ∙ ap (λ v. 2 * v + bit_value (n % 2 == 1)) (value-number w (n / 2) below)
    ∙ half_value n

-- the number of a list of bits, in as many bits, is that list
number-value_from : (w n : ℕ) (bits : List Bool) → number (w + length bits) (value_from n bits)
    ≡ number w n ++ bits
unfolding value_from
number-value_from w n [] = ap (λ k. number k n) (let e : w + 0 ≡ w = omega arith in e)
    ∙ sym (append-nil (number w n))
number-value_from w n (b ∷ bits) =
    let e : w + suc (length bits) ≡ w + 1 + length bits = omega arith in
    let m : 2 * n + bit_value b ≡ n * 2 + bit_value b = omega arith in
    ap (λ k. number k (value_from (2 * n + bit_value b) bits)) e
    ∙ number-value_from (w + 1) (2 * n + bit_value b) bits
    ∙ ap (λ k. number (w + 1) k ++ bits) m
    ∙ ap (λ k. k ++ bits) (number-push w n b)
    ∙ append_assoc (number w n) (b ∷ []) bits

pub number-value : (bits : List Bool) → number (length bits) (value bits) ≡ bits
unfolding number
number-value bits = ap (λ k. number k (value bits)) (let e : length bits ≡ 0 + length bits =
    omega arith in e) ∙ number-value_from 0 0 bits

double_power : (k : ℕ) → 2 ^ suc k ≡ 2 * 2 ^ k
double_power k = grind arith

value_from-below : (n m : ℕ) (bits : List Bool) → n < m → value_from n bits < m * 2 ^ length bits
unfolding value_from
value_from-below n m [] h = omega arith
value_from-below n m (b ∷ bits) h =
    let s = bit_le b in
    let r = value_from-below (2 * n + bit_value b) (2 * m) bits (omega arith) in
    let e : 2 * m * 2 ^ length bits ≡ m * 2 ^ suc (length bits) =
    rw (double_power (length bits)) (omega arith) in
    omega arith

pub value-below : (bits : List Bool) → value bits < 2 ^ length bits
value-below bits = let r = value_from-below 0 1 bits (omega arith) in omega arith
