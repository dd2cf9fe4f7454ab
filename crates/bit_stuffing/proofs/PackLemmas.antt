-- What the writer of bits keeps.
use Rattle.std.proofs.Common.{◌≡◌, ℕ, suc, zero, ◌+◌, ◌-◌, ◌*◌, ◌%◌, ◌^◌, ◌<◌, ◌≤◌, Bool, true}
use Rattle.std.proofs.Common.{false, List, [], ◌∷◌, ◌++◌, length, refl, sym, ap, ◌∙◌, arith}
use Rattle.std.proofs.Common.{append_assoc, length-append, add-one, eqb}
use Rattle.std.proofs.lemmas.Bool.{ne_eqb, eq-eqb}
use Rattle.std.specs.Prelude.{◌==◌, replicate}
use Rattle.std.proofs.lemmas.List.{append-nil, replicate_more, length_push}
use Rattle.std.proofs.Math.Nat.{pow-suc}
use Rattle.std.proofs.Math.Pow.{pow_mono}
use Rattle.bit_stuffing.specs.Bits.{bit_value, number, value_from, value, byte_width, useful}
use Rattle.bit_stuffing.specs.Bits.{IsStuffed, ends_in_ff}
use Rattle.bit_stuffing.specs.Stuffing.{closing, packed_from, packed, Closes}
use Rattle.bit_stuffing.specs.Inside.{Keeps}
use Rattle.bit_stuffing.proofs.BitLemmas.{number-length, number-push, useful-push, ends-push}
use Rattle.bit_stuffing.proofs.BitLemmas.{stuffed-push, useful-length, seven_le, width_le}
use Rattle.bit_stuffing.proofs.BitLemmas.{value-append, value-zeros, value-number}

pub keeps_none : Keeps [] 0 0 8
unfolding IsStuffed ends_in_ff useful
keeps_none = record {
  width_is = refl;
  below = omega arith;
  room = omega arith;
  few = omega arith;
  stuffed = tt;
}

pub keeps_more : (bytes : List ℕ) (part filled width bit : ℕ) → Keeps bytes part filled width
    → bit ≤ 1 → length (useful false bytes) + filled < 7000 → filled + 1 < width
    → Keeps bytes (part * 2 + bit) (filled + 1) width
keeps_more bytes part filled width bit k b r h = record {
  width_is = k.width_is;
  below = (let p : 2 ^ (filled + 1) ≡ 2 ^ filled * 2 = rw add-one (pow-suc 2 filled) in
      omega (arith, k.below));
  room = h;
  few = omega arith;
  stuffed = k.stuffed;
}

pub keeps_whole : (bytes : List ℕ) (part filled width bit next : ℕ) → Keeps bytes part filled width
    → bit ≤ 1 → length (useful false bytes) + filled < 7000 → filled + 1 ≡ width
    → next ≡ byte_width (part * 2 + bit == 255) → Keeps (bytes ++ (part * 2 + bit) ∷ []) 0 0 next
keeps_whole bytes part filled width bit next k b r h n =
    let p : 2 ^ (filled + 1) ≡ 2 ^ filled * 2 = rw add-one (pow-suc 2 filled) in
    let below : part * 2 + bit < 2 ^ (filled + 1) = omega (arith, k.below) in
    let e : filled + 1 ≡ byte_width (ends_in_ff false bytes) = h ∙ k.width_is in
    let fits = rw e at below in
    record {
      width_is = n ∙ ap byte_width (sym (ends-push false bytes (part * 2 + bit)));
      below = omega arith;
      room = omega (arith, seven_le (part * 2 + bit == 255));
      few = simp (useful-push, length-append, number-length) (omega (arith, k.width_is));
      stuffed = stuffed-push false bytes (part * 2 + bit) k.stuffed fits;
    }

-- a byte that is filled is put out
fill : (w : ℕ) (begun xs : List Bool) (x : Bool) (rest : List Bool)
    → length begun + length (x ∷ xs) ≡ w
    → packed_from w begun ((x ∷ xs) ++ rest)
    ≡ value (begun ++ (x ∷ xs)) ∷ packed_from (byte_width (value (begun ++ (x ∷ xs)) == 255)) []
    rest
unfolding packed_from
fill w begun [] x rest h =
    let e : eqb (length begun + 1) w ≡ true = eq-eqb (length begun + 1) w (omega arith) in rw e
fill w begun (y ∷ xs) x rest h =
    let e : eqb (length begun + 1) w ≡ false = ne_eqb (length begun + 1) w (λ k. omega arith) in
    let l : length (begun ++ x ∷ []) + length (y ∷ xs) ≡ w =
    rw (length_push begun x) (omega arith) in
    let ih = fill w (begun ++ x ∷ []) xs y rest l in
    rw e (rw (append_assoc begun (x ∷ []) (y ∷ xs)) at ih)

-- a byte that isn't filled is closed
rest_of : (w : ℕ) (begun xs : List Bool) → length begun + length xs < w
    → packed_from w begun xs ≡ closing w (begun ++ xs)
unfolding packed_from
rest_of w begun [] h = ap (closing w) (sym (append-nil begun))
rest_of w begun (x ∷ xs) h =
    let e : eqb (length begun + 1) w ≡ false = ne_eqb (length begun + 1) w (λ k. omega arith) in
    let l : length (begun ++ x ∷ []) + length xs < w = rw (length_push begun x) (omega arith) in
    let ih = rest_of w (begun ++ x ∷ []) xs l in
    rw e (rw (append_assoc begun (x ∷ []) xs) at ih)

-- the bits of one byte are packed as that byte
one_byte : (w : ℕ) (xs rest : List Bool) → 0 < w → length xs ≡ w
    → packed_from w [] (xs ++ rest) ≡ value xs ∷ packed_from (byte_width (value xs == 255)) [] rest
one_byte w [] rest p h = absurd (omega arith)
one_byte w (x ∷ xs) rest p h = fill w [] xs x rest (omega arith)

-- the bits of whole bytes are packed as these bytes
pub whole_bytes : (a : Bool) (bytes : List ℕ) (rest : List Bool) → IsStuffed a bytes
    → packed_from (byte_width a) [] (useful a bytes ++ rest) ≡ bytes
    ++ packed_from (byte_width (ends_in_ff a bytes)) [] rest
unfolding useful IsStuffed ends_in_ff
whole_bytes a [] rest s = refl
whole_bytes a (x ∷ bytes) rest s =
    let w = byte_width a in
    let p : 0 < byte_width a = omega (arith, seven_le a) in
    let v : value (number (byte_width a) x) ≡ x = value-number (byte_width a) x s.0 in
    let one = one_byte (byte_width a) (number (byte_width a) x) (useful (x == 255) bytes
    ++ rest) p (number-length (byte_width a) x) in
    let one' = rw v at one in
    ap (λ bits. packed_from (byte_width a) [] bits) (append_assoc (number (byte_width a) x)
    (useful (x == 255) bytes) rest)
    ∙ one'
    ∙ ap (λ r. x ∷ r) (whole_bytes (x == 255) bytes rest s.1)

-- what a writer keeps, packed
pub keeps_packed : (bytes : List ℕ) (part filled width : ℕ) → Keeps bytes part filled width
    → packed (useful false bytes ++ number filled part) ≡ bytes
    ++ closing width (number filled part)
keeps_packed bytes part filled width k =
    let l : length {A = Bool} [] + length (number filled part) < width =
    rw (number-length filled part) (omega (arith, k.room)) in
    let r = rest_of width [] (number filled part) l in
    whole_bytes false bytes (number filled part) k.stuffed
    ∙ ap (λ w. bytes ++ packed_from w [] (number filled part)) (sym k.width_is)
    ∙ ap (λ c. bytes ++ c) r

closing_some : (w : ℕ) (xs : List Bool) → 0 < length xs → closing w xs
    ≡ value (xs ++ replicate (w - length xs) false) ∷ []
closing_some w [] h = absurd (omega arith)
closing_some w (x ∷ xs) h = refl

-- the last byte of a writer that has one begun
pub closing_part : (part filled width : ℕ) → 0 < filled → part < 2 ^ filled
    → closing width (number filled part) ≡ part * 2 ^ (width - filled) ∷ []
closing_part part filled width h p =
    let l = number-length filled part in
    let some : 0 < length (number filled part) = rw l h in
    let v = value-append 0 (number filled part) (replicate (width - length (number filled part))
    false)
    ∙ ap (λ n. value_from n (replicate (width - length (number filled part)) false))
    (value-number filled part p)
    ∙ value-zeros part (width - length (number filled part)) in
    let v' = rw l at v in
    closing_some width (number filled part) some ∙ ap (λ n. n ∷ []) (rw l v')

-- a number's bits, and zeros after them
pub number-shift : (f k p : ℕ) → number (f + k) (p * 2 ^ k) ≡ number f p ++ replicate k false
number-shift f zero p =
    let a : f + 0 ≡ f = omega arith in
    let b : p * 1 ≡ p = omega arith in
    rw (a, b) (sym (append-nil (number f p)))
number-shift f (suc k) p =
    let e : f + suc k ≡ (f + k) + 1 = omega arith in
    let d : p * 2 ^ suc k ≡ p * 2 ^ k * 2 + bit_value false = rw (pow-suc 2 k) (omega arith) in
    let more = replicate_more k false in
    ap (λ n. number n (p * 2 ^ suc k)) e
    ∙ ap (λ n. number (f + k + 1) n) d
    ∙ number-push (f + k) (p * 2 ^ k) false
    ∙ ap (λ r. r ++ false ∷ []) (number-shift f k p)
    ∙ append_assoc (number f p) (replicate k false) (false ∷ [])
    ∙ ap (λ r. number f p ++ r) (rw add-one at more)

pub closes_none : (e : Bool) → e ≡ false → Closes e []
closes_none e h = rw h tt

pub closes_byte : (e : Bool) (y : ℕ) → e ≡ true → y < 128 → Closes e (y ∷ [])
closes_byte e y h k = rw h k

shift_below : (p f k : ℕ) → p < 2 ^ f → p * 2 ^ k < 2 ^ (f + k)
shift_below p f zero h = let e : f + 0 ≡ f = omega arith in rw e (omega arith)
shift_below p f (suc k) h =
    let e : f + suc k ≡ suc (f + k) = omega arith in
    rw (e, pow-suc 2 (f + k), pow-suc 2 k) (omega (arith, shift_below p f k h))

pub even_shift : (p k : ℕ) → 0 < k → p * 2 ^ k ≡ 255 → ⊥
even_shift p zero h e = omega arith
even_shift p (suc k) h e = let d = rw (pow-suc 2 k) at e in omega arith

same_below : (n w v : ℕ) → w ≡ v → n < 2 ^ w → n < 2 ^ v
same_below n w v e h = rw (sym e) h

pub ff_from_width : (e : Bool) → byte_width e ≡ 7 → e ≡ true
ff_from_width true h = refl
ff_from_width false h = absurd (omega arith)

pub no_ff_from_width : (e : Bool) → (byte_width e ≡ 7 → ⊥) → e ≡ false
no_ff_from_width true h = absurd (h refl)
no_ff_from_width false h = refl

-- the bytes have room for one more
pub room_for_byte : (bytes : List ℕ) (part filled width : ℕ) → Keeps bytes part filled width
    → length bytes < 1024
room_for_byte bytes part filled width k = omega (arith, useful-length false bytes, k.few)

-- the byte that closes a byte begun fits
part_fits : (bytes : List ℕ) (part filled width : ℕ) → Keeps bytes part filled width
    → part * 2 ^ (width - filled) % 256 ≡ part * 2 ^ (width - filled)
part_fits bytes part filled width k =
    let most : width ≤ 8 = rw k.width_is (width_le (ends_in_ff false bytes)) in
    let room : filled < width = k.room in
    let below = shift_below part filled (width - filled) k.below in
    let w : filled + (width - filled) ≡ width = omega arith in
    let below' = rw w at below in
    let small : 2 ^ width ≤ 2 ^ 8 = pow_mono most in
    omega arith

-- the bytes at the end, where a byte is begun
pub finish_part : (bytes : List ℕ) (part filled width : ℕ) → Keeps bytes part filled width
    → 0 < filled
    → bytes ++ part * 2 ^ (width - filled) % 256 ∷ [] ≡ packed (useful false bytes
    ++ number filled part)
finish_part bytes part filled width k h =
    ap (λ b. bytes ++ b ∷ []) (part_fits bytes part filled width k)
    ∙ sym (keeps_packed bytes part filled width k ∙ ap (λ r. bytes
    ++ r) (closing_part part filled width h k.below))

pub closing_ff : (width : ℕ) → width ≡ 7 → closing width [] ≡ 0 ∷ []
closing_ff width h = rw h refl

pub closing_none : (width : ℕ) → (width ≡ 7 → ⊥) → closing width [] ≡ []
closing_none width h = let e = ne_eqb width 7 h in rw e refl

-- the bytes at the end after a byte FF
pub finish_ff : (bytes : List ℕ) (part filled width : ℕ) → Keeps bytes part filled width
    → filled ≤ 0 → width ≡ 7
    → bytes ++ 0 ∷ [] ≡ packed (useful false bytes ++ number filled part)
unfolding number
finish_ff bytes part zero width k h e = ap (λ r. bytes ++ r) (sym (closing_ff width e))
    ∙ sym (keeps_packed bytes part 0 width k)
finish_ff bytes part (suc filled) width k h e = absurd (omega arith)

-- the bytes at the end after another whole byte
pub finish_whole : (bytes : List ℕ) (part filled width : ℕ) → Keeps bytes part filled width
    → filled ≤ 0 → (width ≡ 7 → ⊥)
    → bytes ≡ packed (useful false bytes ++ number filled part)
unfolding number
finish_whole bytes part zero width k h e =
    sym (append-nil bytes) ∙ ap (λ r. bytes ++ r) (sym (closing_none width e))
    ∙ sym (keeps_packed bytes part 0 width k)
finish_whole bytes part (suc filled) width k h e = absurd (omega arith)
