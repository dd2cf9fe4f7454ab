-- How many bytes a header's bits take at most.
use Rattle.std.proofs.Common.{◌≡◌, ℕ, suc, ◌+◌, ◌-◌, ◌*◌, ◌^◌, ◌<◌, ◌≤◌, Bool, true, false, List}
use Rattle.std.proofs.Common.{[], ◌∷◌, ◌++◌, length, refl, ap, ◌∙◌, inl, inr, arith, eqb}
use Rattle.std.specs.Prelude.{◌⊎◌, ◌==◌, if◌then◌else◌}
use Rattle.std.proofs.lemmas.Bool.{cases_eq, eq-eqb, ne_eqb}
use Rattle.std.proofs.lemmas.List.{length_push}
use Rattle.std.proofs.Math.Nat.{pow-suc, mul-le-mul_right}
use Rattle.bit_stuffing.specs.Bits.{bit_value, value_from, value, byte_width}
use Rattle.bit_stuffing.specs.Stuffing.{closing, packed_from, packed}
use Rattle.bit_stuffing.specs.Inside.{Counts}
use Rattle.bit_stuffing.proofs.BitLemmas.{bit_le}
use Rattle.packet_headers.specs.Words.{PacketWords, bands_bits, header_words}

value_below : (n : ℕ) (bits : List Bool) → value_from n bits < (n + 1) * 2 ^ length bits
unfolding value_from
value_below n [] = omega arith
value_below n (bit ∷ bits) =
    let h = value_below (2 * n + bit_value bit) bits in
    let b = bit_le bit in
    let p : 2 ^ suc (length bits) ≡ 2 ^ length bits * 2 = pow-suc 2 (length bits) in
    let m : (2 * n + bit_value bit + 1) * 2 ^ length bits ≤ (2 * n + 2) * 2 ^ length bits =
    mul-le-mul_right (2 ^ length bits) (omega arith) in
    rw p (omega arith)

-- seven bits are no byte FF
seven_below : (bits : List Bool) → length bits ≡ 7 → eqb (value bits) 255 ≡ false
seven_below bits h =
    let v = value_below 0 bits in
    let p : 2 ^ length bits ≡ 128 = ap (λ k. 2 ^ k) h in
    ne_eqb (value bits) 255 (λ e. omega arith)

closing_few : (width : ℕ) (begun : List Bool) → length begun < width → (width ≡ 7) ⊎ (width ≡ 8)
    → 15 * length (closing width begun) ≤ 2 * length begun + 14 + (8 - width)
closing_few width [] h (inl e) = let t : eqb width 7 ≡ true = eq-eqb width 7 e in rw t (omega arith)
closing_few width [] h (inr e) = let t : eqb width 7 ≡ false = ne_eqb width 7 (λ k. omega arith) in
    rw t (omega arith)
closing_few width (bit ∷ begun) h w = omega arith

width_cases : (b : Bool) → (byte_width b ≡ 7) ⊎ (byte_width b ≡ 8)
width_cases true = inl refl
width_cases false = inr refl

width_some : (b : Bool) → 0 < byte_width b
width_some true = omega arith
width_some false = omega arith

-- a byte more
packed_full : (width : ℕ) (begun : List Bool) (bit : Bool) (bits : List Bool)
    → length begun + 1 ≡ width → (width ≡ 7) ⊎ (width ≡ 8)
    → (next : ℕ) → next ≡ byte_width (value (begun ++ bit ∷ []) == 255)
    → 15 * length (packed_from next [] bits) ≤ 2 * (0 + length bits) + 14 + (8 - next)
    → 15 * (1 + length (packed_from next [] bits)) ≤ 2 * (length begun + suc (length bits)) + 14
    + (8 - width)
packed_full width begun bit bits e (inl w) next n h =
    let l = length_push begun bit in
    let f = seven_below (begun ++ bit ∷ []) (omega arith) in
    let k : next ≡ 8 = n ∙ ap byte_width f in
    omega arith
packed_full width begun bit bits e (inr w) next n h =
    elim (width_cases (value (begun ++ bit ∷ []) == 255)) [
      | inl a ↦ omega arith
      | inr a ↦ omega arith
    ]

-- Fifteen bits take two bytes at most: eight ones, a stuffed 0 and seven more.
packed_few : (width : ℕ) (begun bits : List Bool) → length begun < width → (width ≡ 7) ⊎ (width ≡ 8)
    → 15 * length (packed_from width begun bits) ≤ 2 * (length begun + length bits) + 14
    + (8 - width)
unfolding packed_from
packed_few width begun [] h w = let c = closing_few width begun h w in omega arith
packed_few width begun (bit ∷ bits) h w = elim (cases_eq (length begun + 1) width) [
  | inl e ↦
      let t : eqb (length begun + 1) width ≡ true = eq-eqb (length begun + 1) width e in
      let next = byte_width (value (begun ++ bit ∷ []) == 255) in
      let k = packed_full width begun bit bits e w (byte_width (value (begun ++ bit ∷ []) == 255))
      refl
      (packed_few (byte_width (value (begun ++ bit ∷ []) == 255)) [] bits
      (width_some (value (begun ++ bit ∷ []) == 255))
      (width_cases (value (begun ++ bit ∷ []) == 255))) in
      rw t (omega arith)
  | inr ne ↦
      let t : eqb (length begun + 1) width ≡ false = ne_eqb (length begun + 1) width ne in
      let l = length_push begun bit in
      rw t (let k = packed_few width (begun ++ bit ∷ []) bits (omega arith) w in omega arith)
]

pub packed_short : (bits : List Bool) (n : ℕ) → length bits ≤ n
    → 15 * length (packed bits) ≤ 2 * n + 14
packed_short bits n h = let k = packed_few 8 [] bits (omega arith) (inr refl) in omega arith

-- some bits take some bytes
pub packed_some : (width : ℕ) (begun bits : List Bool) → 1 ≤ length begun + length bits
    → 1 ≤ length (packed_from width begun bits)
unfolding packed_from
packed_some width [] [] h = absurd (omega arith)
packed_some width (bit ∷ begun) [] h = omega arith
packed_some width begun (bit ∷ bits) h = elim (cases_eq (length begun + 1) width) [
  | inl e ↦ let t : eqb (length begun + 1) width ≡ true = eq-eqb (length begun + 1) width e in
      rw t (omega arith)
  | inr ne ↦
      let t : eqb (length begun + 1) width ≡ false = ne_eqb (length begun + 1) width ne in
      let l = length_push begun bit in
      rw t (packed_some width (begun ++ bit ∷ []) bits (omega arith))
]

some_bit : (b : Bool) (words : PacketWords) → 1 ≤ length {A = Bool} []
    + length (if b then true ∷ bands_bits words.bands else false ∷ [])
some_bit true words = omega arith
some_bit false words = omega arith

-- a header has a bit
pub header_some : (words : PacketWords) → 1 ≤ length (packed (header_words words))
header_some words = packed_some 8 [] (header_words words) (some_bit words.begins words)

pub counted_few : (whole held filled all : ℕ) (bits : List Bool) → Counts whole held filled all bits
    → all ≤ 3361 → length (packed bits) ≤ 449
counted_few whole held filled all bits s h = let n : length bits ≡ all = s.all_are in let p =
    packed_short bits 3361 (omega arith) in omega arith
