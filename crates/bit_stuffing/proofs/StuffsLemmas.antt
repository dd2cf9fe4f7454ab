-- The writer's bytes are a header of its bits.
use Rattle.std.proofs.Common.{◌≡◌, ℕ, ◌+◌, ◌-◌, ◌^◌, ◌<◌, Bool, false, List, [], ◌∷◌}
use Rattle.std.proofs.Common.{◌++◌}
use Rattle.std.proofs.Common.{inl, inr, length, refl, sym, ap, ◌∙◌, arith, append_assoc}
use Rattle.std.proofs.Common.{length-append}
use Rattle.std.specs.Prelude.{◌==◌, replicate}
use Rattle.std.proofs.lemmas.Bool.{ne_eqb}
use Rattle.std.proofs.lemmas.Bool.Decides.{eqb_tells}
use Rattle.std.proofs.lemmas.List.{append-nil, length-replicate, length_push}
use Rattle.bit_stuffing.specs.Bits.{number, value, byte_width, useful, IsStuffed}
use Rattle.bit_stuffing.specs.Bits.{ends_in_ff}
use Rattle.bit_stuffing.specs.Stuffing.{closing, packed_from, packed, Stuffs}
use Rattle.bit_stuffing.proofs.BitLemmas.{number-value, value-below, value-append, value-zeros}
use Rattle.bit_stuffing.proofs.BitLemmas.{useful-push, ends-push, stuffed-push, seven_le, width_le}
use Rattle.bit_stuffing.proofs.PackLemmas.{even_shift, ff_from_width, no_ff_from_width}
use Rattle.bit_stuffing.proofs.PackLemmas.{closes_none, closes_byte, closing_ff, closing_none}

-- along equal bits and bytes
along : (bits more : List Bool) (bytes others : List ℕ)
    → bits ≡ more → bytes ≡ others → Stuffs bits bytes → Stuffs more others
along bits more bytes others b o h = rw (sym b, sym o) h

-- a number of so many bits has them
number_of : (w : ℕ) (bits : List Bool) → length bits ≡ w → number w (value bits) ≡ bits
number_of w bits l = ap (λ k. number k (value bits)) (sym l) ∙ number-value bits

fits : (w v : ℕ) (bits : List Bool) → length bits ≡ w → w ≡ v → value bits < 2 ^ v
fits w v bits l e = let b = value-below bits in rw (l ∙ e) at b

eight : (w : ℕ) (bytes : List ℕ) → w ≡ byte_width (ends_in_ff false bytes) → w < 9
eight w bytes e = omega (arith, width_le (ends_in_ff false bytes))

-- no byte is begun
none_begun : (bytes : List ℕ) (width : ℕ) → width ≡ byte_width (ends_in_ff false bytes)
    → IsStuffed false bytes → Stuffs (useful false bytes ++ []) (bytes ++ closing width [])
none_begun bytes width w s = elim (eqb_tells width 7) [
  | inl t ↦ record {
    core = bytes;
    last = closing width [];
    padding = [];
    bytes_are = refl;
    bits_are = sym (append-nil (useful false bytes ++ []) ∙ append-nil (useful false bytes));
    padded = omega arith;
    stuffed = s;
    closed = rw (closing_ff width t.1)
        (closes_byte (ends_in_ff false bytes) 0 (ff_from_width _ (sym w ∙ t.1)) (omega arith));
  }
  | inr t ↦ record {
    core = bytes;
    last = closing width [];
    padding = [];
    bytes_are = refl;
    bits_are = sym (append-nil (useful false bytes ++ []) ∙ append-nil (useful false bytes));
    padded = omega arith;
    stuffed = s;
    closed = rw (closing_none width t.1)
        (closes_none (ends_in_ff false bytes) (no_ff_from_width _ (λ e. t.1 (w ∙ e))));
  }
]

-- the bits of the byte begun, filled up with zeros, end in a zero
not_ff : (begun : List Bool) (k : ℕ) → 0 < k → value (begun ++ replicate k false) ≡ 255 → ⊥
not_ff begun k h e = even_shift (value begun) k h
    (sym (value-append 0 begun (replicate k false) ∙ value-zeros (value begun) k) ∙ e)

-- a byte is begun
some_begun : (bytes : List ℕ) (begun : List Bool) (width : ℕ)
    → width ≡ byte_width (ends_in_ff false bytes) → 0 < length begun → length begun < width
    → IsStuffed false bytes
    → Stuffs (useful false bytes ++ begun)
    (bytes ++ value (begun ++ replicate (width - length begun) false) ∷ [])
some_begun bytes begun width w some room s =
    let zeros = replicate (width - length begun) false in
    let full = begun ++ zeros in
    let filled : length full ≡ width =
    length-append begun zeros ∙ rw (length-replicate (width - length begun) false) (omega arith) in
    let has = number_of width full filled in
    let apart = ne_eqb (value full) 255 (not_ff begun (width - length begun) (omega arith)) in
    record {
      core = bytes ++ value full ∷ [];
      last = [];
      padding = zeros;
      bytes_are = sym (append-nil (bytes ++ value full ∷ []));
      bits_are = useful-push false bytes (value full)
          ∙ ap (λ k. useful false bytes ++ number k (value full)) (sym w)
          ∙ ap (λ r. useful false bytes ++ r) has
          ∙ sym (append_assoc (useful false bytes) begun zeros);
      padded = rw (length-replicate (width - length begun) false)
          (omega (arith, eight width bytes w));
      stuffed = stuffed-push false bytes (value full) s (fits width _ full filled w);
      closed = closes_none (ends_in_ff false (bytes ++ value full ∷ []))
          (ends-push false bytes (value full) ∙ apart);
    }

at_end : (bytes : List ℕ) (begun : List Bool) (width : ℕ)
    → width ≡ byte_width (ends_in_ff false bytes) → length begun < width
    → IsStuffed false bytes → Stuffs (useful false bytes ++ begun) (bytes ++ closing width begun)
at_end bytes [] width w room s = none_begun bytes width w s
at_end bytes (bit ∷ begun) width w room s =
    some_begun bytes (bit ∷ begun) width w (omega arith) room s

-- where whole bytes stand and bits of the one begun, what is packed is a header of all bits
stuffs_from : (bits : List Bool) (bytes : List ℕ) (begun : List Bool) (width : ℕ)
    → width ≡ byte_width (ends_in_ff false bytes) → length begun < width → IsStuffed false bytes
    → Stuffs (useful false bytes ++ (begun ++ bits)) (bytes ++ packed_from width begun bits)
unfolding packed_from
stuffs_from [] bytes begun width w room s =
    rw (append-nil begun) (at_end bytes begun width w room s)
stuffs_from (bit ∷ bits) bytes begun width w room s = elim (eqb_tells (length begun + 1) width) [
  | inl t ↦
      let whole = begun ++ bit ∷ [] in
      let filled : length whole ≡ width = length_push begun bit ∙ t.1 in
      let next = byte_width (value whole == 255) in
      let more = stuffs_from bits (bytes ++ value whole ∷ []) [] next
      (ap byte_width (sym (ends-push false bytes (value whole))))
      (omega (arith, seven_le (value whole == 255)))
      (stuffed-push false bytes (value whole) s (fits width _ whole filled w)) in
      rw t.0 (along _ _ _ _
      (ap (λ r. r ++ bits) (useful-push false bytes (value whole)
      ∙ ap (λ k. useful false bytes ++ number k (value whole)) (sym w)
      ∙ ap (λ r. useful false bytes ++ r) (number_of width whole filled))
      ∙ append_assoc (useful false bytes) whole bits
      ∙ ap (λ r. useful false bytes ++ r) (append_assoc begun (bit ∷ []) bits))
      (append_assoc bytes (value whole ∷ []) (packed_from next [] bits)) more)
  | inr t ↦
      let room' : length (begun ++ bit ∷ []) < width = rw (length_push begun bit) (omega arith) in
      rw t.0 (along _ _ _ _
      (ap (λ r. useful false bytes ++ r) (append_assoc begun (bit ∷ []) bits)) refl
      (stuffs_from bits bytes (begun ++ bit ∷ []) width w room' s))
]

pub stuffs_packed : (bits : List Bool) → Stuffs bits (packed bits)
unfolding useful ends_in_ff IsStuffed
stuffs_packed bits = stuffs_from bits [] [] 8 refl (omega arith) tt
