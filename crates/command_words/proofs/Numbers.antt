-- Numbers in decimal digits, with no sign.
use Rattle.std.proofs.Common.{◌≡◌, ◌<◌, ◌^◌, ℕ, List, [], ◌∷◌, Result, Ok, Err, slice_index}
use Rattle.std.proofs.Common.{arith, subst}
use Rattle.std.specs.Result.{OkIff}
use Rattle.std.specs.Str.Parse.{IsNumeral, ParsesUnsigned, digits_value}
use Rattle.std.proofs.lemmas.Str.Parse.{digit_from_value, without_leading_plus_none}

-- a word that begins with a plus is no number
pub no_plus : (word : List ℕ) → slice_index word 0 ≡ 43 → IsNumeral 10 word → ⊥
no_plus [] plus number = omega (arith, number.0)
no_plus (c ∷ cs) plus number =
    let digit = digit_from_value c number.1.0 in
    absurd (omega (arith, digit, plus))

-- one that doesn't is parsed as the number that its digits write
pub parsed_plain : {E : Type 0} (word : List ℕ) (r : Result ℕ E) → (slice_index word 0 ≡ 43 → ⊥) →
    ParsesUnsigned 32 10 word r →
    OkIff r (IsNumeral 10 word × (digits_value 10 word < 2 ^ 32)) (digits_value 10 word)
parsed_plain word r plain parses =
    subst (λ (ds : List ℕ). OkIff r (IsNumeral 10 ds × (digits_value 10 ds < 2 ^ 32))
    (digits_value 10 ds)) (without_leading_plus_none word plain) parses

pub parsed_number : {E : Type 0} (word : List ℕ) (r : Result ℕ E) (n : ℕ) →
    (slice_index word 0 ≡ 43 → ⊥) → ParsesUnsigned 32 10 word r → r ≡ Ok n →
    IsNumeral 10 word × (n ≡ digits_value 10 word)
parsed_number {E} word r n plain parses is =
    let here = subst (λ (s : Result ℕ E).
    OkIff s (IsNumeral 10 word × (digits_value 10 word < 2 ^ 32)) (digits_value 10 word)) is
    (parsed_plain word r plain parses) in
    (here.0.0, here.1)

pub parsed_none : {E : Type 0} (word : List ℕ) (r : Result ℕ E) (e : E) →
    (slice_index word 0 ≡ 43 → ⊥) → ParsesUnsigned 32 10 word r → r ≡ Err e →
    IsNumeral 10 word → digits_value 10 word < 2 ^ 32 → ⊥
parsed_none {E} word r e plain parses is number fits =
    let here = subst (λ (s : Result ℕ E).
    OkIff s (IsNumeral 10 word × (digits_value 10 word < 2 ^ 32)) (digits_value 10 word)) is
    (parsed_plain word r plain parses) in
    here (number, fits)
