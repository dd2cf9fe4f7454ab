-- The digits of a number in a text.
use Rattle.std.proofs.Common.{ℕ, ◌≡◌, ◌≢◌, ◌+◌, ◌*◌, ◌/◌, ◌%◌, ◌<◌, ◌≤◌, ◌^◌, ◌++◌, List, [], ◌∷◌}
use Rattle.std.proofs.Common.{length, drop, take, get_or}
use Rattle.std.proofs.Common.{refl, ap, sym, subst, ◌∙◌, arith, append_assoc, decimal}
use Rattle.std.proofs.lemmas.Fmt.{decimal_by_steps_wide, decimal_is_IsNumeral_wide}
use Rattle.std.proofs.Common.{inl, inr, add-one, drop-cons, suc, zero}
use Rattle.std.proofs.Math.ListN.{drop_of_length-le}
use Rattle.std.proofs.lemmas.Bool.{cases_lt}
use Rattle.std.proofs.lemmas.Fmt.{decimal_digit}
use Rattle.std.proofs.lemmas.Str.Parse.{digits_value-take-le}
use Rattle.std.proofs.Math.Seq.{take-append_seam}
use Rattle.std.proofs.lemmas.List.{append-nil}
use Rattle.std.specs.Str.Parse.{digits_value}
use Rattle.cert_text.proofs.Stands.{decimal_more}
use Rattle.cert_text.specs.Stands.{digits_before}

-- a number's text begins with its first digit, which is 0 for 0 alone
pub record Starts (n : ℕ) (ds : List ℕ) : Type 0 where
  pub some : 0 < length ds
  pub first : 0 < n → 48 < get_or ds 0 0

starts_more : (n : ℕ) (ds : List ℕ) (d : ℕ) → 10 ≤ n → Starts (n / 10) ds
    → Starts n (ds ++ (d ∷ []))
starts_more n [] d h s = absurd (omega (arith, s.some))
starts_more n (c ∷ ds) d h s = record { some = omega arith; first = λ p. s.first (omega arith) }

pub decimal_starts : (n : ℕ) → n < 10 ^ 64 → Starts n (decimal n)
decimal_starts = decimal_by_steps_wide Starts
    (λ n h. record { some = omega arith; first = λ p. omega arith })
    (λ n ds h s. starts_more n ds (48 + n % 10) h s)

-- two numbers of the same text are the same
pub decimal_same : (m n : ℕ) → m < 10 ^ 64 → n < 10 ^ 64 → decimal m ≡ decimal n → m ≡ n
decimal_same m n hm hn e =
    sym (decimal_is_IsNumeral_wide m hm).1 ∙ (ap (λ (ds : List ℕ). digits_value 10 ds) e
    ∙ (decimal_is_IsNumeral_wide n hn).1)

-- a digit, and what follows it
pub digits_head : (c : ℕ) (cs : List ℕ) → 48 ≤ c → c ≤ 57 → digits_before (c ∷ cs)
    ≡ c ∷ digits_before cs
digits_head c cs lo hi = grind arith

digits_other : (c : ℕ) (cs : List ℕ) → (48 ≤ c → c ≤ 57 → ⊥) → digits_before (c ∷ cs) ≡ []
digits_other c cs other = grind arith

pub digits_step : (x : List ℕ) (i c : ℕ) → i < length x → get_or x i 0 ≡ c → 48 ≤ c → c ≤ 57
    → digits_before (drop i x) ≡ c ∷ digits_before (drop (i + 1) x)
digits_step x i c h e lo hi =
    let d : drop i x ≡ c ∷ drop (i + 1) x = rw (← e) (rw add-one (drop-cons x i 0 h)) in
    ap digits_before d ∙ digits_head c (drop (i + 1) x) lo hi

pub digits_stop : (x : List ℕ) (i : ℕ) → i < length x → (48 ≤ get_or x i 0 → get_or x i 0 ≤ 57 → ⊥)
    → digits_before (drop i x) ≡ []
digits_stop x i h other = ap digits_before (drop-cons x i 0 h) ∙ digits_other (get_or x i 0)
    (drop (suc i) x) other

pub digits_past : (x : List ℕ) (i : ℕ) → length x ≤ i → digits_before (drop i x) ≡ []
digits_past x i h = ap digits_before (drop_of_length-le x h)

-- a digit more of a number
pub digits_more : (x : List ℕ) (at i value digit : ℕ) → at ≤ i → i < length x → get_or x i 0
    ≡ 48 + digit → digit < 10
    → (at < i → 0 < value) → (at ≡ i → value ≡ 0) → value * 10 + digit < 10 ^ 64
    → (at < i → digits_before (drop at x) ≡ decimal value ++ digits_before (drop i x))
    → digits_before (drop at x) ≡ decimal (value * 10 + digit) ++ digits_before (drop (i + 1) x)
digits_more x at i value digit a l e small pos none wide s =
    let step : digits_before (drop i x) ≡ (48 + digit) ∷ digits_before (drop (i + 1) x)
    = digits_step x i (48 + digit) l e (omega arith) (omega arith) in
    elim (cases_lt at i) [
      | inl h ↦ rw (decimal_more value digit (pos h) small wide, append_assoc)
          (s h ∙ ap (λ (y : List ℕ). decimal value ++ y) step)
      | inr h ↦
          let same : at ≡ i = omega arith in
          let zero : value ≡ 0 = none same in
          let sum : value * 10 + digit ≡ digit = omega arith in
          rw (sum, decimal_digit digit small, same) step
    ]

-- digits that no allowed number has
pub none_empty : (run : List ℕ) (n : ℕ) → n < 10 ^ 64 → run ≡ [] → run ≢ decimal n
none_empty run n wide e same =
    let some : 0 < length (decimal n) = (decimal_starts n wide).some in
    let none : length (decimal n) ≡ 0 = ap length (sym same ∙ e) in
    omega arith

pub none_other : (run : List ℕ) (value n : ℕ) → value < 10 ^ 64 → n < 10 ^ 64 → run ≡ decimal value
    → value ≢ n → run ≢ decimal n
none_other run value n hv hn e other same = other (decimal_same value n hv hn (sym e ∙ same))

pub none_after_zero : (run rest : List ℕ) (c n : ℕ) → n < 10 ^ 64 → run ≡ 48 ∷ c ∷ rest
    → run ≢ decimal n
none_after_zero run rest c zero wide e same = let x : 48 ∷ c ∷ rest ≡ 48 ∷ [] = sym e
    ∙ (same ∙ decimal_digit 0 (omega arith)) in cc
none_after_zero run rest c (suc n) wide e same =
    let first : 48 < get_or (decimal (suc n)) 0 0 = (decimal_starts (suc n) wide).first
    (omega arith) in
    let zero : 48 ≡ get_or (decimal (suc n)) 0 0 = ap (λ (y : List ℕ). get_or y 0 0)
    (sym e ∙ same) in
    omega arith

pub none_larger : (run rest : List ℕ) (value n : ℕ) → value < 10 ^ 64 → n < 10 ^ 64 → run
    ≡ decimal value ++ rest → n < value → run ≢ decimal n
none_larger run rest value n hv hn e less same =
    let front : take (length (decimal value)) (decimal value ++ rest) ≡ decimal value
    = take-append_seam (decimal value) rest in
    let le : digits_value 10 (take (length (decimal value)) (decimal value ++ rest)) ≤ digits_value
    10 (decimal value ++ rest)
    = digits_value-take-le 10 (decimal value ++ rest) (length (decimal value)) (omega arith) in
    let small : digits_value 10 (decimal value) ≤ digits_value 10 (decimal n)
    = subst (λ (y : List ℕ). digits_value 10 (decimal value) ≤ digits_value 10 y) (sym e ∙ same)
    (rw front at le) in
    let v : digits_value 10 (decimal value) ≡ value = (decimal_is_IsNumeral_wide value hv).1 in
    let w : digits_value 10 (decimal n) ≡ n = (decimal_is_IsNumeral_wide n hn).1 in
    omega arith

pub none_after_zero_at : (x run : List ℕ) (end i value n : ℕ) → n < 10 ^ 64 → end ≡ i → value ≡ 0
    → run ≡ decimal value ++ digits_before (drop end x) → i < length x → 48 ≤ get_or x i 0
    → get_or x i 0 ≤ 57 → run ≢ decimal n
none_after_zero_at x run end i value n wide here nought e h lo hi =
    let step : digits_before (drop i x) ≡ get_or x i 0 ∷ digits_before (drop (i + 1) x)
    = digits_step x i (get_or x i 0) h refl lo hi in
    let digit : decimal 0 ≡ 48 ∷ [] = decimal_digit 0 (omega arith) in
    none_after_zero run (digits_before (drop (i + 1) x)) (get_or x i 0) n wide
    (e ∙ (ap (λ (k : ℕ). decimal value ++ digits_before (drop k x)) here
    ∙ (ap (λ (v : ℕ). decimal v ++ digits_before (drop i x)) nought
    ∙ (ap (λ (ds : List ℕ). ds ++ digits_before (drop i x)) digit
    ∙ ap (λ (ds : List ℕ). 48 ∷ ds) step))))

-- all digits that stand here are those of another number, or there are none
pub none_ended : (x run : List ℕ) (at end value n : ℕ) → n < 10 ^ 64 → value < 10 ^ 64
    → digits_before (drop end x) ≡ []
    → run ≡ decimal value ++ digits_before (drop end x) → value ≢ n → run ≢ decimal n
none_ended x run at end value n wide small stop e other =
    none_other run value n small wide
    (e ∙ (ap (λ (ds : List ℕ). decimal value ++ ds) stop ∙ append-nil (decimal value))) other

pub none_begun : (x run : List ℕ) (at end n : ℕ) → n < 10 ^ 64 → digits_before (drop end x) ≡ []
    → end ≡ at
    → run ≡ digits_before (drop at x) → run ≢ decimal n
none_begun x run at end n wide stop same e =
    none_empty run n wide (e ∙ (ap (λ (k : ℕ). digits_before (drop k x)) (sym same) ∙ stop))
