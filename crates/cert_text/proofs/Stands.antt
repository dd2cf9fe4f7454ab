-- Parts of a text, one after the other.
use Rattle.std.proofs.Common.{ℕ, ◌≡◌, ◌+◌, ◌*◌, ◌/◌, ◌%◌, ◌<◌, ◌≤◌, ◌^◌, ◌++◌, List, [], ◌∷◌}
use Rattle.std.proofs.Common.{length, drop, take, get_or}
use Rattle.std.proofs.Common.{ap, sym, ◌∙◌, arith, add-one, append_assoc, drop-cons, decimal}
use Rattle.std.proofs.lemmas.Fmt.{decimal_step_wide, decimal_digit}
use Rattle.std.proofs.lemmas.List.{take_more}
use Rattle.std.proofs.lemmas.Bool.{cases_lt}
use Rattle.std.proofs.Common.{inl, inr}
use Rattle.std.specs.Prelude.{codes}
use Rattle.cert_text.specs.Stands.{Stands}

-- one part after another
pub stands_append : {x s t : List ℕ} {i j k : ℕ} → Stands x i s j → Stands x j t k
    → Stands x i (s ++ t) k
stands_append {x} {s} {t} {i} {j} {k} a b =
    record {
      within = b.within;
      same = a.same ∙ (ap (λ (y : List ℕ). s ++ y) b.same
          ∙ sym (append_assoc s t (drop k x)));
    }

-- a byte
pub stands_byte : (x : List ℕ) (i b : ℕ) → i < length x → get_or x i 0 ≡ b → Stands x i (b ∷ [])
    (i + 1)
stands_byte x i b h e =
    record { within = omega arith; same = rw (← e) (rw add-one (drop-cons x i 0 h)) }

-- a byte after a part
pub stands_push : {x s : List ℕ} {i j : ℕ} (b : ℕ) → Stands x i s j → j < length x → get_or x j 0
    ≡ b → Stands x i (s ++ (b ∷ [])) (j + 1)
stands_push {x} {s} {i} {j} b a h e = stands_append a (stands_byte x j b h e)

-- a digit more of a number that isn't 0
pub decimal_more : (n d : ℕ) → 0 < n → d < 10 → n * 10 + d < 10 ^ 64 → decimal (n * 10 + d)
    ≡ decimal n ++ ((48 + d) ∷ [])
decimal_more n d pos small wide =
    let q : (n * 10 + d) / 10 ≡ n = omega arith in
    let r : (n * 10 + d) % 10 ≡ d = omega arith in
    let s : decimal (n * 10 + d) ≡ decimal ((n * 10 + d) / 10) ++ ((48 + (n * 10 + d) % 10) ∷ [])
    = decimal_step_wide (n * 10 + d) (omega arith) wide in
    rw (q, r) at s

-- a byte more of a word
pub word_more : (x w : List ℕ) (at k end : ℕ) → Stands x at (take k w) end → k < length w
    → end < length x → get_or x end 0 ≡ get_or w k 0 → Stands x at (take (k + 1) w) (end + 1)
word_more x w at k end a h l e = rw (take_more w k 0 h) (stands_push (get_or w k 0) a l e)

-- a digit more of a number
pub number_more : (x : List ℕ) (at i value digit : ℕ) → at ≤ i → i < length x → get_or x i 0
    ≡ 48 + digit → digit < 10
    → (at < i → 0 < value) → (at ≡ i → value ≡ 0) → value * 10 + digit < 10 ^ 64
    → (at < i → Stands x at (decimal value) i) → Stands x at (decimal (value * 10 + digit)) (i + 1)
number_more x at i value digit a l e small pos none wide s =
    elim (cases_lt at i) [
      | inl h ↦ rw (decimal_more value digit (pos h) small wide) (stands_push (48 + digit) (s h) l
          e)
      | inr h ↦
          let same : at ≡ i = omega arith in
          let zero : value ≡ 0 = none same in
          let sum : value * 10 + digit ≡ digit = omega arith in
          rw (sum, decimal_digit digit small, same) (stands_byte x i (48 + digit) l e)
    ]

-- a line's text, part by part
pub line_spelled : (name profile width height budgets sums steps : List ℕ)
    → codes "ok " ++ (name
    ++ (codes " " ++ (profile ++ ((codes " " ++ (width ++ (codes "x" ++ height)))
    ++ (budgets ++ (sums ++ (steps ++ codes "\n")))))))
    ≡ (codes "ok" ++ (codes " "
    ++ (name ++ (codes " " ++ (profile ++ (codes " " ++ (width ++ (codes "x" ++ height))))))))
    ++ (budgets ++ (sums ++ (steps ++ codes "\n")))
line_spelled name profile width height budgets sums steps = simp append_assoc
