-- How far parts and bytes go on together.
use Rattle.std.proofs.Common.{ℕ, ◌≡◌, ◌≢◌, ◌+◌, ◌<◌, ◌≤◌, ◌++◌, ◌==◌, List, [], ◌∷◌, length}
use Rattle.std.proofs.Common.{drop, take, get_or}
use Rattle.std.proofs.Common.{refl, ap, sym, subst, ◌∙◌, arith, drop-cons, decimal}
use Rattle.std.proofs.Common.{zero, suc, inl, inr, bytes_eq}
use Rattle.std.proofs.Common.{length-append, length-drop, add-one, ◌-◌, ◌&&◌, nat_le, ap₂}
use Rattle.std.proofs.Math.ListN.{drop_of_length-le}
use Rattle.std.proofs.lemmas.Bool.{cases_lt, cond-true, cond-false, eq-eqb, ne_eqb}
use Rattle.std.proofs.lemmas.Bool.{false_from_ne_true, cases_eq, cases_Bool}
use Rattle.std.proofs.lemmas.Slice.Eq.{bytes_eq-Decides}
use Rattle.cert_text.specs.Stands.{Stands, digits_before}
use Rattle.cert_text.specs.Forms.{Part, Byte, Number, word, agreed, spelled}

-- a byte
pub agreed_same : (b : ℕ) (parts : List Part) (bytes : List ℕ) → agreed (Byte b ∷ parts) (b ∷ bytes)
    ≡ 1 + agreed parts bytes
agreed_same b parts bytes = cond-true (b == b) (1 + agreed parts bytes) 0 (eq-eqb b b refl)

pub agreed_other : (b c : ℕ) (parts : List Part) (bytes : List ℕ) → b ≢ c → agreed (Byte b ∷ parts)
    (c ∷ bytes) ≡ 0
agreed_other b c parts bytes other = cond-false (b == c) (1 + agreed parts bytes) 0
    (ne_eqb b c other)

-- a number
pub agreed_number : (n : ℕ) (parts : List Part) (bytes : List ℕ) → digits_before bytes ≡ decimal n
    → agreed (Number n ∷ parts) bytes ≡ length (decimal n) + agreed parts
    (drop (length (decimal n)) bytes)
agreed_number n parts bytes e =
    cond-true (bytes_eq (digits_before bytes) (decimal n)) (length (decimal n) + agreed parts
    (drop (length (decimal n)) bytes)) 0
    ((bytes_eq-Decides (digits_before bytes) (decimal n)).1 e)

pub agreed_no_number : (n : ℕ) (parts : List Part) (bytes : List ℕ) → digits_before bytes ≢ decimal
    n → agreed (Number n ∷ parts) bytes ≡ 0
agreed_no_number n parts bytes other =
    cond-false (bytes_eq (digits_before bytes) (decimal n)) (length (decimal n) + agreed parts
    (drop (length (decimal n)) bytes)) 0
    (false_from_ne_true (bytes_eq (digits_before bytes) (decimal n))
    (λ t. other ((bytes_eq-Decides (digits_before bytes) (decimal n)).0 t)))

-- a whole word
pub agreed_word : (w : List ℕ) (more : List Part) (rest : List ℕ) → agreed (word w ++ more)
    (w ++ rest) ≡ length w + agreed more rest
agreed_word [] more rest = omega arith
agreed_word (b ∷ w) more rest =
    let one : agreed (Byte b ∷ (word w ++ more)) (b ∷ (w ++ rest)) ≡ 1 + agreed (word w ++ more)
    (w ++ rest) = agreed_same b (word w ++ more) (w ++ rest) in
    let all : agreed (word w ++ more) (w ++ rest) ≡ length w + agreed more rest = agreed_word w more
    rest in
    one ∙ omega arith

-- a word whose first k bytes alone are there
pub agreed_part : (w : List ℕ) (k : ℕ) (rest : List ℕ) (more : List Part) → k < length w
    → (0 < length rest → get_or w k 0 ≢ get_or rest 0 0) → agreed (word w ++ more)
    (take k w ++ rest) ≡ k
agreed_part [] k rest more h other = absurd (omega arith)
agreed_part (b ∷ w) zero [] more h other = refl
agreed_part (b ∷ w) zero (c ∷ rest) more h other = agreed_other b c (word w ++ more) rest
    (other (omega arith))
agreed_part (b ∷ w) (suc k) rest more h other =
    let one : agreed (Byte b ∷ (word w ++ more)) (b ∷ (take k w ++ rest))
    ≡ 1 + agreed (word w ++ more) (take k w ++ rest)
    = agreed_same b (word w ++ more) (take k w ++ rest) in
    let all : agreed (word w ++ more) (take k w ++ rest) ≡ k = agreed_part w k rest more
    (omega arith) other in
    one ∙ omega arith

-- a byte that isn't the next one of a text
pub agreed_none : (x : List ℕ) (at b : ℕ) (parts : List Part) → (at < length x → b ≢ get_or x at 0)
    → agreed (Byte b ∷ parts) (drop at x) ≡ 0
agreed_none x at b parts other = elim (cases_lt at (length x)) [
  | inl h ↦ ap (agreed (Byte b ∷ parts)) (drop-cons x at 0 h) ∙ agreed_other b (get_or x at 0) parts
      (drop (suc at) x) (other h)
  | inr h ↦ ap (agreed (Byte b ∷ parts)) (drop_of_length-le x h)
]

-- of parts that go on as all the bytes do, the bytes are the text
pub digits_front : (bytes : List ℕ) → digits_before bytes ++ drop (length (digits_before bytes))
    bytes ≡ bytes
digits_front [] = refl
digits_front (b ∷ bytes) =
    let test = nat_le 48 b && nat_le b 57 in
    elim (cases_Bool test) [
      | inl t ↦ subst (λ (ds : List ℕ). ds ++ drop (length ds) (b ∷ bytes) ≡ b ∷ bytes)
          (sym (cond-true test (b ∷ digits_before bytes) [] t))
          (ap (λ (ys : List ℕ). b ∷ ys) (digits_front bytes))
      | inr f ↦ subst (λ (ds : List ℕ). ds ++ drop (length ds) (b ∷ bytes) ≡ b ∷ bytes)
          (sym (cond-false test (b ∷ digits_before bytes) [] f)) refl
    ]

pub agreed_whole : (parts : List Part) (bytes : List ℕ) → agreed parts bytes ≡ length bytes + 1
    → bytes ≡ spelled parts
agreed_whole [] [] e = refl
agreed_whole [] (c ∷ bytes) e = absurd (omega arith)
agreed_whole (Byte b ∷ parts) [] e = absurd (omega arith)
agreed_whole (Byte b ∷ parts) (c ∷ bytes) e = elim (cases_eq b c) [
  | inl same ↦
      let one : agreed (Byte b ∷ parts) (b ∷ bytes) ≡ 1 + agreed parts bytes = agreed_same b parts
      bytes in
      let here : agreed (Byte b ∷ parts) (b ∷ bytes) ≡ length (c ∷ bytes) + 1
      = subst (λ (k : ℕ). agreed (Byte b ∷ parts) (k ∷ bytes) ≡ length (c ∷ bytes) + 1) (sym same)
      e in
      let rest : agreed parts bytes ≡ length bytes + 1 = omega arith in
      ap₂ (λ (k : ℕ) (ys : List ℕ). k ∷ ys) (sym same) (agreed_whole parts bytes rest)
  | inr other ↦
      let none : agreed (Byte b ∷ parts) (c ∷ bytes) ≡ 0 = agreed_other b c parts bytes other in
      absurd (omega arith)
]
agreed_whole (Number n ∷ parts) bytes e
    = elim (cases_Bool (bytes_eq (digits_before bytes) (decimal n))) [
      | inl t ↦
          let same : digits_before bytes ≡ decimal n
          = (bytes_eq-Decides (digits_before bytes) (decimal n)).0 t in
          let one : agreed (Number n ∷ parts) bytes ≡ length (decimal n) + agreed parts
          (drop (length (decimal n)) bytes)
          = agreed_number n parts bytes same in
          let front : decimal n ++ drop (length (decimal n)) bytes ≡ bytes
          = subst (λ (ds : List ℕ). ds ++ drop (length ds) bytes ≡ bytes) same
          (digits_front bytes) in
          let long : length (decimal n) + length (drop (length (decimal n)) bytes) ≡ length bytes
          = sym (length-append (decimal n) (drop (length (decimal n)) bytes)) ∙ ap length front in
          let rest : agreed parts (drop (length (decimal n)) bytes)
          ≡ length (drop (length (decimal n)) bytes) + 1 = omega arith in
          sym front ∙ ap (λ (ys : List ℕ). decimal n ++ ys)
          (agreed_whole parts (drop (length (decimal n)) bytes) rest)
      | inr f ↦
          let none : agreed (Number n ∷ parts) bytes ≡ 0
          = cond-false (bytes_eq (digits_before bytes) (decimal n))
          (length (decimal n) + agreed parts
          (drop (length (decimal n)) bytes)) 0 f in
          absurd (omega arith)
    ]

-- a part's length
pub stands_length : (x s : List ℕ) (at end : ℕ) → at ≤ length x → Stands x at s end → end
    ≡ at + length s
stands_length x s at end h st =
    let e : length x - at ≡ length s + (length x - end)
    = sym (length-drop at x)
    ∙ (ap length st.same ∙ (length-append s (drop end x) ∙ ap (λ (k : ℕ). length s + k)
    (length-drop end x))) in
    let within : end ≤ length x = st.within in
    omega arith

-- a byte that is the next one of a text
pub agreed_first : (x : List ℕ) (at b : ℕ) (parts : List Part) → at < length x → get_or x at 0 ≡ b
    → agreed (Byte b ∷ parts) (drop at x) ≡ 1 + agreed parts (drop (at + 1) x)
agreed_first x at b parts h e =
    let d : drop at x ≡ b ∷ drop (at + 1) x = rw (← e) (rw add-one (drop-cons x at 0 h)) in
    ap (agreed (Byte b ∷ parts)) d ∙ agreed_same b parts (drop (at + 1) x)
