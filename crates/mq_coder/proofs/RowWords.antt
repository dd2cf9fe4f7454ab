-- The words of the table's rows.
use Rattle.std.proofs.Common.{ℕ, ◌+◌, ◌*◌, ◌/◌, ◌%◌, ◌<◌, ◌≤◌, ◌≡◌, ◌⊎◌, if◌then◌else◌}
use Rattle.std.proofs.Common.{bit_and, Bool, true, false, not, nat_eq, ◌&&◌, ◌==◌, List}
use Rattle.std.proofs.Common.{get_or, map, arith, refl, sym, ap, ◌∙◌, subst, inl, inr, zero, suc}
use Rattle.std.specs.List.{range_with_len}
use Rattle.std.proofs.lemmas.List.FromFn.{get_or-map-range_with_len}
use Rattle.std.proofs.lemmas.Bool.{and_parts, eqb-true, cases_lt}
use Rattle.std.proofs.lemmas.Nat.{and_mask}
use Rattle.mq_coder.specs.States.{row, state_table, after_symbol}
use Rattle.mq_coder.specs.Rows.{bit_value, number_of, numbered, row_word, context_below, context_of}
use Rattle.mq_coder.specs.Rows.{IsRow}
use Rattle.mq_coder.proofs.Rows.{row_in_range}

-- the fields of the row of a context
pub record IsRowOf (context : ℕ × Bool) (word : ℕ) : Type 0 where
  pub qe : word % 0x8000 ≡ (row context.0).qe
  pub mps : word / 0x8000 % 2 ≡ bit_value context.1
  pub after_mps : word / 0x10000 % 128 ≡ number_of (after_symbol context context.1)
  pub after_lps : word / 0x1000000 ≡ number_of (after_symbol context (not context.1))
  pub in_table : context.0 < 47

bit_below : (b : Bool) → bit_value b ≤ 1
bit_below true = omega arith
bit_below false = omega arith

number_below : (c : ℕ × Bool) → c.0 < 47 → number_of c < 94
number_below c h = let b = bit_below c.1 in omega arith

next_in_table : (state : ℕ) (mps bit : Bool) → state < 47 → (after_symbol (state, mps) bit).0 < 47
unfolding after_symbol
next_in_table state true true h = (row_in_range state h).more_next
next_in_table state false false h = (row_in_range state h).more_next
next_in_table state true false h = (row_in_range state h).less_next
next_in_table state false true h = (row_in_range state h).less_next

pub row_fields : (c : ℕ × Bool) → c.0 < 47 → IsRowOf c (row_word c)
unfolding row_word
row_fields c h =
    let range = row_in_range c.0 h in
    let qe = range.less in
    let b = bit_below c.1 in
    let mps = number_below (after_symbol c c.1) (next_in_table c.0 c.1 c.1 h) in
    let lps = number_below (after_symbol c (not c.1)) (next_in_table c.0 c.1 (not c.1) h) in
    record {
      qe = omega arith;
      mps = omega arith;
      after_mps = omega arith;
      after_lps = omega arith;
      in_table = h;
    }

same_bit : Bool → Bool → Bool
same_bit true b = b
same_bit false b = not b

bit_same : (a b : Bool) → same_bit a b ≡ true → a ≡ b
unfolding same_bit
bit_same true true h = refl
bit_same false false h = refl
bit_same true false h = cc
bit_same false true h = cc

-- each row's word is found as the row of its own context
abbrev is_found : ℕ → Bool
is_found n = (context_of (row_word (numbered n))).0 == n / 2 && same_bit
    (context_of (row_word (numbered n))).1 (n % 2 == 1)

all_found : ℕ → Bool
all_found zero = true
all_found (suc n) = is_found n && all_found n

found_below : all_found 94 ≡ true
unfolding all_found row_word context_below state_table row after_symbol same_bit
found_below = refl

found_at : (k n : ℕ) → n < k → all_found k ≡ true → is_found n ≡ true
unfolding all_found
found_at zero n h all = absurd (omega arith)
found_at (suc k) n h all =
    let parts = and_parts (is_found k) (all_found k) all in
    elim (cases_lt n k) [
      | inl less ↦ found_at k n less parts.1
      | inr ge ↦ let e : n ≡ k = omega arith in rw e parts.0
    ]

same_pair : (a b : ℕ × Bool) → a.0 ≡ b.0 → a.1 ≡ b.1 → a ≡ b
same_pair (a, x) (b, y) e f = cc

pub found : (n : ℕ) → n < 94 → context_of (row_word (numbered n)) ≡ numbered n
found n h =
    let t : is_found n ≡ true = found_at 94 n h found_below in
    let parts = and_parts _ _ t in
    same_pair (context_of (row_word (numbered n))) (numbered n) (eqb-true _ _ parts.0)
    (bit_same _ _ parts.1)

pub is_row : (n : ℕ) → n < 94 → IsRow (row_word (numbered n))
is_row n h =
    let e = found n h in
    record { in_table = rw e (omega arith); is_row = rw e refl }

abbrev pub words : List ℕ
words = map (λ (n : ℕ). row_word (numbered n)) (range_with_len 0 94)

pub word_at : (n : ℕ) → n < 94 → get_or words n 0 ≡ row_word (numbered n)
word_at n h = get_or-map-range_with_len (λ (k : ℕ). row_word (numbered k)) 0 94 n n 0 h
    (omega arith)

pub numbered_of : (c : ℕ × Bool) → numbered (number_of c) ≡ c
numbered_of (s, true) =
    let odd : (2 * s + 1) % 2 ≡ 1 = omega arith in
    same_pair _ _ (omega arith) (rw odd refl)
numbered_of (s, false) =
    let even : (2 * s + 0) % 2 ≡ 0 = omega arith in
    same_pair _ _ (omega arith) (rw even refl)

-- what a word says of the context whose row it is
pub fields_of : (w : ℕ) (context : ℕ × Bool) → IsRow w → context_of w ≡ context → IsRowOf context w
fields_of w context h e =
    let own : IsRowOf (context_of w) (row_word (context_of w)) =
    row_fields (context_of w) h.in_table in
    let at : IsRowOf (context_of w) w =
    subst (λ (v : ℕ). IsRowOf (context_of w) v) (sym h.is_row) own in
    subst (λ (c : ℕ × Bool). IsRowOf c w) e at

pub bit_is : (b : Bool) → nat_eq (bit_value b) 1 ≡ b
bit_is true = refl
bit_is false = refl

-- the context that follows a symbol, by its number
pub next_number : (c : ℕ × Bool) (bit : Bool) → c.0 < 47 → number_of (after_symbol c bit) < 94
next_number c bit h = number_below (after_symbol c bit) (next_in_table c.0 c.1 bit h)

-- the row that follows, by its place among the rows
pub record IsNext (context : ℕ × Bool) (is_lps : Bool) (place : ℕ) : Type 0 where
  pub below : place < 94
  pub is_next : numbered place ≡ after_symbol context (if is_lps then not context.1 else context.1)

pub next_place : (w : ℕ) (context : ℕ × Bool) (is_lps : Bool) (place : ℕ) → IsRow w →
    context_of w ≡ context
    → ((is_lps ≡ true) × (place ≡ w / 0x1000000)) ⊎
    ((is_lps ≡ false) × (place ≡ bit_and (w / 0x10000) 127))
    → IsNext context is_lps place
next_place w context is_lps place h e (inl (lps, at)) =
    let f = fields_of w context h e in
    let next : ℕ × Bool = after_symbol context (not context.1) in
    let is : place ≡ number_of next = at ∙ f.after_lps in
    let low = next_number context (not context.1) f.in_table in
    rw lps (record { below = omega arith; is_next = ap numbered is ∙ numbered_of next })
next_place w context is_lps place h e (inr (mps, at)) =
    let f = fields_of w context h e in
    let next : ℕ × Bool = after_symbol context context.1 in
    let is : place ≡ number_of next = at ∙ (and_mask (w / 0x10000) 7 ∙ f.after_mps) in
    let low = next_number context context.1 f.in_table in
    rw mps (record { below = omega arith; is_next = ap numbered is ∙ numbered_of next })
