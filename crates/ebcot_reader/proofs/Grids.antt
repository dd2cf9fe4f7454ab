-- The grid of what is known.
use Rattle.std.proofs.Common.{ℕ, suc, ◌+◌, ◌-◌, ◌*◌, ◌/◌, ◌%◌, ◌^◌, ◌<◌, ◌≤◌, ◌≡◌, inl, inr, Bool}
use Rattle.std.proofs.Common.{true, false, List, length, get_or, set, sym, ap, ◌∙◌}
use Rattle.std.proofs.Common.{subst, arith}
use Rattle.std.specs.Int.{bit_at}
use Rattle.std.specs.Int.RustNames.{bit_or}
use mir.Val.{bool_byte}
use Rattle.std.proofs.Math.Pow.{pow-lt}
use Rattle.std.proofs.Math.Nat.{add-mul, mul_assoc}
use Rattle.std.specs.Int.Bits.{or_zero_r}
use Rattle.std.proofs.lemmas.Bool.{cases_eq, ltb-false}
use Rattle.std.proofs.lemmas.List.{get_or-set_same, get_or-set_other, length-set}
use Rattle.std.proofs.lemmas.Nat.{mod_below, div-add-mod', or_disjoint, pow-add}
use Rattle.std.proofs.lemmas.Nat.Bits.{and_pow, bit_at_cat_low, bit_at-zero}
use Rattle.ebcot_contexts.specs.Cells.{Cell, fresh, cell_at, number, is_significant, learn}
use Rattle.ebcot_contexts.specs.Cells.{become_significant}
use Rattle.ebcot_reader.specs.Reading.{word_of, AreKnown}

-- places have words of their own
index_differs : (w i k : ℕ) → 0 < w → w ≤ 32 → (i ≡ k → ⊥) →
    32 * (i / w) + i % w ≡ 32 * (k / w) + k % w → ⊥
index_differs w i k some narrow other e =
    let xi = mod_below i w some in
    let xk = mod_below k w some in
    let rows : i / w ≡ k / w = omega arith in
    let columns : i % w ≡ k % w = omega arith in
    other (sym (div-add-mod' i w) ∙ ((λ j. rows j * w + columns j) ∙ div-add-mod' k w))

pub known_set : (w i k v : ℕ) (x : Cell) (cells : List Cell) (grid : List ℕ) → 0 < w → w ≤ 32
    → k ≡ 32 * (i / w) + i % w → k < 1024 → v ≡ word_of x → i < length cells
    → AreKnown w cells grid → AreKnown w (set cells i x) (set grid k v)
known_set w i k v x cells grid some narrow at room is inside h =
    let long = h.long in
    record {
      long = length-set grid k v ∙ long;
      each = λ m within. elim (cases_eq m i) [
        | inl same ↦ subst (λ (q : ℕ). get_or (set grid k v) (32 * (q / w) + q % w) 0
            ≡ word_of (cell_at (set cells i x) q)) (sym same)
            (ap (λ (q : ℕ). get_or (set grid k v) q 0) (sym at)
            ∙ (get_or-set_same grid k v 0 (omega arith)
            ∙ (is ∙ ap word_of (sym (get_or-set_same cells i x (fresh 0) inside)))))
        | inr other ↦
            let longer = length-set cells i x in
            get_or-set_other grid k (32 * (m / w) + m % w) v 0
            (λ e. index_differs w m i some narrow other (e ∙ at))
            ∙ (h.each m (omega arith)
            ∙ ap word_of (sym (get_or-set_other cells i m x (fresh 0) other)))
      ];
    }

-- a cell that changes, but not its word
pub known_kept : (w i : ℕ) (x : Cell) (cells : List Cell) (grid : List ℕ) → i < length cells
    → word_of x ≡ word_of (cell_at cells i) → AreKnown w cells grid
    → AreKnown w (set cells i x) grid
known_kept w i x cells grid inside is h =
    record {
      long = h.long;
      each = λ m within.
          let longer = length-set cells i x in
          h.each m (omega arith) ∙ elim (cases_eq m i) [
            | inl same ↦ subst (λ (q : ℕ). word_of (cell_at cells q)
                ≡ word_of (cell_at (set cells i x) q)) (sym same)
                (sym is ∙ ap word_of (sym (get_or-set_same cells i x (fresh 0) inside)))
            | inr other ↦ ap word_of (sym (get_or-set_other cells i m x (fresh 0) other))
          ];
    }

none_known : (c : Cell) → is_significant c ≡ false → c.magnitude ≡ 0
none_known c none = let few = ltb-false 0 c.magnitude none in omega arith

-- The words of cells that learn a bit.

no_times : (x : ℕ) → 0 * x ≡ 0
no_times x = omega arith

pub zero_word : (p : ℕ) (c : Cell) → is_significant c ≡ false →
    word_of (learn p false c) ≡ word_of c
zero_word p c none =
    let m = none_known c none in
    let no_bits : (2 * c.magnitude + 0) * 2 ^ p ≡ 0 =
    ap (λ (v : ℕ). (2 * v + 0) * 2 ^ p) m ∙ no_times (2 ^ p) in
    let none_before : c.magnitude * 2 ^ c.unknown ≡ 0 =
    ap (λ (v : ℕ). v * 2 ^ c.unknown) m ∙ no_times (2 ^ c.unknown) in
    ap (λ (v : ℕ). 0x80000000 * number c.negative + v) (no_bits ∙ sym none_before)

pub new_word : (p : ℕ) (negative : Bool) (c : Cell) → is_significant c ≡ false →
    0x80000000 * number negative + 2 ^ p ≡ word_of (become_significant p negative c)
new_word p negative c none =
    let m = none_known c none in
    let one : 2 ^ p ≡ (2 * 0 + 1) * 2 ^ p = omega arith in
    ap (λ (v : ℕ). 0x80000000 * number negative + v) one
    ∙ sym (ap (λ (v : ℕ). 0x80000000 * number negative + (2 * v + 1) * 2 ^ p) m)

-- 2 ^ 31 is a multiple of 2 ^ (p + 1)
high_multiple : (p : ℕ) → p < 31 → 0x80000000 ≡ 2 ^ (30 - p) * 2 ^ suc p
high_multiple p few =
    let e : 31 ≡ (30 - p) + suc p = omega arith in
    ap (λ (v : ℕ). 2 ^ v) e ∙ pow-add 2 (30 - p) (suc p)

both_multiples : (x y m : ℕ) (b : Bool) →
    x * y * number b + m * y ≡ (number b * x + m) * y
both_multiples x y m true = let e = add-mul x m y in omega (arith, e)
both_multiples x y m false = omega arith

word_multiple : (p m : ℕ) (b : Bool) → p < 31
    → 0x80000000 * number b + m * 2 ^ suc p ≡ (number b * 2 ^ (30 - p) + m) * 2 ^ suc p
word_multiple p m b few =
    ap (λ (v : ℕ). v * number b + m * 2 ^ suc p) (high_multiple p few)
    ∙ both_multiples (2 ^ (30 - p)) (2 ^ suc p) m b

no_low_bit : (q p : ℕ) → bit_at (q * 2 ^ suc p) p ≡ 0
no_low_bit q p =
    let e : q * 2 ^ suc p ≡ q * 2 ^ suc p + 0 = omega arith in
    ap (λ (v : ℕ). bit_at v p) e
    ∙ (bit_at_cat_low q (suc p) 0 p (omega arith) ∙ bit_at-zero p)

or_low_bit : (q p : ℕ) → bit_or (q * 2 ^ suc p) (2 ^ p) ≡ q * 2 ^ suc p + 2 ^ p
or_low_bit q p =
    or_disjoint (q * 2 ^ suc p) (2 ^ p)
    (and_pow (q * 2 ^ suc p) p ∙ (ap (λ (v : ℕ). v * 2 ^ p) (no_low_bit q p) ∙ no_times (2 ^ p)))

doubled : (m p : ℕ) → m * 2 ^ suc p ≡ 2 * (m * 2 ^ p)
doubled m p =
    let e : 2 ^ suc p ≡ 2 ^ p * 2 = omega arith in
    ap (λ (v : ℕ). m * v) e ∙ (sym (mul_assoc m (2 ^ p) 2) ∙ omega arith)

joined : (m p : ℕ) (b : Bool) → m * 2 ^ suc p + number b * 2 ^ p ≡ (2 * m + number b) * 2 ^ p
joined m p b =
    let e = doubled m p in
    let f = add-mul (2 * m) (number b) (2 ^ p) in
    let g : 2 * m * 2 ^ p ≡ 2 * (m * 2 ^ p) = mul_assoc 2 m (2 ^ p) in
    omega (arith, e, f, g)

-- a significant place's word with its bit of plane p
pub refined_word : (p old : ℕ) (b : Bool) (c : Cell) → p < 31 → c.unknown ≡ suc p
    → old ≡ word_of c → bit_or old (number b * 2 ^ p) ≡ word_of (learn p b c)
refined_word p old true c few open_place is =
    let n : Bool = c.negative in
    let m : ℕ = c.magnitude in
    let q : ℕ = number n * 2 ^ (30 - p) + m in
    let old_is : old ≡ q * 2 ^ suc p =
    is ∙ (ap (λ (v : ℕ). 0x80000000 * number n + m * 2 ^ v) open_place ∙ word_multiple p m n few) in
    let one : 1 * 2 ^ p ≡ 2 ^ p = omega arith in
    let e = or_low_bit q p in
    let f = word_multiple p m n few in
    let g = joined m p true in
    (λ k. bit_or (old_is k) (one k)) ∙ omega (arith, e, f, g)
refined_word p old false c few open_place is =
    let n : Bool = c.negative in
    let m : ℕ = c.magnitude in
    let g = joined m p false in
    ap (bit_or old) (no_times (2 ^ p)) ∙
    (or_zero_r old ∙ (is ∙ (ap (λ (v : ℕ). 0x80000000 * number n + m * 2 ^ v) open_place
    ∙ omega (arith, g))))

-- the word of a place that becomes significant, as it is set
as_number : (b : Bool) (m : ℕ) → m ≡ bool_byte b → m ≡ number b
as_number true m e = e
as_number false m e = e

sign_number : (p m : ℕ) (b : Bool) → p < 31 → m ≡ number b
    → m * 2147483648 % 4294967296 + 1 * 2 ^ p % 4294967296 ≡ 0x80000000 * number b + 2 ^ p
sign_number p m true few e = let low = pow-lt {i = p} {j = 31} few in omega arith
sign_number p m false few e = let low = pow-lt {i = p} {j = 31} few in omega arith

pub sign_word : (p m : ℕ) (b : Bool) → p < 31 → m ≡ bool_byte b
    → m * 2147483648 % 4294967296 + 1 * 2 ^ p % 4294967296 ≡ 0x80000000 * number b + 2 ^ p
sign_word p m b few e = sign_number p m b few (as_number b m e)

small_number : (b : Bool) → number b ≤ 1
small_number true = omega arith
small_number false = omega arith

pub sign_few : (p m : ℕ) (b : Bool) → p < 31 → m ≡ bool_byte b
    → m * 2147483648 % 4294967296 + 1 * 2 ^ p % 4294967296 < 4294967296
sign_few p m b few e =
    let low = pow-lt {i = p} {j = 31} few in
    let small = small_number b in
    let is = sign_word p m b few e in
    omega (arith, small, is)

-- the word of a place
pub grid_word : (w i k : ℕ) (cells : List Cell) (grid : List ℕ) → k ≡ 32 * (i / w) + i % w
    → i < length cells → AreKnown w cells grid → get_or grid k 0 ≡ word_of (cell_at cells i)
grid_word w i k cells grid at inside h = ap (λ (v : ℕ). get_or grid v 0) at ∙ h.each i inside

-- a refined word, as it is set
kept_power : (p : ℕ) (b : Bool) → p < 31 → number b * 2 ^ p % 4294967296 ≡ number b * 2 ^ p
kept_power p true few = let low = pow-lt {i = p} {j = 31} few in omega arith
kept_power p false few = omega arith

pub refined_value : (p old m : ℕ) (b : Bool) (c : Cell) → p < 31 → c.unknown ≡ suc p
    → m ≡ bool_byte b → old ≡ word_of c
    → bit_or old (m * 2 ^ p % 4294967296) ≡ word_of (learn p b c)
refined_value p old m b c few open_place e is =
    ap (λ (v : ℕ). bit_or old (v * 2 ^ p % 4294967296)) (as_number b m e)
    ∙ (ap (bit_or old) (kept_power p b few) ∙ refined_word p old b c few open_place is)
