-- The steps of the transform of a line, place by place.
use Rattle.std.proofs.Common.{◌≡◌, ◌≢◌, ℕ, ◌+◌, ◌-◌, ◌*◌, ◌/◌, ◌%◌, ◌<◌, ◌≤◌, ℤ, pos, List, [], ◌∷◌}
use Rattle.std.proofs.Common.{length, All, arith, refl, sym, ◌∙◌, ap, suc, zero, inl, inr, zero-add}
use Rattle.std.proofs.lemmas.List.{length-append, get_or_append_left, get_or-append-add, ext_get_or}
use Rattle.std.proofs.lemmas.List.Elements.{All-from_get_or}
use Rattle.std.proofs.lemmas.List.FromFn.{get_or-map-range_with_len, length-map-range_with_len}
use Rattle.std.proofs.lemmas.Bool.{cases_lt, lt-ltb, le-ltb}
use Rattle.std.proofs.lemmas.Bool.Decides.{nat_tests}
use Rattle.cine_nums.specs.Fixed.{Within30}
use Rattle.lift97_fixed.specs.Line.{at, left_of, right_of, lifted, scaled, lifted_at, lift}
use Rattle.lift97_fixed.specs.Line.{scaled_at, scale, evens, odds, split, source_of, filtered}
use Rattle.lift97_fixed.specs.Line.{line_transform}

pub on_parity : (c : ℤ) (p : ℕ) (xs : List ℤ) (i : ℕ) → i % 2 ≡ p →
    lifted_at c p xs i ≡ lifted c (at xs i) (at xs (left_of i)) (at xs (right_of (length xs) i))
on_parity c p xs i h = grind (arith, nat_tests)

pub off_parity : (c : ℤ) (p : ℕ) (xs : List ℤ) (i : ℕ) → i % 2 ≢ p → lifted_at c p xs i ≡ at xs i
off_parity c p xs i h = grind (arith, nat_tests)

pub left_parity : (i : ℕ) → left_of i % 2 ≢ i % 2
left_parity zero e = omega arith
left_parity (suc i) e = omega arith

pub right_parity : (n i : ℕ) → 2 ≤ n → i < n → right_of n i % 2 ≢ i % 2
right_parity n i t h = grind (arith, nat_tests)

pub right_inside : (n i : ℕ) → 2 ≤ n → i < n → right_of n i < n
right_inside n i t h = grind (arith, nat_tests)

pub left_inside : (n i : ℕ) → 2 ≤ n → i < n → left_of i < n
left_inside n zero t h = omega arith
left_inside n (suc i) t h = omega arith

-- the neighbours of an inner place
pub inner_left : (i : ℕ) → 1 ≤ i → i - 1 ≡ left_of i
inner_left zero h = absurd (omega arith)
inner_left (suc i) h = omega arith

pub inner_right : (n i : ℕ) → i + 1 < n → i + 1 ≡ right_of n i
inner_right n i h = rw (lt-ltb (i + 1) n h) refl

-- and of the last one
pub last_right : (n i : ℕ) → n ≤ i + 1 → n - 2 ≡ right_of n i
last_right n i h = rw (le-ltb (i + 1) n h) refl

pub at-lift : (c : ℤ) (p : ℕ) (xs : List ℤ) (i : ℕ) → i < length xs →
    at (lift c p xs) i ≡ lifted_at c p xs i
unfolding lift
at-lift c p xs i h = get_or-map-range_with_len (lifted_at c p xs) 0 (length xs) i i (pos 0) h
    (zero-add i)

pub length-lift : (c : ℤ) (p : ℕ) (xs : List ℤ) → length (lift c p xs) ≡ length xs
unfolding lift
length-lift c p xs = length-map-range_with_len (lifted_at c p xs) 0 (length xs)

-- ---- the scaling

pub on_scale : (c : ℤ) (p : ℕ) (xs : List ℤ) (i : ℕ) → i % 2 ≡ p →
    scaled_at c p xs i ≡ scaled c (at xs i)
on_scale c p xs i h = grind (arith, nat_tests)

pub off_scale : (c : ℤ) (p : ℕ) (xs : List ℤ) (i : ℕ) → i % 2 ≢ p → scaled_at c p xs i ≡ at xs i
off_scale c p xs i h = grind (arith, nat_tests)

pub at-scale : (c : ℤ) (p : ℕ) (xs : List ℤ) (i : ℕ) → i < length xs →
    at (scale c p xs) i ≡ scaled_at c p xs i
unfolding scale
at-scale c p xs i h = get_or-map-range_with_len (scaled_at c p xs) 0 (length xs) i i (pos 0) h
    (zero-add i)

pub length-scale : (c : ℤ) (p : ℕ) (xs : List ℤ) → length (scale c p xs) ≡ length xs
unfolding scale
length-scale c p xs = length-map-range_with_len (scaled_at c p xs) 0 (length xs)

-- ---- the split

length-evens : (xs : List ℤ) → length (evens xs) ≡ length xs - length xs / 2
length-evens [] = refl
length-evens (x ∷ []) = refl
length-evens (x ∷ y ∷ rest) = omega (arith, length-evens rest)

length-odds : (xs : List ℤ) → length (odds xs) ≡ length xs / 2
length-odds [] = refl
length-odds (x ∷ []) = refl
length-odds (x ∷ y ∷ rest) = omega (arith, length-odds rest)

at-evens : (xs : List ℤ) (k : ℕ) → at (evens xs) k ≡ at xs (2 * k)
at-evens [] k = refl
at-evens (x ∷ []) zero = refl
at-evens (x ∷ []) (suc k) = let e : 2 * suc k ≡ suc (suc (2 * k)) = omega arith in rw e refl
at-evens (x ∷ y ∷ rest) zero = refl
at-evens (x ∷ y ∷ rest) (suc k) = let e : 2 * suc k ≡ suc (suc (2 * k)) =
    omega arith in rw e (at-evens rest k)

at-odds : (xs : List ℤ) (k : ℕ) → at (odds xs) k ≡ at xs (2 * k + 1)
at-odds [] k = refl
at-odds (x ∷ []) zero = refl
at-odds (x ∷ []) (suc k) = let e : 2 * suc k + 1 ≡ suc (suc (2 * k + 1)) = omega arith in rw e refl
at-odds (x ∷ y ∷ rest) zero = refl
at-odds (x ∷ y ∷ rest) (suc k) = let e : 2 * suc k + 1 ≡ suc (suc (2 * k + 1)) =
    omega arith in rw e (at-odds rest k)

pub length-split : (xs : List ℤ) → length (split xs) ≡ length xs
unfolding split
length-split xs = omega (arith, length-append (evens xs) (odds xs), length-evens xs, length-odds xs)

-- place k of the low-pass samples, and of the high-pass ones
pub split-low : (xs : List ℤ) (k : ℕ) → k < length xs - length xs / 2 →
    at (split xs) k ≡ at xs (2 * k)
unfolding split
split-low xs k h = get_or_append_left (evens xs) (odds xs) (pos 0) k
    (omega (arith, length-evens xs)) ∙ at-evens xs k

pub split-high : (xs : List ℤ) (n k : ℕ) → n ≡ length xs - length xs / 2 →
    at (split xs) (n + k) ≡ at xs (2 * k + 1)
unfolding split
split-high xs n k h = rw (h, ← (length-evens xs))
    (get_or-append-add (evens xs) (odds xs) k (pos 0) ∙ at-odds xs k)

pub split-at : (xs : List ℤ) (j : ℕ) → j < length xs →
    at (split xs) j ≡ at xs (source_of (length xs) j)
split-at xs j h =
    elim (cases_lt j (length xs - length xs / 2)) [
      | inl low ↦ rw (lt-ltb j (length xs - length xs / 2) low) (split-low xs j low)
      | inr high ↦
          let e : j ≡ (length xs - length xs / 2) + (j - (length xs - length xs / 2)) =
          omega arith in
          rw (le-ltb j (length xs - length xs / 2) high)
          (ap (at (split xs)) e ∙ split-high xs (length xs - length xs / 2)
          (j - (length xs - length xs / 2)) refl)
    ]

pub source_below : (n j : ℕ) → j < n → source_of n j < n
source_below n j h = elim (cases_lt j (n - n / 2)) [
  | inl low ↦ rw (lt-ltb j (n - n / 2) low) (omega arith)
  | inr high ↦ rw (le-ltb j (n - n / 2) high) (omega arith)
]

-- two places take different samples
pub source_apart : (n i j : ℕ) → i < n → j < n → source_of n i ≡ source_of n j → i ≡ j
source_apart n i j hi hj = elim (cases_lt i (n - n / 2)) [
  | inl a ↦ elim (cases_lt j (n - n / 2)) [
    | inl b ↦ rw (lt-ltb i (n - n / 2) a, lt-ltb j (n - n / 2) b) (λ e. omega arith)
    | inr b ↦ rw (lt-ltb i (n - n / 2) a, le-ltb j (n - n / 2) b) (λ e. omega arith)
  ]
  | inr a ↦ elim (cases_lt j (n - n / 2)) [
    | inl b ↦ rw (le-ltb i (n - n / 2) a, lt-ltb j (n - n / 2) b) (λ e. omega arith)
    | inr b ↦ rw (le-ltb i (n - n / 2) a, le-ltb j (n - n / 2) b) (λ e. omega arith)
  ]
]

-- it has gathered the low-pass samples, `low` in number, and the first n high-pass ones
pub record Gathered (count n : ℕ) (xs out : List ℤ) : Type 0 where
  pub size : length out ≡ length xs
  pub low : (j : ℕ) → j < count → at out j ≡ at xs (2 * j)
  pub high : (j : ℕ) → j < n → at out (count + j) ≡ at xs (2 * j + 1)

pub gathered_all : (count n : ℕ) (xs out : List ℤ) → count ≡ length xs - length xs / 2 →
    length xs / 2 ≤ n → Gathered count n xs out → out ≡ split xs
gathered_all count n xs out e h g =
    ext_get_or (pos 0) out (split xs) (g.size ∙ sym (length-split xs)) (λ i lt.
    elim (cases_lt i count) [
      | inl low ↦ g.low i low ∙ sym (split-low xs i (omega arith))
      | inr high ↦
          let at' : i ≡ count + (i - count) = omega arith in
          ap (at out) at' ∙ (g.high (i - count) (omega (arith, g.size))
          ∙ (sym (split-high xs count (i - count) e) ∙ ap (at (split xs)) (sym at')))
    ])

pub split_within : (xs : List ℤ) → All Within30 xs → All Within30 (split xs)
split_within xs h = All-from_get_or Within30 (split xs) (pos 0) (λ i lt.
    let inside : i < length xs = omega (arith, length-split xs) in
    elim (cases_lt i (length xs - length xs / 2)) [
      | inl low ↦ rw (split-low xs i low) (h (2 * i) (pos 0) (omega arith))
      | inr high ↦
          let k : ℕ = i - (length xs - length xs / 2) in
          let e : i ≡ (length xs - length xs / 2) + k = omega arith in
          rw (e, split-high xs (length xs - length xs / 2) k refl)
          (h (2 * k + 1) (pos 0) (omega arith))
    ])

-- ---- the whole line

pub short_line : (xs : List ℤ) → length xs < 2 → xs ≡ line_transform xs
unfolding line_transform
short_line xs h = rw (lt-ltb (length xs) 2 h) refl

pub long_line : (xs : List ℤ) → 2 ≤ length xs → split (filtered xs) ≡ line_transform xs
unfolding line_transform
long_line xs h = rw (le-ltb (length xs) 2 h) refl
