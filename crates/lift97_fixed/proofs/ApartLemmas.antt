-- A line that is taken apart: the lifting steps and the scaling on its two parts.
use Rattle.std.proofs.Common.{◌≡◌, ◌≢◌, ℕ, zero, suc, ◌+◌, ◌-◌, ◌*◌, ◌<◌, ◌≤◌, min, ℤ, pos, List, ◌++◌}
use Rattle.std.proofs.Common.{length, All, arith, refl, sym, ◌∙◌, ap, inl, inr}
use Rattle.std.proofs.Math.ListN.{set}
use Rattle.std.proofs.lemmas.Bool.{cases_lt, cases_eq}
use Rattle.std.proofs.lemmas.List.{get_or-set_same, get_or-set_other, length-set}
use Rattle.std.proofs.lemmas.List.{get_or_append_left, get_or-append-add, length-append}
use Rattle.std.proofs.lemmas.List.Elements.{All-set, All-from_get_or}
use Rattle.cine_nums.specs.Fixed.{Within30}
use Rattle.lift97_fixed.specs.Apart.{IsApart}
use Rattle.lift97_fixed.specs.Line.{at, left_of, right_of, lifted, scaled, lifted_at, lift, scale}
use Rattle.lift97_fixed.specs.Line.{split, delta, scaling, inverse_scaling}
use Rattle.lift97_fixed.proofs.Casts.{passed, passed_within}
use Rattle.lift97_fixed.proofs.Lines.{on_parity, off_parity, on_scale, off_scale, at-lift, at-scale}
use Rattle.lift97_fixed.proofs.Lines.{length-lift, length-scale, inner_left, inner_right}
use Rattle.lift97_fixed.proofs.Lines.{last_right, gathered_all}

-- A loop that sets place after place has reached place n.
pub record Filled (f : ℕ → ℤ) (n : ℕ) (old x : List ℤ) : Type 0 where
  pub size : length x ≡ length old
  pub within : All Within30 x
  pub done : (j : ℕ) → j < n → at x j ≡ f j
  pub left : (j : ℕ) → n ≤ j → at x j ≡ at old j

pub filled_none : (f : ℕ → ℤ) (x : List ℤ) → All Within30 x → Filled f 0 x x
filled_none f x w = record {
  size = refl;
  within = w;
  done = λ j lt. absurd (omega (arith, lt));
  left = λ j ge. refl;
}

pub filled_more : (f : ℕ → ℤ) (k : ℕ) (old x : List ℤ) (v : ℤ) → k < length x → Filled f k old x →
    v ≡ f k → Within30 v →
    Filled f (k + 1) old (set x k (passed v))
filled_more f k old x v inside l value w =
    let kept : passed v ≡ v = passed_within v w in
    rw kept (record {
      size = length-set x k v ∙ l.size;
      within = All-set Within30 x k v w l.within;
      done = λ j lt. elim (cases_eq j k) [
        | inl same ↦ rw same (get_or-set_same x k v (pos 0) inside ∙ value)
        | inr ne ↦ get_or-set_other x k j v (pos 0) ne ∙ l.done j (omega (arith, lt, ne))
      ];
      left = λ j ge. let ne : j ≢ k = omega (arith, ge) in get_or-set_other x k j v (pos 0) ne
          ∙ l.left j (omega (arith, ge));
    })

-- a sample after a lifting step, as the code passes the three
pub stripped : (c r x y z : ℤ) → Within30 x → Within30 y → Within30 z →
    r ≡ lifted c (passed x) (passed y) (passed z) → r ≡ lifted c x y z
stripped c r x y z fx fy fz e =
    let ex : passed x ≡ x = passed_within x fx in
    let ey : passed y ≡ y = passed_within y fy in
    let ez : passed z ≡ z = passed_within z fz in
    cc

pub stripped_scale : (c r x : ℤ) → Within30 x → r ≡ scaled c (passed x) → r ≡ scaled c x
stripped_scale c r x fx e = let ex : passed x ≡ x = passed_within x fx in cc

-- the new sample at place k of the high part, and of the low part
abbrev pub new_high : ℤ → List ℤ → List ℤ → ℕ → ℤ
new_high c lows highs k = lifted c (at highs k) (at lows k)
    (at lows (min (k + 1) (length lows - 1)))

abbrev pub new_low : ℤ → List ℤ → List ℤ → ℕ → ℤ
new_low c lows highs k = lifted c (at lows k) (at highs (k - 1))
    (at highs (min k (length highs - 1)))

high_right : (xs lows highs : List ℤ) (k : ℕ) → IsApart xs lows highs → k < length highs →
    2 * min (k + 1) (length lows - 1) ≡ right_of (length xs) (2 * k + 1)
high_right xs lows highs k apart lt =
    let low_count = apart.low_count in
    let high_count = apart.high_count in
    elim (cases_lt (2 * k + 1 + 1) (length xs)) [
      | inl inner ↦ (let e : 2 * min (k + 1) (length lows - 1) ≡ 2 * k + 1 + 1 =
          omega (arith, inner, low_count) in e) ∙ inner_right (length xs) (2 * k + 1) inner
      | inr last ↦ (let e : 2 * min (k + 1) (length lows - 1) ≡ length xs - 2 =
          omega (arith, last, low_count, high_count, lt) in e)
          ∙ last_right (length xs) (2 * k + 1) last
    ]

high_is : (c : ℤ) (xs lows highs : List ℤ) (k : ℕ) → IsApart xs lows highs → k < length highs →
    new_high c lows highs k ≡ lifted_at c 1 xs (2 * k + 1)
high_is c xs lows highs k apart lt =
    let here : at highs k ≡ at xs (2 * k + 1) = apart.high k lt in
    let low_count = apart.low_count in
    let high_count = apart.high_count in
    let before : 2 * k ≡ left_of (2 * k + 1) = (let e : 2 * k ≡ 2 * k + 1 - 1 = omega arith in e)
    ∙ inner_left (2 * k + 1) (omega arith) in
    let left : at lows k ≡ at xs (left_of (2 * k + 1)) =
    apart.low k (omega (arith, lt, low_count, high_count)) ∙ ap (at xs) before in
    let next : ℕ = min (k + 1) (length lows - 1) in
    let right : at lows next ≡ at xs (right_of (length xs) (2 * k + 1)) =
    apart.low next (omega (arith, lt, low_count, high_count))
    ∙ ap (at xs) (high_right xs lows highs k apart lt) in
    ap (λ x. lifted c x (at lows k) (at lows next)) here
    ∙ ap (λ x. lifted c (at xs (2 * k + 1)) x (at lows next)) left
    ∙ ap (λ x. lifted c (at xs (2 * k + 1)) (at xs (left_of (2 * k + 1))) x) right
    ∙ sym (on_parity c 1 xs (2 * k + 1) (omega arith))

low_left : (k : ℕ) → 2 * (k - 1) + 1 ≡ left_of (2 * k)
low_left zero = refl
low_left (suc k) = (let e : 2 * (suc k - 1) + 1 ≡ 2 * suc k - 1 = omega arith in e)
    ∙ inner_left (2 * suc k) (omega arith)

low_right : (xs lows highs : List ℤ) (k : ℕ) → IsApart xs lows highs → 1 ≤ length highs →
    k < length lows →
    2 * min k (length highs - 1) + 1 ≡ right_of (length xs) (2 * k)
low_right xs lows highs k apart some lt =
    let low_count = apart.low_count in
    let high_count = apart.high_count in
    elim (cases_lt (2 * k + 1) (length xs)) [
      | inl inner ↦ (let e : 2 * min k (length highs - 1) + 1 ≡ 2 * k + 1 =
          omega (arith, inner, high_count) in e) ∙ inner_right (length xs) (2 * k) inner
      | inr last ↦ (let e : 2 * min k (length highs - 1) + 1 ≡ length xs - 2 =
          omega (arith, last, low_count, high_count, lt, some) in e)
          ∙ last_right (length xs) (2 * k) last
    ]

low_is : (c : ℤ) (xs lows highs : List ℤ) (k : ℕ) → IsApart xs lows highs → 1 ≤ length highs →
    k < length lows →
    new_low c lows highs k ≡ lifted_at c 0 xs (2 * k)
low_is c xs lows highs k apart some lt =
    let here : at lows k ≡ at xs (2 * k) = apart.low k lt in
    let low_count = apart.low_count in
    let high_count = apart.high_count in
    let left : at highs (k - 1) ≡ at xs (left_of (2 * k)) =
    apart.high (k - 1) (omega (arith, lt, some, low_count, high_count))
    ∙ ap (at xs) (low_left k) in
    let next : ℕ = min k (length highs - 1) in
    let right : at highs next ≡ at xs (right_of (length xs) (2 * k)) =
    apart.high next (omega (arith, some)) ∙ ap (at xs) (low_right xs lows highs k apart some lt) in
    ap (λ x. lifted c x (at highs (k - 1)) (at highs next)) here
    ∙ ap (λ x. lifted c (at xs (2 * k)) x (at highs next)) left
    ∙ ap (λ x. lifted c (at xs (2 * k)) (at xs (left_of (2 * k))) x) right
    ∙ sym (on_parity c 0 xs (2 * k) (omega arith))

pub highs_lifted : (c : ℤ) (n : ℕ) (xs lows highs new : List ℤ) → length highs ≤ n →
    Filled (new_high c lows highs) n highs new →
    IsApart xs lows highs → IsApart (lift c 1 xs) lows new
highs_lifted c n xs lows highs new all filled apart =
    let count : length (lift c 1 xs) ≡ length xs = length-lift c 1 xs in
    let low_count = apart.low_count in
    let high_count = apart.high_count in
    let size = filled.size in
    record {
      low_count = omega (arith, count, low_count);
      high_count = omega (arith, count, high_count, size);
      low = λ k lt. apart.low k lt ∙ sym (off_parity c 1 xs (2 * k) (λ e. omega (arith, e)))
          ∙ sym (at-lift c 1 xs (2 * k) (omega (arith, lt, low_count)));
      high = λ k lt.
          filled.done k (omega (arith, lt, size, all))
          ∙ high_is c xs lows highs k apart (omega (arith, lt, size))
          ∙ sym (at-lift c 1 xs (2 * k + 1) (omega (arith, lt, size, high_count)));
    }

pub lows_lifted : (c : ℤ) (n : ℕ) (xs lows highs new : List ℤ) → 1 ≤ length highs →
    length lows ≤ n → Filled (new_low c lows highs) n lows new →
    IsApart xs lows highs → IsApart (lift c 0 xs) new highs
lows_lifted c n xs lows highs new some all filled apart =
    let count : length (lift c 0 xs) ≡ length xs = length-lift c 0 xs in
    let low_count = apart.low_count in
    let high_count = apart.high_count in
    let size = filled.size in
    record {
      low_count = omega (arith, count, low_count, size);
      high_count = omega (arith, count, high_count);
      low = λ k lt.
          filled.done k (omega (arith, lt, size, all))
          ∙ low_is c xs lows highs k apart some (omega (arith, lt, size))
          ∙ sym (at-lift c 0 xs (2 * k) (omega (arith, lt, size, low_count)));
      high = λ k lt. apart.high k lt ∙ sym (off_parity c 0 xs (2 * k + 1) (λ e. omega (arith, e)))
          ∙ sym (at-lift c 0 xs (2 * k + 1) (omega (arith, lt, high_count)));
    }

-- the two parts have samples of the line
pub lows_within : (xs lows highs : List ℤ) → IsApart xs lows highs → All Within30 xs →
    All Within30 lows
lows_within xs lows highs apart w = All-from_get_or Within30 lows (pos 0) (λ k lt.
    let low_count = apart.low_count in
    rw (apart.low k lt) (w (2 * k) (pos 0) (omega (arith, lt, low_count))))

pub highs_within : (xs lows highs : List ℤ) → IsApart xs lows highs → All Within30 xs →
    All Within30 highs
highs_within xs lows highs apart w = All-from_get_or Within30 highs (pos 0) (λ k lt.
    let high_count = apart.high_count in
    rw (apart.high k lt) (w (2 * k + 1) (pos 0) (omega (arith, lt, high_count))))

-- the low-pass sample at place k: the last lifting step, and the scaling
abbrev pub final_low : List ℤ → List ℤ → ℕ → ℤ
final_low lows highs k = scaled inverse_scaling (new_low delta lows highs k)

pub final_value : (r : ℤ) (lows highs : List ℤ) (k m n : ℕ) → m ≡ k - 1 →
    n ≡ min k (length highs - 1) → k < length lows → m < length highs → n < length highs →
    All Within30 lows → All Within30 highs →
    r ≡ scaled inverse_scaling (lifted delta (passed (at lows k)) (passed (at highs m))
    (passed (at highs n))) →
    r ≡ final_low lows highs k
final_value r lows highs k m n before after in_low in_left in_right wl wh e =
    e ∙ ap (scaled inverse_scaling)
    (rw (
      passed_within (at lows k) (wl k (pos 0) in_low),
      passed_within (at highs m) (wh m (pos 0) in_left),
      passed_within (at highs n) (wh n (pos 0) in_right),
    )
    (ap (λ i. lifted delta (at lows k) (at highs i) (at highs n)) before
    ∙ ap (λ i. lifted delta (at lows k) (at highs (k - 1)) (at highs i)) after))

finished_low : (xs lows highs : List ℤ) (j : ℕ) → IsApart xs lows highs → 1 ≤ length highs →
    j < length lows →
    final_low lows highs j ≡ at (scale inverse_scaling 0 (scale scaling 1 (lift delta 0 xs))) (2 * j)
finished_low xs lows highs j apart some lt =
    let ls : List ℤ = lift delta 0 xs in
    let ys : List ℤ = scale scaling 1 ls in
    let l_count : length ls ≡ length xs = length-lift delta 0 xs in
    let y_count : length ys ≡ length ls = length-scale scaling 1 ls in
    let low_count = apart.low_count in
    let inside : 2 * j < length xs = omega (arith, lt, low_count) in
    ap (scaled inverse_scaling) (low_is delta xs lows highs j apart some lt
    ∙ sym (at-lift delta 0 xs (2 * j) inside)
    ∙ sym (off_scale scaling 1 ls (2 * j) (λ e. omega (arith, e)))
    ∙ sym (at-scale scaling 1 ls (2 * j) (omega (arith, inside, l_count))))
    ∙ sym (on_scale inverse_scaling 0 ys (2 * j) (omega arith))
    ∙ sym (at-scale inverse_scaling 0 ys (2 * j) (omega (arith, inside, l_count, y_count)))

finished_high : (xs lows highs : List ℤ) (j : ℕ) → IsApart xs lows highs → j < length highs →
    scaled scaling (at highs j)
    ≡ at (scale inverse_scaling 0 (scale scaling 1 (lift delta 0 xs))) (2 * j + 1)
finished_high xs lows highs j apart lt =
    let ls : List ℤ = lift delta 0 xs in
    let ys : List ℤ = scale scaling 1 ls in
    let l_count : length ls ≡ length xs = length-lift delta 0 xs in
    let y_count : length ys ≡ length ls = length-scale scaling 1 ls in
    let high_count = apart.high_count in
    let inside : 2 * j + 1 < length xs = omega (arith, lt, high_count) in
    ap (scaled scaling) (apart.high j lt
    ∙ sym (off_parity delta 0 xs (2 * j + 1) (λ e. omega (arith, e)))
    ∙ sym (at-lift delta 0 xs (2 * j + 1) inside))
    ∙ sym (on_scale scaling 1 ls (2 * j + 1) (omega arith))
    ∙ sym (at-scale scaling 1 ls (2 * j + 1) (omega (arith, inside, l_count)))
    ∙ sym (off_scale inverse_scaling 0 ys (2 * j + 1) (λ e. omega (arith, e)))
    ∙ sym (at-scale inverse_scaling 0 ys (2 * j + 1) (omega (arith, inside, l_count, y_count)))

pub finished_all : (xs lows highs first second : List ℤ) → 1 ≤ length highs →
    length first ≡ length lows → length second ≡ length highs →
    ((j : ℕ) → j < length lows → at first j ≡ final_low lows highs j) →
    ((j : ℕ) → j < length highs → at second j ≡ scaled scaling (at highs j)) →
    IsApart xs lows highs →
    first ++ second ≡ split (scale inverse_scaling 0 (scale scaling 1 (lift delta 0 xs)))
finished_all xs lows highs first second some size1 size2 low high apart =
    let zs : List ℤ = scale inverse_scaling 0 (scale scaling 1 (lift delta 0 xs)) in
    let count : length zs ≡ length xs = length-scale inverse_scaling 0 (scale scaling 1 (lift delta 0 xs))
    ∙ (length-scale scaling 1 (lift delta 0 xs) ∙ length-lift delta 0 xs) in
    let low_count = apart.low_count in
    let high_count = apart.high_count in
    gathered_all (length lows) (length highs) zs (first ++ second)
    (omega (arith, count, low_count)) (omega (arith, count, high_count))
    (record {
      size = length-append first second ∙ omega (arith, size1, size2, count, low_count, high_count);
      low = λ j lt.
          get_or_append_left first second (pos 0) j (omega (arith, lt, size1))
          ∙ (low j lt ∙ finished_low xs lows highs j apart some lt);
      high = λ j lt.
          let place : length lows + j ≡ length first + j = omega (arith, size1) in
          ap (at (first ++ second)) place
          ∙ (get_or-append-add first second j (pos 0)
          ∙ (high j lt ∙ finished_high xs lows highs j apart lt));
    })

-- what the loops compute at a place, n being where they take the neighbour from
pub high_value : (c r : ℤ) (lows highs x : List ℤ) (k n : ℕ) → n ≡ min (k + 1) (length lows - 1) →
    k < length highs → k < length lows →
    n < length lows → All Within30 lows → Filled (new_high c lows highs) k highs x →
    r ≡ lifted c (passed (at x k)) (passed (at lows k)) (passed (at lows n)) →
    r ≡ new_high c lows highs k
high_value c r lows highs x k n place in_high in_low inside w l e =
    let size = l.size in
    let here : at x k ≡ at highs k = l.left k (omega arith) in
    stripped c r (at x k) (at lows k) (at lows n)
    (l.within k (pos 0) (omega (arith, in_high, size))) (w k (pos 0) in_low)
    (w n (pos 0) inside) e
    ∙ ap (λ v. lifted c v (at lows k) (at lows n)) here
    ∙ ap (λ m. lifted c (at highs k) (at lows k) (at lows m)) place

pub low_value : (c r : ℤ) (lows highs x : List ℤ) (k m n : ℕ) → m ≡ k - 1 →
    n ≡ min k (length highs - 1) → k < length lows →
    m < length highs → n < length highs → All Within30 highs →
    Filled (new_low c lows highs) k lows x →
    r ≡ lifted c (passed (at x k)) (passed (at highs m)) (passed (at highs n)) →
    r ≡ new_low c lows highs k
low_value c r lows highs x k m n before after in_low in_left in_right w l e =
    let size = l.size in
    let here : at x k ≡ at lows k = l.left k (omega arith) in
    stripped c r (at x k) (at highs m) (at highs n)
    (l.within k (pos 0) (omega (arith, in_low, size))) (w m (pos 0) in_left)
    (w n (pos 0) in_right) e
    ∙ ap (λ v. lifted c v (at highs m) (at highs n)) here
    ∙ ap (λ i. lifted c (at lows k) (at highs i) (at highs n)) before
    ∙ ap (λ i. lifted c (at lows k) (at highs (k - 1)) (at highs i)) after

-- the place after the loop is where it ends
pub filled_last : (f : ℕ → ℤ) (k last : ℕ) (old x : List ℤ) (v : ℤ) → k ≡ last → k < length x →
    Filled f k old x → v ≡ f k → Within30 v →
    Filled f (last + 1) old (set x last (passed v))
filled_last f k last old x v same inside l value w =
    rw (← same) (filled_more f k old x v inside l value w)

-- the new sample at place x of a row between two others
abbrev pub between : ℤ → List ℤ → List ℤ → List ℤ → ℕ → ℤ
between c line above below x = lifted c (at line x) (at above x) (at below x)
