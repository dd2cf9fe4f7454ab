-- A part of a list between two places, and what follows in it on what it begins with.
use Rattle.std.proofs.Common.{◌≡◌, ℕ, ◌+◌, ◌-◌, ◌≤◌, List, ◌++◌}
use Rattle.std.proofs.Common.{length, take, drop, ap, sym, refl, ◌∙◌}
use Rattle.std.proofs.Common.{arith, length-append, length-drop, slice_range}
use Rattle.std.proofs.lemmas.List.{take-take, take_at, drop_at, drop-take, drop-drop}
use Rattle.std.proofs.lemmas.List.{length-take-le, take-append-drop}

pub length_part : {A : Type 0} (xs : List A) (a stop : ℕ) → stop ≤ length xs →
    length (slice_range xs a stop) ≡ stop - a
length_part xs a stop inside =
    length-take-le (stop - a) (drop a xs) (omega (arith, length-drop a xs, inside))

-- the first n elements of the part, and those after them
pub part_begin : {A : Type 0} (xs : List A) (a n stop : ℕ) → a + n ≤ stop →
    take n (slice_range xs a stop) ≡ slice_range xs a (a + n)
part_begin xs a n stop inside =
    take-take n (stop - a) (drop a xs) (omega (arith, inside))
    ∙ ap (λ m. take m (drop a xs)) (let e : n ≡ a + n - a = omega arith in e)

pub part_end : {A : Type 0} (xs : List A) (a n stop : ℕ) → a + n ≤ stop →
    drop n (slice_range xs a stop) ≡ slice_range xs (a + n) stop
part_end xs a n stop inside =
    ap (λ m. drop n (take m (drop a xs)))
    (let e : stop - a ≡ n + (stop - (a + n)) = omega (arith, inside) in e)
    ∙ drop-take n (stop - (a + n)) (drop a xs)
    ∙ ap (take (stop - (a + n))) (drop-drop n a xs)

pub part_split : {A : Type 0} (xs : List A) (a n stop : ℕ) → a + n ≤ stop →
    slice_range xs a stop ≡ slice_range xs a (a + n) ++ slice_range xs (a + n) stop
part_split xs a n stop inside =
    sym (take-append-drop n (slice_range xs a stop))
    ∙ ap (λ t. t ++ drop n (slice_range xs a stop)) (part_begin xs a n stop inside)
    ∙ ap (λ t. slice_range xs a (a + n) ++ t) (part_end xs a n stop inside)

-- what the part is joined of
pub record Joined {A : Type 0} (xs ys zs : List A) (a stop : ℕ) : Type 0 where
  pub inside : a + length ys ≤ stop
  pub first : slice_range xs a (a + length ys) ≡ ys
  pub rest : slice_range xs (a + length ys) stop ≡ zs

pub joined : {A : Type 0} (xs ys zs : List A) (a stop : ℕ) → stop ≤ length xs → a ≤ stop →
    slice_range xs a stop ≡ ys ++ zs → Joined xs ys zs a stop
joined xs ys zs a stop inside order is =
    let whole : stop - a ≡ length ys + length zs =
    sym (length_part xs a stop inside) ∙ ap (λ t. length t) is ∙ length-append ys zs in
    let within : a + length ys ≤ stop = omega (arith, whole, order) in
    record {
      inside = within;
      first = sym (part_begin xs a (length ys) stop within) ∙ ap (take (length ys)) is
          ∙ take_at ys zs (length ys) refl;
      rest = sym (part_end xs a (length ys) stop within) ∙ ap (drop (length ys)) is
          ∙ drop_at ys zs (length ys) refl;
    }
