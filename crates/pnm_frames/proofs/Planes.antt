-- Samples of three planes, pixel by pixel.
use Rattle.std.proofs.Common.{◌≡◌, ℕ, suc, ◌+◌, ◌*◌, ◌<◌, List, [], ◌∷◌, ◌++◌, length, get_or, take}
use Rattle.std.proofs.Common.{refl, ap, append_assoc, arith}
use Rattle.std.specs.Prelude.{All}
use Rattle.std.proofs.Math.ListN.{set}
use Rattle.std.proofs.lemmas.List.{take_more, take_more_set, length-take}
use Rattle.std.proofs.lemmas.List.Elements.{All-cons, All-nil}
use Rattle.pnm_frames.specs.Picture.{interleaved, IsSample}
use Rattle.pnm_frames.specs.Reading.{plane_of}

pub length-interleaved : (xs ys zs : List ℕ) → length ys ≡ length xs → length zs ≡ length xs →
    length (interleaved xs ys zs) ≡ 3 * length xs
length-interleaved [] ys zs y z = refl
length-interleaved (x ∷ xs) [] zs y z = absurd (omega arith)
length-interleaved (x ∷ xs) (y1 ∷ ys) [] y z = absurd (omega arith)
length-interleaved (x ∷ xs) (y1 ∷ ys) (z1 ∷ zs) y z =
    omega (arith, length-interleaved xs ys zs (omega arith) (omega arith))

pub interleaved-append : (xs ys zs us vs ws : List ℕ) → length ys ≡ length xs →
    length zs ≡ length xs → interleaved (xs ++ us) (ys ++ vs) (zs ++ ws)
    ≡ interleaved xs ys zs ++ interleaved us vs ws
interleaved-append [] [] [] us vs ws y z = refl
interleaved-append [] (y1 ∷ ys) zs us vs ws y z = absurd (omega arith)
interleaved-append [] [] (z1 ∷ zs) us vs ws y z = absurd (omega arith)
interleaved-append (x ∷ xs) [] zs us vs ws y z = absurd (omega arith)
interleaved-append (x ∷ xs) (y1 ∷ ys) [] us vs ws y z = absurd (omega arith)
interleaved-append (x ∷ xs) (y1 ∷ ys) (z1 ∷ zs) us vs ws y z =
    ap (λ (more : List ℕ). x ∷ y1 ∷ z1 ∷ more)
    (interleaved-append xs ys zs us vs ws (omega arith) (omega arith))

-- each plane again
pub plane-x : (xs ys zs : List ℕ) → length ys ≡ length xs → length zs ≡ length xs →
    plane_of (λ x y z. x) (interleaved xs ys zs) ≡ xs
plane-x [] ys zs y z = refl
plane-x (x ∷ xs) [] zs y z = absurd (omega arith)
plane-x (x ∷ xs) (y1 ∷ ys) [] y z = absurd (omega arith)
plane-x (x ∷ xs) (y1 ∷ ys) (z1 ∷ zs) y z =
    ap (λ (more : List ℕ). x ∷ more) (plane-x xs ys zs (omega arith) (omega arith))

pub plane-y : (xs ys zs : List ℕ) → length ys ≡ length xs → length zs ≡ length xs →
    plane_of (λ x y z. y) (interleaved xs ys zs) ≡ ys
plane-y [] [] zs y z = refl
plane-y [] (y1 ∷ ys) zs y z = absurd (omega arith)
plane-y (x ∷ xs) [] zs y z = absurd (omega arith)
plane-y (x ∷ xs) (y1 ∷ ys) [] y z = absurd (omega arith)
plane-y (x ∷ xs) (y1 ∷ ys) (z1 ∷ zs) y z =
    ap (λ (more : List ℕ). y1 ∷ more) (plane-y xs ys zs (omega arith) (omega arith))

pub plane-z : (xs ys zs : List ℕ) → length ys ≡ length xs → length zs ≡ length xs →
    plane_of (λ x y z. z) (interleaved xs ys zs) ≡ zs
plane-z [] ys [] y z = refl
plane-z [] ys (z1 ∷ zs) y z = absurd (omega arith)
plane-z (x ∷ xs) [] zs y z = absurd (omega arith)
plane-z (x ∷ xs) (y1 ∷ ys) [] y z = absurd (omega arith)
plane-z (x ∷ xs) (y1 ∷ ys) (z1 ∷ zs) y z =
    ap (λ (more : List ℕ). z1 ∷ more) (plane-z xs ys zs (omega arith) (omega arith))

-- samples of planes of which each fits
pub All-interleaved : (xs ys zs : List ℕ) → All IsSample xs → All IsSample ys → All IsSample zs →
    All IsSample (interleaved xs ys zs)
All-interleaved [] ys zs x y z = All-nil IsSample
All-interleaved (x1 ∷ xs) [] zs x y z = All-nil IsSample
All-interleaved (x1 ∷ xs) (y1 ∷ ys) [] x y z = All-nil IsSample
All-interleaved (x1 ∷ xs) (y1 ∷ ys) (z1 ∷ zs) x y z =
    let rest = All-interleaved xs ys zs (λ k d lt. x (suc k) d (omega arith))
    (λ k d lt. y (suc k) d (omega arith)) (λ k d lt. z (suc k) d (omega arith)) in
    All-cons IsSample x1 (y1 ∷ z1 ∷ interleaved xs ys zs) (x 0 0 (omega arith))
    (All-cons IsSample y1 (z1 ∷ interleaved xs ys zs) (y 0 0 (omega arith))
    (All-cons IsSample z1 (interleaved xs ys zs) (z 0 0 (omega arith)) rest))

-- a further pixel of a row
pub split-more : (row xs ys zs : List ℕ) (i : ℕ) → i < length xs → length row ≡ 3 * length xs →
    length ys ≡ length xs → length zs ≡ length xs
    → take (3 * i) row ≡ interleaved (take i xs) (take i ys) (take i zs)
    → take (3 * (i + 1)) row ≡ interleaved (take (i + 1) (set xs i (get_or row (3 * i) 0)))
    (take (i + 1) (set ys i (get_or row (3 * i + 1) 0)))
    (take (i + 1) (set zs i (get_or row (3 * i + 2) 0)))
split-more row xs ys zs i lt r y z so_far =
    let place : 3 * (i + 1) ≡ 3 * i + 1 + 1 + 1 = omega arith in
    let place2 : 3 * i + 2 ≡ 3 * i + 1 + 1 = omega arith in
    let a = take_more row (3 * i) 0 (omega arith) in
    let b = take_more row (3 * i + 1) 0 (omega arith) in
    let c = take_more row (3 * i + 1 + 1) 0 (omega arith) in
    rw (
      place,
      place2,
      c,
      b,
      a,
      so_far,
      take_more_set xs i (get_or row (3 * i) 0) lt,
      take_more_set ys i (get_or row (3 * i + 1) 0) (omega arith),
      take_more_set zs i (get_or row (3 * i + 1 + 1) 0) (omega arith),
      interleaved-append (take i xs) (take i ys) (take i zs) _ _ _
          (omega (arith, length-take i xs, length-take i ys))
          (omega (arith, length-take i xs, length-take i zs)),
    )
    (simp append_assoc)

-- each plane fits where all samples do
pub All-x : (xs ys zs : List ℕ) → length ys ≡ length xs → length zs ≡ length xs →
    All IsSample (interleaved xs ys zs) → All IsSample xs
All-x [] ys zs y z all = All-nil IsSample
All-x (x ∷ xs) [] zs y z all = absurd (omega arith)
All-x (x ∷ xs) (y1 ∷ ys) [] y z all = absurd (omega arith)
All-x (x ∷ xs) (y1 ∷ ys) (z1 ∷ zs) y z all =
    All-cons IsSample x xs (all 0 0 (omega arith))
    (All-x xs ys zs (omega arith) (omega arith)
    (λ k d lt. all (suc (suc (suc k))) d (omega arith)))

pub All-y : (xs ys zs : List ℕ) → length ys ≡ length xs → length zs ≡ length xs →
    All IsSample (interleaved xs ys zs) → All IsSample ys
All-y xs [] zs y z all = All-nil IsSample
All-y [] (y1 ∷ ys) zs y z all = absurd (omega arith)
All-y (x ∷ xs) (y1 ∷ ys) [] y z all = absurd (omega arith)
All-y (x ∷ xs) (y1 ∷ ys) (z1 ∷ zs) y z all =
    All-cons IsSample y1 ys (all 1 0 (omega arith))
    (All-y xs ys zs (omega arith) (omega arith)
    (λ k d lt. all (suc (suc (suc k))) d (omega arith)))

pub All-z : (xs ys zs : List ℕ) → length ys ≡ length xs → length zs ≡ length xs →
    All IsSample (interleaved xs ys zs) → All IsSample zs
All-z xs ys [] y z all = All-nil IsSample
All-z [] ys (z1 ∷ zs) y z all = absurd (omega arith)
All-z (x ∷ xs) [] (z1 ∷ zs) y z all = absurd (omega arith)
All-z (x ∷ xs) (y1 ∷ ys) (z1 ∷ zs) y z all =
    All-cons IsSample z1 zs (all 2 0 (omega arith))
    (All-z xs ys zs (omega arith) (omega arith)
    (λ k d lt. all (suc (suc (suc k))) d (omega arith)))
