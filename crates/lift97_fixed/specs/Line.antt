-- The irreversible 9-7 wavelet transform of one line in fixed point: ISO/IEC 15444-1, Annex F.4
-- (1D_SD, 1D_EXTD, 1D_FILTD 9-7 and the split of 2D_DEINTERLEAVE).
use Rattle.std.specs.Prelude.{ℕ, suc, zero, ◌+◌, ◌-◌, ◌*◌, ◌/◌, ◌%◌, ℤ, pos, negsuc, ◌+ℤ◌, List, []}
use Rattle.std.specs.Prelude.{◌≡◌, ◌⊎◌, ◌∷◌, ◌++◌, map, length, slice_index_or, nat_lt, nat_eq}
use Rattle.std.specs.Prelude.{if◌then◌else◌}
use Rattle.std.specs.List.{range_with_len}
use Rattle.cine_nums.specs.Fixed.{mul16, limit30}

-- The lifting parameters of Table F.4 times 65,536, rounded: -1.586.., -0.052.., 0.882.., 0.443..,
-- the scaling K = 1.230.., and 1/K.
abbrev pub alpha : ℤ
alpha = negsuc 103948

abbrev pub beta : ℤ
beta = negsuc 3471

abbrev pub gamma : ℤ
gamma = pos 57862

abbrev pub delta : ℤ
delta = pos 29066

abbrev pub scaling : ℤ
scaling = pos 80621

abbrev pub inverse_scaling : ℤ
inverse_scaling = pos 53274

-- c is a lifting parameter, or a factor of the scaling
abbrev pub IsParameter : ℤ → Type 0
IsParameter c = (c ≡ alpha) ⊎ ((c ≡ beta) ⊎ ((c ≡ gamma) ⊎ (c ≡ delta)))

abbrev pub IsScaling : ℤ → Type 0
IsScaling c = (c ≡ scaling) ⊎ (c ≡ inverse_scaling)

-- the sample at place i
abbrev pub at : List ℤ → ℕ → ℤ
at xs i = slice_index_or xs i (pos 0)

-- The places beside place i of a line of n samples, mirrored at its ends: place -1 is place 1,
-- place n is n - 2.
abbrev pub left_of : ℕ → ℕ
left_of zero = 1
left_of (suc i) = i

abbrev pub right_of : ℕ → ℕ → ℕ
right_of n i = if nat_lt (i + 1) n then (i + 1) else (n - 2)

-- one sample after a lifting step, from its two neighbours
unfoldable pub lifted : ℤ → ℤ → ℤ → ℤ → ℤ
lifted c x left right = limit30 (x +ℤ mul16 c (left +ℤ right))

-- one sample after the scaling
unfoldable pub scaled : ℤ → ℤ → ℤ
scaled c x = limit30 (mul16 c x)

-- The lifting step with parameter c: each odd place (parity 1) or each even place (parity 0) takes
-- its two neighbours in, and the others stay.
abbrev pub lifted_at : ℤ → ℕ → List ℤ → ℕ → ℤ
lifted_at c parity xs i =
    if nat_eq (i % 2) parity
    then lifted c (at xs i) (at xs (left_of i)) (at xs (right_of (length xs) i))
    else at xs i

unfoldable pub lift : ℤ → ℕ → List ℤ → List ℤ
lift c parity xs = map (lifted_at c parity xs) (range_with_len 0 (length xs))

-- the scaling of each odd or each even place
abbrev pub scaled_at : ℤ → ℕ → List ℤ → ℕ → ℤ
scaled_at c parity xs i = if nat_eq (i % 2) parity then scaled c (at xs i) else at xs i

unfoldable pub scale : ℤ → ℕ → List ℤ → List ℤ
scale c parity xs = map (scaled_at c parity xs) (range_with_len 0 (length xs))

-- the six steps
abbrev pub filtered : List ℤ → List ℤ
filtered xs =
    scale inverse_scaling 0 (scale scaling 1
    (lift delta 0 (lift gamma 1 (lift beta 0 (lift alpha 1 xs)))))

-- the samples at even places, and those at odd places
abbrev pub evens : List ℤ → List ℤ
evens [] = []
evens (x ∷ []) = x ∷ []
evens (x ∷ y ∷ rest) = x ∷ evens rest

abbrev pub odds : List ℤ → List ℤ
odds [] = []
odds (x ∷ []) = []
odds (x ∷ y ∷ rest) = y ∷ odds rest

-- the low-pass samples, then the high-pass ones
unfoldable pub split : List ℤ → List ℤ
split xs = evens xs ++ odds xs

-- the place of the sample that the split of n samples puts at place j
abbrev pub source_of : ℕ → ℕ → ℕ
source_of n j = if nat_lt j (n - n / 2) then (2 * j) else (2 * (j - (n - n / 2)) + 1)

-- the transform of a line; a line of one sample is unchanged
unfoldable pub line_transform : List ℤ → List ℤ
line_transform xs = if nat_lt (length xs) 2 then xs else split (filtered xs)
