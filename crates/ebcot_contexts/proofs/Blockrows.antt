-- Worked blocks: symbols and unknown planes of all passes, as the tables' procedures over sets of
-- places give them.
use Rattle.std.proofs.Common.{ℕ, Bool, true, false, List, [], ◌∷◌, ◌++◌, ◌≡◌, refl, length}
use Rattle.std.proofs.Common.{replicate}
use Rattle.cine_nums.specs.declared.orient.Orient.TheVariants.{LL, HL, LH, HH}
use Rattle.ebcot_contexts.specs.Contexts.{Shape, context_at, sign_at, is_quiet, refinement_at}
use Rattle.ebcot_contexts.specs.Contexts.{lh_context, hh_context}
use Rattle.ebcot_contexts.specs.Passes.{sign_asked, after_bit, place, visit, run, four, scan, pass}
use Rattle.ebcot_contexts.specs.Passes.{block}
use Rattle.ebcot_contexts.specs.Meaning.{symbols_of, unknown_after}

-- all that a block's symbols are computed by
computed : ℕ
unfolding block pass scan four run visit place after_bit sign_asked context_at sign_at is_quiet refinement_at lh_context hh_context
computed = 0

-- a block of 5 by 1, LL
coefs_1 : List (ℕ × Bool)
coefs_1 = (0, false) ∷ (1, true) ∷ (6, true) ∷ (6, true) ∷ (6, true) ∷ []

abbrev shape_1 : Shape
shape_1 = record { orient = LL; width = 5; height = 1; planes = 3 }

row_1 : (symbols_of coefs_1 shape_1 7
    ≡ (0, false) ∷ (0, false) ∷ (0, true) ∷ (9, true) ∷ (5, true) ∷ (12, false) ∷ (5, true)
    ∷ (12, false) ∷ (5, false) ∷ (15, true) ∷ (15, true) ∷ (15, true) ∷ (0, false) ∷ (5, true)
    ∷ (12, false) ∷ (16, false) ∷ (16, false) ∷ (16, false) ∷ (5, false) ∷ []) ×
    (unknown_after coefs_1 shape_1 7 ≡ 0 ∷ 0 ∷ 0 ∷ 0 ∷ 0 ∷ [])
unfolding computed coefs_1
row_1 = (refl, refl)

-- a block of 1 by 5, LL
coefs_2 : List (ℕ × Bool)
coefs_2 = (0, false) ∷ (6, true) ∷ (2, false) ∷ (0, false) ∷ (0, false) ∷ []

abbrev shape_2 : Shape
shape_2 = record { orient = LL; width = 1; height = 5; planes = 3 }

row_2 : (symbols_of coefs_2 shape_2 7
    ≡ (17, true) ∷ (18, false) ∷ (18, true) ∷ (9, true) ∷ (3, false) ∷ (0, false) ∷ (0, false)
    ∷ (3, false) ∷ (3, true) ∷ (10, true) ∷ (3, false) ∷ (15, true) ∷ (0, false) ∷ (3, false)
    ∷ (3, false) ∷ (16, false) ∷ (15, false) ∷ (0, false) ∷ []) ×
    (unknown_after coefs_2 shape_2 7 ≡ 0 ∷ 0 ∷ 0 ∷ 0 ∷ 0 ∷ [])
unfolding computed coefs_2
row_2 = (refl, refl)

-- a block of 3 by 3, HL
coefs_3 : List (ℕ × Bool)
coefs_3 = (2, true) ∷ (2, false) ∷ (2, true) ∷ (0, false) ∷ (0, false) ∷ (0, false) ∷ (0, false)
    ∷ (6, true) ∷ (0, false) ∷ []

abbrev shape_3 : Shape
shape_3 = record { orient = HL; width = 3; height = 3; planes = 3 }

row_3 : (symbols_of coefs_3 shape_3 7
    ≡ (0, false) ∷ (0, false) ∷ (0, false) ∷ (0, false) ∷ (0, false) ∷ (0, true) ∷ (9, true)
    ∷ (0, false) ∷ (1, false) ∷ (3, false) ∷ (1, false) ∷ (3, false) ∷ (5, false) ∷ (1, false)
    ∷ (3, false) ∷ (14, true) ∷ (0, true) ∷ (9, true) ∷ (3, true) ∷ (12, true) ∷ (3, true)
    ∷ (12, true) ∷ (6, false) ∷ (3, false) ∷ (8, false) ∷ (6, false) ∷ (3, false)
    ∷ (15, false) ∷ (15, false) ∷ (16, false) ∷ (15, false) ∷ []) ×
    (unknown_after coefs_3 shape_3 7 ≡ 0 ∷ 0 ∷ 0 ∷ 0 ∷ 0 ∷ 0 ∷ 0 ∷ 0 ∷ 0 ∷ [])
unfolding computed coefs_3
row_3 = (refl, refl)

-- a block of 2 by 5, LH
coefs_4 : List (ℕ × Bool)
coefs_4 = (6, true) ∷ (0, false) ∷ (0, false) ∷ (0, false) ∷ (0, false) ∷ (2, true) ∷ (0, false)
    ∷ (6, false) ∷ (0, false) ∷ (0, false) ∷ []

abbrev shape_4 : Shape
shape_4 = record { orient = LH; width = 2; height = 5; planes = 3 }

row_4 : (symbols_of coefs_4 shape_4 7
    ≡ (17, true) ∷ (18, false) ∷ (18, false) ∷ (9, true) ∷ (3, false) ∷ (0, false) ∷ (0, false)
    ∷ (5, false) ∷ (1, false) ∷ (0, false) ∷ (0, true) ∷ (9, false) ∷ (1, false) ∷ (3, false)
    ∷ (3, false) ∷ (1, false) ∷ (5, false) ∷ (5, false) ∷ (1, false) ∷ (3, true)
    ∷ (10, true) ∷ (1, false) ∷ (3, false) ∷ (14, true) ∷ (15, true) ∷ (3, false)
    ∷ (6, false) ∷ (6, false) ∷ (5, false) ∷ (3, false) ∷ (1, false) ∷ (3, false)
    ∷ (16, false) ∷ (15, false) ∷ (16, false) ∷ []) ×
    (unknown_after coefs_4 shape_4 7
    ≡ 0 ∷ 0 ∷ 0 ∷ 0 ∷ 0 ∷ 0 ∷ 0 ∷ 0 ∷ 0 ∷ 0 ∷ [])
unfolding computed coefs_4
row_4 = (refl, refl)

-- a block of 4 by 4, HH
coefs_5 : List (ℕ × Bool)
coefs_5 = (6, true) ∷ (0, false) ∷ (0, false) ∷ (5, false) ∷ (0, false) ∷ (0, false) ∷ (6, true)
    ∷ (0, false) ∷ (0, false) ∷ (0, false) ∷ (0, false) ∷ (0, false) ∷ (0, false) ∷ (0, false)
    ∷ (0, false) ∷ (0, false) ∷ []

abbrev shape_5 : Shape
shape_5 = record { orient = HH; width = 4; height = 4; planes = 3 }

row_5 : (symbols_of coefs_5 shape_5 7
    ≡ (17, true) ∷ (18, false) ∷ (18, false) ∷ (9, true) ∷ (1, false) ∷ (0, false) ∷ (0, false)
    ∷ (1, false) ∷ (3, false) ∷ (0, false) ∷ (0, false) ∷ (17, true) ∷ (18, false) ∷ (18, true)
    ∷ (9, true) ∷ (1, false) ∷ (0, false) ∷ (3, true) ∷ (9, false) ∷ (2, false) ∷ (3, false)
    ∷ (0, false) ∷ (1, false) ∷ (4, false) ∷ (4, false) ∷ (3, false) ∷ (2, false)
    ∷ (1, false) ∷ (2, false) ∷ (3, false) ∷ (14, true) ∷ (15, true) ∷ (15, false)
    ∷ (0, false) ∷ (0, false) ∷ (0, false) ∷ (0, false) ∷ (0, false)
    ∷ (1, false) ∷ (4, false) ∷ (4, false) ∷ (3, false) ∷ (2, false)
    ∷ (1, false) ∷ (2, false) ∷ (3, false) ∷ (16, false) ∷ (16, false)
    ∷ (16, true) ∷ (0, false) ∷ (0, false) ∷ (0, false) ∷ (0, false)
    ∷ (0, false) ∷ []) × (unknown_after coefs_5 shape_5 7
    ≡ 0 ∷ 0 ∷ 0 ∷ 0 ∷ 0 ∷ 0 ∷ 0 ∷ 0 ∷ 0 ∷ 0 ∷ 0 ∷ 0 ∷ 0 ∷ 0
    ∷ 0 ∷ 0 ∷ [])
unfolding computed coefs_5
row_5 = (refl, refl)

-- a block of 3 by 9, LL
coefs_6 : List (ℕ × Bool)
coefs_6 = (0, false) ∷ (0, false) ∷ (0, false) ∷ (0, false) ∷ (5, false) ∷ (0, false) ∷ (0, false)
    ∷ (0, false) ∷ (0, false) ∷ (0, false) ∷ (0, false) ∷ (3, true) ∷ (2, false) ∷ (0, false)
    ∷ (0, false) ∷ (0, false) ∷ (5, true) ∷ (0, false) ∷ (0, false) ∷ (0, false) ∷ (0, false)
    ∷ (5, true) ∷ (0, false) ∷ (0, false) ∷ (0, false) ∷ (1, true) ∷ (2, false) ∷ []

abbrev shape_6 : Shape
shape_6 = record { orient = LL; width = 3; height = 9; planes = 3 }

row_6 : (symbols_of coefs_6 shape_6 7
    ≡ (17, false) ∷ (17, true) ∷ (18, false) ∷ (18, true) ∷ (9, false) ∷ (3, false) ∷ (0, false)
    ∷ (1, false) ∷ (5, false) ∷ (1, false) ∷ (0, false) ∷ (17, true) ∷ (18, true) ∷ (18, true)
    ∷ (9, true) ∷ (0, false) ∷ (0, true) ∷ (9, true) ∷ (3, false) ∷ (5, false) ∷ (1, false)
    ∷ (5, false) ∷ (1, false) ∷ (0, false) ∷ (3, false) ∷ (1, false) ∷ (0, false)
    ∷ (1, false) ∷ (5, false) ∷ (1, false) ∷ (3, false) ∷ (3, false) ∷ (1, false)
    ∷ (5, false) ∷ (1, false) ∷ (1, true) ∷ (9, false) ∷ (7, false) ∷ (3, false)
    ∷ (7, false) ∷ (3, false) ∷ (5, false) ∷ (1, false) ∷ (5, false)
    ∷ (1, false) ∷ (3, false) ∷ (1, false) ∷ (14, false) ∷ (14, false)
    ∷ (15, false) ∷ (3, false) ∷ (1, false) ∷ (0, true) ∷ (9, true)
    ∷ (0, false) ∷ (0, true) ∷ (9, false) ∷ (1, false)
    ∷ (5, false) ∷ (1, false) ∷ (3, false) ∷ (3, false)
    ∷ (3, false) ∷ (6, false) ∷ (1, false) ∷ (5, false)
    ∷ (3, false) ∷ (7, false) ∷ (3, false)
    ∷ (7, false) ∷ (3, false) ∷ (6, false)
    ∷ (3, false) ∷ (5, false) ∷ (1, false)
    ∷ (3, false) ∷ (3, false)
    ∷ (6, true) ∷ (12, true)
    ∷ (16, true) ∷ (14, true)
    ∷ (15, false) ∷ (16, true) ∷ (16, true) ∷ (15, false) ∷ []) × (unknown_after coefs_6 shape_6 7 ≡ 0 ∷ 0 ∷ 0 ∷ 0 ∷ 0 ∷ 0 ∷ 0 ∷ 0 ∷ 0 ∷ 0 ∷ 0 ∷ 0 ∷ 0 ∷ 0 ∷ 0 ∷ 0 ∷ 0 ∷ 0 ∷ 0 ∷ 0 ∷ 0 ∷ 0 ∷ 0 ∷ 0 ∷ 0 ∷ 0 ∷ 0 ∷ [])
unfolding computed coefs_6
row_6 = (refl, refl)

-- a block of 4 by 8, HH
coefs_7 : List (ℕ × Bool)
coefs_7 = (0, false) ∷ (0, false) ∷ (6, true) ∷ (0, false) ∷ (0, false) ∷ (0, false) ∷ (0, false)
    ∷ (0, false) ∷ (0, false) ∷ (0, false) ∷ (0, false) ∷ (0, false) ∷ (0, false) ∷ (0, false)
    ∷ (0, false) ∷ (2, true) ∷ (0, false) ∷ (6, true) ∷ (1, true) ∷ (0, false) ∷ (0, false)
    ∷ (0, false) ∷ (0, false) ∷ (2, true) ∷ (0, false) ∷ (3, false) ∷ (0, false)
    ∷ (0, false) ∷ (0, false) ∷ (5, true) ∷ (0, false) ∷ (0, false) ∷ []

abbrev shape_7 : Shape
shape_7 = record { orient = HH; width = 4; height = 8; planes = 3 }

row_7 : (symbols_of coefs_7 shape_7 7
    ≡ (17, false) ∷ (17, false) ∷ (17, true) ∷ (18, false) ∷ (18, false) ∷ (9, true) ∷ (1, false)
    ∷ (0, false) ∷ (0, false) ∷ (1, false) ∷ (3, false) ∷ (0, false) ∷ (0, false) ∷ (17, false)
    ∷ (17, true) ∷ (18, false) ∷ (18, false) ∷ (9, true) ∷ (1, false) ∷ (0, false)
    ∷ (0, true) ∷ (9, true) ∷ (1, false) ∷ (3, false) ∷ (3, false) ∷ (1, false)
    ∷ (17, false) ∷ (3, false) ∷ (1, false) ∷ (3, false) ∷ (1, false) ∷ (1, false)
    ∷ (3, false) ∷ (1, false) ∷ (3, false) ∷ (1, false) ∷ (3, false)
    ∷ (3, false) ∷ (1, false) ∷ (1, false) ∷ (1, true) ∷ (10, true)
    ∷ (1, false) ∷ (6, false) ∷ (4, false) ∷ (4, false) ∷ (14, true)
    ∷ (14, true) ∷ (15, false) ∷ (0, false) ∷ (0, false)
    ∷ (0, false) ∷ (0, false) ∷ (0, false) ∷ (0, false)
    ∷ (0, true) ∷ (9, true) ∷ (1, false) ∷ (0, true)
    ∷ (9, true) ∷ (1, false) ∷ (0, false) ∷ (3, false)
    ∷ (1, false) ∷ (3, false) ∷ (1, false)
    ∷ (1, false) ∷ (3, false) ∷ (4, false)
    ∷ (1, false) ∷ (3, false) ∷ (1, false)
    ∷ (1, false) ∷ (6, false)
    ∷ (4, false) ∷ (4, false)
    ∷ (2, false) ∷ (7, true)
    ∷ (12, false) ∷ (7, false) ∷ (7, false) ∷ (4, false) ∷ (2, false) ∷ (1, false) ∷ (16, false) ∷ (15, false) ∷ (16, false) ∷ (15, true) ∷ (16, true) ∷ (15, false) ∷ (0, false) ∷ (0, false) ∷ (0, false) ∷ (0, false) ∷ (0, false) ∷ []) × (unknown_after coefs_7 shape_7 7 ≡ 0 ∷ 0 ∷ 0 ∷ 0 ∷ 0 ∷ 0 ∷ 0 ∷ 0 ∷ 0 ∷ 0 ∷ 0 ∷ 0 ∷ 0 ∷ 0 ∷ 0 ∷ 0 ∷ 0 ∷ 0 ∷ 0 ∷ 0 ∷ 0 ∷ 0 ∷ 0 ∷ 0 ∷ 0 ∷ 0 ∷ 0 ∷ 0 ∷ 0 ∷ 0 ∷ 0 ∷ 0 ∷ [])
unfolding computed coefs_7
row_7 = (refl, refl)

-- a block of 5 by 5, HL
coefs_8 : List (ℕ × Bool)
coefs_8 = (6, true) ∷ (0, false) ∷ (0, false) ∷ (0, false) ∷ (0, false) ∷ (1, false) ∷ (0, false)
    ∷ (3, false) ∷ (0, false) ∷ (0, false) ∷ (6, false) ∷ (0, false) ∷ (0, false) ∷ (2, true)
    ∷ (0, false) ∷ (0, false) ∷ (0, false) ∷ (6, true) ∷ (0, false) ∷ (0, false) ∷ (0, false)
    ∷ (0, false) ∷ (0, false) ∷ (6, true) ∷ (0, false) ∷ []

abbrev shape_8 : Shape
shape_8 = record { orient = HL; width = 5; height = 5; planes = 3 }

row_8 : (symbols_of coefs_8 shape_8 7
    ≡ (17, true) ∷ (18, false) ∷ (18, false) ∷ (9, true) ∷ (5, false) ∷ (0, true) ∷ (9, false)
    ∷ (5, false) ∷ (3, false) ∷ (2, false) ∷ (3, false) ∷ (1, false) ∷ (17, true) ∷ (18, true)
    ∷ (18, true) ∷ (9, true) ∷ (0, false) ∷ (0, false) ∷ (1, false) ∷ (3, false)
    ∷ (17, false) ∷ (0, false) ∷ (1, false) ∷ (5, false) ∷ (1, true) ∷ (9, true)
    ∷ (3, false) ∷ (8, false) ∷ (5, false) ∷ (3, false) ∷ (2, false) ∷ (3, false)
    ∷ (3, false) ∷ (5, false) ∷ (1, true) ∷ (9, true) ∷ (8, false) ∷ (1, false)
    ∷ (3, false) ∷ (2, false) ∷ (1, false) ∷ (7, false) ∷ (3, false)
    ∷ (14, true) ∷ (14, true) ∷ (15, true) ∷ (15, true) ∷ (0, false)
    ∷ (1, true) ∷ (9, false) ∷ (1, false) ∷ (7, false) ∷ (0, false)
    ∷ (0, false) ∷ (8, true) ∷ (9, false) ∷ (5, false)
    ∷ (3, false) ∷ (4, false) ∷ (3, false) ∷ (3, false)
    ∷ (5, false) ∷ (8, false) ∷ (1, false) ∷ (7, false)
    ∷ (8, false) ∷ (1, false) ∷ (3, false)
    ∷ (2, false) ∷ (1, false) ∷ (7, false)
    ∷ (3, false) ∷ (16, false) ∷ (16, false)
    ∷ (15, true) ∷ (16, false)
    ∷ (15, false) ∷ (16, false)
    ∷ (0, false) ∷ (0, false)
    ∷ []) × (unknown_after coefs_8 shape_8 7 ≡ 0 ∷ 0 ∷ 0 ∷ 0 ∷ 0 ∷ 0 ∷ 0 ∷ 0 ∷ 0 ∷ 0 ∷ 0 ∷ 0 ∷ 0 ∷ 0 ∷ 0 ∷ 0 ∷ 0 ∷ 0 ∷ 0 ∷ 0 ∷ 0 ∷ 0 ∷ 0 ∷ 0 ∷ 0 ∷ [])
unfolding computed coefs_8
row_8 = (refl, refl)

-- one column and a row of a next stripe
coefs_20 : List (ℕ × Bool)
coefs_20 = (0, false) ∷ (0, false) ∷ (0, false) ∷ (0, false) ∷ (1, false) ∷ []

abbrev shape_20 : Shape
shape_20 = record { orient = LL; width = 1; height = 5; planes = 1 }

row_20 : (symbols_of coefs_20 shape_20 1 ≡ (17, false) ∷ (0, true) ∷ (9, false) ∷ []) ×
    (unknown_after coefs_20 shape_20 1 ≡ 0 ∷ 0 ∷ 0 ∷ 0 ∷ 0 ∷ [])
unfolding computed coefs_20
row_20 = (refl, refl)

-- cleanup leaves alone what significance left at 0
coefs_21 : List (ℕ × Bool)
coefs_21 = (2, false) ∷ (0, false) ∷ []

abbrev shape_21 : Shape
shape_21 = record { orient = LL; width = 2; height = 1; planes = 2 }

row_21 : (symbols_of coefs_21 shape_21 4
    ≡ (0, true) ∷ (9, false) ∷ (5, false) ∷ (5, false) ∷ (14, false) ∷ []) ×
    (unknown_after coefs_21 shape_21 4 ≡ 0 ∷ 0 ∷ [])
unfolding computed coefs_21
row_21 = (refl, refl)

-- a refinement beside a place that is new in this plane
coefs_22 : List (ℕ × Bool)
coefs_22 = (3, false) ∷ (1, false) ∷ []

abbrev shape_22 : Shape
shape_22 = record { orient = LL; width = 2; height = 1; planes = 2 }

row_22 : (symbols_of coefs_22 shape_22 4
    ≡ (0, true) ∷ (9, false) ∷ (5, false) ∷ (5, true) ∷ (12, false) ∷ (15, true) ∷ []) ×
    (unknown_after coefs_22 shape_22 4 ≡ 0 ∷ 0 ∷ [])
unfolding computed coefs_22
row_22 = (refl, refl)

-- contexts at their turn
coefs_23 : List (ℕ × Bool)
coefs_23 = (1, false) ∷ (0, false) ∷ []

abbrev shape_23 : Shape
shape_23 = record { orient = LL; width = 1; height = 2; planes = 1 }

row_23 : (symbols_of coefs_23 shape_23 1 ≡ (0, true) ∷ (9, false) ∷ (3, false) ∷ []) ×
    (unknown_after coefs_23 shape_23 1 ≡ 0 ∷ 0 ∷ [])
unfolding computed coefs_23
row_23 = (refl, refl)

corner : ℕ → List (ℕ × Bool)
corner n = (1, false) ∷ replicate n (0, false)

abbrev square : ℕ → Shape
square n = record { orient = LL; width = n; height = n; planes = 1 }

corner_8 : length (symbols_of (corner 63) (square 8) 1) ≡ 25
unfolding computed corner
corner_8 = refl

corner_16 : length (symbols_of (corner 255) (square 16) 1) ≡ 73
unfolding computed corner
corner_16 = refl

-- +1 in the corner of a block of 32 by 32: 265 symbols
corner_32 : symbols_of (corner 1023) (square 32) 1
    ≡ ((17, true) ∷ (18, false) ∷ (18, false) ∷ (9, false) ∷ (3, false) ∷ (0, false) ∷ (0, false)
    ∷ (5, false) ∷ (1, false) ∷ (0, false) ∷ (0, false) ∷ []) ++ replicate 254 (17, false)
unfolding computed corner
corner_32 = refl
