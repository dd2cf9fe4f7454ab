-- The states and contexts of the MQ coder: ISO/IEC 15444-1, Annex C.2.5, and Annex D, Table D.7.
use Rattle.std.specs.Prelude.{ℕ, ◌<◌, Bool, true, false, List, [], ◌∷◌, ◌++◌, get_or, replicate}
use Rattle.std.specs.Prelude.{not, if◌then◌else◌}

-- A row of Table C.2: the estimate Qe of the probability of the less probable symbol (LPS), where
-- 0x8000 stands for three quarters, the next states after the more probable symbol (MPS) and after
-- the LPS, and whether the LPS becomes the MPS.
pub record StateRow : Type 0 where
  pub qe : ℕ
  pub nmps : ℕ
  pub nlps : ℕ
  pub switch : Bool

abbrev pub line : ℕ → ℕ → ℕ → Bool → StateRow
line qe nmps nlps switch = record { qe = qe; nmps = nmps; nlps = nlps; switch = switch }

-- Table C.2, by state
unfoldable pub state_table : List StateRow
state_table =
    line 0x5601 1 1 true ∷
    line 0x3401 2 6 false ∷
    line 0x1801 3 9 false ∷
    line 0x0AC1 4 12 false ∷
    line 0x0521 5 29 false ∷
    line 0x0221 38 33 false ∷
    line 0x5601 7 6 true ∷
    line 0x5401 8 14 false ∷
    line 0x4801 9 14 false ∷
    line 0x3801 10 14 false ∷
    line 0x3001 11 17 false ∷
    line 0x2401 12 18 false ∷
    line 0x1C01 13 20 false ∷
    line 0x1601 29 21 false ∷
    line 0x5601 15 14 true ∷
    line 0x5401 16 14 false ∷
    line 0x5101 17 15 false ∷
    line 0x4801 18 16 false ∷
    line 0x3801 19 17 false ∷
    line 0x3401 20 18 false ∷
    line 0x3001 21 19 false ∷
    line 0x2801 22 19 false ∷
    line 0x2401 23 20 false ∷
    line 0x2201 24 21 false ∷
    line 0x1C01 25 22 false ∷
    line 0x1801 26 23 false ∷
    line 0x1601 27 24 false ∷
    line 0x1401 28 25 false ∷
    line 0x1201 29 26 false ∷
    line 0x1101 30 27 false ∷
    line 0x0AC1 31 28 false ∷
    line 0x09C1 32 29 false ∷
    line 0x08A1 33 30 false ∷
    line 0x0521 34 31 false ∷
    line 0x0441 35 32 false ∷
    line 0x02A1 36 33 false ∷
    line 0x0221 37 34 false ∷
    line 0x0141 38 35 false ∷
    line 0x0111 39 36 false ∷
    line 0x0085 40 37 false ∷
    line 0x0049 41 38 false ∷
    line 0x0025 42 39 false ∷
    line 0x0015 43 40 false ∷
    line 0x0009 44 41 false ∷
    line 0x0005 45 42 false ∷
    line 0x0001 45 43 false ∷
    line 0x5601 46 46 false ∷
    []

-- the row of a state; past the table that of state 46
unfoldable pub row : ℕ → StateRow
row state = get_or state_table state (line 0x5601 46 46 false)

-- A context: its state and its more probable symbol. Its state is one of the table's.
abbrev pub InTable : ℕ × Bool → Type 0
InTable context = context.0 < 47

-- Table D.7: context 0 in state 4, 17 in state 3, 18 in state 46, the others in state 0
unfoldable pub start_contexts : List (ℕ × Bool)
start_contexts = (4, false) ∷ (replicate 16 (0, false) ++ (3, false) ∷ (46, false) ∷ [])

-- the context of a number; past the list one in state 0
abbrev pub context_at : List (ℕ × Bool) → ℕ → ℕ × Bool
context_at contexts cx = get_or contexts cx (0, false)

-- whether two symbols are the same
abbrev pub same : Bool → Bool → Bool
same true bit = bit
same false bit = not bit

-- a context after a symbol
unfoldable pub after_symbol : ℕ × Bool → Bool → ℕ × Bool
after_symbol (state, mps) bit =
    if same bit mps then ((row state).nmps, mps)
    else ((row state).nlps, (if (row state).switch then not mps else mps))
