-- The coding passes: ISO/IEC 15444-1, Annex D.1 (scan) and D.3 (passes).
use Rattle.std.specs.Prelude.{ℕ, zero, suc, ◌+◌, ◌-◌, ◌*◌, ◌/◌, ◌%◌, Bool, true, false, not, ◌&&◌}
use Rattle.std.specs.Prelude.{◌==◌, nat_lt, List, [], ◌∷◌, set, map, replicate, if◌then◌else◌}
use Rattle.ebcot_contexts.specs.Cells.{Cell, fresh, is_significant, cell_at, learn}
use Rattle.ebcot_contexts.specs.Cells.{become_significant}
use Rattle.ebcot_contexts.specs.Contexts.{Shape, context_at, sign_at, is_quiet, refinement_at}
use Rattle.ebcot_contexts.specs.Asks.{bit, sign, interrupted, row_high, row_low, Asks, done, ask}
use Rattle.ebcot_contexts.specs.Asks.{chain, flipped}

-- the significance propagation, the magnitude refinement and the cleanup pass of a bit-plane
pub data Kind : Type 0 where
  significance refinement cleanup : Kind

-- no pass of plane p has coded the place yet
abbrev pub is_untouched : ℕ → Cell → Bool
is_untouched p c = c.unknown == suc p

-- a place learns its bit of plane p, and no sign
abbrev pub learned : ℕ → Bool → ℕ → List Cell → List Cell
learned p b i cells = set cells i (learn p b (cell_at cells i))

-- A place becomes significant: its sign is asked (D.3.2).
unfoldable pub sign_asked : Shape → ℕ → ℕ → List Cell → Asks
sign_asked s p i cells =
    let at = sign_at s cells i in
    ask at.0 (sign at.1 i)
    (λ b. done (set cells i (become_significant p (flipped at.1 b) (cell_at cells i))))

-- The bit of a place is b. Where that makes it significant, its sign follows at once.
unfoldable pub after_bit : Shape → ℕ → ℕ → List Cell → Bool → Asks
after_bit s p i cells b =
    elim (b && not (is_significant (cell_at cells i))) [
      | true ↦ sign_asked s p i cells
      | false ↦ done (learned p b i cells)
    ]

-- a place is coded in plane p, its bit in the context cx
unfoldable pub place : Shape → ℕ → ℕ → ℕ → List Cell → Asks
place s cx p i cells = ask cx (bit p i) (after_bit s p i cells)

-- Whether a pass of plane p codes a place. The significance pass (D.3.1) codes each insignificant
-- place with a significant neighbour, the refinement pass (D.3.3) each place that was significant
-- before this plane, the cleanup pass (D.3.4) each that neither pass has coded.
abbrev pub is_coded : Kind → Shape → ℕ → ℕ → List Cell → Bool
is_coded significance s p i cells =
    is_untouched p (cell_at cells i) && not (is_significant (cell_at cells i))
    && not (is_quiet s cells i)
is_coded refinement s p i cells =
    is_untouched p (cell_at cells i) && is_significant (cell_at cells i)
is_coded cleanup s p i cells = is_untouched p (cell_at cells i)

-- the context of the bit of a coded place
abbrev pub coded_in : Kind → Shape → ℕ → List Cell → ℕ
coded_in significance s i cells = context_at s cells i
coded_in refinement s i cells = refinement_at s cells i
coded_in cleanup s i cells = context_at s cells i

unfoldable pub visit : Kind → Shape → ℕ → ℕ → List Cell → Asks
visit kind s p i cells =
    elim (is_coded kind s p i cells) [
      | true ↦ place s (coded_in kind s i cells) p i cells
      | false ↦ done cells
    ]

-- places in turn
abbrev pub each : Kind → Shape → ℕ → List ℕ → List Cell → Asks
each kind s p [] cells = done cells
each kind s p (i ∷ is) cells = chain (visit kind s p i cells) (each kind s p is)

-- Run mode (D.3.4, Table D.5): the four places of a column at once.

-- places whose bit turned out to be 0
abbrev pub zeros : ℕ → List ℕ → List Cell → List Cell
zeros p [] cells = cells
zeros p (i ∷ is) cells = zeros p is (learned p false i cells)

-- The first 1 is at i, with only zeros before it: its sign is asked, and the places below it are
-- coded one by one.
abbrev pub found : Shape → ℕ → List ℕ → ℕ → List ℕ → List Cell → Asks
found s p before i below cells =
    chain (sign_asked s p i (zeros p before cells)) (each cleanup s p below)

-- by the high and the low bit of its row
abbrev pub found_at : Shape → ℕ → ℕ → ℕ → ℕ → ℕ → List Cell → Bool → Bool → Asks
found_at s p a b c d cells false false = found s p [] a (b ∷ c ∷ d ∷ []) cells
found_at s p a b c d cells false true = found s p (a ∷ []) b (c ∷ d ∷ []) cells
found_at s p a b c d cells true false = found s p (a ∷ b ∷ []) c (d ∷ []) cells
found_at s p a b c d cells true true = found s p (a ∷ b ∷ c ∷ []) d [] cells

-- by whether there is a 1: the row is asked in context 18, the uniform one
abbrev pub any_found : Shape → ℕ → ℕ → ℕ → ℕ → ℕ → List Cell → Bool → Asks
any_found s p a b c d cells false = done (zeros p (a ∷ b ∷ c ∷ d ∷ []) cells)
any_found s p a b c d cells true =
    ask 18 (row_high p a b c d)
    (λ h. ask 18 (row_low p a b c d) (λ l. found_at s p a b c d cells h l))

-- whether there is a 1 is asked in context 17, the run-length one
unfoldable pub run : Shape → ℕ → ℕ → ℕ → ℕ → ℕ → List Cell → Asks
run s p a b c d cells = ask 17 (interrupted p a b c d) (any_found s p a b c d cells)

-- a place may be coded in run mode: not coded in this plane, insignificant, and in context 0
abbrev pub is_calm : Shape → ℕ → List Cell → ℕ → Bool
is_calm s p cells i =
    is_untouched p (cell_at cells i) && not (is_significant (cell_at cells i))
    && is_quiet s cells i

-- the cleanup of a column of four
unfoldable pub four : Shape → ℕ → ℕ → ℕ → ℕ → ℕ → List Cell → Asks
four s p a b c d cells =
    elim (is_calm s p cells a && is_calm s p cells b && is_calm s p cells c && is_calm s p cells d) [
      | true ↦ run s p a b c d cells
      | false ↦ each cleanup s p (a ∷ b ∷ c ∷ d ∷ []) cells
    ]

-- a column of a stripe; only one of four places has run mode
abbrev pub column : Kind → Shape → ℕ → List ℕ → List Cell → Asks
column cleanup s p (a ∷ b ∷ c ∷ d ∷ []) cells = four s p a b c d cells
column kind s p is cells = each kind s p is cells

-- The scan (D.1): stripes of four rows from the top, in a stripe the columns from the left, in a
-- column the places from the top.

-- the places of a column: at most n, from row y on
abbrev pub column_from : ℕ → ℕ → ℕ → ℕ → ℕ → List ℕ
column_from zero w h x y = []
column_from (suc n) w h x y =
    elim (nat_lt y h) [ true ↦ (y * w + x) ∷ column_from n w h x (suc y) | false ↦ [] ]

-- column c of the scan
abbrev pub column_at : ℕ → ℕ → ℕ → List ℕ
column_at w h c = column_from 4 w h (c % w) (4 * (c / w))

-- n numbers from c on
abbrev pub counted : ℕ → ℕ → List ℕ
counted zero c = []
counted (suc n) c = c ∷ counted n (suc c)

unfoldable pub scan : ℕ → ℕ → List (List ℕ)
scan w h = map (column_at w h) (counted (w * ((h + 3) / 4)) 0)

-- columns in turn
abbrev pub columns : Kind → Shape → ℕ → List (List ℕ) → List Cell → Asks
columns kind s p [] cells = done cells
columns kind s p (is ∷ rest) cells = chain (column kind s p is cells) (columns kind s p rest)

-- Pass j, counted from 0: a cleanup of the most significant plane, then three passes of each plane
-- below it.
abbrev pub kind_at : ℕ → Kind
kind_at n = if n == 0 then significance else if n == 1 then refinement else cleanup

abbrev pub kind_of : ℕ → Kind
kind_of j = kind_at ((j + 2) % 3)

abbrev pub plane_of : Shape → ℕ → ℕ
plane_of s j = s.planes - 1 - (j + 2) / 3

unfoldable pub pass : Shape → ℕ → List Cell → Asks
pass s j cells = columns (kind_of j) s (plane_of s j) (scan s.width s.height) cells

-- the first k passes
abbrev pub passes : Shape → ℕ → List Cell → Asks
passes s zero cells = done cells
passes s (suc k) cells = chain (passes s k cells) (pass s k)

-- nothing is known of a block
abbrev pub start : Shape → List Cell
start s = replicate (s.width * s.height) (fresh s.planes)

-- a block's first k passes
unfoldable pub block : Shape → ℕ → Asks
block s k = passes s k (start s)
