-- The row of one entry of TLM.
use Rattle.std.proofs.Common.{◌≡◌, ℕ, ◌+◌, ◌<◌, true, List, Some, arith, ◌∙◌, sym, ap, not, ◌==◌}
use Rattle.std.specs.Prelude.{slice_index}
use Rattle.std.proofs.lemmas.Bool.Decides.{nat_tests}
use Rattle.cine_nums.specs.Faults.{first_fault}
use Rattle.cine_nums.proofs.FaultLemmas.{rows_between, row_applies}
use Rattle.cinema_markers.specs.Tables.{tile_row, entry_place, index_at}
use Rattle.cinema_markers.specs.declared.refusal.MarkerRefusal.TheVariants.{BadTlm}

pub tile_refused : (bytes : List ℕ) (at i n place index : ℕ) → i < n →
    place ≡ entry_place at (slice_index bytes (at + 5)) i →
    index ≡ index_at (slice_index bytes (at + 5)) bytes place → (index ≡ 0 → ⊥) →
    first_fault (rows_between (tile_row bytes at) i n) ≡ Some (BadTlm place)
tile_refused bytes at i n place index below is told other =
    let stlm = slice_index bytes (at + 5) in
    let there : index ≡ index_at stlm bytes (entry_place at stlm i) = told
    ∙ ap (index_at stlm bytes) is in
    row_applies (tile_row bytes at) i n (BadTlm place) below
    (differs (index_at stlm bytes (entry_place at stlm i)) (λ zero. other (there ∙ zero)))
    (ap (λ p. BadTlm p) (sym is))
  where
    differs : (n : ℕ) → (n ≡ 0 → ⊥) → not (n == 0) ≡ true
    differs n other = grind (arith, nat_tests)
