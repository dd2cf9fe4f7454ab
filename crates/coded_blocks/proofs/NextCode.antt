-- Codes that are appended one after the other.
use Rattle.std.proofs.Common.{◌≡◌, ℕ, ◌+◌, ◌-◌, ◌<◌, ◌≤◌, List, [], ◌∷◌, ◌++◌, length}
use Rattle.std.proofs.Common.{take, drop, arith, refl, sym, ap, ◌∙◌, inl, inr}
use Rattle.std.proofs.Common.{length-append, length-drop}
use Rattle.std.proofs.lemmas.Bool.{cases_lt}
use Rattle.std.proofs.lemmas.List.{take-append-le, drop-append-le, take_all}
use Rattle.std.proofs.lemmas.List.{drop_at, get_or_append_left, get_or_at}
use Rattle.std.proofs.lemmas.Option.{slice_get_within}
use Rattle.band_geometry.specs.Bands.{IsBlock}
use Rattle.band_geometry.specs.Counts.{number_of}
use Rattle.band_geometry.specs.Numbering.{all_blocks}
use Rattle.band_geometry.specs.declared.geometry.Geometry.{Geometry}
use Rattle.band_geometry.specs.declared.places.BlockId.{BlockId}
use Rattle.band_geometry.proofs.NumberLemmas.{listed_at_number}
use Rattle.coded_blocks.specs.Codes.{AreCodesBelow, code_at, code_count}
use Rattle.coded_blocks.specs.Ends.{code_in, end_of, start_of}
use Rattle.coded_blocks.specs.declared.codes.ChosenCodes.{ChosenCodes}

-- the ends before a new one, and the new one
old_end : (ends : List ℕ) (e n : ℕ) → n < length ends → end_of (ends ++ e ∷ []) n ≡ end_of ends n
old_end ends e n lt = get_or_append_left ends (e ∷ []) 0 n lt

old_start : (ends : List ℕ) (e n : ℕ) → n ≤ length ends →
    start_of (ends ++ e ∷ []) n ≡ start_of ends n
old_start ends e n le = get_or_append_left (0 ∷ ends) (e ∷ []) 0 n (omega (arith, le))

new_end : (ends : List ℕ) (e n : ℕ) → length ends ≡ n → end_of (ends ++ e ∷ []) n ≡ e
new_end ends e n is = get_or_at ends e [] 0 n is

-- Codes with the laws of `ChosenCodes`, to which one is appended.
module _ (bytes code ends : List ℕ)
    (order : (n : ℕ) → n < length ends → start_of ends n ≤ end_of ends n)
    (inside : (n : ℕ) → n < length ends → end_of ends n ≤ length bytes)
    (whole : start_of ends (length ends) ≡ length bytes) where
  old_code : (n : ℕ) → n < length ends →
      code_in (bytes ++ code) (ends ++ length (bytes ++ code) ∷ []) n ≡ code_in bytes ends n
  unfolding code_in
  old_code n lt =
      let e = length (bytes ++ code) in
      let s = start_of ends n in
      let t = end_of ends n in
      let first = order n lt in
      let last = inside n lt in
      ap (λ k. take (end_of (ends ++ e ∷ []) n - k) (drop k (bytes ++ code)))
      (old_start ends e n (omega (arith, lt)))
      ∙ ap (λ k. take (k - s) (drop s (bytes ++ code))) (old_end ends e n lt)
      ∙ ap (take (t - s)) (drop-append-le s bytes code (omega (arith, first, last)))
      ∙ take-append-le (t - s) (drop s bytes) code (omega (arith, last, length-drop s bytes))

  new_code : (n : ℕ) → n ≡ length ends →
      code_in (bytes ++ code) (ends ++ length (bytes ++ code) ∷ []) n ≡ code
  unfolding code_in
  new_code n is =
      let e = length (bytes ++ code) in
      let start : start_of (ends ++ e ∷ []) n ≡ length bytes =
      old_start ends e n (omega (arith, is)) ∙ ap (start_of ends) is ∙ whole in
      let long = length-append bytes code in
      ap (λ k. take (end_of (ends ++ e ∷ []) n - k) (drop k (bytes ++ code))) start
      ∙ ap (λ k. take (k - length bytes) (drop (length bytes) (bytes ++ code)))
      (new_end ends e n (sym is))
      ∙ ap (take (e - length bytes)) (drop_at bytes code (length bytes) refl)
      ∙ take_all (e - length bytes) code (omega (arith, long))

  -- what was appended, and where it ends
  appended : (new ends' : List ℕ) (e n : ℕ) → new ≡ bytes ++ code → ends' ≡ ends ++ e ∷ [] →
      e ≡ length (bytes ++ code) →
      code_in new ends' n ≡ code_in (bytes ++ code) (ends ++ length (bytes ++ code) ∷ []) n
  appended new ends' e n is ends_are end =
      ap (λ l. code_in l ends' n) is
      ∙ ap (λ l. code_in (bytes ++ code) l n) (ends_are ∙ ap (λ k. ends ++ k ∷ []) end)

  pub stays : (new ends' : List ℕ) (e n : ℕ) → new ≡ bytes ++ code → ends' ≡ ends ++ e ∷ [] →
      e ≡ length (bytes ++ code) → n < length ends → code_in new ends' n ≡ code_in bytes ends n
  stays new ends' e n is ends_are end lt =
      appended new ends' e n is ends_are end ∙ old_code n lt

  pub stands : (new ends' : List ℕ) (e n : ℕ) → new ≡ bytes ++ code → ends' ≡ ends ++ e ∷ [] →
      e ≡ length (bytes ++ code) → n ≡ length ends → code_in new ends' n ≡ code
  stands new ends' e n is ends_are end last =
      appended new ends' e n is ends_are end ∙ new_code n last

-- Codes of a frame's blocks, made one after the other, whatever is written of each block.
module _ (g : Geometry) (written : BlockId → List ℕ) where
  pub no_codes : (codes : ChosenCodes) → AreCodesBelow g written 0 codes
  no_codes codes = λ b is lt. absurd (omega (arith, lt))

  pub more_codes : (n : ℕ) (old new : ChosenCodes) → code_count old ≡ n →
      ((k : ℕ) → k < code_count old → code_at new k ≡ code_at old k) →
      ((b : BlockId) → IsBlock g b → number_of g b ≡ n →
      code_at new (code_count old) ≡ written b) →
      AreCodesBelow g written n old → AreCodesBelow g written (n + 1) new
  more_codes n old new count before next below = λ b is lt.
      let k = number_of g b in
      elim (cases_lt k n) [
        | inl less ↦ before k (omega (arith, less, count)) ∙ below b is less
        | inr past ↦
            let same : k ≡ n = omega (arith, past, lt) in
            ap (code_at new) (same ∙ sym count) ∙ next b is same
      ]

  pub all_codes : (n : ℕ) (codes : ChosenCodes) → n ≡ length (all_blocks g) →
      AreCodesBelow g written n codes → (b : BlockId) → IsBlock g b →
      code_at codes (number_of g b) ≡ written b
  all_codes n codes whole below b is =
      let within = slice_get_within (all_blocks g) (number_of g b) b (listed_at_number g b is) in
      below b is (omega (arith, whole, within))
