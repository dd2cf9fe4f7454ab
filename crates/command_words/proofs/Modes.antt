-- The first word.
use Rattle.std.proofs.Common.{◌≡◌, ◌∙◌, ◌≤◌, ◌↔◌, ℕ, Bool, IsTrue, List, [], ◌∷◌, Some, String}
use Rattle.std.proofs.Common.{string_bytes, length, get_or, slice_get, ap, sym, arith}
use Rattle.std.specs.Str.{bytes_eq}
use Rattle.std.proofs.lemmas.Slice.Eq.{bytes_eq-Decides}
use Rattle.command_words.specs.Taken.{texts}

-- the first word is a mode exactly if it has the mode's bytes
pub first_is : {A : Type 0} (words : List (String A)) (first : String A) (shown mode : List ℕ)
    (same : Bool) → 1 ≤ length words → first ≡ get_or words 0 first → shown ≡ string_bytes first →
    same ≡ bytes_eq shown mode → IsTrue same ↔ (slice_get (texts words) 0 ≡ Some mode)
first_is [] first shown mode same some here is equal = absurd (omega arith)
first_is (word ∷ words) first shown mode same some here is equal =
    let spelt : shown ≡ string_bytes word = is ∙ ap string_bytes here in (
      λ yes. ap Some (sym spelt ∙ (bytes_eq-Decides shown mode).0 (sym equal ∙ yes)),
      λ first_mode.
          let alike : string_bytes word ≡ mode = cc in
          equal ∙ (bytes_eq-Decides shown mode).1 (spelt ∙ alike),
    )
