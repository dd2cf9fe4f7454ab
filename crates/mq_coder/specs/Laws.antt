-- What the coder's definitions promise together.
use Rattle.std.specs.Prelude.{◌≡◌, ℕ, ◌+◌, ◌*◌, ◌^◌, ◌<◌, ◌≤◌, Bool, List, [], ◌∷◌, ◌++◌, length}
use Rattle.std.specs.Prelude.{take, map}
use Rattle.mq_coder.specs.Decisions.{decisions}
use Rattle.mq_coder.specs.Code.{Coding, last_byte, coded, code}

-- the contexts and the bits of a list of symbols
abbrev pub contexts_of : List (ℕ × Bool) → List ℕ
contexts_of symbols = map (λ s. s.0) symbols

abbrev pub bits_of : List (ℕ × Bool) → List Bool
bits_of symbols = map (λ s. s.1) symbols

-- the code of a list of symbols decides their bits, whatever contexts are asked afterwards
abbrev pub Inverts : List (ℕ × Bool) → List ℕ → Type 0
Inverts symbols further =
    take (length symbols) (decisions (code symbols) (contexts_of symbols ++ further))
    ≡ bits_of symbols

-- bytes with none above 8F after FF, where `before` is the byte before them
abbrev pub IsStuffedAfter : ℕ → List ℕ → Type 0
IsStuffedAfter before [] = Unit {0}
IsStuffedAfter before (b ∷ rest) = (b ≤ 255) × (before ≡ 255 → b ≤ 143) × IsStuffedAfter b rest

-- The form of the code of a list of symbols: one or two bytes beside those put out before the
-- ending; it never ends in FF, and a marker never stands in it.
pub record IsCodeForm (symbols : List (ℕ × Bool)) : Type 0 where
  pub some : 1 ≤ length (code symbols)
  pub least : length (coded symbols).bytes + 1 ≤ length (code symbols)
  pub few : length (code symbols) ≤ length (coded symbols).bytes + 2
  pub not_ff : last_byte (code symbols) ≡ 255 → ⊥
  pub stuffed : IsStuffedAfter 0 (code symbols)

-- the registers between two symbols
pub record IsBetween (x : Coding) : Type 0 where
  pub wide : 0x8000 ≤ x.a
  pub narrow : x.a < 2 ^ 16
  pub some : 1 ≤ x.ct
  pub few : x.ct ≤ 12
  pub reach : (x.c + x.a) * 2 ^ x.ct ≤ 2 ^ 27 + 2 ^ 24
  pub reach_first : x.bytes ≡ [] → (x.c + x.a) * 2 ^ x.ct ≤ 2 ^ 27
  pub stuffed : IsStuffedAfter 0 x.bytes
