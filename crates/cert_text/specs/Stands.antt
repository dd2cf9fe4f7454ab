-- A part of a text.
use Rattle.std.specs.Prelude.{ℕ, ◌≡◌, ◌≤◌, ◌++◌, ◌&&◌, nat_le, List, [], ◌∷◌, drop, length}
use Rattle.std.specs.Prelude.{if◌then◌else◌}

-- a part stands in the text from one place on, and ends before another one
pub record Stands (text : List ℕ) (at : ℕ) (part : List ℕ) (end : ℕ) : Type 0 where
  pub within : end ≤ length text
  pub same : drop at text ≡ part ++ drop end text

-- the digits with which bytes begin
abbrev pub digits_before : List ℕ → List ℕ
digits_before [] = []
digits_before (b ∷ bytes) =
    if nat_le 48 b && nat_le b 57 then b ∷ digits_before bytes else []
