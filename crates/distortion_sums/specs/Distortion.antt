-- The distortion of a code-block after its first passes, in units of half a step squared.
use Rattle.std.specs.Prelude.{ℕ, ◌+◌, Bool, List, [], ◌∷◌}
use Rattle.dz_quantiser.specs.Error.{squared_error}
use Rattle.ebcot_contexts.specs.Cells.{Cell}
use Rattle.ebcot_contexts.specs.Contexts.{Shape}
use Rattle.ebcot_contexts.specs.Meaning.{known_after}

-- the sum over the places of a block, by the bit-planes that are unknown of each
abbrev pub error_sum : List (ℕ × Bool) → List Cell → ℕ
error_sum [] cells = 0
error_sum (m ∷ ms) [] = 0
error_sum (m ∷ ms) (c ∷ cs) = squared_error m.0 c.unknown + error_sum ms cs

-- what is left after the first k passes
abbrev pub distortion : List (ℕ × Bool) → Shape → ℕ → ℕ
distortion coefs s k = error_sum coefs (known_after coefs s k)
