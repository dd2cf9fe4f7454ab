-- The coefficients of a code-block in the form that the coding passes have them.
use Rattle.std.specs.Prelude.{ℕ, Bool, List, map}
use Rattle.dz_quantiser.specs.Coefficient.{Coefficient}

-- each coefficient's magnitude, and whether it is negative
abbrev pub coefs_of : List Coefficient → List (ℕ × Bool)
coefs_of cells = map (λ q. (q.magnitude, q.negative)) cells
