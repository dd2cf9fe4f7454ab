-- The magnitude bit-planes of a code block (ISO/IEC 15444-1, Annex D.1).
use Rattle.std.specs.Prelude.{ℕ, ◌<◌, ◌^◌, max, List, [], ◌∷◌}
use Rattle.std.specs.List.{All}
use Rattle.cine_nums.specs.Bits.{bit_len}
use Rattle.dz_quantiser.specs.Coefficient.{Coefficient}

-- the largest magnitude of a list of coefficients, 0 where there are none
abbrev pub largest : List Coefficient → ℕ
largest [] = 0
largest (q ∷ qs) = max q.magnitude (largest qs)

-- how many magnitude bit-planes they have
abbrev pub block_planes : List Coefficient → ℕ
block_planes qs = bit_len (largest qs)

-- each magnitude is below 2 ^ 20
abbrev pub AreSmall : List Coefficient → Type 0
AreSmall qs = All (λ q. q.magnitude < 2 ^ 20) qs
