-- Cases on two places.
use Rattle.std.proofs.Common.{ℕ, ◌≡◌, ◌≢◌, ◌⊎◌, arith}

pub same_or_other : (k b : ℕ) → (k ≡ b) ⊎ (k ≢ b)
same_or_other k b = grind arith
