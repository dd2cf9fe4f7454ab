-- The bytes of the precinct sizes above resolution 0.
use Rattle.std.proofs.Common.{◌≡◌, ℕ, zero, suc, List, ◌∷◌, ◌++◌, replicate, append_assoc, refl}
use Rattle.std.proofs.Common.{sym, ◌∙◌, ap}
use Rattle.cinema_markers.specs.declared.fields.Field.TheVariants.{Byte}
use Rattle.cinema_markers.specs.Fields.{segment}

same_bytes : (n b : ℕ) → segment (replicate n (Byte b)) ≡ replicate n b
same_bytes zero b = refl
same_bytes (suc n) b = ap (λ bytes. b ∷ bytes) (same_bytes n b)

-- a head, and so many of them after it
pub then_sizes : (n levels b : ℕ) (old head pushed out : List ℕ) → pushed ≡ old ++ head →
    out ≡ pushed ++ replicate n b →
    n ≡ levels → out ≡ old ++ (head ++ segment (replicate levels (Byte b)))
then_sizes n levels b old head pushed out is more all =
    more ∙ ap (λ p. p ++ replicate n b) is ∙ append_assoc old head (replicate n b)
    ∙ ap (λ k. old ++ (head ++ replicate k b)) all
    ∙ ap (λ bytes. old ++ (head ++ bytes)) (sym (same_bytes levels b))
