-- A block that bounds its next step before it offers it, for tests.
use Rattle.std.specs.Prelude.{ℕ, zero, suc, Bool, true, false}
use Rattle.budget_duals.specs.declared.offer.Offer.{Offer}
use Rattle.budget_duals.specs.declared.offer.Offer.TheVariants.{Nothing, Step, AtMost}
use Rattle.budget_duals.specs.declared.offer.Slope.{Slope}

abbrev pub is_shy : Bool → ℕ → Bool
is_shy shy zero = shy
is_shy shy (suc b) = false

abbrev pub veil : Slope → Bool → Offer → Offer
veil top false offer = offer
veil top true Nothing = Nothing
veil top true (Step s) = AtMost top
veil top true (AtMost bound) = AtMost bound

abbrev pub one_if : Bool → ℕ
one_if true = 1
one_if false = 0

abbrev pub shy_unknown : Bool → ℕ → ℕ
shy_unknown shy b = one_if (is_shy shy b)
