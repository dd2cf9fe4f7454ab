-- Worked rows.
use Rattle.std.proofs.Common.{ℕ, true, false, [], ◌∷◌, ◌≡◌, refl}
use Rattle.cine_nums.specs.declared.orient.Orient.TheVariants.{LL}
use Rattle.ebcot_contexts.specs.Contexts.{Shape, context_at, sign_at, is_quiet, refinement_at}
use Rattle.ebcot_contexts.specs.Contexts.{lh_context, hh_context}
use Rattle.ebcot_contexts.specs.Asks.{symbols}
use Rattle.ebcot_contexts.specs.Passes.{sign_asked, after_bit, place, visit, run, four, scan, pass}
use Rattle.ebcot_contexts.specs.Passes.{block}

abbrev ruled : ℕ → ℕ → ℕ → Shape
ruled w h p = record { orient = LL; width = w; height = h; planes = p }

-- a short column
row_1 : symbols ((0, false) ∷ (0, false) ∷ (1, false) ∷ []) (block (ruled 1 3 1) 1)
    ≡ (0, false) ∷ (0, false) ∷ (0, true) ∷ (9, false) ∷ []
unfolding block pass scan four run visit place after_bit sign_asked context_at sign_at is_quiet refinement_at lh_context hh_context
row_1 = refl

-- a single plus and a single minus
row_2 : symbols ((1, false) ∷ []) (block (ruled 1 1 1) 1) ≡ (0, true) ∷ (9, false) ∷ []
unfolding block pass scan four run visit place after_bit sign_asked context_at sign_at is_quiet refinement_at lh_context hh_context
row_2 = refl

row_3 : symbols ((1, true) ∷ []) (block (ruled 1 1 1) 1) ≡ (0, true) ∷ (9, true) ∷ []
unfolding block pass scan four run visit place after_bit sign_asked context_at sign_at is_quiet refinement_at lh_context hh_context
row_3 = refl
