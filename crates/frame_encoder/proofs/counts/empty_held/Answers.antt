use Rattle.std.proofs.Common.{◌≡◌, ◌≤◌, ◌∙◌, ℕ, List, sum, sym, subst, arith}
use Rattle.std.specs.List.{AllByRecursion}
use Rattle.band_geometry.specs.declared.geometry.Geometry.{Geometry}
use Rattle.budget_duals.specs.Held.{IsWithin, limits_of}
use Rattle.budget_duals.specs.declared.held.Held.{Held}
use Rattle.frame_encoder.specs.Empty.{empty_part_lengths}
use Rattle.frame_encoder.proofs.Lengths.{sum_few, lengths_few}
use Rattle.frame_encoder.proofs.Short.{short_held}
use Rattle.frame_encoder.proofs.counts.empty_held.Goals as goal

total : (g : Geometry) (xs : List ℕ) → xs ≡ empty_part_lengths g → sum xs ≤ 70770
total g xs same = subst (λ (xs : List ℕ). sum xs ≤ 70770) (sym same) (sum_few g)

pub of-requires-clause-short : goal.of-requires-clause-short
of-requires-clause-short c =
    let same = c.as_slice.ensures.value ∙ c.empty_part_lengths-lengths.ensures in
    let few = total c.args.geometry.now c.as_slice.result.now same in
    omega (arith, few, c.len-main.ensures.fits)

pub returns-clause-few : goal.returns-clause-few
returns-clause-few c =
    let same = c.as_slice.ensures.value ∙ c.empty_part_lengths-lengths.ensures in
    let few = total c.args.geometry.now c.as_slice.result.now same in
    subst (λ (held : Held). IsWithin (limits_of c.args.geometry.now.profile) held)
    (sym c.of.ensures)
    (short_held c.args.geometry.now.profile c.len-main.result c.as_slice.result.now
    c.len-main.ensures.fits few (subst
    (λ (xs : List ℕ). AllByRecursion (λ (n : ℕ). n ≤ 11795) xs) (sym same)
    (lengths_few c.args.geometry.now)))
