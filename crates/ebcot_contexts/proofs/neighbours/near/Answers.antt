use Rattle.std.proofs.Common.{◌≡◌, ◌+◌, w8, to_z, of_z, ℤ, refl, ap, ◌∙◌}
use Rattle.ebcot_contexts.specs.Contexts.{Contribution, plus, even, minus, both}
use Rattle.ebcot_contexts.specs.Columns.{signed}
use Rattle.ebcot_contexts.proofs.neighbours.near.Goals as goal

kept : (c : Contribution) → to_z w8 (of_z w8 (signed c)) ≡ signed c
kept plus = refl
kept even = refl
kept minus = refl

same : (c : Contribution) (z : ℤ) → z ≡ signed c → to_z w8 (of_z w8 z) ≡ signed c
same c z e = ap (λ v. to_z w8 (of_z w8 v)) e ∙ kept c

pub returns-clause-h : goal.returns-clause-h
returns-clause-h c =
    λ j. c.one.ensures.value _ (same _ _ c.place-west.ensures) j + c.one-2.ensures.value _
    (same _ _ c.place-east.ensures) j

pub returns-clause-v : goal.returns-clause-v
returns-clause-v c =
    λ j. c.one-3.ensures.value _ (same _ _ c.place-north.ensures) j + c.one-4.ensures.value _
    (same _ _ c.place-south.ensures) j

pub returns-clause-d : goal.returns-clause-d
returns-clause-d c =
    λ j.
    c.one-5.ensures.value _ (same _ _ c.place-north_west.ensures) j + c.one-6.ensures.value _
    (same _ _ c.place-north_east.ensures) j
    + (c.one-7.ensures.value _ (same _ _ c.place-south_west.ensures) j + c.one-8.ensures.value _
    (same _ _ c.place-south_east.ensures) j)

pub returns-clause-sh : goal.returns-clause-sh
returns-clause-sh c =
    ap (λ z. to_z w8 (of_z w8 z)) (c.joined.ensures _ _ (same _ _ c.place-west.ensures)
    (same _ _ c.place-east.ensures)) ∙ kept _

pub returns-clause-sv : goal.returns-clause-sv
returns-clause-sv c =
    ap (λ z. to_z w8 (of_z w8 z)) (c.joined-2.ensures _ _ (same _ _ c.place-north.ensures)
    (same _ _ c.place-south.ensures)) ∙ kept _
