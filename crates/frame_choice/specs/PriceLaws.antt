-- What stands of the price of a frame: what is kept, and the law of what budgets hold.
use Rattle.std.specs.Prelude.{◌≡◌, length, refl}
use Rattle.std.proofs.Common.{◌∙◌, ap, sym, subst}
use Rattle.std.proofs.lemmas.List.{length-map}
use Rattle.band_geometry.specs.Numbering.{all_blocks}
use Rattle.budget_duals.specs.Price.{HasLaw}
use Rattle.profile_reader.specs.Chosen.{Planes}
use Rattle.rd_hulls.specs.declared.step.Step.{Step}
use Rattle.frame_choice.specs.Blocks.{inside_at, most_passes, three_planes}
use Rattle.frame_choice.specs.Choice.{block_passes, held_at}
use Rattle.frame_choice.specs.HeldLaws.{held_law}
use Rattle.frame_choice.specs.Present.{IsKnownStep}
use Rattle.frame_choice.specs.declared.quantised.QuantisedFrame.{QuantisedFrame}

-- the coefficients of a frame
abbrev pub planes_in : QuantisedFrame → Planes
planes_in q = three_planes q.c0.now q.c1.now q.c2.now

-- the same geometry, steps and coefficients
pub record Same (a b : QuantisedFrame) : Type 0 where
  pub geometry : b.geometry.now ≡ a.geometry.now
  pub steps : b.steps.now ≡ a.steps.now
  pub planes : planes_in b ≡ planes_in a

pub same_itself : (a : QuantisedFrame) → Same a a
same_itself a = record {
  geometry = refl;
  steps = refl;
  planes = refl;
}

pub same_on : (a b c : QuantisedFrame) → Same a b → Same b c → Same a c
same_on a b c e f = record {
  geometry = f.geometry ∙ e.geometry;
  steps = f.steps ∙ e.steps;
  planes = f.planes ∙ e.planes;
}

pub same_most : (a b : QuantisedFrame) → Same a b →
    most_passes b.geometry.now (planes_in b) ≡ most_passes a.geometry.now (planes_in a)
same_most a b e = ap (λ g. most_passes g (planes_in b)) e.geometry
    ∙ ap (λ p. most_passes a.geometry.now p) e.planes

pub same_held_at : (a b : QuantisedFrame) → Same a b →
    held_at b.geometry.now b.steps.now (planes_in b)
    ≡ held_at a.geometry.now a.steps.now (planes_in a)
same_held_at a b e = ap (λ g. held_at g b.steps.now (planes_in b)) e.geometry
    ∙ ap (λ s. held_at a.geometry.now s (planes_in b)) e.steps
    ∙ ap (λ p. held_at a.geometry.now a.steps.now p) e.planes

pub same_inside_at : (a b : QuantisedFrame) → Same a b →
    inside_at b.geometry.now ≡ inside_at a.geometry.now
same_inside_at a b e = ap (λ g. inside_at g) e.geometry

pub same_known : (a b : QuantisedFrame) (s : Step) → Same a b →
    IsKnownStep a.geometry.now a.steps.now (planes_in a) s →
    IsKnownStep b.geometry.now b.steps.now (planes_in b) s
same_known a b s e known =
    subst (λ g. IsKnownStep g b.steps.now (planes_in b) s) (sym e.geometry)
    (subst (λ t. IsKnownStep a.geometry.now t (planes_in b) s) (sym e.steps)
    (subst (λ p. IsKnownStep a.geometry.now a.steps.now p s) (sym e.planes) known))

pub law_of : (f : QuantisedFrame) → HasLaw (length (most_passes f.geometry.now (planes_in f)))
    (inside_at f.geometry.now) (held_at f.geometry.now f.steps.now (planes_in f))
law_of f =
    subst (λ n. HasLaw n (inside_at f.geometry.now)
    (held_at f.geometry.now f.steps.now (planes_in f)))
    (sym (length-map (all_blocks f.geometry.now) (block_passes f.geometry.now (planes_in f))))
    (held_law f.geometry.now f.steps.now (planes_in f) f.levels f.usable)
