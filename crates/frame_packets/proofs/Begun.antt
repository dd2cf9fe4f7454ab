-- What is kept of a frame at first.
use Rattle.std.proofs.Common.{◌≡◌, ℕ, ◌+◌, ◌<◌, inl, inr, List, [], ◌∷◌, ◌++◌, length, get_or, refl}
use Rattle.std.proofs.Common.{sym, ap, ◌∙◌, subst, arith, length-append}
use Rattle.std.proofs.lemmas.Bool.{cases_lt}
use Rattle.std.proofs.lemmas.List.{get_or_append_left, get_or-append-add}
use Rattle.cine_nums.specs.Profile.{levels_of, parts_of}
use Rattle.band_geometry.specs.declared.geometry.Geometry.{Geometry}
use Rattle.dz_quantiser.specs.Bands.{AreUsable}
use Rattle.dz_quantiser.specs.declared.steps.StepSizes.{StepSizes}
use Rattle.frame_packets.specs.Inside.{IsKept}
use Rattle.frame_packets.specs.Keeps.{Keeps, KeepsPart, PartKept, no_part, nothing}
use Rattle.frame_packets.proofs.Nothing.{nothing_short, nothing_written}

-- the first n tile-parts
pub record HaveBegun (g : Geometry) (steps : StepSizes) (n : ℕ) (parts : List PartKept)
    : Type 0 where
  pub count : length parts ≡ n
  pub each : (k : ℕ) → k < n → KeepsPart g steps nothing k (get_or parts k no_part)

pub none_begun : (g : Geometry) (steps : StepSizes) (parts : List PartKept) → parts ≡ [] →
    HaveBegun g steps 0 parts
none_begun g steps parts none =
    subst (λ (ps : List PartKept). HaveBegun g steps 0 ps) (sym none)
    (record { count = refl; each = λ k below. absurd (omega (arith, below)) })

pub one_more : (g : Geometry) (steps : StepSizes) (n : ℕ) (parts more : List PartKept)
    (part : PartKept) → HaveBegun g steps n parts → KeepsPart g steps nothing n part →
    more ≡ parts ++ part ∷ [] → HaveBegun g steps (n + 1) more
one_more g steps n parts more part begun keeps are =
    subst (λ (ps : List PartKept). HaveBegun g steps (n + 1) ps) (sym are)
    (record {
      count = let whole = length-append parts (part ∷ []) in let count = begun.count in
          omega (arith, whole, count);
      each = λ k below. elim (cases_lt k n) [
        | inl less ↦
            subst (λ q. KeepsPart g steps nothing k q)
            (sym (get_or_append_left parts (part ∷ []) no_part k
            (let count = begun.count in omega (arith, less, count))))
            (begun.each k less)
        | inr last ↦
            let same : k ≡ n = omega (arith, last, below) in
            let at : get_or (parts ++ part ∷ []) (length parts + 0) no_part ≡ part =
            get_or-append-add parts (part ∷ []) 0 no_part in
            let place : length parts + 0
            ≡ k = let count = begun.count in omega (arith, same, count) in
            subst (λ q. KeepsPart g steps nothing k q)
            (sym at ∙ ap (λ m. get_or (parts ++ part ∷ []) m no_part) place)
            (subst (λ m. KeepsPart g steps nothing m part) (sym same) keeps)
      ];
    })

pub begun_keeps : (g : Geometry) (steps copy : StepSizes) (n : ℕ) (parts : List PartKept) →
    g.levels ≡ levels_of g.profile → AreUsable g.levels steps → copy ≡ steps →
    n ≡ parts_of g.profile → HaveBegun g steps n parts →
    Keeps g steps nothing (record { geometry = g; steps = copy; parts = parts })
begun_keeps g steps copy n parts levels usable same all begun = record {
  geometry = refl;
  steps_are = same;
  levels = levels;
  usable = usable;
  can_write = nothing_written g steps;
  count = begun.count ∙ all;
  part = λ index below. begun.each index (omega (arith, below, all));
}

pub begun_kept : (g : Geometry) (steps copy : StepSizes) (n : ℕ) (parts : List PartKept) →
    g.levels ≡ levels_of g.profile → AreUsable g.levels steps → copy ≡ steps →
    n ≡ parts_of g.profile → HaveBegun g steps n parts →
    IsKept (record { geometry = g; steps = copy; parts = parts })
begun_kept g steps copy n parts levels usable same all begun = record {
  given = nothing;
  keeps = subst (λ t. Keeps g t nothing (record { geometry = g; steps = copy; parts = parts }))
      (sym same) (begun_keeps g steps copy n parts levels usable same all begun);
  short = nothing_short g copy;
}
