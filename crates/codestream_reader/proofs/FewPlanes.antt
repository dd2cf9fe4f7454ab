-- Bands of few bit-planes, one after the other.
use Rattle.std.proofs.Common.{ℕ, ◌+◌, ◌<◌, ◌≤◌, List, [], ◌∷◌, length, take, get_or, sym, subst}
use Rattle.std.specs.List.{All}
use Rattle.std.proofs.lemmas.List.{take_all, take_more}
use Rattle.std.proofs.lemmas.List.Elements.{All-append, All-cons, All-nil}
use Rattle.dz_quantiser.specs.Bands.{planes_of}
use Rattle.dz_quantiser.specs.declared.band.BandStep.{BandStep}

Few : ℕ → BandStep → Type 0
Few guard step = planes_of guard step.exponent ≤ 31

pub few_more : (guard : ℕ) (bands : List BandStep) (n : ℕ) (d : BandStep) → n < length bands →
    All (λ step. planes_of guard step.exponent ≤ 31) (take n bands) →
    planes_of guard (get_or bands n d).exponent ≤ 31 →
    All (λ step. planes_of guard step.exponent ≤ 31) (take (n + 1) bands)
unfolding Few
few_more guard bands n d below few here =
    subst (λ (l : List BandStep). All (Few guard) l) (sym (take_more bands n d below))
    (All-append (Few guard) (take n bands) (get_or bands n d ∷ []) few
    (All-cons (Few guard) (get_or bands n d) [] here (All-nil (Few guard))))

pub all_few : (guard : ℕ) (bands : List BandStep) (n : ℕ) → length bands ≤ n →
    All (λ step. planes_of guard step.exponent ≤ 31) (take n bands) →
    All (λ step. planes_of guard step.exponent ≤ 31) bands
unfolding Few
all_few guard bands n whole few =
    subst (λ (l : List BandStep). All (Few guard) l) (take_all n bands whole) few
