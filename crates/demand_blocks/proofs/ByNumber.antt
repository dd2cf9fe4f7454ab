-- One block of several is another one now.
use Rattle.std.proofs.Common.{ℕ, zero, suc, ◌<◌, ◌≡◌, ◌≢◌, List, [], ◌∷◌, length, slice_get}
use Rattle.std.proofs.Common.{slice_set, Option, Some, refl, ap, sym, ◌∙◌, arith}

pub set_here : {A : Type 0} (xs : List A) (n : ℕ) (x : A) → n < length xs →
    slice_get (slice_set xs n x) n ≡ Some x
set_here [] n x lt = absurd (omega (arith, lt))
set_here (y ∷ ys) zero x lt = refl
set_here (y ∷ ys) (suc n) x lt = set_here ys n x (omega (arith, lt))

pub set_elsewhere : {A : Type 0} (xs : List A) (n k : ℕ) (x : A) → k ≢ n →
    slice_get (slice_set xs n x) k ≡ slice_get xs k
set_elsewhere [] n k x other = refl
set_elsewhere (y ∷ ys) zero zero x other = absurd (other refl)
set_elsewhere (y ∷ ys) zero (suc k) x other = refl
set_elsewhere (y ∷ ys) (suc n) zero x other = refl
set_elsewhere (y ∷ ys) (suc n) (suc k) x other =
    set_elsewhere ys n k x (λ e. other (ap suc e))

-- what both have stays
pub set_same : {A B : Type 0} (f : Option A → B) (xs : List A) (n k : ℕ) (old new : A) →
    ◌≡◌ {A = Option A} (slice_get xs n) (Some old) → f (Some new) ≡ f (Some old) →
    f (slice_get (slice_set xs n new) k) ≡ f (slice_get xs k)
set_same f [] n k old new is same = refl
set_same f (y ∷ ys) zero zero old new is same = same ∙ ap f (sym is)
set_same f (y ∷ ys) zero (suc k) old new is same = refl
set_same f (y ∷ ys) (suc n) zero old new is same = refl
set_same f (y ∷ ys) (suc n) (suc k) old new is same = set_same f ys n k old new is same
