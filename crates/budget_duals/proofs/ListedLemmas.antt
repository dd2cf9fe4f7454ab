-- A step is taken from whole lists.
use Rattle.std.proofs.Common.{ℕ, zero, suc, ◌+◌, ◌-◌, ◌*◌, ◌<◌, ◌≤◌, ◌≡◌, List, [], ◌∷◌, ◌++◌}
use Rattle.std.proofs.Common.{length, take, drop, set, get_or, Some, arith, sym, ap, ◌∙◌, add-one}
use Rattle.std.proofs.Math.Seq.{drop-cons}
use Rattle.std.proofs.lemmas.List.{length-drop, take_more, get_or-set_same}
use Rattle.std.proofs.lemmas.Option.{slice_get-get_or}
use Rattle.rd_hulls.specs.declared.step.Step.{Step as HullStep}
use Rattle.budget_duals.specs.declared.offer.Offer.TheVariants.{Step}
use Rattle.std.specs.List.{AllByRecursion as Each}
use Rattle.allocation_bound.specs.Steps.{excess as excess_of, scale}
use Rattle.budget_duals.specs.Listed.{list_at, done_at, left_at, offer_of, offer_at}

some_left : (left : List HullStep) (s : HullStep) → offer_of left ≡ Step s → 0 < length left
some_left [] s h = absurd (let bad : ⊥ = cc in bad)
some_left (t ∷ rest) s h = omega arith

step_same : (s t : HullStep) → Step t ≡ Step s → t ≡ s
step_same s t h = cc

place_in : (l : List HullStep) (p : ℕ) (s : HullStep) → offer_of (drop p l) ≡ Step s → p < length l
place_in l p s h = omega (arith, some_left (drop p l) s h, length-drop p l)

head_at : (l : List HullStep) (p : ℕ) (s : HullStep) → offer_of (drop p l) ≡ Step s → get_or l p s
    ≡ s
head_at l p s h = step_same s (get_or l p s)
    (ap offer_of (sym (drop-cons l p s (place_in l p s h))) ∙ h)

-- what stands within a list is there whatever the default
pub any_default : (xs : List ℕ) (i d e : ℕ) → i < length xs → get_or xs i d ≡ get_or xs i e
any_default xs i d e below =
    let first = slice_get-get_or xs i d below in
    let second = slice_get-get_or xs i e below in
    let both : Some (get_or xs i d) ≡ Some (get_or xs i e) = sym first ∙ second in
    cc

pub took_left : (rows : List (List HullStep)) (places : List ℕ) (b q : ℕ) (s : HullStep)
    → b < length places
    → q ≡ get_or places b q → offer_at rows places b ≡ Step s
    → left_at rows places b ≡ s ∷ left_at rows (set places b (q + 1)) b
took_left rows places b q s below is h =
    let l : List HullStep = list_at rows b in
    let p : ℕ = get_or places b 0 in
    let here = is ∙ any_default places b q 0 below in
    let next : get_or (set places b (q + 1)) b 0
    ≡ suc p = get_or-set_same places b (q + 1) 0 below ∙ (add-one q ∙ ap suc here) in
    drop-cons l p s (place_in l p s h)
    ∙ (ap (λ (t : HullStep). t ∷ drop (suc p) l) (head_at l p s h)
    ∙ ap (λ (n : ℕ). s ∷ drop n l) (sym next))

pub took_done : (rows : List (List HullStep)) (places : List ℕ) (b q : ℕ) (s : HullStep)
    → b < length places
    → q ≡ get_or places b q → offer_at rows places b ≡ Step s
    → done_at rows (set places b (q + 1)) b ≡ done_at rows places b ++ s ∷ []
took_done rows places b q s below is h =
    let l : List HullStep = list_at rows b in
    let p : ℕ = get_or places b 0 in
    let here = is ∙ any_default places b q 0 below in
    let next : get_or (set places b (q + 1)) b 0 ≡ p
    + 1 = get_or-set_same places b (q + 1) 0 below ∙ ap (λ (n : ℕ). n + 1) here in
    ap (λ (n : ℕ). take n l) next
    ∙ (take_more l p s (place_in l p s h)
    ∙ ap (λ (t : HullStep). take p l ++ t ∷ []) (head_at l p s h))

-- the excess of steps that are all less steep than the next multiplier is below their bytes
pub excess_short : (m : ℕ) (left : List HullStep)
    → Each (λ s. scale * s.gain < (m + 1) * s.len) left → excess_of m left ≤ 131072 * length left
excess_short m [] all = omega arith
excess_short m (s ∷ rest) all = omega (arith, excess_short m rest all.1, all.0, s.short)

pub excess_more : (m : ℕ) (front : List HullStep) (s : HullStep) → excess_of m (front ++ s ∷ [])
    ≡ excess_of m front + (scale * s.gain - m * s.len)
excess_more m [] s = omega arith
excess_more m (t ∷ rest) s = omega (arith, excess_more m rest s)

pub each_take : (P : HullStep → Type 0) (n : ℕ) (steps : List HullStep) → Each P steps
    → Each P (take n steps)
each_take P zero steps all = tt
each_take P (suc n) [] all = tt
each_take P (suc n) (s ∷ rest) all = (all.0, each_take P n rest all.1)

pub excess_next : (m : ℕ) (steps : List HullStep) (i : ℕ) (s : HullStep) → i < length steps → s
    ≡ get_or steps i s
    → excess_of m (take (i + 1) steps) ≡ excess_of m (take i steps)
    + (4294967296 * s.gain - m * s.len)
excess_next m steps i s below is =
    ap (excess_of m) (take_more steps i s below)
    ∙ (excess_more m (take i steps) (get_or steps i s)
    ∙ (ap (λ (t : HullStep). excess_of m (take i steps) + (scale * t.gain - m * t.len)) (sym is) ∙
    omega arith))
