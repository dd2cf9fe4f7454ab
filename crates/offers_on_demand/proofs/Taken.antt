-- A step is taken of those that are left.
use Rattle.std.proofs.Common.{ℕ, suc, ◌≡◌, ◌≢◌, ◌+◌, ◌<◌, ◌≤◌, Bool, inl, inr}
use Rattle.std.proofs.Common.{List, [], ◌∷◌, ◌++◌, length, take, drop, get_or, Some, arith, sym}
use Rattle.std.proofs.Common.{subst, ap, ◌∙◌, add-one}
use Rattle.std.proofs.Math.Seq.{drop-cons}
use Rattle.std.proofs.lemmas.Bool.{cases_eq}
use Rattle.std.proofs.lemmas.Option.{slice_get-get_or}
use Rattle.std.proofs.lemmas.List.{take_more, length-drop}
use Rattle.rd_hulls.specs.declared.point.Point.{Point}
use Rattle.rd_hulls.specs.declared.step.Step.{Step as HullStep}
use Rattle.rd_hulls.specs.Hull.{end_of, IsHull}
use Rattle.rd_hulls.specs.Points.{point_at, ArePoints}
use Rattle.allocation_bound.specs.Steps.{IsHead, gains}
use Rattle.allocation_bound.proofs.Counts.{split_dist}
use Rattle.budget_duals.specs.Offers.{IsOffer}
use Rattle.budget_duals.specs.declared.offer.Offer.{Offer}
use Rattle.budget_duals.specs.declared.offer.Offer.TheVariants.{Step}
use Rattle.partial_hulls.specs.Known.{IsCompletion}
use Rattle.offers_on_demand.specs.HullLaws.{end_at, few_steps, hull_is}
use Rattle.offers_on_demand.specs.Hulls.{hull_steps}
use Rattle.offers_on_demand.specs.Rows.{AreRows, IsRow, no_row, row_at, done_of, left_of}
use Rattle.offers_on_demand.specs.declared.row.DemandRow.{DemandRow}
use Rattle.offers_on_demand.proofs.Renewed.{between}

head_some : (s : HullStep) (left : List HullStep) → IsHead s left → 0 < length left
head_some s [] head = absurd head
head_some s (t ∷ rest) head = omega arith

-- what a step that a row offers is among the block's steps
pub record IsTaken (known : List Point) (steps : List HullStep) (taken : ℕ) (s : HullStep)
    : Type 0 where
  pub below : taken < length steps
  pub left : drop taken steps ≡ s ∷ drop (taken + 1) steps
  pub done : take (taken + 1) steps ≡ take taken steps ++ s ∷ []
  pub ended : end_of 0 (take (taken + 1) steps) ≡ s.to
  pub known_end : s.to < length known

pub is_taken : (known : List Point) (whole : Bool) (steps : List HullStep) (row : DemandRow)
    (s : HullStep) → IsRow known whole steps row → row.offer ≡ Step s
    → IsTaken known steps row.taken s
is_taken known whole steps row s is offered =
    let n = row.taken in
    let head : IsHead s (drop n steps) =
    subst (λ (o : Offer). IsOffer (drop n steps) o) offered is.offer in
    let below : n < length steps =
    omega (arith, head_some s (drop n steps) head, length-drop n steps) in
    let first = drop-cons steps n s below in
    let same : get_or steps n s ≡ s = subst (IsHead s) first head in
    let next : suc n ≡ n + 1 = sym (add-one n) in
    let left : drop n steps ≡ s ∷ drop (n + 1) steps =
    first ∙ (ap (λ (t : HullStep). t ∷ drop (suc n) steps) same
    ∙ ap (λ (k : ℕ). s ∷ drop k steps) next) in
    let done : take (n + 1) steps ≡ take n steps ++ s ∷ [] =
    take_more steps n s below ∙ ap (λ (t : HullStep). take n steps ++ t ∷ []) same in
    record {
      below = below;
      left = left;
      done = done;
      ended = ap (end_of 0) done ∙ end_at 0 (take n steps) s;
      known_end = is.to_known s offered;
    }

pub few_taken : (b : ℕ) (all : List Point) (taken : ℕ) → length all ≤ 59
    → taken ≤ length (hull_steps b all) → taken + 1 < 256
few_taken b all taken few within = omega (arith, few, within, few_steps b all)

-- the steps of a block whose row has not changed are the same
pub same_row : (f : (ℕ → List HullStep) → List DemandRow → ℕ → List HullStep)
    (steps : ℕ → List HullStep) (old new : List DemandRow) →
    ((b : ℕ) → f steps new b ≡ f steps old b)
    → f steps new ≡ f steps old
same_row f steps old new each = λ i b. each b i

pub same_left : (steps : ℕ → List HullStep) (old new : List DemandRow) (block : ℕ)
    → (row_at new block).taken ≡ (row_at old block).taken
    → ((b : ℕ) → b ≢ block → row_at new b ≡ row_at old b)
    → (b : ℕ) → left_of steps new b ≡ left_of steps old b
same_left steps old new block taken others b = elim (cases_eq b block) [
  | inl e ↦ subst (λ (k : ℕ). left_of steps new k ≡ left_of steps old k) (sym e)
      (ap (λ (n : ℕ). drop n (steps block)) taken)
  | inr n ↦ ap (λ (r : DemandRow). drop r.taken (steps b)) (others b n)
]

pub same_done : (steps : ℕ → List HullStep) (old new : List DemandRow) (block : ℕ)
    → (row_at new block).taken ≡ (row_at old block).taken
    → ((b : ℕ) → b ≢ block → row_at new b ≡ row_at old b)
    → (b : ℕ) → done_of steps new b ≡ done_of steps old b
same_done steps old new block taken others b = elim (cases_eq b block) [
  | inl e ↦ subst (λ (k : ℕ). done_of steps new k ≡ done_of steps old k) (sym e)
      (ap (λ (n : ℕ). take n (steps block)) taken)
  | inr n ↦ ap (λ (r : DemandRow). take r.taken (steps b)) (others b n)
]

-- ---- what was gained

gains_both : (done left : List HullStep) → gains (done ++ left) ≡ gains done + gains left
gains_both [] left = omega arith
gains_both (s ∷ done) left = omega (arith, gains_both done left)

pub gained_is : (b : ℕ) (all : List Point) (present taken : ℕ) → ArePoints all
    → end_of 0 (take taken (hull_steps b all)) ≡ present
    → (point_at all 0).dist ≡ gains (take taken (hull_steps b all)) + (point_at all present).dist
gained_is b all present taken are ended =
    let done = take taken (hull_steps b all) in
    let left = drop taken (hull_steps b all) in
    let split = between b all present taken are ended in
    let whole : (point_at all 0).dist
    ≡ gains (done ++ left) + (point_at all (end_of 0 (done ++ left))).dist =
    split_dist b all 0 [] (done ++ left) split.hull.follow in
    let rest : (point_at all (end_of 0 done)).dist
    ≡ gains left + (point_at all (end_of 0 (done ++ left))).dist =
    split_dist b all 0 done left split.hull.follow in
    let here : (point_at all (end_of 0 done)).dist ≡ (point_at all present).dist =
    ap (λ (k : ℕ). (point_at all k).dist) ended in
    omega (arith, whole, rest, here, gains_both done left)

some_row : (rows : List DemandRow) (i : ℕ) (d e : DemandRow) → i < length rows
    → get_or rows i d ≡ get_or rows i e
some_row rows i d e below =
    let first = slice_get-get_or rows i d below in
    let second = slice_get-get_or rows i e below in
    let both : Some (get_or rows i d) ≡ Some (get_or rows i e) = sym first ∙ second in
    cc

-- the row that is read
pub row_is : (rows : List DemandRow) (b : ℕ) (row : DemandRow) → b < length rows
    → row ≡ get_or rows b row → row ≡ row_at rows b
row_is rows b row below is = is ∙ some_row rows b row no_row below

-- ---- by the rows before and after

module _ (blocks : ℕ) (all known : ℕ → List Point) (whole : ℕ → Bool) (old new : List DemandRow)
    (b : ℕ) (row : DemandRow) (s : HullStep) (below : b < blocks)
    (are : AreRows blocks known whole (λ k. hull_steps k (all k)) old)
    (read : row ≡ get_or old b row) (offered : (row_at old b).offer ≡ Step s) where
  is_read : row ≡ row_at old b
  is_read = row_is old b row (omega (arith, are.many, below)) read

  taken : IsTaken (known b) (hull_steps b (all b)) (row_at old b).taken s
  taken = is_taken (known b) (whole b) (hull_steps b (all b)) (row_at old b) s (are.each b below)
      offered

  pub fits_more : length (all b) ≤ 59 → row.taken + 1 < 256
  fits_more few = subst (λ (r : DemandRow). r.taken + 1 < 256) (sym is_read)
      (few_taken b (all b) (row_at old b).taken few (are.each b below).within)

  pub within_more : row.taken + 1 ≤ length (hull_steps b (all b))
  within_more = subst (λ (r : DemandRow). r.taken + 1 ≤ length (hull_steps b (all b)))
      (sym is_read) (let h = taken.below in omega (arith, h))

  pub ended_more : end_of 0 (take (row.taken + 1) (hull_steps b (all b))) ≡ s.to
  ended_more = subst (λ (r : DemandRow). end_of 0 (take (r.taken + 1) (hull_steps b (all b)))
      ≡ s.to) (sym is_read) taken.ended

  pub known_more : s.to < length (known b)
  known_more = taken.known_end

  now_taken : (row_at new b).taken ≡ row.taken + 1 → (row_at new b).taken ≡ (row_at old b).taken + 1
  now_taken is = is ∙ ap (λ (r : DemandRow). r.taken + 1) is_read

  pub left_more : (row_at new b).taken ≡ row.taken + 1
      → left_of (λ k. hull_steps k (all k)) old b
      ≡ s ∷ left_of (λ k. hull_steps k (all k)) new b
  left_more is = taken.left
      ∙ ap (λ (n : ℕ). s ∷ drop n (hull_steps b (all b))) (sym (now_taken is))

  pub done_more : (row_at new b).taken ≡ row.taken + 1
      → done_of (λ k. hull_steps k (all k)) new b
      ≡ done_of (λ k. hull_steps k (all k)) old b ++ s ∷ []
  done_more is = ap (λ (n : ℕ). take n (hull_steps b (all b))) (now_taken is) ∙ taken.done

-- the rows of a block that learned, and of the others
pub stays_left : (all all' : ℕ → List Point) (old new : List DemandRow) (b : ℕ) (row : DemandRow)
    → b < length old → row ≡ get_or old b row → all' ≡ all → (row_at new b).taken ≡ row.taken
    → ((k : ℕ) → k ≢ b → row_at new k ≡ row_at old k)
    → left_of (λ k. hull_steps k (all' k)) new ≡ left_of (λ k. hull_steps k (all k)) old
stays_left all all' old new b row below read same taken others =
    ap (λ (f : ℕ → List Point). left_of (λ k. hull_steps k (f k)) new) same
    ∙ same_row left_of (λ k. hull_steps k (all k)) old new
    (same_left (λ k. hull_steps k (all k)) old new b
    (taken ∙ ap (λ (r : DemandRow). r.taken) (row_is old b row below read)) others)

pub stays_done : (all all' : ℕ → List Point) (old new : List DemandRow) (b : ℕ) (row : DemandRow)
    → b < length old → row ≡ get_or old b row → all' ≡ all → (row_at new b).taken ≡ row.taken
    → ((k : ℕ) → k ≢ b → row_at new k ≡ row_at old k)
    → done_of (λ k. hull_steps k (all' k)) new ≡ done_of (λ k. hull_steps k (all k)) old
stays_done all all' old new b row below read same taken others =
    ap (λ (f : ℕ → List Point). done_of (λ k. hull_steps k (f k)) new) same
    ∙ same_row done_of (λ k. hull_steps k (all k)) old new
    (same_done (λ k. hull_steps k (all k)) old new b
    (taken ∙ ap (λ (r : DemandRow). r.taken) (row_is old b row below read)) others)

-- the distortion of no passes, less that of the present ones, as they are known
pub gained_known : (b : ℕ) (all known : List Point) (low : ℕ) (whole : Bool) (row : DemandRow)
    → IsCompletion known low whole all → 0 < length known
    → IsRow known whole (hull_steps b all) row
    → (point_at known 0).dist
    ≡ gains (take row.taken (hull_steps b all)) + (point_at known row.present).dist
gained_known b all known low whole row is some of =
    let first = ap (λ (p : Point). p.dist) (is.first 0 some) in
    let here = ap (λ (p : Point). p.dist) (is.first row.present of.present_known) in
    omega (arith, first, here, gained_is b all row.present row.taken is.are of.ended)

-- of a block of which no step is taken all steps are left
pub all_left : (all : ℕ → List Point) (rows : List DemandRow) (b : ℕ) → ArePoints (all b)
    → (row_at rows b).taken ≡ 0 → IsHull b (all b) (left_of (λ k. hull_steps k (all k)) rows b)
all_left all rows b are none =
    subst (λ (n : ℕ). IsHull b (all b) (drop n (hull_steps b (all b)))) (sym none)
    (hull_is b (all b) are)
