-- The refused steps of a certificate, in the words of the choice.
use Rattle.std.proofs.Common.{ℕ, zero, suc, ◌≡◌, ◌+◌, ◌-◌, ◌<◌, ◌≤◌, ◌==◌, Bool, true, false, IsTrue}
use Rattle.std.proofs.Common.{if◌then◌else◌, List, [], ◌∷◌, ◌++◌, length, get_or, set, map, nat_lt}
use Rattle.std.proofs.Common.{Option, Some, None, is_some, refl, sym, subst, ap, ◌∙◌, arith, inl, inr}
use Rattle.std.specs.List.{All, filter}
use Rattle.std.proofs.lemmas.Bool.{cases_lt}
use Rattle.std.proofs.lemmas.Bool.Decides.{nat_tests}
use Rattle.std.proofs.lemmas.List.{map-append}
use Rattle.std.proofs.lemmas.List.Elements.{All-append, All-cons, All-nil, filter-append}
use Rattle.cine_nums.specs.Limits.{has_inner}
use Rattle.cine_nums.specs.declared.budget.Budget.{Budget}
use Rattle.cine_nums.specs.declared.budget.Budget.TheVariants.{Frame, Inner, C0, C1, C2}
use Rattle.band_geometry.specs.Counts.{number_of}
use Rattle.band_geometry.specs.Numbering.{all_blocks}
use Rattle.band_geometry.specs.declared.geometry.Geometry.{Geometry}
use Rattle.rd_hulls.specs.Hull.{IsHull, IsHullStep}
use Rattle.rd_hulls.specs.Points.{ArePoints, point_at}
use Rattle.rd_hulls.specs.Steps.{IsStepTo}
use Rattle.rd_hulls.specs.declared.point.Point.{Point}
use Rattle.rd_hulls.specs.declared.step.Step.{Step}
use Rattle.allocation_bound.specs.Budgets.{chain}
use Rattle.allocation_bound.specs.Refused.{IsRefused, grow, price}
use Rattle.allocation_bound.specs.Settled.{Budgets, Outcome, block_rate, multiplier_of}
use Rattle.allocation_bound.specs.Sums.{total}
use Rattle.allocation_bound.proofs.Levels.{multiplier_open}
use Rattle.budget_duals.specs.Certified.{IsCertificate}
use Rattle.budget_duals.specs.Frame.{AreMembers, around_each, limit_each, or_none, refused_by}
use Rattle.budget_duals.specs.Frame.{refused_one, refused_steps}
use Rattle.budget_duals.specs.Held.{IsWithin, held_in, limit_in, place_of}
use Rattle.budget_duals.specs.Members.{is_in}
use Rattle.budget_duals.specs.Numbered.{bytes_in, node_by, node_in}
use Rattle.budget_duals.specs.Tree.{closed_by}
use Rattle.budget_duals.specs.Walking.{so_far}
use Rattle.budget_duals.specs.declared.certificate.Certificate.{Certificate}
use Rattle.budget_duals.specs.declared.certificate.RefusedStep.{RefusedStep}
use Rattle.budget_duals.specs.declared.held.Held.{Held}
use Rattle.budget_duals.specs.declared.limits.Limits.{Limits}
use Rattle.budget_duals.specs.declared.members.Members.{Members}
use Rattle.budget_duals.proofs.FrameLemmas.{named_on}
use Rattle.dz_quantiser.specs.declared.steps.StepSizes.{StepSizes}
use Rattle.profile_reader.specs.Chosen.{Planes, chosen_passes}
use Rattle.frame_choice.specs.Blocks.{block_numbered, inside_at, point_of, points_of}
use Rattle.frame_choice.specs.Choice.{FitsBesideHeaders, IsChoice, block_passes}
use Rattle.frame_choice.specs.Choice.{held_at}
use Rattle.frame_choice.specs.Chosen.{choice_budgets, undecoded}
use Rattle.frame_choice.specs.NumberLaws.{is_block, number_is}
use Rattle.frame_choice.specs.Refused.{IsRefusedStep, all_budgets, budgets_of, multiplier_in}
use Rattle.frame_choice.specs.Refused.{rate_in}
use Rattle.frame_choice.proofs.Bounds.{promise}
use Rattle.frame_choice.proofs.HullLemmas.{point_is, points_long}
use Rattle.frame_choice.proofs.Members.{are_members}

-- ---- a choice within its limits is one of those that fit

pub itself_fits : (g : Geometry) (steps : StepSizes) (planes : Planes) (limits : Limits)
    (choice : List ℕ) → IsWithin limits (held_at g steps planes choice) →
    FitsBesideHeaders g steps planes limits choice choice
itself_fits g steps planes limits choice within budget n is =
    elim (cases_lt n (held_in (held_at g steps planes choice) budget)) [
      | inl more ↦ absurd (within budget (n, is, more))
      | inr fits ↦ omega (arith, fits)
    ]

-- ---- what is listed, budget by budget

all_if : (P : RefusedStep → Type 0) (test : Bool) (r : RefusedStep) → P r →
    All P (if test then [] else r ∷ [])
all_if P true r is = All-nil P
all_if P false r is = All-cons P r [] is (All-nil P)

all_one : (P : RefusedStep → Type 0) (budget : Budget) (m : ℕ) (more : Step → ℕ)
    (closed : Option Step) →
    ((s : Step) → closed ≡ Some s →
    P (record { budget = budget; step = s; grow = more s; price = price s (more s) })) →
    All P (refused_one budget m more closed)
all_one P budget m more None each = All-nil P
all_one P budget m more (Some s) each =
    all_if P (m == 0)
    (record { budget = budget; step = s; grow = more s; price = price s (more s) })
    (each s refl)

all_listed : (P : RefusedStep → Type 0) (w : Budgets) (o : Outcome) →
    ((budget : Budget) → All P (refused_by w o budget)) → All P (refused_steps w o)
all_listed P w o each =
    All-append P (refused_by w o Frame ++ refused_by w o Inner ++ refused_by w o C0
    ++ refused_by w o C1) (refused_by w o C2)
    (All-append P (refused_by w o Frame ++ refused_by w o Inner ++ refused_by w o C0)
    (refused_by w o C1)
    (All-append P (refused_by w o Frame ++ refused_by w o Inner) (refused_by w o C0)
    (All-append P (refused_by w o Frame) (refused_by w o Inner) (each Frame) (each Inner))
    (each C0)) (each C1)) (each C2)

-- the budget of each
abbrev budgets_in : List RefusedStep → List Budget
budgets_in = map (λ (r : RefusedStep). r.budget)

not_none : (m : ℕ) → (suc m == 0) ≡ false
not_none m = grind (arith, nat_tests)

above_none : (m : ℕ) → nat_lt 0 (suc m) ≡ true
above_none m = grind (arith, nat_tests)

budget_if : (budget : Budget) (m : ℕ) (r : RefusedStep) → r.budget ≡ budget →
    budgets_in (if m == 0 then [] else r ∷ [])
    ≡ (if nat_lt 0 m then budget ∷ [] else [])
budget_if budget zero r is = refl
budget_if budget (suc m) r is =
    rw (not_none m) (rw (above_none m) (ap (λ b. b ∷ []) is))

budget_one : (budget : Budget) (m : ℕ) (more : Step → ℕ) (closed : Option Step) →
    (closed ≡ None → m ≡ 0) →
    budgets_in (refused_one budget m more closed) ≡ (if nat_lt 0 m then budget ∷ [] else [])
budget_one budget m more None none =
    subst (λ n. [] ≡ (if nat_lt 0 n then budget ∷ [] else [])) (sym (none refl)) refl
budget_one budget m more (Some s) none =
    budget_if budget m
    (record { budget = budget; step = s; grow = more s; price = price s (more s) }) refl

budgets_joined : (p : Budget → Bool) (xs ys : List RefusedStep) (bs cs : List Budget) →
    budgets_in xs ≡ filter p bs → budgets_in ys ≡ filter p cs →
    budgets_in (xs ++ ys) ≡ filter p (bs ++ cs)
budgets_joined p xs ys bs cs e f =
    map-append (λ (r : RefusedStep). r.budget) xs ys
    ∙ ap (λ l. l ++ budgets_in ys) e
    ∙ ap (λ l. filter p bs ++ l) f
    ∙ sym (filter-append p bs cs)

budgets_listed : (w : Budgets) (o : Outcome) (p : Budget → Bool) →
    ((budget : Budget) → budgets_in (refused_by w o budget) ≡ filter p (budget ∷ [])) →
    budgets_in (refused_steps w o) ≡ filter p all_budgets
budgets_listed w o p each =
    budgets_joined p (refused_by w o Frame ++ refused_by w o Inner ++ refused_by w o C0
    ++ refused_by w o C1) (refused_by w o C2) (Frame ∷ Inner ∷ C0 ∷ C1 ∷ []) (C2 ∷ [])
    (budgets_joined p (refused_by w o Frame ++ refused_by w o Inner ++ refused_by w o C0)
    (refused_by w o C1) (Frame ∷ Inner ∷ C0 ∷ []) (C1 ∷ [])
    (budgets_joined p (refused_by w o Frame ++ refused_by w o Inner) (refused_by w o C0)
    (Frame ∷ Inner ∷ []) (C0 ∷ [])
    (budgets_joined p (refused_by w o Frame) (refused_by w o Inner) (Frame ∷ []) (Inner ∷ [])
    (each Frame) (each Inner)) (each C0)) (each C1)) (each C2)

-- ---- budgets by name and by number

pub held_is : (h : Held) (budget : Budget) → bytes_in h (place_of budget) ≡ held_in h budget
held_is h Frame = refl
held_is h Inner = refl
held_is h C0 = refl
held_is h C1 = refl
held_is h C2 = refl

pub place_below : (budget : Budget) → place_of budget < 5
place_below Frame = omega arith
place_below Inner = omega arith
place_below C0 = omega arith
place_below C1 = omega arith
place_below C2 = omega arith

both_ways : true ≡ false → ⊥
both_ways e = let bad : ⊥ = cc in bad

not_true : IsTrue false → ⊥
not_true e = let bad : ⊥ = cc in bad

inner_limit : (limit : Option ℕ) (inner : Bool) → (limit ≡ None → inner ≡ false) →
    IsTrue inner → limit ≡ Some (or_none limit)
inner_limit (Some n) inner none is = refl
inner_limit None true none is = absurd (both_ways (none refl))
inner_limit None false none is = absurd (not_true is)

limit_is : (limits : Limits) (m : Members) (budget : Budget) → AreMembers limits.inner m →
    IsTrue (is_in m budget) →
    limit_in limits budget ≡ Some (get_or (limit_each limits) (place_of budget) 0)
limit_is limits m Frame are is = refl
limit_is limits m Inner are is = inner_limit limits.inner m.inner are.none is
limit_is limits m C0 are is = refl
limit_is limits m C1 are is = refl
limit_is limits m C2 are is = refl

-- ---- the multipliers of a block's budgets

abbrev around_of : Option ℕ → ℕ → List ℕ
around_of limit j = get_or (around_each limit) j []

abbrev named_budgets : Bool → Option ℕ → List Budget
named_budgets inner component =
    filter (is_in (record { inner = inner; component = component })) all_budgets

sums_by : (m : ℕ → ℕ) (limit component : Option ℕ) (inner : Bool) →
    ((c : ℕ) → component ≡ Some c → c ≤ 2) → (limit ≡ None → inner ≡ false) →
    ((n c : ℕ) → limit ≡ Some n → component ≡ Some c → inner ≡ true) →
    total m (chain (around_of limit) (node_by component (if inner then 1 else 0)))
    ≡ total (λ b. m (place_of b)) (named_budgets inner component)
sums_by m None component true small none nests = absurd (both_ways (none refl))
sums_by m None None false small none nests = refl
sums_by m None (Some zero) false small none nests =
    let e : m 2 + (m 0 + 0) ≡ m 0 + (m 2 + 0) = omega arith in e
sums_by m None (Some (suc zero)) false small none nests =
    let e : m 3 + (m 0 + 0) ≡ m 0 + (m 3 + 0) = omega arith in e
sums_by m None (Some (suc (suc zero))) false small none nests =
    let e : m 4 + (m 0 + 0) ≡ m 0 + (m 4 + 0) = omega arith in e
sums_by m (Some n) None false small none nests = refl
sums_by m (Some n) None true small none nests =
    let e : m 1 + (m 0 + 0) ≡ m 0 + (m 1 + 0) = omega arith in e
sums_by m (Some n) (Some c) false small none nests =
    absurd (both_ways (sym (nests n c refl refl)))
sums_by m (Some n) (Some zero) true small none nests =
    let e : m 2 + (m 1 + (m 0 + 0)) ≡ m 0 + (m 1 + (m 2 + 0)) = omega arith in e
sums_by m (Some n) (Some (suc zero)) true small none nests =
    let e : m 3 + (m 1 + (m 0 + 0)) ≡ m 0 + (m 1 + (m 3 + 0)) = omega arith in e
sums_by m (Some n) (Some (suc (suc zero))) true small none nests =
    let e : m 4 + (m 1 + (m 0 + 0)) ≡ m 0 + (m 1 + (m 4 + 0)) = omega arith in e
sums_by m limit (Some (suc (suc (suc c)))) inner small none nests =
    let le : suc (suc (suc c)) ≤ 2 = small (suc (suc (suc c))) refl in absurd (omega arith)

total_same : (f h : Budget → ℕ) → ((b : Budget) → f b ≡ h b) → (xs : List Budget) →
    total f xs ≡ total h xs
total_same f h same [] = refl
total_same f h same (x ∷ xs) =
    let here : f x ≡ h x = same x in
    let rest : total f xs ≡ total h xs = total_same f h same xs in
    omega arith

sum_of : (m : ℕ → ℕ) (limit : Option ℕ) (members : Members) → AreMembers limit members →
    total m (chain (around_of limit) (node_in members))
    ≡ total (λ b. m (place_of b)) (filter (is_in members) all_budgets)
sum_of m limit members are =
    sums_by m limit members.component members.inner are.component are.none are.nested

-- ---- the refused steps

module _ (g : Geometry) (steps : StepSizes) (planes : Planes) (limits : Limits) (counts : List ℕ)
    (hull_steps done left : ℕ → List Step) (c : Certificate) where
  abbrev blocks : ℕ
  blocks = length (all_blocks g)

  abbrev points_at : ℕ → List Point
  points_at n = points_of g steps planes (block_numbered g n)

  abbrev w : Budgets
  w = choice_budgets g steps planes limits

  module _ (inner : is_some limits.inner ≡ has_inner g.profile)
      (are : (b : ℕ) → b < blocks → ArePoints (points_at b))
      (hulls : (b : ℕ) → b < blocks → IsHull b (points_at b) (hull_steps b))
      (choice : IsChoice g planes counts)
      (h : IsCertificate (choice_budgets g steps planes limits) hull_steps counts done left
      (undecoded g planes) c) where
    abbrev o : Outcome
    o = so_far counts done left h.closed

    members : (n : ℕ) → n < blocks → AreMembers limits.inner (inside_at g n)
    members n below =
        are_members limits.inner g.profile g.levels (block_numbered g n).component
        (block_numbered g n).res inner (is_block g n below).component

    along_hull : (budget : Budget) (s : Step) → closed_by h.closed (place_of budget) ≡ Some s →
        IsHullStep s.block (points_at s.block) s.from s
    along_hull budget s e =
        subst (λ k. IsHullStep s.block (points_at s.block) k s)
        (h.each (place_of budget) s e).count
        ((promise limits blocks (inside_at g) (held_at g steps planes) points_at hull_steps counts
        done left (undecoded g planes) c members are hulls h).refused (place_of budget) s e)

    -- its points are those of the block
    between : (b : ℕ) (s : Step) → s.from ≤ block_passes g planes (block_numbered g b) →
        s.to ≤ block_passes g planes (block_numbered g b) →
        IsHullStep s.block (points_at b) s.from s →
        IsStepTo s.block (point_of g steps planes (block_numbered g b) s.from)
        (point_of g steps planes (block_numbered g b) s.to) s
    between b s from to hull =
        subst (λ p. IsStepTo s.block p (point_of g steps planes (block_numbered g b) s.to) s)
        (point_is g steps planes (block_numbered g b) s.from from)
        (subst (λ p. IsStepTo s.block (point_at (points_at b) s.from) p s)
        (point_is g steps planes (block_numbered g b) s.to to) hull.step)

    pub rate_is : (b : ℕ) → b < blocks →
        block_rate w o b ≡ rate_in g c.multipliers (block_numbered g b)
    rate_is b below =
        sum_of (multiplier_of w o) limits.inner (inside_at g b) (members b below)
        ∙ total_same (λ j. multiplier_of w o (place_of j)) (multiplier_in c.multipliers)
        (λ j. sym (h.multipliers (place_of j) (place_below j)))
        (budgets_of g (block_numbered g b))

    refused_is : (budget : Budget) (s : Step) → closed_by h.closed (place_of budget) ≡ Some s →
        IsRefusedStep g steps planes limits counts c.multipliers (record {
          budget = budget;
          step = s;
          grow = grow w o s (place_of budget);
          price = price s (grow w o s (place_of budget));
        })
    refused_is budget s e =
        let is : IsRefused w o (place_of budget) s = h.each (place_of budget) s e in
        let b = block_numbered g s.block in
        let number : number_of g b ≡ s.block = number_is g s.block is.inside in
        let from : s.from ≡ chosen_passes g counts b =
        sym is.count ∙ ap (λ m. get_or counts m 0) (sym number) in
        let most : chosen_passes g counts b ≤ block_passes g planes b =
        choice.most b (is_block g s.block is.inside) in
        let hull = along_hull budget s e in
        let within : s.to < length (points_at s.block) = hull.within in
        let long : length (points_at s.block) ≡ block_passes g planes b + 1 =
        points_long g steps planes b in
        let to : s.to ≤ block_passes g planes b = omega (arith, within, long) in
        let step = between s.block s (omega (arith, from, most)) to hull in
        let named : IsTrue (is_in (inside_at g s.block) budget) =
        (named_on limits.inner (inside_at g s.block) budget (members s.block is.inside)).1 is.on in
        let new = held_at g steps planes (set counts s.block s.to) in
        record {
          block = b;
          is_block = is_block g s.block is.inside;
          number = number;
          inside = named;
          from = from;
          to = to;
          len = step.len;
          gain = step.gain;
          hull = hull;
          limit = get_or (limit_each limits) (place_of budget) 0;
          limited = limit_is limits (inside_at g s.block) budget (members s.block is.inside) named;
          breaks = subst (λ n. get_or (limit_each limits) (place_of budget) 0 < n)
              (held_is new budget) is.breaks;
          grow_is = ap (λ n. n - (bytes_in (held_at g steps planes counts) (place_of budget)
              + s.len)) (held_is new budget)
              ∙ ap (λ n. held_in new budget - (n + s.len))
              (held_is (held_at g steps planes counts) budget);
          price_is = refl;
          slope = sym is.slope ∙ rate_is s.block is.inside;
        }

    pub all_refused : All (IsRefusedStep g steps planes limits counts c.multipliers)
        c.refused.items
    all_refused =
        subst (All (IsRefusedStep g steps planes limits counts c.multipliers)) (sym h.refused)
        (all_listed (IsRefusedStep g steps planes limits counts c.multipliers) w o
        (λ budget. all_one (IsRefusedStep g steps planes limits counts c.multipliers) budget
        (multiplier_of w o (place_of budget)) (λ s. grow w o s (place_of budget))
        (o.closed (place_of budget)) (refused_is budget)))

  -- the budgets that refused them
  pub listed_budgets : IsCertificate (choice_budgets g steps planes limits) hull_steps counts done
      left (undecoded g planes) c →
      budgets_in c.refused.items
      ≡ filter (λ (j : Budget). nat_lt 0 (multiplier_in c.multipliers j)) all_budgets
  listed_budgets h =
      let o : Outcome = so_far counts done left h.closed in
      ap budgets_in h.refused
      ∙ budgets_listed w o (λ (j : Budget). nat_lt 0 (multiplier_in c.multipliers j))
      (λ budget. budget_one budget (multiplier_of w o (place_of budget))
      (λ s. grow w o s (place_of budget)) (o.closed (place_of budget))
      (multiplier_open w.around o.closed (place_of budget))
      ∙ ap (λ m. if nat_lt 0 m then budget ∷ [] else [])
      (sym (h.multipliers (place_of budget) (place_below budget))))
