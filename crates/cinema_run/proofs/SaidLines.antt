-- The certificate line of an encoding is one that the reader of lines takes.
use Rattle.std.proofs.Common.{ℕ, zero, suc, ◌≡◌, ◌≢◌, ◌+◌, ◌*◌, ◌^◌, ◌<◌, ◌≤◌, ◌⊎◌, inl, inr}
use Rattle.std.proofs.Common.{Bool, true, false, if◌then◌else◌, nat_lt, List, [], ◌∷◌}
use Rattle.std.proofs.Common.{Option, Some, None, IfSome, is_some, length, map}
use Rattle.std.proofs.Common.{refl, sym, ◌∙◌, subst, ap, arith}
use Rattle.std.specs.Prelude.{slice_index_or}
use Rattle.std.specs.List.{All, filter}
use Rattle.std.proofs.lemmas.Bool.{cases_lt}
use Rattle.std.proofs.lemmas.Bool.Decides.{nat_tests}
use Rattle.std.proofs.lemmas.List.Elements.{All-from_get_or, All-head, All-tail, All-weaker}
use Rattle.std.proofs.lemmas.Nat.{div_below}
use Rattle.cine_nums.specs.Limits.{limit_of, has_inner}
use Rattle.cine_nums.specs.Profile.{max_height_of, max_width_of}
use Rattle.cine_nums.specs.declared.budget.Budget.{Budget}
use Rattle.cine_nums.specs.declared.budget.Budget.TheVariants.{Frame, Inner, C0, C1, C2}
use Rattle.cine_nums.specs.declared.profile.Profile.{Profile}
use Rattle.rd_hulls.specs.declared.step.Step.{Step}
use Rattle.allocation_bound.specs.Steps.{level, scale}
use Rattle.allocation_bound.specs.Sums.{total}
use Rattle.budget_duals.specs.Held.{held_in, limit_in, place_of}
use Rattle.budget_duals.specs.Members.{is_in, members_of}
use Rattle.budget_duals.specs.Tree.{number_at}
use Rattle.budget_duals.specs.declared.certificate.Certificate.{Certificate}
use Rattle.budget_duals.specs.declared.certificate.RefusedStep.{RefusedStep}
use Rattle.budget_duals.specs.declared.held.Held.{Held}
use Rattle.budget_duals.specs.declared.limits.Limits.{Limits}
use Rattle.budget_duals.specs.declared.members.Members.{Members}
use Rattle.cert_text.specs.Reading.{AreBudgets, AreSteps, IsSaid, IsSmall, RisesFrom}
use Rattle.cert_text.specs.declared.cert_line.CertLine.{CertLine}
use Rattle.frame_choice.specs.Refused.{IsRefusedStep, all_budgets, multiplier_in}
use Rattle.frame_choice.proofs.Members.{none_inside}
use Rattle.frame_encoder.specs.Encoded.{Encoding, Encodes, planes_of, steps_in}
use Rattle.frame_encoder.specs.Orders.{AreLimitsFor}
use Rattle.frame_encoder.specs.declared.order.EncodeOrder.{EncodeOrder}
use Rattle.frame_encoder.proofs.Allowed.{are_low}
use Rattle.pnm_frames.specs.Picture.{Picture}
use Rattle.cinema_run.specs.ReportLine.{IsCertOf}

-- ---- lists of budgets

not_true : ◌≡◌ {A = Bool} false true → ⊥
not_true e = let bad : ⊥ = cc in bad

not_none : (n : ℕ) → ◌≡◌ {A = Option ℕ} (Some n) None → ⊥
not_none n e = let bad : ⊥ = cc in bad

-- a budget stands on a list
abbrev IsAmong : Budget → List Budget → Type 0
IsAmong b [] = ⊥
IsAmong b (x ∷ xs) = (b ≡ x) ⊎ IsAmong b xs

each_listed : (b : Budget) → IsAmong b all_budgets
each_listed Frame = inl refl
each_listed Inner = inr (inl refl)
each_listed C0 = inr (inr (inl refl))
each_listed C1 = inr (inr (inr (inl refl)))
each_listed C2 = inr (inr (inr (inr (inl refl))))

kept_here : (b x : Budget) (t : Bool) (xs : List Budget) → b ≡ x → t ≡ true →
    IsAmong b (if t then x ∷ xs else xs)
kept_here b x true xs same is = inl same
kept_here b x false xs same is = absurd (not_true is)

kept_later : (b x : Budget) (t : Bool) (xs : List Budget) → IsAmong b xs →
    IsAmong b (if t then x ∷ xs else xs)
kept_later b x true xs among = inr among
kept_later b x false xs among = among

in_filter : (p : Budget → Bool) (b : Budget) (xs : List Budget) → IsAmong b xs → p b ≡ true →
    IsAmong b (filter p xs)
in_filter p b [] among is = absurd among
in_filter p b (x ∷ xs) (inl same) is =
    kept_here b x (p x) (filter p xs) same (subst (λ (y : Budget). p y ≡ true) same is)
in_filter p b (x ∷ xs) (inr among) is =
    kept_later b x (p x) (filter p xs) (in_filter p b xs among is)

-- a number of a budget is at most the sum over budgets of which it is one
sum_with : (f : Budget → ℕ) (x : Budget) (t : Bool) (xs : List Budget) →
    total f xs ≤ total f (if t then x ∷ xs else xs)
sum_with f x true xs = omega arith
sum_with f x false xs = omega arith

sum_from : (f : Budget → ℕ) (x : Budget) (t : Bool) (xs : List Budget) → t ≡ true →
    f x ≤ total f (if t then x ∷ xs else xs)
sum_from f x true xs is = omega arith
sum_from f x false xs is = absurd (not_true is)

through : {a b c : ℕ} → a ≤ b → b ≤ c → a ≤ c
through first more = omega (arith, first, more)

in_sum : (f : Budget → ℕ) (p : Budget → Bool) (b : Budget) (xs : List Budget) → IsAmong b xs →
    p b ≡ true → f b ≤ total f (filter p xs)
in_sum f p b [] among is = absurd among
in_sum f p b (x ∷ xs) (inl same) is =
    subst (λ (y : Budget). f y ≤ total f (filter p (x ∷ xs))) (sym same)
    (sum_from f x (p x) (filter p xs) (subst (λ (y : Budget). p y ≡ true) same is))
in_sum f p b (x ∷ xs) (inr among) is =
    through (in_sum f p b xs among is) (sum_with f x (p x) (filter p xs))

in_members : (m : Members) (f : Budget → ℕ) (b : Budget) → is_in m b ≡ true →
    f b ≤ total f (filter (is_in m) all_budgets)
in_members m f b is = in_sum f (is_in m) b all_budgets (each_listed b) is

-- budgets rise from a place on
abbrev RiseFrom : ℕ → List Budget → Type 0
RiseFrom place [] = Unit {0}
RiseFrom place (b ∷ bs) = (place ≤ place_of b) × RiseFrom (place_of b + 1) bs

rise_before : (least place : ℕ) (bs : List Budget) → least ≤ place → RiseFrom place bs →
    RiseFrom least bs
rise_before least place [] le rise = tt
rise_before least place (b ∷ bs) le rise = (omega (arith, le, rise.0), rise.1)

rise_with : (place : ℕ) (b : Budget) (t : Bool) (bs : List Budget) → place ≤ place_of b →
    RiseFrom (place_of b + 1) bs → RiseFrom place (if t then b ∷ bs else bs)
rise_with place b true bs le rise = (le, rise)
rise_with place b false bs le rise =
    rise_before place (place_of b + 1) bs (omega (arith, le)) rise

rise_filter : (p : Budget → Bool) (place : ℕ) (bs : List Budget) → RiseFrom place bs →
    RiseFrom place (filter p bs)
rise_filter p place [] rise = tt
rise_filter p place (b ∷ bs) rise =
    rise_with place b (p b) (filter p bs) rise.0 (rise_filter p (place_of b + 1) bs rise.1)

all_rise : RiseFrom 0 all_budgets
all_rise = (omega arith, (omega arith, (omega arith, (omega arith, (omega arith, tt)))))

steps_rise : (place : ℕ) (steps : List RefusedStep) →
    RiseFrom place (map (λ (r : RefusedStep). r.budget) steps) → RisesFrom place steps
steps_rise place [] rise = tt
steps_rise place (r ∷ rs) rise = (rise.0, steps_rise (place_of r.budget + 1) rs rise.1)

-- ---- multipliers

level_low : (s : Step) → level s < 2 ^ 96
level_low s =
    let longer : 1 ≤ s.len = s.longer in
    let wide : s.gain < 2 ^ 64 = s.wide in
    div_below (scale * s.gain) s.len (2 ^ 96) (omega (arith, longer)) (omega (arith, longer, wide))

at_most_level : {m rate l : ℕ} → m ≤ rate → l ≡ rate → l < 2 ^ 96 → m < 2 ^ 96
at_most_level part slope low = omega (arith, part, slope, low)

above_none : (m : ℕ) → nat_lt 0 (suc m) ≡ true
above_none m = grind (arith, nat_tests)

low_or_none : (n : ℕ) → (nat_lt 0 n ≡ true → n < 2 ^ 96) → n < 2 ^ 96
low_or_none zero low = omega arith
low_or_none (suc n) low = low (above_none n)

is_none : (n : ℕ) → (nat_lt 0 n ≡ true → ⊥) → n ≡ 0
is_none zero none = refl
is_none (suc n) none = absurd (none (above_none n))

-- the step of a budget among those of which each has one
step_of : (P : RefusedStep → Type 0) (steps : List RefusedStep) (b : Budget) → All P steps →
    IsAmong b (map (λ (r : RefusedStep). r.budget) steps) →
    (r : RefusedStep) × P r × (b ≡ r.budget)
step_of P [] b all among = absurd among
step_of P (r ∷ rs) b all (inl same) = (r, All-head P r rs all, same)
step_of P (r ∷ rs) b all (inr among) = step_of P rs b (All-tail P r rs all) among

at_each_place : (P : ℕ → Type 0) → ((b : Budget) → P (place_of b)) → (j : ℕ) → j < 5 → P j
at_each_place P each zero below = each Frame
at_each_place P each (suc zero) below = each Inner
at_each_place P each (suc (suc zero)) below = each C0
at_each_place P each (suc (suc (suc zero))) below = each C1
at_each_place P each (suc (suc (suc (suc zero)))) below = each C2
at_each_place P each (suc (suc (suc (suc (suc j))))) below = absurd (omega (arith, below))

module _ (order : EncodeOrder) (p : Picture) (e : Encoding) (encodes : Encodes order p e) where
  abbrev c : Certificate
  c = e.certificate

  abbrev IsOwn : RefusedStep → Type 0
  IsOwn r = IsRefusedStep encodes.geometry (steps_in encodes.geometry)
      (planes_of encodes.geometry p) order.limits e.choice c.multipliers r

  abbrev has_multiplier : Budget → Bool
  has_multiplier j = nat_lt 0 (multiplier_in c.multipliers j)

  refused_by : (b : Budget) → has_multiplier b ≡ true →
      (r : RefusedStep) × IsOwn r × (b ≡ r.budget)
  refused_by b some =
      step_of IsOwn c.refused.items b encodes.chosen.refused
      (subst (IsAmong b) (sym encodes.chosen.budgets)
      (in_filter has_multiplier b all_budgets (each_listed b) some))

  -- a multiplier is at most the level of the step that its budget refused
  refused_low : (b : Budget) (r : RefusedStep) → IsOwn r → b ≡ r.budget →
      multiplier_in c.multipliers b < 2 ^ 96
  refused_low b r is same =
      subst (λ (j : Budget). multiplier_in c.multipliers j < 2 ^ 96) (sym same)
      (at_most_level
      (in_members (members_of encodes.geometry.profile encodes.geometry.levels is.block.component
      is.block.res) (multiplier_in c.multipliers) r.budget is.inside) is.slope (level_low r.step))

  multiplier_low : (b : Budget) → multiplier_in c.multipliers b < 2 ^ 96
  multiplier_low b =
      low_or_none (multiplier_in c.multipliers b) (λ some.
      let found = refused_by b some in refused_low b found.0 found.1 found.2)

  multipliers_low : length c.multipliers ≡ 5 → All (λ (n : ℕ). n < 2 ^ 96) c.multipliers
  multipliers_low five =
      All-from_get_or (λ (n : ℕ). n < 2 ^ 96) c.multipliers 0 (λ i below.
      at_each_place (λ (j : ℕ). number_at c.multipliers j < 2 ^ 96) multiplier_low i
      (omega (arith, below, five)))

  -- a step is refused by a budget with a limit
  refused_limit : (r : RefusedStep) → IsOwn r → r.budget ≡ Inner →
      is_some order.limits.inner ≡ true
  refused_limit r is inner =
      ap (λ (limit : Option ℕ). is_some limit)
      (subst (λ (j : Budget). limit_in order.limits j ≡ Some is.limit) inner is.limited)

  no_inner : order.limits.inner ≡ None → slice_index_or c.multipliers 1 0 ≡ 0
  no_inner none =
      is_none (multiplier_in c.multipliers Inner) (λ some.
      let found = refused_by Inner some in
      let limited = refused_limit found.0 found.1 (sym found.2) in
      not_true (sym (ap (λ (limit : Option ℕ). is_some limit) none) ∙ limited))

  inner_limited : All (λ (r : RefusedStep). r.budget ≡ Inner → is_some order.limits.inner ≡ true)
      c.refused.items
  inner_limited =
      All-weaker IsOwn (λ (r : RefusedStep). r.budget ≡ Inner → is_some order.limits.inner ≡ true)
      refused_limit c.refused.items encodes.chosen.refused

  budgets_rise : RisesFrom 0 c.refused.items
  budgets_rise =
      steps_rise 0 c.refused.items
      (subst (RiseFrom 0) (sym encodes.chosen.budgets)
      (rise_filter has_multiplier 0 all_budgets all_rise))

-- ---- what is held

below_limit : (limit : Option ℕ) (held : ℕ) → ((n : ℕ) → limit ≡ Some n → n < 2 ^ 22) →
    (limit ≡ None → held ≡ 0) → (((n : ℕ) × (limit ≡ Some n) × (n < held)) → ⊥) → held < 2 ^ 32
below_limit None held low none within = let zero_held = none refl in omega (arith, zero_held)
below_limit (Some n) held low none within = elim (cases_lt n held) [
  | inl over ↦ absurd (within (n, refl, over))
  | inr fits ↦ (let few : n < 2 ^ 22 = low n refl in omega (arith, fits, few))
]

no_limit : (limits : Limits) (held : Held) → (limits.inner ≡ None → held.inner ≡ 0) →
    (b : Budget) → limit_in limits b ≡ None → held_in held b ≡ 0
no_limit limits held none Frame e = absurd (not_none limits.frame e)
no_limit limits held none Inner e = none e
no_limit limits held none C0 e = absurd (not_none (slice_index_or limits.component 0 0) e)
no_limit limits held none C1 e = absurd (not_none (slice_index_or limits.component 1 0) e)
no_limit limits held none C2 e = absurd (not_none (slice_index_or limits.component 2 0) e)

module _ (order : EncodeOrder) (p : Picture) (e : Encoding)
    (allowed : AreLimitsFor order.profile order.limits) (encodes : Encodes order p e) where
  own_inner : is_some order.limits.inner ≡ has_inner encodes.geometry.profile
  own_inner = allowed.inner ∙ ap has_inner (sym encodes.of_picture.profile_is)

  nothing_held : order.limits.inner ≡ None → e.held.inner ≡ 0
  nothing_held none =
      ap (λ (h : Held). h.inner) encodes.held
      ∙ none_inside order.limits.inner encodes.geometry.profile _ _ own_inner none

  held_low : (b : Budget) → held_in e.held b < 2 ^ 32
  held_low b =
      below_limit (limit_in order.limits b) (held_in e.held b)
      (are_low order.profile order.limits allowed b)
      (no_limit order.limits e.held nothing_held b) (encodes.limits b)

  are_budgets : length e.certificate.multipliers ≡ 5 →
      AreBudgets order.profile e.held order.limits e.certificate.multipliers
  are_budgets five = record {
    small = held_low;
    has_limit = allowed.inner;
    limited = λ b n here. subst (λ (o : Option ℕ). IfSome o (λ m. m ≤ limit_of order.profile b))
        here (allowed.most b);
    priced = multipliers_low order p e encodes five;
    nothing_held = nothing_held;
    no_multiplier = no_inner order p e encodes;
  }

  own_inner_steps : All (λ (r : RefusedStep). r.budget ≡ Inner → has_inner order.profile ≡ true)
      e.certificate.refused.items
  own_inner_steps =
      All-weaker (λ (r : RefusedStep). r.budget ≡ Inner → is_some order.limits.inner ≡ true)
      (λ (r : RefusedStep). r.budget ≡ Inner → has_inner order.profile ≡ true)
      (λ r is inner. sym allowed.inner ∙ is inner) e.certificate.refused.items
      (inner_limited order p e encodes)

  module _ (name : List ℕ) (line : CertLine) (certifies : IsCertOf order name p e line) where
    line_budgets : length line.certificate.multipliers ≡ 5 →
        AreBudgets line.profile line.held line.limits line.certificate.multipliers
    line_budgets five =
        subst (λ (c : Certificate). AreBudgets line.profile line.held line.limits c.multipliers)
        (sym certifies.certificate)
        (subst (λ (l : Limits). AreBudgets line.profile line.held l e.certificate.multipliers)
        (sym certifies.limits)
        (subst (λ (h : Held). AreBudgets line.profile h order.limits e.certificate.multipliers)
        (sym certifies.held)
        (subst (λ (q : Profile). AreBudgets q e.held order.limits e.certificate.multipliers)
        (sym certifies.profile)
        (are_budgets
        (subst (λ (c : Certificate). length c.multipliers ≡ 5) certifies.certificate five)))))

    line_steps : All IsSmall line.certificate.refused.items →
        AreSteps line.profile line.certificate.refused.items
    line_steps small = record {
      small = small;
      rises = subst (λ (c : Certificate). RisesFrom 0 c.refused.items) (sym certifies.certificate)
          (budgets_rise order p e encodes);
      inner = subst (λ (q : Profile). All (λ (r : RefusedStep). r.budget ≡ Inner →
          has_inner q ≡ true) line.certificate.refused.items) (sym certifies.profile)
          (subst (λ (c : Certificate). All (λ (r : RefusedStep). r.budget ≡ Inner →
          has_inner order.profile ≡ true) c.refused.items) (sym certifies.certificate)
          own_inner_steps);
    }

    own_profile : encodes.geometry.profile ≡ line.profile
    own_profile = encodes.of_picture.profile_is ∙ sym certifies.profile

    line_wide : (1 ≤ line.width) × (line.width ≤ max_width_of line.profile)
    line_wide =
        let same : line.width ≡ encodes.geometry.width =
        certifies.width ∙ sym encodes.of_picture.width in
        let some : 1 ≤ encodes.geometry.width = encodes.geometry.some_width in
        let few : encodes.geometry.width ≤ max_width_of line.profile =
        subst (λ (q : Profile). encodes.geometry.width ≤ max_width_of q) own_profile
        encodes.geometry.width_in_profile in
        (omega (arith, same, some), omega (arith, same, few))

    line_high : (1 ≤ line.height) × (line.height ≤ max_height_of line.profile)
    line_high =
        let same : line.height ≡ encodes.geometry.height =
        certifies.height ∙ sym encodes.of_picture.height in
        let some : 1 ≤ encodes.geometry.height = encodes.geometry.some_height in
        let few : encodes.geometry.height ≤ max_height_of line.profile =
        subst (λ (q : Profile). encodes.geometry.height ≤ max_height_of q) own_profile
        encodes.geometry.height_in_profile in
        (omega (arith, same, some), omega (arith, same, few))

    pub is_said : name ≢ [] → IsSaid line
    is_said some = record {
      named = subst (λ (n : List ℕ). n ≢ []) (sym certifies.named) some;
      wide = line_wide;
      high = line_high;
      passes = certifies.widths.passes;
      empty = certifies.widths.empty;
      distortion = certifies.widths.distortion;
      gap = certifies.widths.gap;
      budgets = line_budgets certifies.widths.multipliers;
      steps = line_steps certifies.widths.steps;
    }
