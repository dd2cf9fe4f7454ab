-- What follows from the words of a command.
use Rattle.std.proofs.Common.{◌≡◌, ◌≤◌, ℕ, List, [], ◌∷◌, Option, Some, None, IfSome, is_some}
use Rattle.std.proofs.Common.{sym, subst, ap, arith}
use Rattle.std.proofs.Common.{inl, inr}
use Rattle.std.specs.Option.{ForSome}
use Rattle.budget_duals.specs.Held.{limit_in}
use Rattle.budget_duals.specs.declared.limits.Limits.{Limits}
use Rattle.cine_nums.specs.Limits.{limit_of, has_inner}
use Rattle.cine_nums.specs.declared.budget.Budget.{Budget}
use Rattle.cine_nums.specs.declared.budget.Budget.TheVariants.{Frame, Inner, C0, C1, C2}
use Rattle.cine_nums.specs.declared.profile.Profile.{Profile}
use Rattle.cine_nums.specs.declared.profile.Profile.TheVariants.{TwoK, FourK}
use Rattle.cine_ports.specs.Outputs.{Kept, kept_nothing}
use Rattle.cine_ports.specs.Source.{Source}
use Rattle.command_words.specs.Demo.{IsDemo}
use Rattle.command_words.specs.Encode.{AreEncode}
use Rattle.command_words.specs.Limits.{InnerBy, LimitBy, LimitsBy}
use Rattle.frame_encoder.specs.Orders.{AreLimitsFor}
use Rattle.frame_encoder.specs.declared.order.EncodeOrder.{EncodeOrder}
use Rattle.cinema_run.specs.Arguments.{AreCommand, IsEncode}
use Rattle.cinema_run.specs.Right.{Right, RightByName}
use Rattle.cinema_run.specs.RightCheck.{RightCheck, RightCheckByName}
use Rattle.cinema_run.specs.Run.{RunBrokeOff}
use Rattle.cinema_run.proofs.Progress.{none_broken, run_broken}

-- words for which there is an order are a command
pub is_command : (words : List (List ℕ)) (order : EncodeOrder) → IsEncode words order →
    AreCommand words
is_command words order is = inl (is.source, is.target, order.profile, order.limits, is.command)

-- and so are those of a demonstration
pub demo_is_command : (words : List (List ℕ)) (number : ℕ) (order : EncodeOrder) →
    IsDemo words number order.profile order.limits → AreCommand words
demo_is_command words number order is =
    inr (inr (number, order.profile, order.limits, is))

-- a limit by words isn't above the largest
is_low : (most : ℕ) (word : Option (List ℕ)) (limit : ℕ) → LimitBy most word limit → limit ≤ most
is_low most None limit by = omega (arith, by)
is_low most (Some word) limit by = by.low

inner_low : (profile : Profile) (word : Option (List ℕ)) (limit : Option ℕ) →
    InnerBy profile word limit → IfSome limit (λ n. n ≤ limit_of profile Inner)
inner_low TwoK None limit by =
    subst (λ (l : Option ℕ). IfSome l (λ n. n ≤ limit_of TwoK Inner)) (sym by) tt
inner_low TwoK (Some word) limit by = absurd by
inner_low FourK word limit by =
    subst (λ (l : Option ℕ). IfSome l (λ n. n ≤ limit_of FourK Inner)) (sym by.1)
    (is_low (limit_of FourK Inner) word by.0 by.2)

has_one : (profile : Profile) (word : Option (List ℕ)) (limit : Option ℕ) →
    InnerBy profile word limit → is_some limit ≡ has_inner profile
has_one TwoK None limit by = ap (λ (l : Option ℕ). is_some l) by
has_one TwoK (Some word) limit by = absurd by
has_one FourK word limit by = ap (λ (l : Option ℕ). is_some l) by.1

-- limits by words are lowered ones of the profile
lowered : (profile : Profile) (frame inner component : Option (List ℕ)) (limits : Limits) →
    LimitsBy profile frame inner component limits → AreLimitsFor profile limits
lowered profile frame inner component limits by =
    record { most = most; inner = has_one profile inner limits.inner by.inner }
  where
    one : by.component ≤ limit_of profile C0
    one = is_low (limit_of profile C0) component by.component by.lowered

    each : (b : Budget) → IfSome (limit_in (record limits {
      component = by.component ∷ by.component ∷ by.component ∷ [];
    }) b) (λ n. n ≤ limit_of profile b)
    each Frame = is_low (limit_of profile Frame) frame limits.frame by.frame
    each Inner = inner_low profile inner limits.inner by.inner
    each C0 = one
    each C1 = one
    each C2 = one

    most : (b : Budget) → IfSome (limit_in limits b) (λ n. n ≤ limit_of profile b)
    most b = subst (λ (c : List ℕ). IfSome (limit_in (record limits { component = c }) b)
        (λ n. n ≤ limit_of profile b)) (sym by.components) (each b)

-- the limits of an order are those of its profile, or lower
pub allowed : (words : List (List ℕ)) (order : EncodeOrder) → IsEncode words order →
    AreLimitsFor order.profile order.limits
allowed words order is = lowered order.profile _ _ _ order.limits is.command.names.limits_are

-- and so are those of a demonstration
pub demo_allowed : (words : List (List ℕ)) (number : ℕ) (order : EncodeOrder) →
    IsDemo words number order.profile order.limits → AreLimitsFor order.profile order.limits
demo_allowed words number order is =
    lowered order.profile _ _ _ order.limits is.names.limits_are

-- a run of a command that ended before its source was listed
pub unread_broken : (words : List (List ℕ)) (suffix : List ℕ) (source : Source) (asked : ℕ)
    (k : Option Kept) (s : Option (List ℕ)) → asked ≡ 0 →
    ForSome k (λ kept. kept ≡ kept_nothing) → ForSome s (λ said. said ≡ []) → AreEncode words →
    (order : EncodeOrder) × IsEncode words order
    × RunBrokeOff (RightByName order suffix) (Right order suffix) source asked k s
unread_broken words suffix source asked k s first none nothing command =
    let order : EncodeOrder = record { profile = command.2; limits = command.3 } in (
      order,
      record { source = command.0; target = command.1; command = command.4 },
      run_broken (RightByName order suffix) (Right order suffix) source asked k k s s
          (none_broken (RightByName order suffix) (Right order suffix) source asked k s first none
          nothing),
    )

-- and one of a check
pub unread_check : (source : Source) (asked : ℕ) (k : Option Kept) (s : Option (List ℕ)) →
    asked ≡ 0 → ForSome k (λ kept. kept ≡ kept_nothing) → ForSome s (λ said. said ≡ []) →
    RunBrokeOff RightCheckByName RightCheck source asked k s
unread_check source asked k s first none nothing =
    run_broken RightCheckByName RightCheck source asked k k s s
    (none_broken RightCheckByName RightCheck source asked k s first none nothing)
