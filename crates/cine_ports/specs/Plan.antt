-- Which calls of an object in memory fail.
use Rattle.std.specs.Prelude.{ℕ, Bool, ◌≡◌, ◌+◌, ◌-◌, ◌^◌, ◌↔◌, List, min, Contains, Result, Err}
use Rattle.cine_ports.specs.declared.fault.PortFault.{PortFault}
use Rattle.cine_ports.specs.declared.fault.PortFault.TheVariants as port_fault

-- the numbers of the calls that are to fail, the number of the next call, and the most bytes that
-- one call moves
pub record Plan : Type 0 where
  pub failing : List ℕ
  pub calls : ℕ
  pub piece : ℕ

-- a plan, and whether a call has failed
pub record RunningPlan : Type 0 where
  pub plan : Plan
  pub has_failed : Bool

-- the plan of an object of which nothing was called yet
abbrev pub first_plan : List ℕ → ℕ → Plan
first_plan failing piece = record { failing = failing; calls = 0; piece = piece }

-- The plan after a call. The number 2^64 - 1 is the last, which all calls from then on have.
abbrev pub after_call : Plan → Plan
after_call plan =
    record { failing = plan.failing; calls = min (plan.calls + 1) (2 ^ 64 - 1); piece = plan.piece }

-- a call was numbered, and failed exactly if its number is among the failing ones
abbrev pub IsNumbered : Plan → Plan → Type 0 → Type 0
IsNumbered before now failed =
    (now ≡ after_call before) × (failed ↔ Contains before.failing before.calls)

-- the call returned that it failed
abbrev pub IsFailed : {T : Type 0} → Result T PortFault → Type 0
IsFailed result = result ≡ Err port_fault.Failed

-- the call returned something other than out of memory
abbrev pub HasMemory : {T : Type 0} → Result T PortFault → Type 0
HasMemory result = ¬ (result ≡ Err port_fault.Memory)
