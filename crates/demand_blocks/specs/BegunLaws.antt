-- What is said of a begun block is said at most once.
use Rattle.std.proofs.Common.{ℕ, Bool, List, Option, Box}
use Rattle.std.specs.declared.alloc.Global.{Global}
use Rattle.std.proofs.Props.{props}
use Rattle.ebcot_contexts.specs.Contexts.{Shape}
use Rattle.ebcot_passes.specs.declared.coded.CodedPass.{CodedPass}
use Rattle.ebcot_passes.specs.declared.left.LeftBlock.{LeftBlock}
use Rattle.demand_blocks.specs.Begun.{AreFirst, CanGoOn, IsKept}

pub first_prop : (coefs : List (ℕ × Bool)) (s : Shape) (start : ℕ) (passes : List CodedPass) →
    IsProp (AreFirst coefs s start passes)
first_prop coefs s start passes = Prim.hlevel props

can_prop : (coefs : List (ℕ × Bool)) (s : Shape) (passes : List CodedPass) (left : LeftBlock)
    (bytes : List ℕ) → IsProp (CanGoOn coefs s passes left bytes)
can_prop coefs s passes left bytes = Prim.hlevel props

pub kept_prop : (coefs : List (ℕ × Bool)) (s : Shape) (passes : List CodedPass)
    (left : Option (Box LeftBlock Global)) (bytes : List ℕ) →
    IsProp (IsKept coefs s passes left bytes)
kept_prop coefs s passes left bytes = Prim.hlevel (props, can_prop)
