-- A code-block of which the first passes are coded.
use Rattle.std.specs.Prelude.{ℕ, suc, ◌<◌, ◌≡◌, Bool, List, length, get_or, Option, Box, IfSome}
use Rattle.std.specs.Prelude.{MatchOption}
use Rattle.std.specs.declared.alloc.Global.{Global}
use Rattle.mq_coder.specs.Code.{coded}
use Rattle.ebcot_contexts.specs.Contexts.{Shape}
use Rattle.ebcot_contexts.specs.Meaning.{symbols_of}
use Rattle.distortion_sums.specs.Distortion.{distortion}
use Rattle.ebcot_passes.specs.Code.{IsPass, ArePasses}
use Rattle.ebcot_passes.specs.Left.{IsLeftAfter}
use Rattle.ebcot_passes.specs.declared.coded.CodedPass.{CodedPass}
use Rattle.ebcot_passes.specs.declared.left.LeftBlock.{LeftBlock}

-- Pass k of a block, counted from 0, beside the bytes that its own symbols put out: what its mark
-- says wherever the bytes stand, or where they stand no more.
abbrev pub IsPassAnywhere : List (ℕ × Bool) → Shape → ℕ → CodedPass → Type 0
IsPassAnywhere coefs s k pass = IsPass coefs s k pass (coded (symbols_of coefs s (suc k))).bytes

-- The passes of a block that were coded: its first ones, in their order. `start` is its distortion
-- without a pass.
pub record AreFirst (coefs : List (ℕ × Bool)) (s : Shape) (start : ℕ) (passes : List CodedPass)
    : Type 0 where
  pub start_is : start ≡ distortion coefs s 0
  pub each : (k : ℕ) (other : CodedPass) → k < length passes →
      IsPassAnywhere coefs s k (get_or passes k other)

-- The block can be gone on with after its passes: its coder was left there, and these are the bytes
-- that the passes were coded to.
pub record CanGoOn (coefs : List (ℕ × Bool)) (s : Shape) (passes : List CodedPass)
    (left : LeftBlock) (bytes : List ℕ) : Type 0 where
  pub left_after : IsLeftAfter coefs s (length passes) left bytes
  pub coded : ArePasses coefs s (length passes) passes bytes

-- what is kept to go on with, where anything is
abbrev pub IsKept : List (ℕ × Bool) → Shape → List CodedPass → Option (Box LeftBlock Global) →
    List ℕ → Type 0
IsKept coefs s passes left bytes = IfSome left (λ l. CanGoOn coefs s passes l.value bytes)

-- a block goes on from what is kept, or else from before its first pass
abbrev pub GoesOnFrom : List (ℕ × Bool) → Shape → List CodedPass → Option (Box LeftBlock Global) →
    List ℕ → Type 0
GoesOnFrom coefs s passes left bytes =
    MatchOption left (length passes ≡ 0) (λ l. CanGoOn coefs s passes l.value bytes)
