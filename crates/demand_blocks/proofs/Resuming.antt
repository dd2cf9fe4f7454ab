-- Going on with a block, or beginning it.
use Rattle.std.proofs.Common.{ℕ, ◌+◌, ◌*◌, ◌≤◌, ◌≡◌, Bool, List, [], ◌∷◌}
use Rattle.std.proofs.Common.{length, take, Option, Box, Some, None, ◌++◌, IfSome, IsTrue, refl}
use Rattle.std.proofs.Common.{sym, ap, subst, arith}
use Rattle.std.specs.Prelude.{MatchOption}
use Rattle.std.specs.declared.alloc.Global.{Global}
use Rattle.mq_coder.specs.Mark.{kept_at}
use Rattle.ebcot_contexts.specs.Contexts.{Shape}
use Rattle.distortion_sums.specs.Distortion.{distortion}
use Rattle.ebcot_passes.specs.Code.{ArePasses, passes_of}
use Rattle.ebcot_passes.specs.Left.{IsLeftAfter}
use Rattle.ebcot_passes.specs.declared.coded.CodedPass.{CodedPass}
use Rattle.ebcot_passes.specs.declared.left.LeftBlock.{LeftBlock}
use Rattle.ebcot_passes.proofs.AllPasses.{none_coded}
use Rattle.demand_blocks.specs.Begun.{AreFirst, CanGoOn, GoesOnFrom, IsKept}
use Rattle.demand_blocks.proofs.Moving.{anywhere, moves_from, moves_to}

-- what a coder is resumed from
pub resumable : (coefs : List (ℕ × Bool)) (s : Shape) (passes : List CodedPass)
    (left : Option (Box LeftBlock Global)) (bytes : List ℕ) → GoesOnFrom coefs s passes left bytes →
    MatchOption left (length passes ≡ 0) (λ l. IsLeftAfter coefs s (length passes) l.value bytes)
resumable coefs s passes None bytes from = from
resumable coefs s passes (Some l) bytes from = from.left_after

no_items : (passes : List CodedPass) → length passes ≡ 0 → passes ≡ []
no_items [] e = refl
no_items (p ∷ ps) e = absurd (omega (arith, e))

-- the passes that were coded stand in the buffer
pub coded_before : (coefs : List (ℕ × Bool)) (s : Shape) (passes : List CodedPass)
    (left : Option (Box LeftBlock Global)) (bytes : List ℕ) → GoesOnFrom coefs s passes left bytes →
    ArePasses coefs s (length passes) passes bytes
coded_before coefs s passes None bytes from =
    subst (λ k. ArePasses coefs s k passes bytes) (sym from)
    (none_coded coefs s passes bytes (no_items passes from))
coded_before coefs s passes (Some l) bytes from = from.coded

-- there is a further pass
pub few_left : (coefs : List (ℕ × Bool)) (s : Shape) (passes : List CodedPass)
    (left : Option (Box LeftBlock Global)) (bytes : List ℕ) (planes : ℕ) →
    GoesOnFrom coefs s passes left bytes → 1 ≤ planes → length passes ≤ passes_of planes →
    MatchOption left (Unit {0}) (λ l. l.value.passes + 2 ≤ 3 * planes)
few_left coefs s passes None bytes planes from some within = tt
few_left coefs s passes (Some l) bytes planes from some within =
    let passes_are = from.left_after.passes_are in
    omega (arith, passes_are, some, within)

-- a block that was left after its passes
pub left_here : (coefs : List (ℕ × Bool)) (s : Shape) (k : ℕ) (passes : List CodedPass)
    (left : LeftBlock) (buffer : List ℕ) → IsLeftAfter coefs s k left buffer →
    ArePasses coefs s k passes buffer → CanGoOn coefs s passes left buffer
left_here coefs s k passes left buffer is are = record {
  left_after = subst (λ n. IsLeftAfter coefs s n left buffer) (sym are.count) is;
  coded = subst (λ n. ArePasses coefs s n passes buffer) (sym are.count) are;
}

-- the passes of a block that can be gone on with are its first ones
pub first_of : (coefs : List (ℕ × Bool)) (s : Shape) (start : ℕ) (passes : List CodedPass)
    (left : LeftBlock) (buffer : List ℕ) → start ≡ distortion coefs s 0 →
    CanGoOn coefs s passes left buffer → AreFirst coefs s start passes
first_of coefs s start passes left buffer start_is can = record {
  start_is = start_is;
  each = λ k other lt. anywhere coefs s k _ buffer (can.coded.each k other lt);
}

-- of no pass coded
pub first_none : (coefs : List (ℕ × Bool)) (s : Shape) (start : ℕ) (passes : List CodedPass) →
    start ≡ distortion coefs s 0 → passes ≡ [] → AreFirst coefs s start passes
first_none coefs s start passes is none =
    let no : length passes ≡ 0 = ap length none in
    record { start_is = is; each = λ k other lt. absurd (omega (arith, lt, no)) }

-- what is kept after a pass: the bytes that its mark keeps, where there is anything
pub kept_where : (coefs : List (ℕ × Bool)) (s : Shape) (passes : List CodedPass)
    (found : Option (Box LeftBlock Global)) (kept : Bool) (left : LeftBlock)
    (bytes buffer : List ℕ) → IfSome found (λ l. (l.value ≡ left) × IsTrue kept) →
    (IsTrue kept → bytes ≡ take (kept_at left.mark) buffer) → CanGoOn coefs s passes left buffer →
    IsKept coefs s passes found bytes
kept_where coefs s passes None kept left bytes buffer is same can = tt
kept_where coefs s passes (Some b) kept left bytes buffer is same can =
    subst (λ l. CanGoOn coefs s passes l bytes) (sym is.0)
    (subst (CanGoOn coefs s passes left) (sym (same is.1)) (moves_from coefs s passes left buffer
    can))

-- what is made ready to go on from
pub ready_kept : (coefs : List (ℕ × Bool)) (s : Shape) (passes : List CodedPass) (left : LeftBlock)
    (bytes rest buffer : List ℕ) → CanGoOn coefs s passes left bytes → buffer ≡ bytes ++ rest →
    CanGoOn coefs s passes left buffer
ready_kept coefs s passes left bytes rest buffer can is =
    subst (CanGoOn coefs s passes left) (sym is) (moves_to coefs s passes left bytes rest can)
