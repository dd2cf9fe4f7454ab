-- What the last of the coded passes stands for.
use Rattle.std.proofs.Common.{ℕ, zero, suc, ◌+◌, ◌-◌, ◌≤◌, ◌≡◌, Bool, List, length, get_or}
use Rattle.std.proofs.Common.{take, ◌++◌, append_assoc, Result, Ok, Err, IfOk}
use Rattle.std.proofs.Common.{refl, sym, ap, ◌∙◌, subst, arith}
use Rattle.mq_coder.specs.Code.{code, coded, start_coding}
use Rattle.mq_coder.specs.Mark.{IsMarkOf}
use Rattle.ebcot_contexts.specs.Contexts.{Shape}
use Rattle.ebcot_contexts.specs.Meaning.{symbols_of}
use Rattle.distortion_sums.specs.Distortion.{distortion}
use Rattle.ebcot_passes.specs.Code.{IsPass}
use Rattle.ebcot_passes.specs.declared.coded.CodedPass.{CodedPass}
use Rattle.ebcot_passes.specs.declared.left.LeftBlock.{LeftBlock}
use Rattle.ebcot_passes.proofs.Blocks.{symbols_none}
use Rattle.rd_hulls.specs.declared.point.Point.{Point}
use Rattle.demand_blocks.specs.Begun.{IsPassAnywhere, AreFirst, CanGoOn}
use Rattle.demand_blocks.specs.Points.{code_of, least_after}

-- a point by its parts
pub point_made : (p : Point) (len dist passes : ℕ) → p.len ≡ len → p.dist ≡ dist →
    p.passes ≡ passes →
    p ≡ (let made : Point = record { len = len; dist = dist; passes = passes } in made)
point_made p len dist passes l d k = λ i. record { len = l i; dist = d i; passes = k i }

-- what the coded passes put out
pub least_none : (coefs : List (ℕ × Bool)) (s : Shape) → least_after coefs s 0 ≡ 1
unfolding coded start_coding
least_none coefs s =
    ap (λ (l : List (ℕ × Bool)). length (coded l).bytes + 1) (symbols_none coefs s)

-- the bytes of the first k passes, one or more
pub code_is : (coefs : List (ℕ × Bool)) (s : Shape) (k : ℕ) → 1 ≤ k →
    code (symbols_of coefs s k) ≡ code_of coefs s k
code_is coefs s zero some = absurd (omega (arith, some))
code_is coefs s (suc k) some = refl

-- the last of them
pub record IsLast (coefs : List (ℕ × Bool)) (s : Shape) (k : ℕ) (pass : CodedPass)
    (buffer : List ℕ) : Type 0 where
  pub mark : IsMarkOf pass.mark buffer (symbols_of coefs s k)
  pub distortion_is : pass.distortion ≡ distortion coefs s k

last_is : (coefs : List (ℕ × Bool)) (s : Shape) (k : ℕ) (pass : CodedPass) (buffer : List ℕ) →
    1 ≤ k → IsPass coefs s (k - 1) pass buffer → IsLast coefs s k pass buffer
last_is coefs s k pass buffer some is =
    let e : suc (k - 1) ≡ k = omega (arith, some) in
    record {
      mark = subst (λ j. IsMarkOf pass.mark buffer (symbols_of coefs s j)) e is.mark;
      distortion_is = subst (λ j. pass.distortion ≡ distortion coefs s j) e is.distortion_is;
    }

-- wherever its bytes stand
pub last_anywhere : (coefs : List (ℕ × Bool)) (s : Shape) (start k : ℕ) (passes : List CodedPass)
    (pass : CodedPass) → AreFirst coefs s start passes → 1 ≤ k → k ≤ length passes →
    ((other : CodedPass) → pass ≡ get_or passes (k - 1) other) →
    IsLast coefs s k pass (coded (symbols_of coefs s (suc (k - 1)))).bytes
last_anywhere coefs s start k passes pass first some within found =
    last_is coefs s k pass (coded (symbols_of coefs s (suc (k - 1)))).bytes some
    (subst (IsPassAnywhere coefs s (k - 1)) (sym (found pass))
    (first.each (k - 1) pass (omega (arith, some, within))))

-- beside the kept bytes
pub last_kept : (coefs : List (ℕ × Bool)) (s : Shape) (k : ℕ) (passes : List CodedPass)
    (pass : CodedPass) (left : LeftBlock) (bytes : List ℕ) → CanGoOn coefs s passes left bytes →
    1 ≤ k → k ≤ length passes → ((other : CodedPass) → pass ≡ get_or passes (k - 1) other) →
    IsLast coefs s k pass bytes
last_kept coefs s k passes pass left bytes can some within found =
    last_is coefs s k pass bytes some
    (subst (λ p. IsPass coefs s (k - 1) p bytes) (sym (found pass))
    (can.coded.each (k - 1) pass (omega (arith, some, within))))

-- the kept bytes and the tail, appended one after the other
pub appended : (out middle new bytes tail end whole : List ℕ) (kept : ℕ) →
    middle ≡ out ++ take kept bytes → new ≡ middle ++ end → end ≡ tail →
    take kept bytes ++ tail ≡ whole → new ≡ out ++ whole
appended out middle new bytes tail end whole kept first second same is =
    second ∙ ap (λ (l : List ℕ). middle ++ l) same ∙ ap (λ (l : List ℕ). l ++ tail) first
    ∙ append_assoc out (take kept bytes) tail ∙ ap (λ (l : List ℕ). out ++ l) is

-- what holds where a call succeeds
pub ok_so : {X E : Type 0} (r : Result X E) (P Q : Type 0) → (P → Q) → IfOk r (λ _. P) →
    IfOk r (λ _. Q)
ok_so (Ok x) P Q so p = so p
ok_so (Err e) P Q so p = tt
