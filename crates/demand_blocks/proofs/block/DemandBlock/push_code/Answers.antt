-- The bytes that are kept of the block have those of its first passes.
use Rattle.std.proofs.Common.{ℕ, ◌≡◌, ◌≢◌, ◌-◌, ◌≤◌, ◌++◌, Bool, List, length, get_or}
use Rattle.std.proofs.Common.{Option, Some, Box, sym, ap, ◌∙◌, subst, arith}
use Rattle.std.specs.declared.alloc.Global.{Global}
use Rattle.mq_coder.specs.Code.{code}
use Rattle.mq_coder.specs.Mark.{IsMarkOf}
use Rattle.ebcot_contexts.specs.Meaning.{symbols_of}
use Rattle.ebcot_passes.specs.declared.coded.CodedPass.{CodedPass}
use Rattle.ebcot_passes.specs.declared.left.LeftBlock.{LeftBlock}
use Rattle.demand_blocks.specs.Begun.{CanGoOn, IsKept}
use Rattle.demand_blocks.specs.Blocks.{block_coefs, block_shape}
use Rattle.demand_blocks.specs.Points.{code_of}
use Rattle.demand_blocks.specs.declared.block.DemandBlock.{DemandBlock}
use Rattle.demand_blocks.proofs.Moving.{enough}
use Rattle.demand_blocks.proofs.Points.{last_kept, code_is, ok_so}
use Rattle.demand_blocks.proofs.block.DemandBlock.push_code.Goals as goal

some_passes : (k : ℕ) → k ≢ 0 → 1 ≤ k
some_passes k other = omega (arith, other)

-- the last of the first k passes, beside bytes that are the kept ones
last_in : (b : DemandBlock) (k : ℕ) (left : Box LeftBlock Global) (pass : CodedPass)
    (bytes : List ℕ) → ◌≡◌ {A = Option (Box LeftBlock Global)} b.left (Some left) →
    bytes ≡ b.bytes.items → k ≢ 0 → k ≤ length b.passes.items →
    ((other : CodedPass) → pass ≡ get_or b.passes.items (k - 1) other) →
    IsMarkOf pass.mark bytes (symbols_of (block_coefs b) (block_shape b) k)
last_in b k left pass bytes is same other within found =
    let can : CanGoOn (block_coefs b) (block_shape b) b.passes.items left.value b.bytes.items =
    subst (λ (o : Option (Box LeftBlock Global)). IsKept (block_coefs b) (block_shape b)
    b.passes.items o b.bytes.items) is b.kept in
    subst (λ (l : List ℕ). IsMarkOf pass.mark l (symbols_of (block_coefs b) (block_shape b) k))
    (sym same)
    (last_kept (block_coefs b) (block_shape b) k b.passes.items pass left.value b.bytes.items can
    (some_passes k other) within found).mark

pub push_ended-requires : goal.push_ended-requires
push_ended-requires c =
    let b = c.args.self.now in
    let mark = last_in b c.args.k c.in-Some.field-0 c.last_of.result c.as_slice.result.now
    c.in-Some.is c.as_slice.ensures.value c.if-k-eq0.false c.requires.passes c.last_of.ensures in
    enough c.last_of.result.mark c.as_slice.result.now
    (symbols_of (block_coefs b) (block_shape b) c.args.k) mark

pub returns-in-Some-clause-code : goal.returns-in-Some-clause-code
returns-in-Some-clause-code c =
    let b = c.args.self.now in
    let coefs = block_coefs b in
    let s = block_shape b in
    let k : ℕ = c.args.k in
    let out : List ℕ = c.args.out.now.items in
    let new : List ℕ = c.push_ended.new.out.items in
    let mark = last_in b k c.in-Some.field-0 c.last_of.result c.as_slice.result.now
    c.in-Some.is c.as_slice.ensures.value c.if-k-eq0.false c.requires.passes c.last_of.ensures in
    ok_so c.push_ended.result
    ((symbols : List (ℕ × Bool)) → IsMarkOf c.last_of.result.mark c.as_slice.result.now symbols →
    new ≡ out ++ code symbols)
    (new ≡ out ++ code_of coefs s k)
    (λ each. each (symbols_of coefs s k) mark
    ∙ ap (λ (l : List ℕ). out ++ l) (code_is coefs s k (some_passes k c.if-k-eq0.false)))
    c.push_ended.ensures
