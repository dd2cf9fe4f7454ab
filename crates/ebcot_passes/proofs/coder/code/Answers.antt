use Rattle.dz_quantiser.specs.Coefficient.{Coefficient}
use Rattle.ebcot_passes.proofs.Loading.{block_fits, none_left}
use Rattle.std.proofs.Common.{ℕ, suc, ◌+◌, ◌≤◌, ◌≡◌, Bool, List, [], ◌∷◌, ◌++◌}
use Rattle.std.proofs.Common.{get_or, refl, sym, ap, ◌∙◌, subst, arith}
use Rattle.ebcot_contexts.specs.Contexts.{Shape}
use Rattle.ebcot_contexts.specs.Laws.{shaped}
use Rattle.distortion_sums.specs.Coefs.{coefs_of}
use Rattle.ebcot_passes.specs.Block.{IsAfter}
use Rattle.ebcot_passes.specs.Code.{ArePasses, passes_of}
use Rattle.ebcot_passes.specs.declared.coded.CodedPass.{CodedPass}
use Rattle.ebcot_passes.proofs.AllPasses.{shape_is, none_coded, one_more, last_most}
use Rattle.ebcot_passes.proofs.coder.code.Goals as goal

pub loop-k-init : goal.loop-k-init
loop-k-init g c =
    let s : Shape = shaped (g.C.Coefs.columns c.args.block.now) (g.C.Coefs.rows c.args.block.now)
    c.planes-planes.result c.args.orient in
    let count = c.load-coder.ensures.count in
    record {
      planes = c.load-coder.ensures.planes;
      passes = c.load-coder.ensures.passes;
      length = refl;
      after = c.load-coder.ensures.loads s c.args.bytes.now refl refl refl refl;
      coded = none_coded (coefs_of (g.C.Coefs.cells c.args.block.now)) s c.new-passes.result.items
          c.args.bytes.now c.new-passes.ensures;
      last = λ j other within. absurd (omega arith);
      few = omega arith;
    }

pub loop-k-preserved : goal.loop-k-preserved
loop-k-preserved g c =
    let s : Shape = shaped (g.C.Coefs.columns c.args.block.now) (g.C.Coefs.rows c.args.block.now)
    c.planes-planes.result c.args.orient in
    let coefs : List (ℕ × Bool) = coefs_of (g.C.Coefs.cells c.args.block.now) in
    let k : ℕ = c.loop-k._k in
    let pass : CodedPass = c.code_pass.result in
    let i = c.loop-k.invariant in
    let e = c.code_pass.ensures in
    let items : c.push.new.self.items ≡ c.loop-k.passes.items ++ pass ∷ [] = c.push.ensures.items in
    let next : suc k ≡ k + 1 = omega arith in
    let same = ap (λ m. m.count) e.same in
    let grown = e.grows in
    let few = e.few coefs s k i.after in
    record {
      planes = e.planes ∙ i.planes;
      passes = e.next ∙ (let p = i.passes in omega arith);
      length = e.length ∙ i.length;
      after = subst (λ (n : ℕ). IsAfter coefs s n c.code_pass.new.self
          c.code_pass.new.bytes)
          next (e.codes coefs s k i.after);
      coded = subst (λ (n : ℕ). ArePasses coefs s n c.push.new.self.items
          c.code_pass.new.bytes)
          next
          (subst (λ (ps : List CodedPass). ArePasses coefs s (suc k) ps c.code_pass.new.bytes)
          (sym items)
          (one_more coefs s k c.loop-k.coder.mark.count c.loop-k.passes.items pass c.loop-k.bytes
          c.code_pass.new.bytes i.coded i.last grown e.marks (e.mark coefs s k i.after)
          (e.distortion coefs s k i.after) few));
      last = λ j other within.
          subst (λ (ps : List CodedPass). (get_or ps j other).mark.count
          ≤ c.code_pass.new.self.mark.count) (sym items)
          (last_most k c.loop-k.coder.mark.count c.code_pass.new.self.mark.count
          c.loop-k.passes.items pass i.coded.count i.last (omega arith) (omega arith) j other
          (omega arith));
      few = omega arith;
    }

pub returns-clause-codes : goal.returns-clause-codes
returns-clause-codes g c = λ s orient wide high planes.
    let w : ℕ = g.C.Coefs.columns c.args.block.now in
    let h : ℕ = g.C.Coefs.rows c.args.block.now in
    let n : ℕ = c.planes-planes.result in
    let coefs : List (ℕ × Bool) = coefs_of (g.C.Coefs.cells c.args.block.now) in
    let some = c.if-planes-eq0.false in
    let from = c.from.ensures in
    let all : c.loop-k._k ≡ passes_of s.planes =
    (let end = c.loop-k-test.false in let most = c.loop-k.auto._k-end in omega arith) in
    subst (λ (k : ℕ). ArePasses coefs s k c.loop-k.passes.items c.loop-k.bytes) all
    (subst (λ (t : Shape). ArePasses coefs t c.loop-k._k c.loop-k.passes.items c.loop-k.bytes)
    (sym (shape_is s w h n c.args.orient orient wide high planes)) c.loop-k.invariant.coded)

pub returns-clause-start : goal.returns-clause-start
returns-clause-start g c = λ s orient wide high planes.
    let after = c.load-coder.ensures.loads s c.args.bytes.now orient wide high planes in
    c.distortion-start.ensures ∙ after.distortion_is

pub returns-then-planes-eq0-clause-start : goal.returns-then-planes-eq0-clause-start
returns-then-planes-eq0-clause-start g c = λ s orient wide high planes.
    let cells : List Coefficient = g.C.Coefs.cells c.args.block.now in
    none_left (coefs_of cells) s
    (block_fits cells s (g.C.Coefs.rows c.args.block.now) (g.C.Coefs.columns c.args.block.now)
    (planes ∙ c.planes-planes.ensures) (g.met.C.Coefs.whole c.args.block.now) wide high)
    (planes ∙ c.if-planes-eq0.true)
