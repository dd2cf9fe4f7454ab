-- Each turn codes one pass more.
use Rattle.std.proofs.Common.{ℕ, suc, ◌+◌, ◌≤◌, ◌≡◌, List, [], ◌∷◌, ◌++◌, length, get_or}
use Rattle.std.proofs.Common.{refl, sym, ap, ◌∙◌, subst, arith}
use Rattle.std.proofs.lemmas.Bool.{false≢true}
use Rattle.ebcot_passes.specs.Block.{IsAfter}
use Rattle.ebcot_passes.specs.Code.{ArePasses}
use Rattle.ebcot_passes.specs.declared.coded.CodedPass.{CodedPass}
use Rattle.ebcot_passes.proofs.AllPasses.{one_more, last_most}
use Rattle.demand_blocks.specs.BlockLaws.{small_in}
use Rattle.demand_blocks.specs.Views.{coefs_in, shape_in}
use Rattle.demand_blocks.proofs.Moving.{few_out, marks_below}
use Rattle.demand_blocks.proofs.Resuming.{resumable, coded_before, few_left, left_here}
use Rattle.demand_blocks.proofs.coding.code_up_to.Goals as goal

pub resume-coder-requires-clause-few : goal.resume-coder-requires-clause-few
resume-coder-requires-clause-few c =
    let some = c.requires.some in
    let most = c.requires.most in
    let within = c.requires.within in
    let more = c.requires.more in
    few_left (coefs_in c.args.view.now) (shape_in c.args.view.now c.args.orient c.args.planes)
    c.args.passes.now.items c.args.left.now c.args.buffer.now c.args.planes c.requires.from
    (omega (arith, some, most, within)) (omega (arith, most, within, more))

pub loop-k-init : goal.loop-k-init
loop-k-init c =
    let coefs = coefs_in c.args.view.now in
    let s = shape_in c.args.view.now c.args.orient c.args.planes in
    let items : List CodedPass = c.args.passes.now.items in
    let k : ℕ = c.len-begun.result in
    let begun : length items ≡ k = sym (c.len-begun.ensures ∙ c.args.passes.now.ok.0) in
    let small = small_in c.args.view.now c.args.orient c.args.planes c.requires.planes in
    let after : IsAfter coefs s k c.resume-coder.result c.args.buffer.now =
    subst (λ (n : ℕ). IsAfter coefs s n c.resume-coder.result c.args.buffer.now) begun
    (c.resume-coder.ensures.after (length items) c.args.buffer.now
    (resumable coefs s items c.args.left.now c.args.buffer.now c.requires.from)) in
    let coded : ArePasses coefs s k items c.args.buffer.now =
    subst (λ (n : ℕ). ArePasses coefs s n items c.args.buffer.now) begun
    (coded_before coefs s items c.args.left.now c.args.buffer.now c.requires.from) in
    let most = c.requires.most in
    let within = c.requires.within in
    let more = c.requires.more in
    record {
      planes = c.resume-coder.ensures.planes;
      passes = after.passes_are;
      length = refl;
      capacity = refl;
      after = after;
      coded = coded;
      last = marks_below coefs s k items c.args.buffer.now c.args.buffer.now
          c.resume-coder.result.mark coded after.left.mark;
      few = few_out coefs s k c.resume-coder.result.mark c.args.buffer.now small
          (omega (arith, begun, most, within, more)) after.left.mark;
      done = λ never. absurd (false≢true never);
    }

pub push_reserved-requires : goal.push_reserved-requires
push_reserved-requires c =
    let long = c.loop-k.passes.ok.0 in
    let count = c.loop-k.invariant.coded.count in
    let room = c.loop-k.invariant.capacity in
    let most = c.requires.capacity in
    let more = c.loop-k-test.true in
    omega (arith, long, count, room, most, more)

pub loop-k-preserved : goal.loop-k-preserved
loop-k-preserved c =
    let coefs = coefs_in c.args.view.now in
    let s = shape_in c.args.view.now c.args.orient c.args.planes in
    let k : ℕ = c.loop-k.k in
    let pass : CodedPass = c.code_pass-pass.result in
    let i = c.loop-k.invariant in
    let e = c.code_pass-pass.ensures in
    let new : List CodedPass = c.push_reserved.new.self.items in
    let items : new ≡ c.loop-k.passes.items ++ pass ∷ [] = c.push_reserved.ensures.items in
    let next : suc k ≡ k + 1 = omega arith in
    let same = ap (λ m. m.count) e.same in
    let grown = e.grows in
    let few = e.few coefs s k i.after in
    record {
      planes = e.planes ∙ i.planes;
      passes = e.next ∙ (let p = i.passes in omega arith);
      length = e.length ∙ i.length;
      capacity = c.push_reserved.ensures.capacity ∙ i.capacity;
      after = subst (λ (n : ℕ). IsAfter coefs s n c.code_pass-pass.new.self c.code_pass-pass.new.bytes) next
          (e.codes coefs s k i.after);
      coded = subst (λ (n : ℕ). ArePasses coefs s n new c.code_pass-pass.new.bytes) next
          (subst (λ (ps : List CodedPass). ArePasses coefs s (suc k) ps c.code_pass-pass.new.bytes)
          (sym items)
          (one_more coefs s k c.loop-k.coder.mark.count c.loop-k.passes.items pass c.loop-k.buffer
          c.code_pass-pass.new.bytes i.coded i.last grown e.marks (e.mark coefs s k i.after)
          (e.distortion coefs s k i.after) few));
      last = λ j other within.
          subst (λ (ps : List CodedPass). (get_or ps j other).mark.count
          ≤ c.code_pass-pass.new.self.mark.count) (sym items)
          (last_most k c.loop-k.coder.mark.count c.code_pass-pass.new.self.mark.count
          c.loop-k.passes.items pass i.coded.count i.last (omega arith) (omega arith) j other
          (omega arith));
      few = omega arith;
      done = λ is. (let enough = c.is_met-done.ensures is in omega (arith, enough));
    }

pub returns-clause-can : goal.returns-clause-can
returns-clause-can c =
    let coefs = coefs_in c.args.view.now in
    let s = shape_in c.args.view.now c.args.orient c.args.planes in
    left_here coefs s c.loop-k.k c.loop-k.passes.items c.leave.result c.loop-k.buffer
    (c.leave.ensures.leaves coefs s c.loop-k.k c.loop-k.buffer c.loop-k.invariant.after)
    c.loop-k.invariant.coded
