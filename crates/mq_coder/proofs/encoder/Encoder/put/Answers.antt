use Rattle.std.proofs.Common.{◌≡◌, ◌∙◌, ◌⊎◌, ◌-◌, ◌<◌, ◌≤◌, ◌^◌, ℕ, inl, inr, Bool, false, not}
use Rattle.std.proofs.Common.{List, set, ap, sym, refl}
use Rattle.std.proofs.Math.Bool.{beq}
use Rattle.std.proofs.lemmas.Bool.{cases_lt, cases_Bool, false≢true}
use Rattle.mq_coder.specs.Code.{Coding, renormalise, learn}
use Rattle.mq_coder.specs.States.{row, context_at, after_symbol}
use Rattle.mq_coder.specs.Decisions.{estimate}
use Rattle.mq_coder.specs.Registers.{coding_of}
use Rattle.mq_coder.specs.Encoder.{state_of}
use Rattle.mq_coder.proofs.MarkLemmas.{mark_kept}
use Rattle.mq_coder.proofs.Symbols.{part_taken, code_stays, code_moves, coded_next, not_false}
use Rattle.mq_coder.proofs.Symbols.{learnt_symbol, lower_first}
use Rattle.mq_coder.proofs.encoder.Encoder.put.Goals as goal

pub returns-then-stays-clause-stands : goal.returns-then-stays-clause-stands
unfolding estimate
returns-then-stays-clause-stands c =
    let x : Coding = state_of c.args.self.now in
    let mps : c.mps.result ≡ (context_at x.contexts c.args.cx).1 =
    c.mps.ensures ∙ ap (λ (p : ℕ × Bool). p.1) c.get-context.ensures in
    let qe : c.estimate-qe.result ≡ estimate x.contexts c.args.cx =
    c.estimate-qe.ensures.value ∙ ap (λ (p : ℕ × Bool). (row p.0).qe) c.get-context.ensures in
    let stays = c.if-stays.ensures.0 refl in
    let wide : 2 ^ 15 ≤ x.a - estimate x.contexts c.args.cx = rw (← qe) stays.1 in
    let taken = rw qe at
    (c.upper_subinterval-self.ensures.exact c.args.self.now.bytes.now x.contexts) in
    coded_next x _ (c.args.cx, c.args.bit)
    (taken ∙ sym (code_stays x c.args.cx c.args.bit _ mps (not_false _ stays.0) wide))

pub returns-clause-stands : goal.returns-clause-stands
unfolding estimate
returns-clause-stands c =
    let x : Coding = state_of c.args.self.now in
    let cx : ℕ = c.args.cx in
    let bit : Bool = c.args.bit in
    let same : Bool = beq bit c.mps.result in
    let mps : c.mps.result ≡ (context_at x.contexts cx).1 =
    c.mps.ensures ∙ ap (λ (p : ℕ × Bool). p.1) c.get-context.ensures in
    let qe : c.estimate-qe.result ≡ estimate x.contexts cx =
    c.estimate-qe.ensures.value ∙ ap (λ (p : ℕ × Bool). (row p.0).qe) c.get-context.ensures in
    let moves : (same ≡ false) ⊎ (x.a - estimate x.contexts cx < 2 ^ 15) =
    elim (cases_Bool same) [
      | inl eq ↦ elim (cases_lt (x.a - c.estimate-qe.result) (2 ^ 15)) [
        | inl small ↦ inr (rw (← qe) small)
        | inr wide ↦ absurd (false≢true (c.if-stays.ensures.1 (ap not eq, wide)))
      ]
      | inr ne ↦ inl ne
    ] in
    let learnt : c.set.new.self ≡ (learn x cx bit).contexts =
    c.set.ensures ∙ ap (λ (p : ℕ × Bool). set x.contexts cx p)
    (c.next.ensures ∙ (learnt_symbol c.get-context.result bit c.mps.result c.mps.ensures
    ∙ ap (λ (p : ℕ × Bool). after_symbol p bit) c.get-context.ensures)) in
    let taken = c.subinterval-part.ensures.exact c.args.self.now.bytes.now c.set.new.self
    ∙ (lower_first same _ _ _
    ∙ (ap (λ (cs : List (ℕ × Bool)). part_taken
    (coding_of c.args.self.now.registers c.args.self.now.bytes.now cs) x.a c.estimate-qe.result same) learnt
    ∙ ap (λ (q : ℕ). part_taken (learn x cx bit) x.a q same) qe)) in
    let turned = c.renormalise-self.ensures.exact c.set.new.self in
    coded_next x _ (cx, bit)
    (sym turned ∙ (ap (renormalise 15) taken ∙ sym (code_moves x cx bit _ mps moves)))

pub returns-clause-marks : goal.returns-clause-marks
returns-clause-marks c = λ m symbols within h.
    mark_kept m c.args.self.now.bytes.now c.renormalise-self.new.bytes c.args.self.now.registers.count symbols
    (rw c.subinterval-part.ensures.count at c.renormalise-self.ensures.fixed) within h
