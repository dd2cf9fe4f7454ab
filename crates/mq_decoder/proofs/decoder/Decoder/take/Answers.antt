use Rattle.std.proofs.Common.{◌≡◌, ◌⊎◌, ◌-◌, ◌/◌, ◌<◌, ◌^◌, ◌∙◌, ap, ℕ, List, set, inl, inr, Bool}
use Rattle.std.proofs.Common.{true, nat_lt, arith}
use Rattle.std.proofs.lemmas.Bool.{lt-ltb, le-ltb}
use Rattle.mq_coder.specs.Decisions.{Interval, interval_after, estimate}
use Rattle.mq_coder.specs.States.{row, context_at, after_symbol}
use Rattle.mq_coder.proofs.Symbols.{learnt_symbol}
use Rattle.mq_decoder.proofs.Taking.{answer, decides, inverts_at, stays, moves}
use Rattle.mq_decoder.proofs.decoder.Decoder.take.Goals.{else-not-lower-via-then-not-lower+else-part-ge-THREE_QUARTERS}
use Rattle.mq_decoder.proofs.decoder.Decoder.take.Goals.{else-not-lower-via-else-not-lower}
use Rattle.mq_decoder.proofs.decoder.Decoder.take.Goals as goal

pub returns-then-part-ge-THREE_QUARTERS-clause-decides : goal.returns-then-part-ge-THREE_QUARTERS-clause-decides
unfolding estimate
returns-then-part-ge-THREE_QUARTERS-clause-decides c =
    decides c.args.self.now c.args.cx c.estimate-qe.result c.mps-mps.result
    (record {
      wide = c.args.self.now.wide;
      estimate_is = c.estimate-qe.ensures.value
          ∙ ap (λ (p : ℕ × Bool). (row p.0).qe) c.get-context.ensures;
      mps_is = c.mps-mps.ensures
          ∙ ap (λ (p : ℕ × Bool). p.1) c.get-context.ensures;
    })

pub returns-then-part-ge-THREE_QUARTERS-clause-inverts : goal.returns-then-part-ge-THREE_QUARTERS-clause-inverts
unfolding estimate
returns-then-part-ge-THREE_QUARTERS-clause-inverts c = λ before later bit e h.
    inverts_at c.args.self.now.bytes.now c.args.cx _ before later bit e
    (decides c.args.self.now c.args.cx c.estimate-qe.result c.mps-mps.result
    (record {
      wide = c.args.self.now.wide;
      estimate_is = c.estimate-qe.ensures.value
          ∙ ap (λ (p : ℕ × Bool). (row p.0).qe) c.get-context.ensures;
      mps_is = c.mps-mps.ensures
          ∙ ap (λ (p : ℕ × Bool). p.1) c.get-context.ensures;
    })
    _ h)

pub returns-clause-decides : goal.returns-clause-decides
unfolding estimate
returns-clause-decides c =
    decides c.args.self.now c.args.cx c.estimate-qe.result c.mps-mps.result
    (record {
      wide = c.args.self.now.wide;
      estimate_is = c.estimate-qe.ensures.value
          ∙ ap (λ (p : ℕ × Bool). (row p.0).qe) c.get-context.ensures;
      mps_is = c.mps-mps.ensures
          ∙ ap (λ (p : ℕ × Bool). p.1) c.get-context.ensures;
    })

pub returns-clause-inverts : goal.returns-clause-inverts
unfolding estimate
returns-clause-inverts c = λ before later bit e h.
    inverts_at c.args.self.now.bytes.now c.args.cx _ before later bit e
    (decides c.args.self.now c.args.cx c.estimate-qe.result c.mps-mps.result
    (record {
      wide = c.args.self.now.wide;
      estimate_is = c.estimate-qe.ensures.value
          ∙ ap (λ (p : ℕ × Bool). (row p.0).qe) c.get-context.ensures;
      mps_is = c.mps-mps.ensures
          ∙ ap (λ (p : ℕ × Bool). p.1) c.get-context.ensures;
    })
    _ h)

pub returns-then-part-ge-THREE_QUARTERS-clause-stands : goal.returns-then-part-ge-THREE_QUARTERS-clause-stands
unfolding estimate
returns-then-part-ge-THREE_QUARTERS-clause-stands c = λ cxs h.
    let bytes = c.args.self.now.bytes.now in
    let it : Interval = interval_after bytes cxs in
    let qe_is : c.estimate-qe.result ≡ estimate it.contexts c.args.cx =
    c.estimate-qe.ensures.value ∙ ap (λ (p : ℕ × Bool). (row p.0).qe) c.get-context.ensures
    ∙ ap (λ (cs : List (ℕ × Bool)). estimate cs c.args.cx) h.contexts in
    let next = stays c.args.self.now c.subinterval-part.result c.args.cx c.estimate-qe.result cxs c.mps-mps.result
    (record {
      wide = c.args.self.now.wide;
      estimate_is = c.estimate-qe.ensures.value
          ∙ ap (λ (p : ℕ × Bool). (row p.0).qe) c.get-context.ensures;
      mps_is = c.mps-mps.ensures
          ∙ ap (λ (p : ℕ × Bool). p.1) c.get-context.ensures;
    })
    h (le-ltb _ _ c.if-not-lower.true)
    (c.subinterval-part.ensures.holds bytes it c.args.cx qe_is h.holds)
    (c.subinterval-part.ensures.upper c.if-not-lower.true) c.if-part-ge-THREE_QUARTERS.true in
    record { holds = next.0; contexts = next.1 }

pub returns-clause-stands : goal.returns-clause-stands
unfolding estimate
returns-clause-stands c = λ cxs h.
    let bytes = c.args.self.now.bytes.now in
    let it : Interval = interval_after bytes cxs in
    let qe_is : c.estimate-qe.result ≡ estimate it.contexts c.args.cx =
    c.estimate-qe.ensures.value ∙ ap (λ (p : ℕ × Bool). (row p.0).qe) c.get-context.ensures
    ∙ ap (λ (cs : List (ℕ × Bool)). estimate cs c.args.cx) h.contexts in
    let turns : (nat_lt (c.args.self.now.registers.c / 2 ^ 16) c.estimate-qe.result ≡ true)
    ⊎ (c.args.self.now.registers.a - c.estimate-qe.result < 2 ^ 15) =
    elim c.else-not-lower.branch [
      | else-not-lower-via-then-not-lower+else-part-ge-THREE_QUARTERS w ↦
          let a_is = c.subinterval-part.ensures.upper w.if-not-lower.true in inr (omega arith)
      | else-not-lower-via-else-not-lower w ↦ inl (lt-ltb _ _ w.if-not-lower.false)
    ] in
    let learnt : c.set.new.self ≡ set c.args.self.now.contexts c.args.cx
    (after_symbol (context_at c.args.self.now.contexts c.args.cx)
    (answer c.args.self.now c.estimate-qe.result c.mps-mps.result)) =
    c.set.ensures ∙ ap (λ (p : ℕ × Bool). set c.args.self.now.contexts c.args.cx p)
    (c.next.ensures ∙ (learnt_symbol c.get-context.result _ c.mps-mps.result c.mps-mps.ensures
    ∙ ap (λ (p : ℕ × Bool). after_symbol p
    (answer c.args.self.now c.estimate-qe.result c.mps-mps.result)) c.get-context.ensures)) in
    let next = moves c.args.self.now c.renormalise-self.result c.args.cx c.estimate-qe.result cxs c.mps-mps.result c.set.new.self
    (record {
      wide = c.args.self.now.wide;
      estimate_is = c.estimate-qe.ensures.value
          ∙ ap (λ (p : ℕ × Bool). (row p.0).qe) c.get-context.ensures;
      mps_is = c.mps-mps.ensures
          ∙ ap (λ (p : ℕ × Bool). p.1) c.get-context.ensures;
    })
    h turns
    (c.renormalise-self.ensures.holds _
    (c.subinterval-part.ensures.holds bytes it c.args.cx qe_is h.holds))
    learnt in
    record { holds = next.0; contexts = next.1 }
