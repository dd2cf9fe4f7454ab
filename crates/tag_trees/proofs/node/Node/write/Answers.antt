use Rattle.std.proofs.Common.{◌≡◌, ℕ, ◌+◌, ◌-◌, Bool, true, false, ◌++◌, sym, subst, ◌∙◌}
use Rattle.std.specs.Prelude.{replicate}
use Rattle.std.proofs.lemmas.List.{append-nil}
use Rattle.bit_stuffing.specs.Bits.{number}
use Rattle.tag_trees.specs.Inside.{step_bits}
use Rattle.bit_stuffing.proofs.RegisterLemmas.{number-zeros, number-one, one_fits}
use Rattle.tag_trees.proofs.node.Node.write.Goals as goal

one_is : (n start bound from : ℕ) (known : Bool) → known ≡ false → n ≡ bound - from → start ≡ from
    → number (n + 1) 1 ≡ step_bits start known bound true
one_is n start bound from true k e s = absurd (cc)
one_is n start bound from false k e s = number-one n ∙ rw (e, s)

zeros_are : (n start bound from : ℕ) (known : Bool) → known ≡ false → n ≡ bound - from
    → start ≡ from → number n 0 ≡ step_bits start known bound known
zeros_are n start bound from true k e s = absurd (cc)
zeros_are n start bound from false k e s = number-zeros n
    ∙ rw (e, s) (sym (append-nil (replicate (bound - from) false)))

pub put_number-requires-clause-value : goal.put_number-requires-clause-value
put_number-requires-clause-value g c = one_fits _

pub returns-then-bound-threshold-clause-bits : goal.returns-then-bound-threshold-clause-bits
returns-then-bound-threshold-clause-bits g c = λ bits h.
    subst (λ r. g.S.BitSink.StandsFor c.put_number.new.self (bits ++ r))
    (one_is c.from.result _ c.max-bound.result c.max-from.result _ c.if-self.false c.from.ensures
    (sym c.max-from.ensures))
    (c.put_number.ensures.stands bits h)

pub returns-clause-bits : goal.returns-clause-bits
returns-clause-bits g c = λ bits h.
    subst (λ r. g.S.BitSink.StandsFor c.put_number-2.new.self (bits ++ r))
    (zeros_are c.from-2.result _ c.max-bound-2.result c.max-from.result _ c.if-self.false
    c.from-2.ensures (sym c.max-from.ensures))
    (c.put_number-2.ensures.stands bits h)
