use Rattle.std.proofs.Common.{◌++◌, sym, ◌∙◌, subst, arith, append_assoc}
use Rattle.bit_stuffing.specs.Bits.{number}
use Rattle.packet_headers.specs.Words.{bands_bits}
use Rattle.packet_headers.proofs.HeaderLemmas.{bands_more, empty_bits}
use Rattle.packet_headers.proofs.writing.header.put_header.Goals as goal

pub returns-then-not-includes-clause-bits : goal.returns-then-not-includes-clause-bits
unfolding number
returns-then-not-includes-clause-bits g c = λ bits h.
    subst (λ r. g.S.BitSink.StandsFor c.put_number.new.self (bits ++ r))
    (sym (empty_bits c.args.packet.now (sym c.includes.ensures ∙ c.if-not-includes.true)))
    (c.put_number.ensures.stands bits h)

pub loop-band-init : goal.loop-band-init
unfolding number bands_bits
loop-band-init g c = record {
  bits = λ bits h. c.put_number-2.ensures.stands bits h;
  few = omega (arith, c.put_number-2.ensures.count, c.requires.room);
}

pub loop-band-preserved : goal.loop-band-preserved
loop-band-preserved g c = record {
  bits = λ bits h. rw (bands_more _ _ c.loop-band.band-index c.band-item.result
      c.as_slice-band-items.ensures.value c.loop-band-test.true c.band-item.is)
      (subst (λ r. g.S.BitSink.StandsFor c.put_band.new.out r) (append_assoc bits _ _)
      (c.put_band.ensures.bits _ (c.loop-band.invariant.bits bits h)));
  few = omega (arith, c.put_band.ensures.few, c.loop-band.invariant.few);
}
