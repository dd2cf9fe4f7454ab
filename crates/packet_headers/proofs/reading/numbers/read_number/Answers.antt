use Rattle.std.proofs.Common.{◌≡◌, ◌^◌, ◌++◌, [], ◌∷◌, refl, arith, length-append, ap, ◌∙◌}
use Rattle.bit_stuffing.specs.Bits.{value_from, bit_value}
use Rattle.bit_stuffing.proofs.SourceLemmas.{took_none}
use Rattle.bit_stuffing.proofs.BitLemmas.{value-below}
use Rattle.packet_headers.proofs.ReadBits.{kept_more, one_took, byte_is}
use Rattle.packet_headers.proofs.reading.numbers.read_number.Goals as goal

pub loop-init : goal.loop-init
unfolding value_from
loop-init c = ([], refl, took_none _, refl)

pub loop-preserved : goal.loop-preserved
loop-preserved c =
    let (word, len, took, is) = c.loop.invariant in
    let l = length-append word (c.in_ok-bit.bit ∷ []) in (
      word ++ c.in_ok-bit.bit ∷ [],
      omega arith,
      one_took _ _ _ _ _ took c.in_ok-bit.ensures.same c.in_ok-bit.ensures.bit
          c.in_ok-bit.ensures.taken,
      (let k = kept_more word c.in_ok-bit.bit c.loop.number 4294967295 is in
          let b = byte_is c.in_ok-bit.bit in
          let f : c.from.result ≡ bit_value c.in_ok-bit.bit = c.from.ensures ∙ b in
          omega (arith, k, c.saturating_add-number.ensures, c.saturating_mul.ensures)),
    )

pub returns-clause-below : goal.returns-clause-below
returns-clause-below c =
    let h = value-below c.loop.invariant.0 in
    let e : c.loop.counter ≡ c.args.width = omega arith in
    let f = c.loop.invariant.1 ∙ e in
    let k = ap (λ n. 2 ^ n) f in
    omega (arith, c.loop.invariant.3)
