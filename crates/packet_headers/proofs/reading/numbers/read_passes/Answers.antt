use Rattle.std.proofs.Common.{◌≡◌, ◌<◌, ◌++◌, List, Bool, true, [], ◌∷◌, arith, ap, sym, ◌∙◌}
use Rattle.bit_stuffing.specs.Source.{BitSource, Took}
use Rattle.bit_stuffing.proofs.SourceLemmas.{took_more}
use Rattle.packet_headers.proofs.ReadCodes.{bit_is, along, passes_one, passes_two, first_zero}
use Rattle.packet_headers.proofs.ReadCodes.{second_zero, ends_first, ends_second, reads_two_ends}
use Rattle.packet_headers.proofs.ReadCodes.{took_few, reads_few, reads_five_ends, took_some}
use Rattle.packet_headers.proofs.ReadCodes.{reads_some, reads_seven_ends, took_many, reads_many}
use Rattle.packet_headers.proofs.reading.numbers.read_passes.Goals as goal

one_then : (a b : BitSource) (x : List Bool) → Took a (true ∷ []) b → b.ahead ≡ x
    → a.ahead ≡ true ∷ x
one_then a b x h e = h.ahead ∙ ap (λ k. true ∷ k) e

pub returns-in_err-take-clause-reads : goal.returns-in_err-take-clause-reads
returns-in_err-take-clause-reads c n rest h l e =
    absurd (ends_first n _ rest h l c.in_err-take.ensures.none e)

pub returns-then-not-branch-clause-took : goal.returns-then-not-branch-clause-took
returns-then-not-branch-clause-took c =
    let bit = bit_is _ _ _ _ c.if-not-branch.true c.in_ok-take.ensures.same c.in_ok-take.ensures.bit
    c.in_ok-take.ensures.taken in
    (omega arith, omega arith, along _ _ _ _ (sym passes_one) bit)

pub returns-then-not-branch-clause-reads : goal.returns-then-not-branch-clause-reads
returns-then-not-branch-clause-reads c n rest h l e =
    let bit = bit_is _ _ _ _ c.if-not-branch.true c.in_ok-take.ensures.same c.in_ok-take.ensures.bit
    c.in_ok-take.ensures.taken in
    sym (first_zero n _ h l (rest, sym bit.ahead ∙ e))

pub returns-in_err-take-2-clause-reads : goal.returns-in_err-take-2-clause-reads
returns-in_err-take-2-clause-reads c n rest h l e =
    let bit = bit_is _ _ _ _ c.if-not-branch.false c.in_ok-take.ensures.same
    c.in_ok-take.ensures.bit c.in_ok-take.ensures.taken in
    absurd (ends_second n _ rest h l (one_then _ _ _ bit c.in_err-take-2.ensures.none) e)

pub returns-then-not-branch-2-clause-took : goal.returns-then-not-branch-2-clause-took
returns-then-not-branch-2-clause-took c =
    let bit = bit_is _ _ _ _ c.if-not-branch.false c.in_ok-take.ensures.same
    c.in_ok-take.ensures.bit c.in_ok-take.ensures.taken in
    let next = bit_is _ _ _ _ c.if-not-branch-2.true c.in_ok-take-2.ensures.same
    c.in_ok-take-2.ensures.bit c.in_ok-take-2.ensures.taken in
    (omega arith, omega arith, along _ _ _ _ (sym passes_two) (took_more _ _ _ _ _ bit next))

pub returns-then-not-branch-2-clause-reads : goal.returns-then-not-branch-2-clause-reads
returns-then-not-branch-2-clause-reads c n rest h l e =
    let bit = bit_is _ _ _ _ c.if-not-branch.false c.in_ok-take.ensures.same
    c.in_ok-take.ensures.bit c.in_ok-take.ensures.taken in
    let next = bit_is _ _ _ _ c.if-not-branch-2.true c.in_ok-take-2.ensures.same
    c.in_ok-take-2.ensures.bit c.in_ok-take-2.ensures.taken in
    sym (second_zero n _ h l (rest, sym (one_then _ _ _ bit next.ahead) ∙ e))

-- the two ones
both : (a b d : BitSource) (first second : Bool) → first ≡ true → b.bytes ≡ a.bytes
    → a.ahead ≡ first ∷ b.ahead → b.taken ≡ a.taken ++ first ∷ []
    → second ≡ true → d.bytes ≡ b.bytes → b.ahead ≡ second ∷ d.ahead → d.taken ≡ b.taken
    ++ second ∷ [] → Took a (true ∷ true ∷ []) d
both a b d first second e same ahead taken f same' ahead' taken' =
    took_more a b d (true ∷ []) (true ∷ []) (bit_is a b first true e same ahead taken)
    (bit_is b d second true f same' ahead' taken')

pub returns-in_err-two-clause-reads : goal.returns-in_err-two-clause-reads
returns-in_err-two-clause-reads c n rest h l e =
    absurd (reads_two_ends _ _ (both _ _ _ _ _ c.if-not-branch.false c.in_ok-take.ensures.same
    c.in_ok-take.ensures.bit c.in_ok-take.ensures.taken
    c.if-not-branch-2.false c.in_ok-take-2.ensures.same c.in_ok-take-2.ensures.bit
    c.in_ok-take-2.ensures.taken) n rest c.in_err-two.ensures.ends h l e)

pub returns-then-two-lt3-clause-took : goal.returns-then-two-lt3-clause-took
returns-then-two-lt3-clause-took c = (
  omega arith,
  omega arith,
  took_few _ _ (both _ _ _ _ _ c.if-not-branch.false c.in_ok-take.ensures.same
      c.in_ok-take.ensures.bit c.in_ok-take.ensures.taken
      c.if-not-branch-2.false c.in_ok-take-2.ensures.same c.in_ok-take-2.ensures.bit
      c.in_ok-take-2.ensures.taken) _ _ c.in_ok-two.ensures.number (omega arith),
)

pub returns-then-two-lt3-clause-reads : goal.returns-then-two-lt3-clause-reads
returns-then-two-lt3-clause-reads c n rest h l e =
    reads_few _ _ (both _ _ _ _ _ c.if-not-branch.false c.in_ok-take.ensures.same
    c.in_ok-take.ensures.bit c.in_ok-take.ensures.taken
    c.if-not-branch-2.false c.in_ok-take-2.ensures.same c.in_ok-take-2.ensures.bit
    c.in_ok-take-2.ensures.taken) _ _ c.in_ok-two.ensures.number (omega arith) n rest h l e

pub returns-in_err-five-clause-reads : goal.returns-in_err-five-clause-reads
returns-in_err-five-clause-reads c n rest h l e =
    absurd (reads_five_ends _ _ (both _ _ _ _ _ c.if-not-branch.false c.in_ok-take.ensures.same
    c.in_ok-take.ensures.bit c.in_ok-take.ensures.taken
    c.if-not-branch-2.false c.in_ok-take-2.ensures.same c.in_ok-take-2.ensures.bit
    c.in_ok-take-2.ensures.taken) _ _ c.in_ok-two.ensures.number (omega arith) n rest
    c.in_err-five.ensures.ends h l e)

pub returns-then-five-lt31-clause-took : goal.returns-then-five-lt31-clause-took
returns-then-five-lt31-clause-took c = (
  omega arith,
  omega arith,
  took_some _ _ (both _ _ _ _ _ c.if-not-branch.false c.in_ok-take.ensures.same
      c.in_ok-take.ensures.bit c.in_ok-take.ensures.taken
      c.if-not-branch-2.false c.in_ok-take-2.ensures.same c.in_ok-take-2.ensures.bit
      c.in_ok-take-2.ensures.taken) _ _ c.in_ok-two.ensures.number _ _
      c.in_ok-five.ensures.number (omega arith) (omega (arith, c.in_ok-two.ensures.below))
      (omega arith),
)

pub returns-then-five-lt31-clause-reads : goal.returns-then-five-lt31-clause-reads
returns-then-five-lt31-clause-reads c n rest h l e =
    reads_some _ _ (both _ _ _ _ _ c.if-not-branch.false c.in_ok-take.ensures.same
    c.in_ok-take.ensures.bit c.in_ok-take.ensures.taken
    c.if-not-branch-2.false c.in_ok-take-2.ensures.same c.in_ok-take-2.ensures.bit
    c.in_ok-take-2.ensures.taken) _ _ c.in_ok-two.ensures.number _ _ c.in_ok-five.ensures.number
    (omega arith) (omega arith) n rest h l e

pub returns-in_err-seven-clause-reads : goal.returns-in_err-seven-clause-reads
returns-in_err-seven-clause-reads c n rest h l e =
    absurd (reads_seven_ends _ _ (both _ _ _ _ _ c.if-not-branch.false c.in_ok-take.ensures.same
    c.in_ok-take.ensures.bit c.in_ok-take.ensures.taken
    c.if-not-branch-2.false c.in_ok-take-2.ensures.same c.in_ok-take-2.ensures.bit
    c.in_ok-take-2.ensures.taken) _ _ c.in_ok-two.ensures.number _ _ c.in_ok-five.ensures.number
    (omega arith) (omega arith) n rest c.in_err-seven.ensures.ends h l e)

pub returns-clause-took : goal.returns-clause-took
returns-clause-took c =
    let below : c.in_ok-seven.seven < 128 = c.in_ok-seven.ensures.below in (
      omega arith,
      omega arith,
      took_many _ _ (both _ _ _ _ _ c.if-not-branch.false c.in_ok-take.ensures.same
          c.in_ok-take.ensures.bit c.in_ok-take.ensures.taken
          c.if-not-branch-2.false c.in_ok-take-2.ensures.same c.in_ok-take-2.ensures.bit
          c.in_ok-take-2.ensures.taken) _ _ c.in_ok-two.ensures.number _ _
          c.in_ok-five.ensures.number _ _ c.in_ok-seven.ensures.number
          (omega arith) (omega (arith, c.in_ok-two.ensures.below)) (omega arith)
          (omega (arith, c.in_ok-five.ensures.below)),
    )

pub returns-clause-reads : goal.returns-clause-reads
returns-clause-reads c n rest h l e =
    reads_many _ _ (both _ _ _ _ _ c.if-not-branch.false c.in_ok-take.ensures.same
    c.in_ok-take.ensures.bit c.in_ok-take.ensures.taken
    c.if-not-branch-2.false c.in_ok-take-2.ensures.same c.in_ok-take-2.ensures.bit
    c.in_ok-take-2.ensures.taken) _ _ c.in_ok-two.ensures.number _ _ c.in_ok-five.ensures.number
    _ _ c.in_ok-seven.ensures.number (omega arith) (omega arith) n rest h l e
