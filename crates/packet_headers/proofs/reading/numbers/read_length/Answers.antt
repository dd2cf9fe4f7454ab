use Rattle.std.proofs.Common.{◌≡◌, ℕ, ◌+◌, ◌≤◌, Bool, true, [], ◌∷◌, ◌++◌, ap, ◌∙◌, arith}
use Rattle.std.specs.Prelude.{replicate}
use Rattle.cine_nums.specs.Bits.{bit_len}
use Rattle.bit_stuffing.specs.Source.{BitSource, Took}
use Rattle.packet_headers.specs.Codewords.{length_width}
use Rattle.packet_headers.proofs.ReadBits.{one_took}
use Rattle.packet_headers.proofs.ReadCodes.{bit_is, along}
use Rattle.packet_headers.proofs.ReadLengths.{width_is, one_more, reads_ends, took_by, reads_by}
use Rattle.packet_headers.proofs.reading.numbers.read_length.Goals as goal

more_ones : (a b d : BitSource) (r : ℕ) (bit : Bool) → Took a (replicate r true) b → bit ≡ true
    → d.bytes ≡ b.bytes → b.ahead ≡ bit ∷ d.ahead → d.taken ≡ b.taken ++ bit ∷ []
    → Took a (replicate (r + 1) true) d
more_ones a b d r bit ones e same ahead taken =
    along a d (replicate r true ++ bit ∷ []) (replicate (r + 1) true)
    (ap (λ k. replicate r true ++ k ∷ []) e ∙ one_more r)
    (one_took a b d (replicate r true) bit ones same ahead taken)

width_of_loop : (passes raise width first result byte : ℕ) → 1 ≤ passes → byte ≡ passes
    → result ≡ bit_len byte → first ≡ result → width ≡ 2 + first + raise
    → width ≡ length_width passes raise
width_of_loop passes raise width first result byte h b e f g =
    let k = e ∙ ap bit_len b in let w = width_is passes raise h in omega arith

pub returns-in_err-take-clause-reads : goal.returns-in_err-take-clause-reads
returns-in_err-take-clause-reads c raise len rest h e =
    absurd (reads_ends _ _ c.take.new.self _ c.loop-width.invariant.1 raise len c.args.passes rest
    c.in_err-take.ensures.none e)

pub loop-width-preserved : goal.loop-width-preserved
loop-width-preserved c = (
  c.loop-width.invariant.0 + 1,
  more_ones _ _ _ _ _ c.loop-width.invariant.1 c.if-branch.true c.in_ok-take.ensures.same
      c.in_ok-take.ensures.bit c.in_ok-take.ensures.taken,
  (let w = c.loop-width.invariant.2 in omega arith),
)

pub returns-clause-took : goal.returns-clause-took
returns-clause-took c =
    took_by _ _ _ _ c.loop-width.invariant.1 (bit_is _ _ _ _ c.if-branch.false
    c.in_ok-take.ensures.same c.in_ok-take.ensures.bit c.in_ok-take.ensures.taken)
    _ c.args.passes _ (width_of_loop _ _ _ _ _ _ c.requires.passes c.from.ensures
    c.bit_len.ensures.value c.from-width.ensures c.loop-width.invariant.2)
    _ c.read_number.ensures.number

pub returns-clause-reads : goal.returns-clause-reads
returns-clause-reads c =
    reads_by _ _ _ _ c.loop-width.invariant.1 (bit_is _ _ _ _ c.if-branch.false
    c.in_ok-take.ensures.same c.in_ok-take.ensures.bit c.in_ok-take.ensures.taken)
    _ c.args.passes _ (width_of_loop _ _ _ _ _ _ c.requires.passes c.from.ensures
    c.bit_len.ensures.value c.from-width.ensures c.loop-width.invariant.2)
    _ c.read_number.ensures.number c.read_number.ensures.ends
