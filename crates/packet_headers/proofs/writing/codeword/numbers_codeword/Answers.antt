use Rattle.std.proofs.Common.{◌≡◌, ◌+◌, ◌-◌, refl, arith}
use Rattle.packet_headers.proofs.CodewordLemmas.{NumbersParts, log_is, log_some, length_widths}
use Rattle.packet_headers.proofs.CodewordLemmas.{raised_whole, raised_some, numbers_whole}
use Rattle.packet_headers.proofs.CodewordLemmas.{numbers_small, numbers_few, numbers_fits}
use Rattle.packet_headers.proofs.CodewordLemmas.{numbers_bits}
use Rattle.packet_headers.proofs.writing.codeword.numbers_codeword.Goals as goal
use Rattle.packet_headers.proofs.writing.codeword.numbers_codeword.Goals.{
  After-saturating_sub-raise,
}

parts : (c : After-saturating_sub-raise)
    → NumbersParts c.args.passes c.args.len (c.pass_row-row.result.now.bits_in_all -
    (c.pass_row-row.result.now.most_log + 2)) c.pass_row-row.result.now.value
    (c.pass_row-row.result.now.most_log + 1) c.saturating_sub-raise.result
    (c.pass_row-row.result.now.most_log + 1 + c.saturating_sub-raise.result)
parts c = record {
  bits = c.pass_row-row.ensures.bits;
  v_fits = c.pass_row-row.ensures.fits;
  v_few = c.pass_row-row.ensures.few;
  v_short = c.pass_row-row.ensures.short;
  widths = length_widths _ _ _ _ _ c.requires.some (omega (arith, c.requires.most)) c.requires.len
      (omega (arith, c.pass_row-row.ensures.log))
      (omega (
        arith,
        c.saturating_sub-raise.ensures,
        c.from-log.ensures,
        c.bit_len.ensures.value,
        log_is c.args.len c.requires.some_bytes,
        c.from-most.ensures,
      )) refl;
}

-- all bits, and those after the raises
all : (c : After-saturating_sub-raise) → c.from-least.result + c.saturating_sub-raise.result
    + c.saturating_sub-raise.result
    ≡ c.pass_row-row.result.now.bits_in_all - (c.pass_row-row.result.now.most_log + 2)
    + c.saturating_sub-raise.result + 1 + (c.pass_row-row.result.now.most_log + 1
    + c.saturating_sub-raise.result)
all c = omega (arith, c.from-least.ensures, c.pass_row-row.ensures.some)

behind : (c : After-saturating_sub-raise) → c.from-most.result + c.saturating_sub-raise.result + 2
    ≡ c.pass_row-row.result.now.most_log + 1 + c.saturating_sub-raise.result + 1
behind c = omega (arith, c.from-most.ensures)

pub overflow_sub-log : goal.overflow_sub-log
overflow_sub-log c = let one = log_some c.args.len c.requires.some_bytes in
    omega (arith, c.from-log.ensures, c.bit_len.ensures.value)

pub overflow_shl-result : goal.overflow_shl-result
overflow_shl-result c = let few = (parts c).widths.raise_few in omega arith

pub overflow_sub-result : goal.overflow_sub-result
overflow_sub-result c = rw (c.from-pass_value.ensures, raised_whole _ _ _ _ _ _ _ (parts c))
    (raised_some _ _ _ _ _ _ _ (parts c))

pub overflow_shl-result-2 : goal.overflow_shl-result-2
overflow_shl-result-2 c = let few = (parts c).widths.few in omega (arith, behind c)

pub overflow_add-result-6 : goal.overflow_add-result-6
overflow_add-result-6 c =
    rw (
      c.from-pass_value.ensures,
      c.from-bytes.ensures,
      behind c,
      raised_whole _ _ _ _ _ _ _ (parts c),
      numbers_whole _ _ _ _ _ _ _ (parts c),
    ) (let s =
    numbers_small _ _ _ _ _ _ _ (parts c) in omega arith)

pub returns-clause-bits : goal.returns-clause-bits
returns-clause-bits c =
    rw (
      c.from-pass_value.ensures,
      c.from-bytes.ensures,
      all c,
      behind c,
      raised_whole _ _ _ _ _ _ _ (parts c),
      numbers_whole _ _ _ _ _ _ _ (parts c),
    )
    (numbers_bits _ _ _ _ _ _ _ (parts c))

pub returns-clause-fits : goal.returns-clause-fits
returns-clause-fits c =
    rw (
      c.from-pass_value.ensures,
      c.from-bytes.ensures,
      all c,
      behind c,
      raised_whole _ _ _ _ _ _ _ (parts c),
      numbers_whole _ _ _ _ _ _ _ (parts c),
    )
    (numbers_fits _ _ _ _ _ _ _ (parts c))

pub returns-clause-few : goal.returns-clause-few
returns-clause-few c = rw (all c) (numbers_few _ _ _ _ _ _ _ (parts c))
