-- The definitions at strings and lists of symbols whose codes are known.
use Rattle.std.proofs.Common.{◌≡◌, ℕ, Bool, true, false, List, [], ◌∷◌, replicate, refl}
use Rattle.mq_coder.specs.States.{state_table, row, start_contexts, after_symbol}
use Rattle.mq_coder.specs.Decisions.{kept, byte_at, width_after, place, total, last_counting, value}
use Rattle.mq_coder.specs.Decisions.{look, digits, start_interval, estimate, part_symbol}
use Rattle.mq_coder.specs.Decisions.{part_contexts, part, doubled, is_lower, next_interval}
use Rattle.mq_coder.specs.Decisions.{decisions_from, decisions}
use Rattle.mq_coder.specs.Code.{start_coding, byte_out, shift, renormalise, code_mps, code_lps}
use Rattle.mq_coder.specs.Code.{code_symbol, coded, set_bits, shift_out, drop_ff, flush, code}

no_symbol : code [] ≡ 0xFF ∷ 0x7F ∷ []
unfolding state_table row start_contexts after_symbol estimate start_coding byte_out shift renormalise code_mps code_lps code_symbol coded set_bits shift_out drop_ff flush code
no_symbol = refl

column : code ((0, false) ∷ (0, false) ∷ (0, true) ∷ (9, false) ∷ []) ≡ 0x0C ∷ []
unfolding state_table row start_contexts after_symbol estimate start_coding byte_out shift renormalise code_mps code_lps code_symbol coded set_bits shift_out drop_ff flush code
column = refl

plus : code ((0, true) ∷ (9, false) ∷ []) ≡ 0x03 ∷ []
unfolding state_table row start_contexts after_symbol estimate start_coding byte_out shift renormalise code_mps code_lps code_symbol coded set_bits shift_out drop_ff flush code
plus = refl

minus : code ((0, true) ∷ (9, true) ∷ []) ≡ 0x07 ∷ []
unfolding state_table row start_contexts after_symbol estimate start_coding byte_out shift renormalise code_mps code_lps code_symbol coded set_bits shift_out drop_ff flush code
minus = refl

uniform : code (replicate 40 (18, false)) ≡ 0xAC ∷ 0x01 ∷ 0xFF ∷ 0x7F ∷ 0xFF ∷ 0x7F ∷ []
unfolding state_table row start_contexts after_symbol estimate start_coding byte_out shift renormalise code_mps code_lps code_symbol coded set_bits shift_out drop_ff flush code
uniform = refl

read_bytes : List ℕ
read_bytes = 132 ∷ 199 ∷ 59 ∷ 252 ∷ 225 ∷ 161 ∷ 67 ∷ 4 ∷ 2 ∷ 32 ∷ 0 ∷ 0 ∷ 65 ∷ 13 ∷ 187 ∷
    134 ∷ 244 ∷ 49 ∷ 127 ∷ 255 ∷ 136 ∷ 255 ∷ 55 ∷ 71 ∷ 26 ∷ 219 ∷ 106 ∷ 223 ∷ 255 ∷ 172 ∷ []

read_bits : List Bool
read_bits =
    false ∷ false ∷ false ∷ false ∷ false ∷ false ∷ false ∷ false ∷
    false ∷ false ∷ false ∷ false ∷ false ∷ false ∷ true ∷ false ∷
    false ∷ false ∷ false ∷ false ∷ false ∷ false ∷ false ∷ false ∷
    false ∷ true ∷ false ∷ true ∷ false ∷ false ∷ false ∷ true ∷
    false ∷ false ∷ false ∷ false ∷ false ∷ false ∷ false ∷ false ∷
    false ∷ false ∷ false ∷ false ∷ false ∷ false ∷ false ∷ false ∷
    false ∷ false ∷ false ∷ false ∷ false ∷ false ∷ false ∷ false ∷
    true ∷ true ∷ false ∷ false ∷ false ∷ false ∷ false ∷ false ∷
    false ∷ false ∷ false ∷ false ∷ false ∷ false ∷ true ∷ true ∷
    false ∷ true ∷ false ∷ true ∷ false ∷ false ∷ true ∷ false ∷
    true ∷ false ∷ false ∷ false ∷ false ∷ true ∷ true ∷ true ∷
    false ∷ false ∷ true ∷ false ∷ true ∷ false ∷ true ∷ false ∷
    true ∷ false ∷ true ∷ false ∷ true ∷ false ∷ true ∷ false ∷
    true ∷ false ∷ true ∷ false ∷ true ∷ false ∷ true ∷ false ∷
    true ∷ false ∷ true ∷ false ∷ true ∷ false ∷ true ∷ false ∷
    true ∷ false ∷ true ∷ false ∷ true ∷ false ∷ true ∷ false ∷
    true ∷ false ∷ false ∷ false ∷ false ∷ false ∷ true ∷ false ∷
    true ∷ true ∷ false ∷ false ∷ false ∷ false ∷ false ∷ false ∷
    false ∷ false ∷ true ∷ false ∷ false ∷ false ∷ false ∷ false ∷
    false ∷ false ∷ false ∷ false ∷ false ∷ false ∷ false ∷ false ∷
    true ∷ true ∷ true ∷ true ∷ true ∷ true ∷ false ∷ false ∷
    true ∷ true ∷ false ∷ true ∷ false ∷ true ∷ true ∷ true ∷
    true ∷ false ∷ false ∷ true ∷ true ∷ true ∷ true ∷ false ∷
    true ∷ true ∷ true ∷ true ∷ false ∷ true ∷ true ∷ false ∷
    true ∷ false ∷ true ∷ true ∷ true ∷ true ∷ true ∷ true ∷
    false ∷ true ∷ true ∷ true ∷ true ∷ true ∷ true ∷ true ∷
    true ∷ true ∷ true ∷ false ∷ true ∷ true ∷ false ∷ true ∷
    true ∷ false ∷ false ∷ true ∷ false ∷ false ∷ false ∷ false ∷
    false ∷ true ∷ false ∷ false ∷ true ∷ true ∷ true ∷ true ∷
    false ∷ true ∷ false ∷ false ∷ false ∷ true ∷ true ∷ false ∷
    true ∷ false ∷ true ∷ false ∷ false ∷ false ∷ true ∷ true ∷
    true ∷ false ∷ true ∷ true ∷ true ∷ true ∷ true ∷ true ∷
    []

-- a carry after FF that is cut off in the last byte that counts
uniform_carry :
    code ((18, false) ∷ (18, false) ∷ (18, true) ∷ (18, false) ∷ (18, false) ∷ (18, false)
    ∷ (18, false) ∷ (18, false) ∷ (18, false) ∷ (18, false) ∷ (18, false) ∷ (18, false)
    ∷ (18, false) ∷ (18, false) ∷ (18, false) ∷ (18, true) ∷ (18, false) ∷ (18, false)
    ∷ (18, false) ∷ (18, true) ∷ (18, false) ∷ [])
    ≡ 0x80 ∷ 0xFF ∷ 0x87 ∷ []
unfolding state_table row start_contexts after_symbol estimate start_coding byte_out shift renormalise code_mps code_lps code_symbol coded set_bits shift_out drop_ff flush code
uniform_carry = refl

-- a value that has left the interval decides for the upper part
outside :
    decisions (0xFF ∷ 0x80 ∷ []) (replicate 16 18)
    ≡ true ∷ true ∷ true ∷ true ∷ true ∷ false ∷ true ∷ false ∷ false ∷ false ∷ false ∷ false
    ∷ false ∷ false ∷ true ∷ true ∷ []
unfolding state_table row start_contexts after_symbol look digits start_interval estimate part_symbol part_contexts part doubled is_lower next_interval decisions_from decisions
outside = refl

-- a reader that looks further ahead than the bytes that count would decide for 1
not_ahead : decisions (0xAC ∷ 0x01 ∷ 0xFF ∷ 0x80 ∷ []) (18 ∷ []) ≡ false ∷ []
unfolding state_table row start_contexts after_symbol look digits start_interval estimate part_symbol part_contexts part doubled is_lower next_interval decisions_from decisions
not_ahead = refl

-- a carry after FF may be cut off: the value is no rounding of one number
cut_behind_ff : digits (0x00 ∷ 0xFF ∷ 0x80 ∷ []) 1 ≡ 255
unfolding look digits
cut_behind_ff = refl

cut_behind_ff_later : digits (0x00 ∷ 0xFF ∷ 0x80 ∷ []) 2 ≡ 512
unfolding look digits
cut_behind_ff_later = refl

counted_behind_ff : value (0x00 ∷ 0xFF ∷ 0x80 ∷ []) 1 ≡ 255
unfolding kept byte_at width_after place total last_counting value
counted_behind_ff = refl

counted_behind_ff_later : value (0x00 ∷ 0xFF ∷ 0x80 ∷ []) 2 ≡ 512
unfolding kept byte_at width_after place total last_counting value
counted_behind_ff_later = refl

ended_by_marker : value (0x12 ∷ 0xFF ∷ 0x90 ∷ 0x00 ∷ []) 20 ≡ value (0x12 ∷ []) 20
unfolding kept byte_at width_after place total last_counting value
ended_by_marker = refl

thirty_bytes : decisions read_bytes (replicate 256 9) ≡ read_bits
unfolding read_bytes read_bits state_table row start_contexts after_symbol look digits start_interval estimate part_symbol part_contexts part doubled is_lower next_interval decisions_from decisions
thirty_bytes = refl
