-- Codestreams of one pixel, computed.
use Rattle.std.proofs.Common.{◌≡◌, [], ◌∷◌, refl}
use Rattle.band_geometry.specs.Counts.{count_below, band_count}
use Rattle.bit_stuffing.specs.Bits.{number, value_from}
use Rattle.bit_stuffing.specs.Stuffing.{packed_from}
use Rattle.cinema_markers.specs.MainHeader.{main_header_of}
use Rattle.codeblock_views.specs.Rectangles.{cells_in}
use Rattle.ebcot_contexts.specs.Contexts.{lh_context, context_at, sign_at, is_quiet, refinement_at}
use Rattle.ebcot_contexts.specs.Passes.{sign_asked, after_bit, place, visit, run, four, scan, pass}
use Rattle.ebcot_contexts.specs.Passes.{block}
use Rattle.mq_coder.specs.Code.{start_coding, byte_out, shift, renormalise, code_mps, code_lps}
use Rattle.mq_coder.specs.Code.{code_symbol, coded, set_bits, shift_out, drop_ff, flush, code}
use Rattle.mq_coder.specs.Decisions.{estimate}
use Rattle.mq_coder.specs.States.{state_table, row, start_contexts, after_symbol}
use Rattle.packet_headers.specs.Codewords.{pass_bits, length_bits}
use Rattle.packet_headers.specs.Words.{inclusion_writings, zero_plane_writings, inclusion_bits}
use Rattle.packet_headers.specs.Words.{zero_plane_bits, blocks_bits, bands_bits}
use Rattle.packet_order.specs.Blocks.{blocks_in, blocks_of_packet}
use Rattle.packet_order.specs.Order.{packets_of_row, packets_of_res, packets_of_component}
use Rattle.packet_order.specs.Order.{packets_of_part, ordered_packets}
use Rattle.tag_trees.specs.TagTree.{levels_above, path_of, node_bits, path_bits, least_from}
use Rattle.tag_trees.specs.TagTree.{largest}
use Rattle.profile_reader.specs.Chosen.{block_cells, chosen}
use Rattle.profile_reader.specs.OnePixel.{pixel, built_in_2k, plus, minus, first_written}
use Rattle.profile_reader.specs.OnePixel.{first_packet, bytes_of_64, first_decoded}
use Rattle.profile_reader.specs.OnePixel.{minus_cut, unknown_18}
use Rattle.profile_reader.specs.Shown.{chosen_read, chosen_unknown, chosen_cells}
use Rattle.codeblock_views.specs.Blocks.{plane_of}
use Rattle.profile_reader.specs.Packets.{packet_with, written_packet, written_body}
use Rattle.profile_reader.specs.Spell.{spell}

pub index_64 : spell pixel built_in_2k (first_written (plus 64) 18) ≡ bytes_of_64
unfolding spell written_body main_header_of ordered_packets packets_of_part packets_of_component
    packets_of_res packets_of_row written_packet packet_with chosen block_cells cells_in blocks_in
    blocks_of_packet band_count count_below pass_bits length_bits inclusion_writings
    zero_plane_writings inclusion_bits zero_plane_bits blocks_bits bands_bits number value_from
    packed_from levels_above path_of node_bits path_bits least_from largest block pass visit place
    sign_asked after_bit scan four run context_at sign_at is_quiet refinement_at lh_context
    start_coding byte_out shift renormalise code_mps code_lps code_symbol coded set_bits shift_out
    drop_ff flush code estimate state_table row start_contexts after_symbol
index_64 = refl

pub index_131008 : written_packet pixel built_in_2k (first_written (plus 131008) 48) first_packet
    ≡ 0xDF ∷ 0xF8 ∷ 0xB0 ∷ 0x18 ∷ 0x00 ∷ 0xEA ∷ 0xC8 ∷ []
unfolding written_packet packet_with chosen block_cells cells_in blocks_in blocks_of_packet
    band_count count_below pass_bits length_bits inclusion_writings zero_plane_writings
    inclusion_bits zero_plane_bits blocks_bits bands_bits number value_from packed_from
    levels_above path_of node_bits path_bits least_from largest block pass visit place sign_asked
    after_bit scan four run context_at sign_at is_quiet refinement_at lh_context start_coding
    byte_out shift renormalise code_mps code_lps code_symbol coded set_bits shift_out drop_ff
    flush code estimate state_table row start_contexts after_symbol
index_131008 = refl

pub index_131072 : written_packet pixel built_in_2k (first_written (minus 131072) 51) first_packet
    ≡ 0xFF ∷ 0x78 ∷ 0xE0 ∷ 0x08 ∷ 0x07 ∷ []
unfolding written_packet packet_with chosen block_cells cells_in blocks_in blocks_of_packet
    band_count count_below pass_bits length_bits inclusion_writings zero_plane_writings
    inclusion_bits zero_plane_bits blocks_bits bands_bits number value_from packed_from
    levels_above path_of node_bits path_bits least_from largest block pass visit place sign_asked
    after_bit scan four run context_at sign_at is_quiet refinement_at lh_context start_coding
    byte_out shift renormalise code_mps code_lps code_symbol coded set_bits shift_out drop_ff
    flush code estimate state_table row start_contexts after_symbol
index_131072 = refl

pub decoded : first_decoded (minus 64) 9 ≡
    (minus_cut 8 3 ∷ []) ∷ (unknown_18 ∷ []) ∷ (unknown_18 ∷ []) ∷ []
unfolding chosen_read chosen_unknown chosen_cells plane_of block_cells cells_in band_count
    count_below block pass visit place sign_asked after_bit scan four run context_at sign_at
    is_quiet refinement_at lh_context
decoded = refl
