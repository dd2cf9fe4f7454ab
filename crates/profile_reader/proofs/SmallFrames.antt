-- Codestreams of 3 by 2 places, computed.
use Rattle.std.proofs.Common.{◌≡◌, refl}
use Rattle.band_geometry.specs.Counts.{count_below, band_count}
use Rattle.bit_stuffing.specs.Bits.{number, value_from}
use Rattle.bit_stuffing.specs.Stuffing.{packed_from}
use Rattle.cinema_markers.specs.MainHeader.{main_header_of}
use Rattle.codeblock_views.specs.Rectangles.{cells_in}
use Rattle.ebcot_contexts.specs.Contexts.{hh_context, lh_context, context_at, sign_at, is_quiet}
use Rattle.ebcot_contexts.specs.Contexts.{refinement_at}
use Rattle.ebcot_contexts.specs.Passes.{sign_asked, after_bit, place, visit, run, four, scan, pass}
use Rattle.ebcot_contexts.specs.Passes.{block}
use Rattle.mq_coder.specs.Code.{start_coding, byte_out, shift, renormalise, code_mps, code_lps}
use Rattle.mq_coder.specs.Code.{code_symbol, coded, set_bits, shift_out, drop_ff, flush, code}
use Rattle.mq_coder.specs.Decisions.{estimate}
use Rattle.mq_coder.specs.States.{state_table, row, start_contexts, after_symbol}
use Rattle.packet_headers.specs.Codewords.{pass_bits, length_bits}
use Rattle.packet_headers.specs.Words.{inclusion_writings, zero_plane_writings, inclusion_bits}
use Rattle.packet_headers.specs.Words.{zero_plane_bits, blocks_bits, bands_bits}
use Rattle.packet_order.specs.Blocks.{blocks_in, blocks_of_packet}
use Rattle.packet_order.specs.Order.{packets_of_row, packets_of_res, packets_of_component}
use Rattle.packet_order.specs.Order.{packets_of_part, ordered_packets}
use Rattle.tag_trees.specs.TagTree.{levels_above, path_of, node_bits, path_bits, least_from}
use Rattle.tag_trees.specs.TagTree.{largest}
use Rattle.profile_reader.specs.Chosen.{block_cells, chosen}
use Rattle.profile_reader.specs.Packets.{packet_with, written_packet, written_body}
use Rattle.profile_reader.specs.Spell.{spell}
use Rattle.profile_reader.specs.OnePixel.{built_in_2k}
use Rattle.profile_reader.specs.SmallFrames.{small_2k, small_4k, built_in_4k, small_planes}
use Rattle.profile_reader.specs.SmallFrames.{small_choice, small_bytes_2k, small_bytes_4k}

pub two_k : spell small_2k built_in_2k (chosen small_2k built_in_2k small_planes small_choice)
    ≡ small_bytes_2k
unfolding spell written_body main_header_of ordered_packets packets_of_part packets_of_component
    packets_of_res packets_of_row written_packet packet_with chosen block_cells cells_in blocks_in
    blocks_of_packet band_count count_below pass_bits length_bits inclusion_writings
    zero_plane_writings inclusion_bits zero_plane_bits blocks_bits bands_bits number value_from
    packed_from levels_above path_of node_bits path_bits least_from largest block pass visit place
    sign_asked after_bit scan four run context_at sign_at is_quiet refinement_at lh_context
    start_coding byte_out shift renormalise code_mps code_lps code_symbol coded set_bits shift_out
    drop_ff flush code estimate state_table row start_contexts after_symbol hh_context
two_k = refl

pub four_k : spell small_4k built_in_4k (chosen small_4k built_in_4k small_planes small_choice)
    ≡ small_bytes_4k
unfolding spell written_body main_header_of ordered_packets packets_of_part packets_of_component
    packets_of_res packets_of_row written_packet packet_with chosen block_cells cells_in blocks_in
    blocks_of_packet band_count count_below pass_bits length_bits inclusion_writings
    zero_plane_writings inclusion_bits zero_plane_bits blocks_bits bands_bits number value_from
    packed_from levels_above path_of node_bits path_bits least_from largest block pass visit place
    sign_asked after_bit scan four run context_at sign_at is_quiet refinement_at lh_context
    start_coding byte_out shift renormalise code_mps code_lps code_symbol coded set_bits shift_out
    drop_ff flush code estimate state_table row start_contexts after_symbol hh_context
four_k = refl
