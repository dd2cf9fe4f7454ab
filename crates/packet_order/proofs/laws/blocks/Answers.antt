use Rattle.packet_order.proofs.BlockLemmas.{all_in_band, all_in_packet, has_block, has_packet}
use Rattle.packet_order.proofs.BlockLemmas.{packet_differs, band_count}
use Rattle.packet_order.proofs.laws.blocks.Goals as goal

pub returns : goal.returns
returns c = record {
  in_band = all_in_band;
  in_packet = all_in_packet;
  has_block = has_block;
  has_packet = has_packet;
  apart = packet_differs;
  count = band_count;
}
