use Rattle.std.proofs.Common.{◌++◌, ◌∙◌, ℕ, List, ap}
use Rattle.std.specs.List.{flat_map}
use Rattle.bit_stuffing.specs.Stuffing.{packed}
use Rattle.packet_headers.specs.Written.{written_bits}
use Rattle.packet_headers.specs.declared.packet.Packet.{Packet}
use Rattle.packet_order.specs.Blocks.{blocks_of_packet}
use Rattle.profile_reader.specs.Packets.{packet_with, written_packet}
use Rattle.frame_encoder.specs.Writing.{chosen_by, code_of, steps_of}
use Rattle.frame_encoder.proofs.Appends.{step}
use Rattle.frame_encoder.proofs.Precincts.{within_count}
use Rattle.frame_encoder.proofs.writing.ChosenPasses.push_packet.Goals as goal

pub push_codes-requires-clause-column : goal.push_codes-requires-clause-column
push_codes-requires-clause-column c =
    let g = c.args.self.now.geometry in
    within_count g.levels g.width c.args.packet.res c.args.packet.px c.requires.column

pub push_codes-requires-clause-row : goal.push_codes-requires-clause-row
push_codes-requires-clause-row c =
    let g = c.args.self.now.geometry in
    within_count g.levels g.height c.args.packet.res c.args.packet.py c.requires.row

pub returns : goal.returns
unfolding written_packet
returns c = λ planes is.
    let s = c.args.self.now in
    let g = s.geometry in
    let p = c.args.packet in
    let head = packed (written_bits (packet_with g (steps_of s) (chosen_by planes s) p)) in
    step c.args.out.now.items c.extend_from_slice.new.self.items c.push_codes.new.out.items head
    (flat_map (code_of planes s) (blocks_of_packet g p))
    (c.in_ok-extend_from_slice.ensures.items
    ∙ ap (λ (bytes : List ℕ). c.args.out.now.items ++ bytes)
    (c.as_slice.ensures.value ∙ c.header-header.ensures.bytes
    ∙ ap (λ (k : Packet). packed (written_bits k))
    (c.packet.ensures.packet g (steps_of s) (chosen_by planes s) is.keeps)))
    (c.in_ok-push_codes.ensures planes is)
