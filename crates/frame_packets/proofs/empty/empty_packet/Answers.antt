use Rattle.std.proofs.Common.{◌≡◌, List, [], ◌∷◌, ◌++◌, ap, subst, sym, ◌∙◌}
use Rattle.packet_headers.specs.Written.{CanWrite}
use Rattle.packet_headers.specs.declared.packet.Packet.{Packet}
use Rattle.packet_headers.specs.declared.packet.PacketBand.{PacketBand}
use Rattle.profile_reader.specs.Packets.{packet_with}
use Rattle.frame_packets.specs.Keeps.{nothing}
use Rattle.frame_packets.proofs.Nothing.{can_write_packet, nothing_written, packet_lowest, three_bands}
use Rattle.frame_packets.proofs.empty.empty_packet.Goals as goal
use Rattle.frame_packets.proofs.empty.empty_packet.Goals.{After-push, After-push-4}

lowest : (c : After-push) → record { bands = c.push.new.self }
    ≡ packet_with c.args.geometry.now c.args.steps.now nothing c.args.id
lowest c =
    let with_bands : List PacketBand
    → Packet = λ items. record { bands = record { items = items } } in
    ap with_bands (c.push.ensures.items ∙ ap
    (λ (xs : List PacketBand). xs ++ c.empty_band.result ∷ [])
    c.new-bands.ensures)
    ∙ ap (λ b. with_bands (b ∷ [])) c.empty_band.ensures
    ∙ packet_lowest c.args.geometry.now c.args.steps.now c.args.id c.if-id-eq0.true

above : (c : After-push-4) → record { bands = c.push-4.new.self }
    ≡ packet_with c.args.geometry.now c.args.steps.now nothing c.args.id
above c =
    let one = c.push-2.ensures.items
    ∙ ap (λ (xs : List PacketBand). xs ++ c.empty_band-2.result ∷ []) c.new-bands.ensures in
    let two = c.push-3.ensures.items
    ∙ ap (λ (xs : List PacketBand). xs ++ c.empty_band-3.result ∷ []) one in
    let three = c.push-4.ensures.items
    ∙ ap (λ (xs : List PacketBand). xs ++ c.empty_band-4.result ∷ []) two in
    three_bands c.args.geometry.now c.args.steps.now c.args.id c.push-4.new.self.items
    c.empty_band-2.result c.empty_band-3.result c.empty_band-4.result three c.empty_band-2.ensures
    c.empty_band-3.ensures c.empty_band-4.ensures c.if-id-eq0.false

pub returns-then-id-eq0-clause-value : goal.returns-then-id-eq0-clause-value
returns-then-id-eq0-clause-value c = lowest c

pub returns-then-id-eq0-clause-can_write : goal.returns-then-id-eq0-clause-can_write
returns-then-id-eq0-clause-can_write c =
    let g = c.args.geometry.now in
    let steps = c.args.steps.now in
    subst (λ p. CanWrite p) (sym (lowest c))
    (can_write_packet g steps nothing c.args.id c.requires.usable (nothing_written g steps)
    (record { component = c.requires.id.component; res = c.requires.id.res }))

pub returns-clause-value : goal.returns-clause-value
returns-clause-value c = above c

pub returns-clause-can_write : goal.returns-clause-can_write
returns-clause-can_write c =
    let g = c.args.geometry.now in
    let steps = c.args.steps.now in
    subst (λ p. CanWrite p) (sym (above c))
    (can_write_packet g steps nothing c.args.id c.requires.usable (nothing_written g steps)
    (record { component = c.requires.id.component; res = c.requires.id.res }))
