-- A frame's packets at a choice of coding passes, and the bytes of these passes.
use Rattle.std.specs.Prelude.{ℕ, ◌≤◌, List}
use Rattle.band_geometry.specs.Bands.{IsBlock}
use Rattle.band_geometry.specs.declared.places.BlockId.{BlockId}
use Rattle.budget_duals.specs.declared.held.Held.{Held}
use Rattle.coded_blocks.specs.Codes.{AreChosenCodes}
use Rattle.dz_quantiser.specs.Bands.{band_planes}
use Rattle.dz_quantiser.specs.declared.steps.StepSizes.{StepSizes}
use Rattle.frame_coefficients.specs.BuiltIn.{built_in_steps}
use Rattle.frame_packets.specs.Keeps.{Keeps, frame_held}
use Rattle.packet_order.specs.declared.packet.PacketId.{PacketId}
use Rattle.profile_reader.specs.Chosen.{Planes, block_shape, chosen}
use Rattle.profile_reader.specs.Packets.{BlockBytes, written_packet, written_body}
use Rattle.profile_reader.specs.Spell.{written_part}
use Rattle.frame_encoder.specs.declared.writing.ChosenPasses.{ChosenPasses}

-- the steps of the frame's profile
abbrev pub steps_of : ChosenPasses → StepSizes
steps_of s = built_in_steps s.geometry.profile

-- what is written of each code-block, by the coefficients of the frame
abbrev pub chosen_by : Planes → ChosenPasses → BlockId → BlockBytes
chosen_by planes s = chosen s.geometry (steps_of s) planes s.choice.items

-- The frame has these coefficients: no block has more bit-planes than its band, the bytes are those
-- of the chosen passes, and the packets are kept by what is written of the blocks.
pub record IsFrameOf (planes : Planes) (s : ChosenPasses) : Type 0 where
  pub below : (b : BlockId) → IsBlock s.geometry b →
      (block_shape s.geometry planes b).planes ≤ band_planes (steps_of s) b.res b.orient
  pub codes : AreChosenCodes s.geometry (steps_of s) planes s.choice.items s.codes
  pub keeps : Keeps s.geometry (steps_of s) (chosen_by planes s) s.packets

-- the bytes of a code-block, of a packet, of the packets of a tile-part, and of a tile-part
abbrev pub code_of : Planes → ChosenPasses → BlockId → List ℕ
code_of planes s b = (chosen_by planes s b).code

abbrev pub packet_of : Planes → ChosenPasses → PacketId → List ℕ
packet_of planes s packet = written_packet s.geometry (steps_of s) (chosen_by planes s) packet

abbrev pub body_of : Planes → ChosenPasses → ℕ → List ℕ
body_of planes s index = written_body s.geometry (steps_of s) (chosen_by planes s) index

abbrev pub part_of : Planes → ChosenPasses → ℕ → List ℕ
part_of planes s index = written_part s.geometry (steps_of s) (chosen_by planes s) index

-- what the codestream holds in its byte budgets
abbrev pub chosen_held : Planes → ChosenPasses → Held
chosen_held planes s = frame_held s.geometry (steps_of s) (chosen_by planes s)
