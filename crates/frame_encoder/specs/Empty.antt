-- Codestreams whose packets include no code-block.
use Rattle.std.specs.Prelude.{ℕ, List}
use Rattle.band_geometry.specs.declared.geometry.Geometry.{Geometry}
use Rattle.budget_duals.specs.declared.held.Held.{Held}
use Rattle.frame_coefficients.specs.BuiltIn.{built_in_steps}
use Rattle.frame_packets.specs.Keeps.{frame_held, nothing}
use Rattle.profile_reader.specs.Packets.{written_body}
use Rattle.profile_reader.specs.Spell.{part_length, part_lengths, written_part, spell}

abbrev pub empty_body : Geometry → ℕ → List ℕ
empty_body g index = written_body g (built_in_steps g.profile) nothing index

abbrev pub empty_part_length : Geometry → ℕ → ℕ
empty_part_length g index = part_length g (built_in_steps g.profile) nothing index

abbrev pub empty_part_lengths : Geometry → List ℕ
empty_part_lengths g = part_lengths g (built_in_steps g.profile) nothing

abbrev pub empty_part : Geometry → ℕ → List ℕ
empty_part g index = written_part g (built_in_steps g.profile) nothing index

abbrev pub empty_codestream : Geometry → List ℕ
empty_codestream g = spell g (built_in_steps g.profile) nothing

-- what the codestream holds
abbrev pub empty_held : Geometry → Held
empty_held g = frame_held g (built_in_steps g.profile) nothing
