-- One code-block of which something else is written.
use Rattle.std.specs.Prelude.{◌≡◌, ◌+◌, ◌*◌, length}
use Rattle.cine_nums.specs.Profile.{levels_of}
use Rattle.band_geometry.specs.Bands.{IsBlock}
use Rattle.band_geometry.specs.declared.geometry.Geometry.{Geometry}
use Rattle.band_geometry.specs.declared.places.BlockId.{BlockId}
use Rattle.dz_quantiser.specs.declared.steps.StepSizes.{StepSizes}
use Rattle.packet_headers.specs.declared.entry.Entry.{Entry}
use Rattle.budget_duals.specs.Members.{members_of}
use Rattle.budget_duals.specs.declared.members.Members.{Members}
use Rattle.profile_reader.specs.Packets.{BlockBytes}

-- of all other code-blocks the same is written
abbrev pub IsOther : Geometry → BlockId → (BlockId → BlockBytes) → (BlockId → BlockBytes) → Type 0
IsOther g id given changed = (b : BlockId) → IsBlock g b → (b ≡ id → ⊥) → changed b ≡ given b

-- this code-block has this entry, with as many bytes as the entry has, and of all others the same
-- is written as before
pub record IsChanged (g : Geometry) (id : BlockId) (entry : Entry)
    (given changed : BlockId → BlockBytes) : Type 0 where
  pub here : (changed id).entry ≡ entry
  pub code : length (changed id).code ≡ entry.len
  pub others : IsOther g id given changed

-- the byte budgets of a code-block
abbrev pub block_members : Geometry → BlockId → Members
block_members g b = members_of g.profile g.levels b.component b.res

-- of all code-blocks with the same budgets as this one the same is written
abbrev pub AreAlike : Geometry → BlockId → (BlockId → BlockBytes) → (BlockId → BlockBytes) → Type 0
AreAlike g id given more =
    (b : BlockId) → IsBlock g b → block_members g b ≡ block_members g id → more b ≡ given b

-- the frame has the levels of its profile, and there is one step a band
pub record AreHeld (g : Geometry) (steps : StepSizes) : Type 0 where
  pub levels : g.levels ≡ levels_of g.profile
  pub count : length steps.bands.items ≡ 3 * g.levels + 1
