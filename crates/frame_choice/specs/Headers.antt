-- What the codestream of a choice of coding passes holds with its headers alone, and the choices
-- whose body bytes fit beside them (DCI Digital Cinema System Specification, section 4).
use Rattle.std.specs.Prelude.{ℕ, ◌≡◌, ◌+◌, ◌≤◌, List, [], Some}
use Rattle.cine_nums.specs.declared.budget.Budget.{Budget}
use Rattle.band_geometry.specs.declared.geometry.Geometry.{Geometry}
use Rattle.budget_duals.specs.Held.{held_in, limit_in}
use Rattle.budget_duals.specs.declared.held.Held.{Held}
use Rattle.budget_duals.specs.declared.limits.Limits.{Limits}
use Rattle.dz_quantiser.specs.declared.steps.StepSizes.{StepSizes}
use Rattle.frame_packets.specs.Keeps.{frame_held}
use Rattle.profile_reader.specs.Chosen.{Planes, chosen}
use Rattle.profile_reader.specs.Packets.{BlockBytes}
use Rattle.frame_choice.specs.Choice.{body_bytes}

-- of a code-block its entry in the packet header alone, without the bytes of its code
abbrev pub without_code : BlockBytes → BlockBytes
without_code written = record { entry = written.entry; code = [] }

-- what the headers hold that are written for a choice: main header, heads of tile-parts, packet
-- headers and EOC of a codestream whose code-blocks have the same entries and no bytes of code
abbrev pub headers_at : Geometry → StepSizes → Planes → List ℕ → Held
headers_at g steps planes choice =
    frame_held g steps (λ b. without_code (chosen g steps planes choice b))

-- A rival's body bytes fit beside the headers written for a choice: in each budget with a limit
-- both together are at most that limit.
abbrev pub FitsWithHeaders : Geometry → StepSizes → Planes → Limits → List ℕ → List ℕ → Type 0
FitsWithHeaders g steps planes limits choice rival =
    (budget : Budget) (n : ℕ) → limit_in limits budget ≡ Some n →
    body_bytes g steps planes rival budget + held_in (headers_at g steps planes choice) budget ≤ n
