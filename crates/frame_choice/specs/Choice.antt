-- The choice of coding passes of a frame, its rivals, and what its byte budgets hold (ISO/IEC
-- 15444-1, J.14.3, on rate control; DCI Digital Cinema System Specification, section 4).
use Rattle.std.specs.Prelude.{ℕ, ◌+◌, ◌≤◌, ◌≡◌, List, length, map, sum, if◌then◌else◌, Some}
use Rattle.std.specs.Prelude.{replicate}
use Rattle.cine_nums.specs.declared.budget.Budget.{Budget}
use Rattle.band_geometry.specs.Bands.{IsBlock}
use Rattle.band_geometry.specs.Numbering.{all_blocks}
use Rattle.band_geometry.specs.declared.geometry.Geometry.{Geometry}
use Rattle.band_geometry.specs.declared.places.BlockId.{BlockId}
use Rattle.budget_duals.specs.Held.{held_in, limit_in}
use Rattle.budget_duals.specs.Members.{is_in}
use Rattle.budget_duals.specs.declared.held.Held.{Held}
use Rattle.budget_duals.specs.declared.limits.Limits.{Limits}
use Rattle.distortion_sums.specs.Distortion.{distortion}
use Rattle.dz_quantiser.specs.Bands.{band_planes}
use Rattle.dz_quantiser.specs.declared.steps.StepSizes.{StepSizes}
use Rattle.ebcot_passes.specs.Code.{passes_of}
use Rattle.frame_packets.specs.Changes.{block_members}
use Rattle.frame_packets.specs.Keeps.{frame_held}
use Rattle.profile_reader.specs.Chosen.{Planes, block_coefs, block_shape, chosen, chosen_passes}
use Rattle.profile_reader.specs.Chosen.{written_of}

-- how many coding passes a block has
abbrev pub block_passes : Geometry → Planes → BlockId → ℕ
block_passes g planes b = passes_of (block_shape g planes b).planes

-- A choice of passes: of each block, by its number, so many of its first ones. A block whose largest
-- magnitude has P bit-planes has 3 P - 2 of them, and none where P is 0 (Annex D.3).
pub record IsChoice (g : Geometry) (planes : Planes) (choice : List ℕ) : Type 0 where
  pub long : length choice ≡ length (all_blocks g)
  pub most : (b : BlockId) → IsBlock g b → chosen_passes g choice b ≤ block_passes g planes b

-- the choice of no passes at all
abbrev pub no_passes : Geometry → List ℕ
no_passes g = replicate (length (all_blocks g)) 0

-- the bytes of a block's first k passes, those of their ended code; no pass has no bytes
abbrev pub block_bytes : Geometry → StepSizes → Planes → BlockId → ℕ → ℕ
block_bytes g steps planes b k =
    length (written_of (band_planes steps b.res b.orient) (block_coefs g planes b)
    (block_shape g planes b) k).code

-- the distortion that they leave
abbrev pub block_distortion : Geometry → Planes → BlockId → ℕ → ℕ
block_distortion g planes b k = distortion (block_coefs g planes b) (block_shape g planes b) k

-- the body bytes of a budget: those of the code of its blocks
unfoldable pub body_bytes : Geometry → StepSizes → Planes → List ℕ → Budget → ℕ
body_bytes g steps planes choice budget =
    sum (map (λ b. if is_in (block_members g b) budget
    then block_bytes g steps planes b (chosen_passes g choice b) else 0) (all_blocks g))

-- what the codestream of a choice holds in its byte budgets, headers included
abbrev pub held_at : Geometry → StepSizes → Planes → List ℕ → Held
held_at g steps planes choice = frame_held g steps (chosen g steps planes choice)

-- A rival fits beside the headers that were written for a choice: in each budget its body bytes are
-- at most the limit less what is held beside the body bytes of the choice. What is subtracted there
-- is added here.
abbrev pub FitsBesideHeaders : Geometry → StepSizes → Planes → Limits → List ℕ → List ℕ → Type 0
FitsBesideHeaders g steps planes limits choice rival =
    (budget : Budget) (n : ℕ) → limit_in limits budget ≡ Some n →
    body_bytes g steps planes rival budget + held_in (held_at g steps planes choice) budget
    ≤ n + body_bytes g steps planes choice budget
