-- What encoding a frame gives, and which of it is right.
use Rattle.std.specs.Prelude.{ℕ, ◌≡◌, ◌+◌, ◌*◌, ◌<◌, ◌≤◌, List, [], ◌∷◌, ◌++◌, get_or, length}
use Rattle.std.specs.List.{flat_map}
use Rattle.cine_nums.specs.Profile.{levels_of}
use Rattle.cine_nums.specs.declared.budget.Budget.{Budget}
use Rattle.cine_nums.specs.declared.budget.Budget.TheVariants.{Frame, Inner, C0, C1, C2}
use Rattle.cine_nums.specs.declared.profile.Profile.{Profile}
use Rattle.cine_nums.specs.declared.profile.Profile.TheVariants.{TwoK, FourK}
use Rattle.allocation_bound.specs.Sums.{total}
use Rattle.band_geometry.specs.declared.geometry.Geometry.{Geometry}
use Rattle.band_geometry.specs.declared.places.BlockId.{BlockId}
use Rattle.budget_duals.specs.Held.{IsWithin, held_in}
use Rattle.budget_duals.specs.Tree.{number_at}
use Rattle.budget_duals.specs.declared.certificate.Certificate.{Certificate}
use Rattle.budget_duals.specs.declared.certificate.RefusedStep.{RefusedStep}
use Rattle.budget_duals.specs.declared.held.Held.{Held}
use Rattle.cinema_markers.specs.MainHeader.{main_header_of}
use Rattle.codeblock_views.specs.KnownCells.{zero_known}
use Rattle.dz_quantiser.specs.Coefficient.{Coefficient, zero_coefficient}
use Rattle.dz_quantiser.specs.declared.steps.StepSizes.{StepSizes}
use Rattle.frame_choice.specs.Choice.{FitsBesideHeaders, IsChoice, no_passes}
use Rattle.frame_choice.specs.Chosen.{IsChosen}
use Rattle.frame_coefficients.specs.BuiltIn.{built_in_steps}
use Rattle.frame_coefficients.specs.Frame.{coefficients_of}
use Rattle.frame_packets.specs.Keeps.{frame_held}
use Rattle.pnm_frames.specs.Picture.{Picture}
use Rattle.profile_reader.specs.Chosen.{Planes, chosen, choice_distortion}
use Rattle.profile_reader.specs.Packets.{BlockBytes}
use Rattle.profile_reader.specs.Reads.{Decoding, Reads}
use Rattle.profile_reader.specs.Shown.{chosen_decoding, unknown_at, IsCut}
use Rattle.profile_reader.specs.Spell.{header_for, part_lengths, spell, written_part}
use Rattle.tile_parts.specs.Head.{eoc}
use Rattle.frame_encoder.specs.declared.order.EncodeOrder.{EncodeOrder}
use Rattle.frame_encoder.specs.declared.frame.Encoded.{Encoded}

-- a codestream, the number of coding passes of each code-block by block number, what the codestream
-- holds in its byte budgets, the distortion with nothing decoded, and how far the choice of passes
-- can be from the best one
pub record Encoding : Type 0 where
  pub bytes : List ℕ
  pub choice : List ℕ
  pub held : Held
  pub empty : ℕ
  pub certificate : Certificate

-- what the encoder returns, as such
abbrev pub encoding_of : Encoded → Encoding
encoding_of made = record {
  bytes = made.bytes.items;
  choice = made.choice.items;
  held = made.held;
  empty = made.empty;
  certificate = made.certificate;
}

-- a geometry is that of a picture by the levels of a profile. It is the only one: its other fields
-- are facts
pub record IsGeometryOf (profile : Profile) (p : Picture) (g : Geometry) : Type 0 where
  pub profile_is : g.profile ≡ profile
  pub levels : g.levels ≡ levels_of profile
  pub width : g.width ≡ p.width
  pub height : g.height ≡ p.height

-- the built-in steps of its profile
abbrev pub steps_in : Geometry → StepSizes
steps_in g = built_in_steps g.profile

-- the coefficients of component 0, 1 or 2 of a picture, by the levels of its geometry and the steps
-- of the profile
abbrev pub plane_of : Geometry → Picture → ℕ → List Coefficient
plane_of g p c = coefficients_of g.levels g.width g.height (steps_in g) c p.x p.y p.z

-- those of its three components
unfoldable pub planes_of : Geometry → Picture → Planes
planes_of g p component =
    get_or (plane_of g p 0 ∷ plane_of g p 1 ∷ plane_of g p 2 ∷ []) component []

-- what is written of each code-block of a picture by a choice
abbrev pub written_by : Geometry → Picture → List ℕ → BlockId → BlockBytes
written_by g p choice = chosen g (steps_in g) (planes_of g p) choice

-- The 2K portion of a codestream with this main header and these tile-parts (DCI Digital Cinema
-- System Specification, section 4): of 4K the main header, the first three tile-parts and EOC. A 2K
-- codestream has none.
abbrev pub inner_portion : Profile → List ℕ → (ℕ → List ℕ) → List ℕ
inner_portion TwoK main part = []
inner_portion FourK main part = main ++ (flat_map part (0 ∷ 1 ∷ 2 ∷ []) ++ eoc)

-- The bytes that a budget counts of the codestream of what is written of each code-block: all of
-- it, its 2K portion, or a component's tile-part, with 4K the one in the 2K portion.
abbrev pub counted_bytes : Geometry → StepSizes → (BlockId → BlockBytes) → Budget → List ℕ
counted_bytes g steps given Frame = spell g steps given
counted_bytes g steps given Inner =
    inner_portion g.profile (main_header_of (header_for g steps (part_lengths g steps given)))
    (written_part g steps given)
counted_bytes g steps given C0 = written_part g steps given 0
counted_bytes g steps given C1 = written_part g steps given 1
counted_bytes g steps given C2 = written_part g steps given 2

-- what the codestream of a choice is decoded to
abbrev pub decoded_by : Geometry → Picture → List ℕ → Decoding
decoded_by g p choice = chosen_decoding g (steps_in g) (planes_of g p) choice

-- the distortion that a choice leaves
abbrev pub distortion_of : Geometry → Picture → List ℕ → ℕ
distortion_of g p choice = choice_distortion g (planes_of g p) choice

-- Of a picture and an order the encoding is right.
pub record Encodes (order : EncodeOrder) (p : Picture) (e : Encoding) : Type 0 where
  -- The frame has the size of the picture and the levels of the order's profile.
  pub geometry : Geometry
  pub of_picture : IsGeometryOf order.profile p geometry
  -- The bytes are the codestream of the chosen coding passes.
  pub bytes : e.bytes ≡ spell geometry (steps_in geometry) (written_by geometry p e.choice)
  -- `held` is what it holds in each byte budget, headers included;
  pub held : e.held ≡ frame_held geometry (steps_in geometry) (written_by geometry p e.choice)
  -- headers included is said of the written bytes themselves: the frame's budget holds all of them,
  pub whole : e.held.frame ≡ length e.bytes
  -- and each budget those that it counts.
  pub counted : (budget : Budget) → held_in e.held budget
      ≡ length (counted_bytes geometry (steps_in geometry) (written_by geometry p e.choice) budget)
  -- Each budget is within the order's limit.
  pub limits : IsWithin order.limits e.held
  -- The bytes are read as the decoding of the choice,
  pub reads : Reads e.bytes (decoded_by geometry p e.choice)
  -- in which each place has the coefficient of the picture there, its sign and its bits, without
  -- the bit-planes that the chosen passes of its block leave unknown.
  pub decodes : (c x y : ℕ) → c < 3 → x < geometry.width → y < geometry.height →
      IsCut (get_or (planes_of geometry p c) (y * geometry.width + x) zero_coefficient)
      (unknown_at geometry (steps_in geometry) (planes_of geometry p) e.choice c x y)
      (get_or (get_or (decoded_by geometry p e.choice).planes c []) (y * geometry.width + x)
      zero_known)
  -- No block has more passes than its bit-planes give.
  pub choice : IsChoice geometry (planes_of geometry p) e.choice
  -- The distortions are those without any pass and with the chosen ones.
  pub empty : e.empty ≡ distortion_of geometry p (no_passes geometry)
  pub distortion : e.certificate.distortion ≡ distortion_of geometry p e.choice
  -- No choice of passes whose body bytes fit beside the written headers has a distortion below the
  -- chosen one's less the gap.
  pub rivals : (rival : List ℕ) → IsChoice geometry (planes_of geometry p) rival →
      FitsBesideHeaders geometry (steps_in geometry) (planes_of geometry p) order.limits e.choice
      rival →
      distortion_of geometry p e.choice ≤ distortion_of geometry p rival + e.certificate.gap
  -- The gap is at most the prices of the refused steps together and 1,
  pub refused_steps : e.certificate.gap
      ≤ total (λ (r : RefusedStep). r.price) e.certificate.refused.items + 1
  -- and 0 where no budget has a multiplier.
  pub no_multiplier : ((j : ℕ) → j < 5 → number_at e.certificate.multipliers j ≡ 0) →
      e.certificate.gap ≡ 0
  -- Multipliers, gap and refused steps are those of a settled walk over the hulls of the blocks,
  -- and each refused step leads from the chosen passes of a block to passes that would break a
  -- limit.
  pub chosen : IsChosen geometry (steps_in geometry) (planes_of geometry p) order.limits e.choice
      e.certificate
