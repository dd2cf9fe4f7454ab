-- The law of what the budgets of a frame hold where the passes of one block change.
use Rattle.std.proofs.Common.{◌≡◌, ℕ, zero, suc, ◌<◌, List, length, get_or, set, refl, sym, ap}
use Rattle.std.proofs.Common.{◌∙◌, arith, inl, inr, ◌⊎◌, Bool}
use Rattle.std.proofs.lemmas.Bool.{cases_lt}
use Rattle.std.proofs.lemmas.List.{get_or-set_same, get_or-set_other}
use Rattle.cine_nums.specs.Profile.{levels_of}
use Rattle.band_geometry.specs.Counts.{number_of}
use Rattle.band_geometry.specs.Numbering.{all_blocks}
use Rattle.band_geometry.specs.declared.geometry.Geometry.{Geometry}
use Rattle.budget_duals.specs.Price.{AgreeBeside, HasLaw}
use Rattle.dz_quantiser.specs.Bands.{AreUsable, band_planes}
use Rattle.dz_quantiser.specs.declared.steps.StepSizes.{StepSizes}
use Rattle.ebcot_contexts.specs.Contexts.{Shape}
use Rattle.frame_packets.specs.Changes.{AreAlike, AreHeld, IsChanged, block_members}
use Rattle.frame_packets.proofs.Budgets.{other_budget, same_change, depends}
use Rattle.packet_headers.specs.Written.{IsPlain}
use Rattle.profile_reader.specs.Chosen.{Planes, block_coefs, block_shape, chosen, written_of}
use Rattle.profile_reader.specs.Packets.{BlockBytes}
use Rattle.frame_choice.specs.Blocks.{block_numbered, inside_at}
use Rattle.frame_choice.specs.Choice.{held_at}
use Rattle.frame_choice.specs.NumberLaws.{is_block, number_is, number_below, same_number}
use Rattle.frame_choice.specs.NumberLaws.{block_is}

pub number_cases : (a b : ℕ) → (a ≡ b) ⊎ (a ≡ b → ⊥)
number_cases a b = elim (cases_lt a b) [
  | inl less ↦ inr (λ same. absurd (omega (arith, less, same)))
  | inr more ↦ elim (cases_lt b a) [
    | inl less ↦ inr (λ same. absurd (omega (arith, less, same)))
    | inr other ↦ inl (omega (arith, more, other))
  ]
]

-- ---- what is written of one block

pub code_is_long : (band : ℕ) (coefs : List (ℕ × Bool)) (s : Shape) (k : ℕ) →
    length (written_of band coefs s k).code ≡ (written_of band coefs s k).entry.len
code_is_long band coefs s zero = refl
code_is_long band coefs s (suc k) = refl

pub is_plain : (band : ℕ) (coefs : List (ℕ × Bool)) (s : Shape) (k : ℕ) →
    IsPlain (written_of band coefs s k).entry
is_plain band coefs s zero h = record { zero_planes = refl; passes = refl; len = refl }
is_plain band coefs s (suc k) h = cc

-- the block of this number has so many passes
chosen_here : (g : Geometry) (steps : StepSizes) (planes : Planes) (c : List ℕ) (n to : ℕ) →
    n < length (all_blocks g) → length c ≡ length (all_blocks g) →
    let b = block_numbered g n in
    chosen g steps planes (set c n to) b
    ≡ written_of (band_planes steps b.res b.orient) (block_coefs g planes b)
    (block_shape g planes b) to
unfolding chosen
chosen_here g steps planes c n to below long =
    let b = block_numbered g n in
    ap (λ k. written_of (band_planes steps b.res b.orient) (block_coefs g planes b)
    (block_shape g planes b) k)
    (ap (λ m. get_or (set c n to) m 0) (number_is g n below)
    ∙ get_or-set_same c n to 0 (omega (arith, below, long)))

-- and no other block changes
pub chosen_changed : (g : Geometry) (steps : StepSizes) (planes : Planes) (c : List ℕ) (n to : ℕ) →
    n < length (all_blocks g) → length c ≡ length (all_blocks g) →
    let b = block_numbered g n in
    IsChanged g b (written_of (band_planes steps b.res b.orient) (block_coefs g planes b)
    (block_shape g planes b) to).entry (chosen g steps planes c)
    (chosen g steps planes (set c n to))
unfolding chosen
chosen_changed g steps planes c n to below long =
    let b = block_numbered g n in
    let at = chosen_here g steps planes c n to below long in
    record {
      here = ap (λ (w : BlockBytes). w.entry) at;
      code = ap (λ (w : BlockBytes). length w.code) at
          ∙ code_is_long (band_planes steps b.res b.orient) (block_coefs g planes b)
          (block_shape g planes b) to;
      others = λ x block other.
          ap (λ k. written_of (band_planes steps x.res x.orient) (block_coefs g planes x)
          (block_shape g planes x) k)
          (get_or-set_other c n (number_of g x) to 0
          (λ same. other (same_number g x b block (is_block g n below)
          (same ∙ sym (number_is g n below)))));
    }

-- counts that agree for the blocks with the same budgets choose the same for these
chosen_alike : (g : Geometry) (steps : StepSizes) (planes : Planes) (c d : List ℕ) (n : ℕ) →
    AgreeBeside (inside_at g) (length (all_blocks g)) n c d →
    AreAlike g (block_numbered g n) (chosen g steps planes c) (chosen g steps planes d)
unfolding chosen
chosen_alike g steps planes c d n agree b is same =
    ap (λ k. written_of (band_planes steps b.res b.orient) (block_coefs g planes b)
    (block_shape g planes b) k)
    (agree (number_of g b) (number_below g b is) (ap (block_members g) (block_is g b is) ∙ same))

-- ---- the law

pub held_law : (g : Geometry) (steps : StepSizes) (planes : Planes) →
    g.levels ≡ levels_of g.profile → AreUsable g.levels steps →
    HasLaw (length (all_blocks g)) (inside_at g) (held_at g steps planes)
held_law g steps planes levels usable =
    let held : AreHeld g steps = record { levels = levels; count = usable.count } in
    record {
      same_change = λ c b to i j long below own other.
          same_change g steps (chosen g steps planes c) (chosen g steps planes (set c b to))
          (block_numbered g b) i j held (is_block g b below)
          (chosen_changed g steps planes c b to below long).others own other;
      elsewhere = λ c b to j long below other.
          other_budget g steps (chosen g steps planes c) (chosen g steps planes (set c b to))
          (block_numbered g b) j held (is_block g b below)
          (chosen_changed g steps planes c b to below long).others other;
      depends = λ c d b to j long also below agree.
          depends g steps (chosen g steps planes c) (chosen g steps planes (set c b to))
          (chosen g steps planes d) (chosen g steps planes (set d b to)) (block_numbered g b) j held
          (is_block g b below) (chosen_changed g steps planes c b to below long).others
          (chosen_changed g steps planes d b to below also).others
          (chosen_alike g steps planes c d b agree)
          (chosen_here g steps planes d b to below also
          ∙ sym (chosen_here g steps planes c b to below long));
    }
