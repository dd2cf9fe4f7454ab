-- What a codestream holds in each budget is the number of the bytes that the budget counts.
use Rattle.std.proofs.Common.{◌≡◌, ℕ, ◌<◌, ◌≤◌, List, [], ◌∷◌, ◌++◌, length}
use Rattle.std.proofs.Common.{length-append, map, refl, sum, sym, ap, ◌∙◌, arith}
use Rattle.std.specs.Prelude.{take, slice_index_or}
use Rattle.std.specs.List.{flat_map, range_with_len}
use Rattle.std.proofs.lemmas.List.Sums.{sum_by-cons}
use Rattle.budget_duals.specs.Held.{held_in, inner_of}
use Rattle.cine_nums.specs.Profile.{parts_of}
use Rattle.cine_nums.specs.declared.budget.Budget.{Budget}
use Rattle.cine_nums.specs.declared.budget.Budget.TheVariants.{Frame, Inner, C0, C1, C2}
use Rattle.cine_nums.specs.declared.profile.Profile.{Profile}
use Rattle.cine_nums.specs.declared.profile.Profile.TheVariants.{TwoK, FourK}
use Rattle.band_geometry.specs.declared.geometry.Geometry.{Geometry}
use Rattle.band_geometry.specs.declared.places.BlockId.{BlockId}
use Rattle.cinema_markers.specs.MainHeader.{main_header_of}
use Rattle.dz_quantiser.specs.declared.steps.StepSizes.{StepSizes}
use Rattle.pnm_frames.specs.Picture.{Picture}
use Rattle.profile_reader.specs.Packets.{BlockBytes, written_body}
use Rattle.profile_reader.specs.Spell.{header_for, part_indexes, part_length, part_lengths, spell}
use Rattle.profile_reader.specs.Spell.{written_part}
use Rattle.tile_parts.specs.Head.{eoc, part_head_of}
use Rattle.frame_encoder.specs.declared.order.EncodeOrder.{EncodeOrder}
use Rattle.frame_encoder.specs.Encoded.{Encoding, Encodes, counted_bytes, inner_portion}
use Rattle.frame_packets.specs.Keeps.{frame_held}

three_long : (long : ℕ → ℕ) (profile : Profile) →
    take 3 (map long (range_with_len 0 (parts_of profile))) ≡ long 0 ∷ long 1 ∷ long 2 ∷ []
three_long long TwoK = refl
three_long long FourK = refl

module _ (part : ℕ → List ℕ) (long : ℕ → ℕ) (same : (k : ℕ) → length (part k) ≡ long k) where
  parts_whole : (indexes : List ℕ) → length (flat_map part indexes) ≡ sum (map long indexes)
  parts_whole [] = refl
  parts_whole (i ∷ indexes) =
      let both = length-append (part i) (flat_map part indexes) in
      let rest = parts_whole indexes in
      let one = same i in
      let whole = sum_by-cons (λ (n : ℕ). n) (long i) (map long indexes) in
      omega (arith, both, rest, one, whole)

  inner_counted : (profile : Profile) (main : List ℕ) →
      inner_of profile (length main) (map long (range_with_len 0 (parts_of profile)))
      ≡ length (inner_portion profile main part)
  inner_counted TwoK main = refl
  inner_counted FourK main =
      let three = 0 ∷ 1 ∷ 2 ∷ [] in
      let parts = flat_map part three in
      let first = length-append main (parts ++ eoc) in
      let second = length-append parts eoc in
      let sums = parts_whole three in
      omega (arith, first, second, sums)

module _ (g : Geometry) (steps : StepSizes) (given : BlockId → BlockBytes) where
  part_long : (index : ℕ) → length (written_part g steps given index)
      ≡ part_length g steps given index
  part_long index =
      length-append (part_head_of (part_length g steps given index) index (parts_of g.profile))
      (written_body g steps given index)

  pub whole : length (spell g steps given) ≡ (frame_held g steps given).frame
  unfolding spell
  whole =
      let main = main_header_of (header_for g steps (part_lengths g steps given)) in
      let parts = flat_map (written_part g steps given) (part_indexes g) in
      let first = length-append main (parts ++ eoc) in
      let second = length-append parts eoc in
      let sums = parts_whole (written_part g steps given) (part_length g steps given) part_long
      (part_indexes g) in
      omega (arith, first, second, sums)

  component_at : (c : ℕ) →
      slice_index_or (frame_held g steps given).component c 0
      ≡ slice_index_or (part_length g steps given 0 ∷ part_length g steps given 1
      ∷ part_length g steps given 2 ∷ []) c 0
  component_at c =
      ap (λ (held : List ℕ). slice_index_or held c 0)
      (three_long (part_length g steps given) g.profile)

  -- what is held in each budget is the number of the bytes that it counts
  pub counted : (budget : Budget) → held_in (frame_held g steps given) budget
      ≡ length (counted_bytes g steps given budget)
  counted Frame = sym whole
  counted Inner =
      inner_counted (written_part g steps given) (part_length g steps given) part_long g.profile
      (main_header_of (header_for g steps (part_lengths g steps given)))
  counted C0 = component_at 0 ∙ sym (part_long 0)
  counted C1 = component_at 1 ∙ sym (part_long 1)
  counted C2 = component_at 2 ∙ sym (part_long 2)

at_most : (m n : ℕ) → (n < m → ⊥) → m ≤ n
at_most m n none = grind arith

-- an encoding has at most the bytes of the order's limit
pub bytes_short : (order : EncodeOrder) (p : Picture) (e : Encoding) → Encodes order p e →
    length e.bytes ≤ order.limits.frame
bytes_short order p e encodes =
    let same = encodes.whole in
    let few = at_most e.held.frame order.limits.frame
    (λ high. encodes.limits Frame (order.limits.frame, refl, high)) in
    omega (arith, same, few)
