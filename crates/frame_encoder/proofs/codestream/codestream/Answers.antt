use Rattle.std.proofs.Common.{◌≡◌, ◌++◌, ◌∙◌, ℕ, List, append_assoc, ap}
use Rattle.std.specs.List.{flat_map}
use Rattle.cinema_markers.specs.MainHeader.{main_header_of}
use Rattle.profile_reader.specs.Spell.{spell, header_for, part_indexes}
use Rattle.tile_parts.specs.Head.{eoc}
use Rattle.frame_encoder.specs.Writing.{chosen_by, part_of, steps_of}
use Rattle.frame_encoder.proofs.codestream.codestream.Goals as goal

-- a header, tile-parts and an end that were appended
joined : (a b new main parts end : List ℕ) → a ≡ main → b ≡ a ++ parts → new ≡ b ++ end →
    new ≡ main ++ (parts ++ end)
joined a b new main parts end p q r =
    r ∙ ap (λ (bytes : List ℕ). bytes ++ end) (q ∙ ap (λ (bytes : List ℕ). bytes ++ parts) p)
    ∙ append_assoc main parts end

pub returns : goal.returns
unfolding spell
returns c = λ planes is.
    let s = c.args.chosen.now in
    let g = s.geometry in
    let steps = steps_of s in
    let parts = flat_map (part_of planes s) (part_indexes g) in
    joined c.in_ok-bytes.bytes.items c.push_parts.new.out.items c.extend_from_slice.new.self.items
    (main_header_of (header_for g steps c.part_lengths.result.items)) parts eoc
    (c.in_ok-bytes.ensures.items ∙ c.as_slice.ensures.value ∙ c.main_header-header.ensures)
    (c.in_ok-push_parts.ensures planes is)
    (c.in_ok-extend_from_slice.ensures.items
    ∙ ap (λ (end : List ℕ). c.push_parts.new.out.items ++ end) c.end_of_codestream.ensures)
    ∙ ap (λ (lengths : List ℕ). main_header_of (header_for g steps lengths) ++ (parts ++ eoc))
    (c.part_lengths.ensures.value g steps (chosen_by planes s) is.keeps)
