use Rattle.std.proofs.Common.{◌≡◌, ◌++◌, ◌∙◌, ℕ, List, get_or, ap, arith}
use Rattle.std.proofs.lemmas.List.FromFn.{get_or-map-range_with_len}
use Rattle.cine_nums.specs.Profile.{parts_of}
use Rattle.profile_reader.specs.Spell.{part_length}
use Rattle.tile_parts.specs.Head.{part_head_of}
use Rattle.frame_encoder.specs.Writing.{body_of, chosen_by, steps_of}
use Rattle.frame_encoder.proofs.Appends.{step}
use Rattle.frame_encoder.proofs.writing.ChosenPasses.push_part.Goals as goal

pub returns : goal.returns
returns c = λ planes is.
    let s = c.args.self.now in
    let g = s.geometry in
    let i = c.args.index in
    let length = part_length g (steps_of s) (chosen_by planes s) i in
    let size : get_or c.deref.result.now i 0 ≡ length =
    ap (λ (xs : List ℕ). get_or xs i 0) (c.deref.ensures.0
    ∙ c.part_lengths.ensures.value g (steps_of s) (chosen_by planes s) is.keeps)
    ∙ get_or-map-range_with_len (part_length g (steps_of s) (chosen_by planes s)) 0
    (parts_of g.profile) i i 0 c.requires (omega arith) in
    step c.args.out.now.items c.extend_from_slice.new.self.items c.push_body.new.out.items
    (part_head_of length i (parts_of g.profile)) (body_of planes s i)
    (c.in_ok-extend_from_slice.ensures.items
    ∙ ap (λ (head : List ℕ). c.args.out.now.items ++ head) (c.part_head.ensures
    ∙ ap (λ (n : ℕ). part_head_of n i c.parts.result) size
    ∙ ap (λ (n : ℕ). part_head_of length i n) c.parts.ensures))
    (c.in_ok-push_body.ensures planes is)
