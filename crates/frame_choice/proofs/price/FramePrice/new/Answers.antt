use Rattle.std.proofs.Common.{ℕ, ◌≡◌, ◌∙◌, ap, sym, subst, List, get_or, replicate, length}
use Rattle.band_geometry.specs.Numbering.{all_blocks}
use Rattle.band_geometry.specs.declared.places.BlockId.{BlockId}
use Rattle.budget_duals.specs.Price.{AreCounts}
use Rattle.frame_packets.specs.Keeps.{Keeps}
use Rattle.profile_reader.specs.Chosen.{chosen}
use Rattle.profile_reader.specs.Packets.{BlockBytes}
use Rattle.frame_choice.specs.Blocks.{block_numbered, most_passes}
use Rattle.frame_choice.specs.Present.{IsPresent}
use Rattle.frame_choice.specs.PriceLaws.{planes_in}
use Rattle.frame_choice.proofs.NoPasses.{none_chosen, none_are_counts, zero_at}
use Rattle.frame_choice.proofs.Taking.{no_block}
use Rattle.frame_choice.proofs.price.FramePrice.new.Goals as goal

pub invariant_of-result : goal.invariant_of-result
invariant_of-result c =
    let f = c.args.frame in
    let g = f.geometry.now in
    let planes = planes_in f in
    let present = c.in_ok-present.present.items in
    let zeros : c.in_ok-counts.counts.items ≡ replicate (length (all_blocks g)) 0 =
    c.in_ok-counts.ensures.items_if_clones_equal (λ y e. e)
    ∙ ap (λ n. replicate n 0) c.blocks-2.ensures in
    record {
      most = subst (λ (xs : List ℕ). AreCounts (most_passes g planes) xs) (sym zeros)
          (none_are_counts g planes);
      present_are = record {
        long = c.in_ok-present.ensures.long;
        each = λ b below.
            subst (λ k. IsPresent g f.steps.now planes (block_numbered g b) k
            (get_or present b no_block))
            (sym (ap (λ (xs : List ℕ). get_or xs b 0) zeros
            ∙ zero_at (length (all_blocks g)) b))
            (c.in_ok-present.ensures.each b below);
      };
      kept = subst (λ (given : BlockId → BlockBytes). Keeps g f.steps.now given c.args.packets)
          (sym (ap (λ (xs : List ℕ). chosen g f.steps.now planes xs) zeros
          ∙ none_chosen g f.steps.now planes (length (all_blocks g)))) c.requires.packets;
    }
