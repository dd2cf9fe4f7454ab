-- What is spelled of code-blocks that mean cells is read as these cells.
use Rattle.std.proofs.Common.{◌≡◌, ℕ, List, map, length, refl}
use Rattle.std.proofs.Common.{sym, ap, subst, ◌∙◌}
use Rattle.std.proofs.lemmas.List.{length-map}
use Rattle.std.proofs.lemmas.List.FromFn.{length-map-range_with_len}
use Rattle.cine_nums.specs.Profile.{parts_of}
use Rattle.band_geometry.specs.Bands.{IsBlock}
use Rattle.band_geometry.specs.Numbering.{all_blocks}
use Rattle.band_geometry.specs.declared.geometry.Geometry.{Geometry}
use Rattle.band_geometry.specs.declared.places.BlockId.{BlockId}
use Rattle.cinema_markers.specs.Words.{written_words}
use Rattle.codeblock_views.specs.declared.known.Known.{Known}
use Rattle.dz_quantiser.specs.Bands.{band_planes}
use Rattle.dz_quantiser.specs.declared.steps.StepSizes.{StepSizes}
use Rattle.profile_reader.specs.Packets.{BlockBytes, left_out}
use Rattle.profile_reader.specs.Reads.{BlockRead, BlockMeans, Stream, StreamFits}
use Rattle.profile_reader.specs.Reads.{stream_bytes, nothing_read, block_in, read_in, cells_of}
use Rattle.profile_reader.specs.Spell.{part_length, part_indexes, part_lengths, header_for, spell}
use Rattle.profile_reader.specs.Spelled.{CanSpell, decoding_with, SpelledReads}
use Rattle.profile_reader.specs.Words.{PartsFit}
use Rattle.profile_reader.proofs.MainLemmas.{main_fits, main_spelled, few_band_planes}
use Rattle.profile_reader.proofs.PacketLemmas.{whole_part, parts_written}
use Rattle.profile_reader.proofs.PlaneLemmas.{Assembled, plane_again, plane_length}
use Rattle.profile_reader.proofs.PlaneLemmas.{cells_again}
use Rattle.profile_reader.proofs.SpelledLemmas.{parts_fit, parts_say, found_again}

-- the codestream as it stands
abbrev stream : (g : Geometry) (steps : StepSizes) (given : BlockId → BlockBytes) → Stream
stream g steps given = record {
  main = header_for g steps (part_lengths g steps given);
  geometry = g;
  words = written_words (header_for g steps (part_lengths g steps given));
  parts = map (whole_part g steps given) (part_indexes g);
}

stream_fits : (g : Geometry) (steps : StepSizes) (given : BlockId → BlockBytes) →
    CanSpell g steps given → StreamFits (stream g steps given)
stream_fits g steps given can = record {
  geometry = record { profile = refl; levels = refl; width = refl; height = refl };
  main = main_fits g steps given can;
  few_planes = few_band_planes g.levels steps can.steps_usable;
  parts = subst (λ n. PartsFit g steps 0 n (part_lengths g steps given)
      (map (whole_part g steps given) (part_indexes g)))
      (sym (length-map-range_with_len (part_length g steps given) 0 (parts_of g.profile)))
      (parts_fit g steps given can (parts_of g.profile) 0);
}

stream_spelled : (g : Geometry) (steps : StepSizes) (given : BlockId → BlockBytes) →
    spell g steps given ≡ stream_bytes (stream g steps given)
unfolding spell
stream_spelled g steps given =
    rw (
      main_spelled (header_for g steps (part_lengths g steps given)),
      parts_written g steps given (parts_of g.profile) 0,
    ) refl

block_means : Assembled → (g : Geometry) (steps : StepSizes) (given : BlockId → BlockBytes)
    (reads : BlockId → BlockRead) (cells : BlockId → List Known) (most : ℕ) (b : BlockId) →
    IsBlock g b → BlockMeans g most b (given b) (reads b) (cells b) →
    BlockMeans g most b (block_in g (map given (all_blocks g)) b)
    (read_in g (decoding_with g steps given reads cells) b)
    (cells_of g (decoding_with g steps given reads cells) b)
block_means assembled g steps given reads cells most b is means =
    subst (λ w. BlockMeans g most b w (read_in g (decoding_with g steps given reads cells) b)
    (cells_of g (decoding_with g steps given reads cells) b))
    (sym (found_again g given left_out b is))
    (subst (λ r. BlockMeans g most b (given b) r
    (cells_of g (decoding_with g steps given reads cells) b))
    (sym (found_again g reads nothing_read b is))
    (subst (λ ks. BlockMeans g most b (given b) (reads b) ks)
    (sym (cells_again assembled g steps given reads cells most b is means)) means))

pub spelled_is_read : Assembled → SpelledReads
spelled_is_read assembled g steps given reads cells can means =
    record {
      stream = stream g steps given;
      fits = stream_fits g steps given can;
      spelled = stream_spelled g steps given;
      main = refl;
      blocks = map given (all_blocks g);
      count = length-map (all_blocks g) given;
      says = parts_say g steps given (parts_of g.profile) 0;
      counted = length-map (all_blocks g) reads;
      means = λ b is. block_means assembled g steps given reads cells
          (band_planes steps b.res b.orient) b is
          (means b is);
      components = refl;
      sizes = λ c below. ap length (plane_again g steps given reads cells c below)
          ∙ plane_length g c cells;
    }
