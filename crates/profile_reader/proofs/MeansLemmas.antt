-- What is written of a code-block has one meaning.
use Rattle.std.proofs.Common.{◌≡◌, List, map, sym, ap, ◌∙◌, arith}
use Rattle.std.proofs.lemmas.Simd.{map-map}
use Rattle.std.proofs.lemmas.List.{map-id}
use Rattle.codeblock_views.specs.declared.known.Known.{Known}
use Rattle.ebcot_contexts.specs.Laws.{OneMeaning}
use Rattle.ebcot_contexts.specs.Meaning.{read_block}
use Rattle.profile_reader.specs.Reads.{known_of, cell_of_known, shape_with}
use Rattle.profile_reader.specs.Spelled.{MeansOnce}

cells_again : (cells : List Known) → map known_of (map cell_of_known cells) ≡ cells
cells_again cells = map-map known_of cell_of_known cells ∙ map-id cells

pub means_once : OneMeaning → MeansOnce
means_once one g m b written read other cells cells' means also =
    let planes : read.planes ≡ other.planes = omega (arith, means.planes, also.planes) in
    let passes : read.passes ≡ other.passes = means.passes ∙ sym also.passes in
    let here = one written.code (shape_with g b read.planes) read.passes (map cell_of_known cells)
    means.decoded in
    let there = one written.code (shape_with g b other.planes) other.passes
    (map cell_of_known cells') also.decoded in (
      λ i. record { planes = planes i; passes = passes i },
      sym (cells_again cells)
          ∙ ap (map known_of) (here
          ∙ ap (λ p. read_block written.code (shape_with g b p) read.passes) planes
          ∙ ap (read_block written.code (shape_with g b other.planes)) passes
          ∙ sym there)
          ∙ cells_again cells',
    )
