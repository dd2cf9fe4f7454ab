use Rattle.std.proofs.Common.{◌≡◌, ◌+◌, ℕ, List, ap, cond, map, sym, ◌∙◌}
use Rattle.std.specs.Prelude.{count_by, ltb, sum_by}
use Rattle.std.proofs.lemmas.List.Folds.{fold-map}
use Rattle.frame_reader.specs.Blocks.{read_of as block_of}
use Rattle.frame_reader.specs.declared.decoded.BlockRead.{BlockRead}
use Rattle.profile_reader.specs.Reads.{BlockRead as Read}
use Rattle.cinema_run.specs.RightCheck.{included, passes_of}
use Rattle.cinema_run.proofs.verdict.says.Goals as goal

-- what is counted of decoded code-blocks is what is counted of their meanings
included_of : (blocks : List BlockRead) →
    included (map block_of blocks) ≡ count_by (λ (b : BlockRead). ltb 0 b.passes) blocks
included_of blocks =
    fold-map (λ (n : ℕ) (b : Read). n + cond (ltb 0 b.passes) 1 0) block_of 0 blocks

all_passes_of : (blocks : List BlockRead) →
    passes_of (map block_of blocks) ≡ sum_by (λ (b : BlockRead). b.passes) blocks
all_passes_of blocks = fold-map (λ (n : ℕ) (b : Read). n + b.passes) block_of 0 blocks

pub returns : goal.returns
returns c =
    let d = c.args.decoded.now in
    let some : c.included.result ≡ included (map block_of d.blocks.items) =
    c.included.ensures
    ∙ ap (λ (bs : List BlockRead). count_by (λ (b : BlockRead). ltb 0 b.passes) bs)
    c.as_slice-blocks.ensures.value ∙ sym (included_of d.blocks.items) in
    let all : c.pass_count.result ≡ passes_of (map block_of d.blocks.items) =
    c.pass_count.ensures
    ∙ ap (λ (bs : List BlockRead). sum_by (λ (b : BlockRead). b.passes) bs)
    c.as_slice-blocks.ensures.value ∙ sym (all_passes_of d.blocks.items) in
    cc
