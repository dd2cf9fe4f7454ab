use Rattle.std.proofs.Common.{◌++◌, ◌∙◌, List, ℕ, ap}
use Rattle.coded_blocks.specs.Codes.{code_at}
use Rattle.frame_encoder.proofs.writing.ChosenPasses.push_block.Goals as goal

pub returns : goal.returns
returns c = λ planes is.
    c.in_ok-push_code.ensures
    ∙ ap (λ (bytes : List ℕ). c.args.out.now.items ++ bytes)
    (ap (code_at c.args.self.now.codes) c.number-n.ensures.counted
    ∙ is.codes.each c.args.id c.requires)
