use Rattle.std.proofs.Common.{◌++◌, ◌-◌, ◌∙◌, ℕ, List, take, drop, ap}
use Rattle.std.proofs.lemmas.List.{get_or_default}
use Rattle.coded_blocks.specs.Ends.{code_in, start_of}
use Rattle.coded_blocks.proofs.codes.ChosenCodes.push_code.Goals as goal

pub returns : goal.returns
unfolding code_in
returns c =
    let s = c.args.self.now in
    let out = c.args.out.now.items in
    let start = c.start-start.result in
    let end = c.index-end.result.now in
    let first = start_of s.ends.items c.args.n in
    c.in_ok-extend_from_slice.ensures.items
    ∙ ap (λ (l : List ℕ). out ++ take (end - start) (drop start l)) c.as_slice.ensures.value
    ∙ ap (λ (n : ℕ). out ++ take (end - n) (drop n s.bytes.items)) c.start-start.ensures
    ∙ ap (λ (n : ℕ). out ++ take (n - first) (drop first s.bytes.items))
    (c.index-end.ensures ∙ get_or_default s.ends.items c.args.n end 0 c.requires)
