use Rattle.std.proofs.Common.{◌≡◌, ℕ, ◌-◌, ◌<◌, List, length, take, drop, refl, arith, sym, ◌∙◌}
use Rattle.std.proofs.Common.{slice_index, length-drop}
use Rattle.std.proofs.lemmas.List.{take_all}
use Rattle.codestream_reader.specs.Faults.EndFault.{byte_after}
use Rattle.codestream_reader.proofs.Ending.{begins, followed}
use Rattle.codestream_reader.proofs.end.end_fault.Goals as goal

pub returns-then-left-gt2-clause-some : goal.returns-then-left-gt2-clause-some
returns-then-left-gt2-clause-some c =
    let bytes = c.args.bytes.now in
    let at = c.args.at in
    let left : List ℕ = take (length bytes - at) (drop at bytes) in
    let counted = length-drop at bytes in
    let same : left ≡ drop at bytes =
    take_all (length bytes - at) (drop at bytes) (omega (arith, counted)) in
    let long : 2 < length left = c.if-left-gt2.true in
    let first : slice_index left 0 ≡ 255 = c.if-left.false in
    let second : slice_index left 1 ≡ 217 = c.if-left-2.false in
    byte_after (slice_index left 2) (drop 3 left)
    (sym same ∙ followed left long (begins left (omega (arith, long)) first second)) refl
