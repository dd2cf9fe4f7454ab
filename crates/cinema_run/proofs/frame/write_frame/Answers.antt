use Rattle.std.proofs.Common.{◌≡◌, ◌++◌, ◌∙◌, ℕ, List, Option, Some, ap, refl, sym}
use Rattle.std.proofs.Common.{option_map}
use Rattle.cine_ports.specs.Source.{File}
use Rattle.cine_ports.specs.WholePieces.{said_with}
use Rattle.cinema_run.specs.Right.{accepted}
use Rattle.cinema_run.specs.Visit.{Visit}
use Rattle.cinema_run.proofs.Breaks.{nothing_done, output_broken, output_made, line_broken}
use Rattle.cinema_run.proofs.Outputs.{on_err}
use Rattle.cinema_run.proofs.frame.write_frame.Goals as goal

-- the output, by the name and the bytes that were written
abbrev output : List ℕ → List ℕ → Option File
output name bytes = Some (record { name = name; bytes = bytes })

output_is : (name suffix bytes shown : List ℕ) → shown ≡ name ++ suffix →
    output (name ++ suffix) bytes ≡ output shown bytes
output_is name suffix bytes shown p = sym (ap (λ (n : List ℕ). output n bytes) p)

pub returns-in_err-output-clause-err : goal.returns-in_err-output-clause-err
returns-in_err-output-clause-err g c =
    on_err c.from_residual.result
    (nothing_done (λ v. v ≡ accepted (c.args.name.now ++ c.args.suffix.now) c.args.bytes.now
    c.args.says.now) (g.O.Outputs.kept c.args.outputs.now)
    (g.S.Report.said c.args.report.now) c.requires.at_rest)

pub returns-in_err-line-clause-err : goal.returns-in_err-line-clause-err
returns-in_err-line-clause-err g c =
    on_err c.from_residual-in_err-line.result
    (nothing_done (λ v. v ≡ accepted (c.args.name.now ++ c.args.suffix.now) c.args.bytes.now
    c.args.says.now) (g.O.Outputs.kept c.args.outputs.now)
    (g.S.Report.said c.args.report.now) c.requires.at_rest)

pub returns-in-Err-clause-err : goal.returns-in-Err-clause-err
returns-in-Err-clause-err g c =
    let visit : Visit = accepted (c.args.name.now ++ c.args.suffix.now) c.args.bytes.now
    c.args.says.now in
    output_broken (λ v. v ≡ visit) visit c.as_str.result.now c.args.bytes.now
    (g.O.Outputs.kept c.args.outputs.now) (g.O.Outputs.kept c.write_output.new.outputs)
    (g.S.Report.said c.args.report.now) refl
    (output_is c.args.name.now c.args.suffix.now c.args.bytes.now c.as_str.result.now
    (c.as_str.ensures.value ∙ c.in_ok-output.ensures))
    c.requires.at_rest c.in-Err.ensures.err

pub returns-in-Ok-say-clause-kept : goal.returns-in-Ok-say-clause-kept
returns-in-Ok-say-clause-kept g c =
    output_made (accepted (c.args.name.now ++ c.args.suffix.now) c.args.bytes.now c.args.says.now)
    c.as_str.result.now c.args.bytes.now (g.O.Outputs.kept c.args.outputs.now)
    (g.O.Outputs.kept c.write_output.new.outputs)
    (output_is c.args.name.now c.args.suffix.now c.args.bytes.now c.as_str.result.now
    (c.as_str.ensures.value ∙ c.in_ok-output.ensures)) c.in-Ok.ensures.ok

pub returns-in-Ok-say-clause-said : goal.returns-in-Ok-say-clause-said
returns-in-Ok-say-clause-said g c =
    c.in-Ok-say.ensures.ok ∙ ap (λ bytes. option_map (said_with bytes)
    (g.S.Report.said c.args.report.now)) (c.as_bytes.ensures.value ∙ c.in_ok-line.ensures)

pub returns-clause-err : goal.returns-clause-err
returns-clause-err g c =
    let visit : Visit = accepted (c.args.name.now ++ c.args.suffix.now) c.args.bytes.now
    c.args.says.now in
    line_broken (λ v. v ≡ visit) visit c.as_bytes.result.now
    (g.O.Outputs.kept c.args.outputs.now) (g.O.Outputs.kept c.write_output.new.outputs)
    (g.S.Report.said c.args.report.now) (g.S.Report.said c.say.new.report) refl
    (c.as_bytes.ensures.value ∙ c.in_ok-line.ensures)
    (output_made visit c.as_str.result.now c.args.bytes.now
    (g.O.Outputs.kept c.args.outputs.now) (g.O.Outputs.kept c.write_output.new.outputs)
    (output_is c.args.name.now c.args.suffix.now c.args.bytes.now c.as_str.result.now
    (c.as_str.ensures.value ∙ c.in_ok-output.ensures)) c.in-Ok.ensures.ok)
    c.in-Err-say.ensures.err
