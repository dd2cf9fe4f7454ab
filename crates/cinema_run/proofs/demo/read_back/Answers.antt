use Rattle.std.proofs.Common.{◌∙◌, List, ℕ, [], ap, option_map, string_bytes}
use Rattle.cine_ports.specs.WholePieces.{said_with}
use Rattle.cinema_run.specs.Output.{kept_and}
use Rattle.cinema_run.specs.RightCheck.{reported, IsReadable}
use Rattle.cinema_run.specs.RightDemo.{demo_name}
use Rattle.cinema_run.specs.Visit.{Visit}
use Rattle.cinema_run.proofs.Breaks.{line_broken, none_twice}
use Rattle.cinema_run.proofs.WrittenRead.{readable}
use Rattle.cinema_run.proofs.demo.read_back.Goals as goal

pub returns-in-Ok-clause-ok : goal.returns-in-Ok-clause-ok
returns-in-Ok-clause-ok g c =
    let found = c.in_ok-found.found in
    let visit : Visit = reported (string_bytes found.line) found.refused in (
      visit,
      readable demo_name c.args.bytes.now visit c.requires.readable.0 c.requires.readable.1
          c.in_ok-found.ensures,
      c.in-Ok.ensures.ok ∙ ap (λ (line : List ℕ). option_map (said_with line)
          (g.S.Report.said c.args.report.now)) c.as_bytes.ensures.value,
    )

pub returns-clause-err : goal.returns-clause-err
returns-clause-err g c = λ kept.
    let found = c.in_ok-found.found in
    let visit : Visit = reported (string_bytes found.line) found.refused in
    line_broken (IsReadable demo_name c.args.bytes.now) visit c.as_bytes.result.now
    (option_map (kept_and []) kept) (option_map (kept_and []) kept)
    (g.S.Report.said c.args.report.now) (g.S.Report.said c.say.new.report)
    (readable demo_name c.args.bytes.now visit c.requires.readable.0 c.requires.readable.1
    c.in_ok-found.ensures) c.as_bytes.ensures.value (none_twice kept) c.in-Err.ensures.err
