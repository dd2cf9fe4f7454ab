use Rattle.std.proofs.Common.{◌∙◌, ℕ, List, None, ap, option_map, refl, string_bytes, take}
use Rattle.cine_ports.specs.WholePieces.{said_with}
use Rattle.cinema_run.specs.RightCheck.{reported, RightCheckFor}
use Rattle.cinema_run.specs.Visit.{Visit}
use Rattle.cinema_run.proofs.Breaks.{line_broken}
use Rattle.cinema_run.proofs.Checked.{check_broke_at, checked_at, left_after, was_checked}
use Rattle.cinema_run.proofs.check.check_file.Goals as goal

pub returns-in-Ok-say-clause-ok : goal.returns-in-Ok-say-clause-ok
returns-in-Ok-say-clause-ok g c =
    let said = g.S.Report.said in
    let first = g.F.Frames.source c.args.frames.now in
    let begun = g.F.Frames.source c.begin.new.self in
    let read = g.F.Frames.source c.read_fully.new.frames in
    let left = (g.F.Frames.reading c.begin.new.self).left in
    let later = (g.F.Frames.reading c.read_fully.new.frames).left in
    let name = c.name.result.now in
    let buffer = c.read_fully.new.buf in
    let count = c.in-Ok-read_fully.count in
    let found = c.in_ok-found.found in
    let visit : Visit = reported (string_bytes found.line) found.refused in
    let was = was_checked first begun read c.args.i name left later buffer count
    c.begin.ensures.source c.read_fully.ensures.source c.requires.listed c.in-Ok.ensures.left
    c.name.ensures (c.read_fully.auto.buf ∙ c.requires.room) c.in-Ok-read_fully.ensures.count
    c.in-Ok-read_fully.ensures.moved c.in-Ok-read_fully.ensures.end in
    record {
      visit = visit;
      is_visit = checked_at first begun read c.args.i name left (take count buffer) visit was
          c.in_ok-found.ensures;
      kept = refl;
      said = c.in-Ok-say.ensures.ok ∙ ap (λ (line : List ℕ). option_map (said_with line)
          (said c.args.report.now)) c.as_bytes.ensures.value;
      refused = refl;
    }

pub returns-in-Ok-say-clause-left : goal.returns-in-Ok-say-clause-left
returns-in-Ok-say-clause-left g c =
    left_after (g.F.Frames.source c.args.frames.now) (g.F.Frames.source c.begin.new.self) c.args.i
    (g.F.Frames.reading c.begin.new.self).left (g.F.Frames.reading c.read_fully.new.frames).left
    c.read_fully.new.buf c.in-Ok-read_fully.count c.begin.ensures.source
    (c.read_fully.auto.buf ∙ c.requires.room) c.in-Ok-read_fully.ensures.count
    c.in-Ok.ensures.left c.in-Ok-read_fully.ensures.moved c.in-Ok-read_fully.ensures.end

pub returns-clause-err : goal.returns-clause-err
returns-clause-err g c =
    let said = g.S.Report.said in
    let first = g.F.Frames.source c.args.frames.now in
    let begun = g.F.Frames.source c.begin.new.self in
    let read = g.F.Frames.source c.read_fully.new.frames in
    let left = (g.F.Frames.reading c.begin.new.self).left in
    let later = (g.F.Frames.reading c.read_fully.new.frames).left in
    let name = c.name.result.now in
    let buffer = c.read_fully.new.buf in
    let count = c.in-Ok-read_fully.count in
    let found = c.in_ok-found.found in
    let visit : Visit = reported (string_bytes found.line) found.refused in
    let was = was_checked first begun read c.args.i name left later buffer count
    c.begin.ensures.source c.read_fully.ensures.source c.requires.listed c.in-Ok.ensures.left
    c.name.ensures (c.read_fully.auto.buf ∙ c.requires.room) c.in-Ok-read_fully.ensures.count
    c.in-Ok-read_fully.ensures.moved c.in-Ok-read_fully.ensures.end in
    check_broke_at first begun read c.args.i name left (take count buffer)
    (said c.args.report.now) (said c.say.new.report) was
    (line_broken (RightCheckFor name (take count buffer)) visit c.as_bytes.result.now None None
    (said c.args.report.now) (said c.say.new.report) c.in_ok-found.ensures
    c.as_bytes.ensures.value refl c.in-Err-say.ensures.err)
