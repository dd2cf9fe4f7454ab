use Rattle.std.proofs.Common.{ap}
use Rattle.cinema_run.specs.Visit.{Visit}
use Rattle.cinema_run.proofs.SaidLines.{is_said}
use Rattle.cinema_run.proofs.Words.{allowed}
use Rattle.cinema_run.proofs.laws.said_lines.Goals as goal

pub returns : goal.returns
returns c = record {
  line = λ order name p e says allowed encodes certifies some.
      is_said order p e allowed encodes name says certifies some;
  visit = λ words order suffix name p visit is accepted some. (
    is_said order p accepted.encoding (allowed words order is) accepted.encodes name accepted.says
        accepted.certifies some,
    ap (λ (v : Visit). v.line) accepted.is,
  );
}
