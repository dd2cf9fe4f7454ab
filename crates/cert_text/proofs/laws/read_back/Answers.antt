use Rattle.std.proofs.Common.{◌≡◌, ◌∙◌}
use Rattle.cert_text.specs.Lines.{cert_line}
use Rattle.cert_text.proofs.LineSaid.{text_again, same_again, memory_alone}
use Rattle.cert_text.proofs.laws.read_back.Goals as goal

pub returns : goal.returns
returns c =
    let text : c.as_bytes.result.now ≡ cert_line c.args.line.now = c.as_bytes.ensures.value
    ∙ c.in_ok-text.ensures in
    let line = c.args.line.now in
    record {
      said = c.read_cert.ensures.said;
      text = text_again c.read_cert.result c.as_bytes.result.now line text
          c.read_cert.ensures.found;
      same = same_again c.read_cert.result c.as_bytes.result.now line c.requires.said text
          c.read_cert.ensures.only;
      memory = memory_alone c.read_cert.result c.as_bytes.result.now line c.requires.said text
          c.read_cert.ensures.bad;
    }
