use Rattle.cert_text.proofs.NameReading.{none_follows}
use Rattle.cert_text.proofs.read_name.after_escape.Goals as goal

pub returns-clause-none : goal.returns-clause-none
returns-clause-none c none follow = absurd (none_follows c.args.state c.args.byte c.after.result
    c.after.ensures none follow)
