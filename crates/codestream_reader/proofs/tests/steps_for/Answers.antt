use Rattle.codestream_reader.proofs.BuiltIn.{are_readable}
use Rattle.codestream_reader.proofs.tests.steps_for.Goals as goal

pub returns : goal.returns
returns c = record {
  readable = are_readable c.args.geometry.now.profile c.args.geometry.now.levels
      c.built_in.result c.requires.levels c.built_in.ensures.guard c.built_in.ensures.bands;
}
