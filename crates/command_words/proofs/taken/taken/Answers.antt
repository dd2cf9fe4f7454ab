use Rattle.std.proofs.Common.{◌≡◌, rules}
use Rattle.clap.specs.Simple.{app_of}
use Rattle.clap.specs.Values.{kind_of}
use Rattle.clap.specs.declared.error.kind.ErrorKind.TheVariants.{OutOfMemory}
use Rattle.command_words.specs.Taken.{texts}
use Rattle.command_words.proofs.Matched.{refused_by, taken_by}
use Rattle.command_words.proofs.taken.taken.Goals as goal

pub returns-in-Ok : goal.returns-in-Ok
returns-in-Ok c =
    taken_by (app_of c.args.command) (texts c.args.words.now) c.try_get_matches_from.result
    c.in-Ok.matches c.requires.simple (c.try_get_matches_from.ensures.kinds c.requires.simple)
    c.try_get_matches_from.ensures.matches c.in-Ok.is

pub returns : goal.returns
returns c =
    let other : kind_of c.in-Err.error ≡ OutOfMemory → ⊥ = search rules in
    refused_by (app_of c.args.command) (texts c.args.words.now) c.try_get_matches_from.result
    c.in-Err.error (c.try_get_matches_from.ensures.kinds c.requires.simple) c.in-Err.is other
