use Rattle.std.proofs.Common.{◌≡◌, ◌∙◌, ap, rules}
use Rattle.std.proofs.lemmas.Result.{IfOk-weaker}
use Rattle.clap.specs.Simple.{app_of, with_rule}
use Rattle.clap.specs.Walk.{Rule, rule_of}
use Rattle.command_words.specs.Encode.{option}
use Rattle.command_words.proofs.taken.with_option.Goals as goal

pub returns : goal.returns
returns c =
    let rule_is : rule_of c.long-argument.result ≡ option c.args.name.now = search rules in
    IfOk-weaker c.arg.result _ _ (λ more adds. adds.shape (search rules)
    ∙ ap (λ (r : Rule). with_rule (app_of c.args.command) r) rule_is) c.arg.ensures
