use Rattle.std.proofs.Common.{◌≡◌, ◌∙◌, Some, ap, codes, sym}
use Rattle.clap.specs.Matches.{first_value, found_of}
use Rattle.command_words.specs.Taken.{word_of}
use Rattle.command_words.proofs.DemoCommand.{no_limits}
use Rattle.command_words.proofs.Names.{of_none}
use Rattle.command_words.proofs.demo.named.Goals as goal

pub returns-in_err-limits : goal.returns-in_err-limits
returns-in_err-limits c =
    let value = first_value (found_of c.args.matches.now) in
    let has : Some c.in_ok-get_str-2.field-0.now ≡ value (codes "profile") =
    sym (ap word_of c.in_ok-get_str-2.was) ∙ c.get_str-2.ensures in
    of_none _ _ c.from_residual-in_err-limits.result c.from_residual-in_err-limits.ensures
    (no_limits value c.in_ok-profile.profile c.in_ok-get_str-2.field-0.now
    (word_of c.get_str-3.result) (word_of c.get_str-4.result) (word_of c.get_str-5.result) has
    c.in_ok-profile.ensures c.get_str-3.ensures c.get_str-4.ensures c.get_str-5.ensures
    c.in_err-limits.ensures)
