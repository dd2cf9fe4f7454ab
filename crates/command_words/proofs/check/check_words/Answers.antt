use Rattle.std.proofs.Common.{◌≡◌, ◌∙◌, codes, true, ap, subst, sym}
use Rattle.clap.specs.Faults.{is_simple_and_free}
use Rattle.clap.specs.Matches.{first_value, found_of}
use Rattle.clap.specs.Simple.{App}
use Rattle.command_words.specs.Check.{check_command}
use Rattle.command_words.specs.Taken.{texts, value_of}
use Rattle.command_words.proofs.Command.{check_is_simple}
use Rattle.command_words.proofs.Names.{no_folder, of_found}
use Rattle.command_words.proofs.check.check_words.Goals as goal

pub taken-requires : goal.taken-requires
taken-requires c = record {
  simple = subst (λ (app : App). is_simple_and_free app ≡ true) (sym c.in_ok-command.ensures)
      check_is_simple;
}

pub returns-in-Some-clause-none : goal.returns-in-Some-clause-none
returns-in-Some-clause-none c =
    let words = texts c.args.words.now in
    let value = first_value (found_of c.in-Some.matches) (codes "source") in
    let found = of_found _ _ c.in_ok-matches.field-0 c.in-Some.matches c.in-Some.is
    c.in_ok-matches.ensures in
    let same : value ≡ value_of check_command words (codes "source") =
    found.1 (codes "source")
    ∙ ap (λ (app : App). value_of app words (codes "source")) c.in_ok-command.ensures in
    no_folder _ value words c.named.result same c.named.ensures
