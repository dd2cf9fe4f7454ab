use Rattle.std.proofs.Common.{◌≡◌, ◌∙◌, ℕ, List, true, ap, subst, sym}
use Rattle.clap.specs.Faults.{is_simple_and_free}
use Rattle.clap.specs.Matches.{first_value, found_of}
use Rattle.clap.specs.Simple.{App}
use Rattle.command_words.specs.Demo.{demo_command}
use Rattle.command_words.specs.Taken.{texts, value_of}
use Rattle.command_words.proofs.DemoCommand.{is_simple, none_named}
use Rattle.command_words.proofs.Names.{of_found}
use Rattle.command_words.proofs.demo.demo_words.Goals as goal

pub taken-requires : goal.taken-requires
taken-requires c = record {
  simple = subst (λ (app : App). is_simple_and_free app ≡ true) (sym c.in_ok-command.ensures)
      is_simple;
}

pub returns-in-Some-clause-none : goal.returns-in-Some-clause-none
returns-in-Some-clause-none c =
    let words = texts c.args.words.now in
    let value = first_value (found_of c.in-Some.matches) in
    let found = of_found _ _ c.in_ok-matches.field-0 c.in-Some.matches c.in-Some.is
    c.in_ok-matches.ensures in
    let same : (name : List ℕ) → value name ≡ value_of demo_command words name = λ name.
    found.1 name ∙ ap (λ (app : App). value_of app words name) c.in_ok-command.ensures in
    none_named _ value words c.named.result same c.named.ensures
