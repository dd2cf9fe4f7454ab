-- The commands of the modes.
use Rattle.std.proofs.Common.{◌≡◌, ◌∙◌, true, refl, ap, codes}
use Rattle.clap.specs.Faults.{is_simple_and_free}
use Rattle.clap.specs.Simple.{App, new_app, with_rule}
use Rattle.clap.specs.Walk.{Rule}
use Rattle.clap.proofs.OnLiterals.{clap_on_literals}
use Rattle.command_words.specs.Check.{check_command}
use Rattle.command_words.specs.Encode.{encode_command, option, positional, required_option}

-- their matches and refusals are known from the words
pub is_simple : is_simple_and_free encode_command ≡ true
unfolding encode_command clap_on_literals
is_simple = refl

pub check_is_simple : is_simple_and_free check_command ≡ true
unfolding check_command clap_on_literals
check_is_simple = refl

-- they are made argument by argument
pub six_arguments : (a b c d e f g : App) → a ≡ new_app (codes "encode") →
    b ≡ with_rule a (positional (codes "source")) →
    c ≡ with_rule b (positional (codes "target")) →
    d ≡ with_rule c (required_option (codes "profile")) →
    e ≡ with_rule d (option (codes "frame-bytes")) →
    f ≡ with_rule e (option (codes "inner-bytes")) →
    g ≡ with_rule f (option (codes "component-bytes")) → g ≡ encode_command
unfolding encode_command
six_arguments a b c d e f g p q0 q1 q2 q3 q4 q5 =
    q5 ∙ more (option (codes "component-bytes")) (q4 ∙ more (option (codes "inner-bytes"))
    (q3 ∙ more (option (codes "frame-bytes")) (q2 ∙ more (required_option (codes "profile"))
    (q1 ∙ more (positional (codes "target")) (q0 ∙ more (positional (codes "source")) p)))))
  where
    more : (rule : Rule) {m n : App} → m ≡ n → with_rule m rule ≡ with_rule n rule
    more rule same = ap (λ (app : App). with_rule app rule) same

pub one_argument : (a b : App) → a ≡ new_app (codes "check") →
    b ≡ with_rule a (positional (codes "source")) → b ≡ check_command
unfolding check_command
one_argument a b p q =
    q ∙ ap (λ (app : App). with_rule app (positional (codes "source"))) p
