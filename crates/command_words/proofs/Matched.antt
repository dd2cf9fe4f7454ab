-- What a parse says of the words, by the command alone.
use Rattle.std.proofs.Common.{◌≡◌, ◌∙◌, ◌&&◌, Bool, true, false, ℕ, List, [], Result, Ok, Err, IfOk}
use Rattle.std.proofs.Common.{inl, inr, ap, refl, subst}
use Rattle.clap.specs.Faults.{fault_of, is_free_app, is_simple_and_free}
use Rattle.clap.specs.Kinds.{FailsBy, HasKind, IsAmong, Kinds}
use Rattle.clap.specs.Matches.{first_value, found_of}
use Rattle.clap.specs.Simple.{App, HasMatchesOf, built, is_simple}
use Rattle.clap.specs.Values.{kind_of}
use Rattle.clap.specs.Walk.{Row, first_of}
use Rattle.clap.specs.declared.error.Error.{Error}
use Rattle.clap.specs.declared.error.kind.ErrorKind.TheVariants.{OutOfMemory}
use Rattle.clap.specs.declared.parser.matches.ArgMatches.{ArgMatches}
use Rattle.clap.proofs.WalkLemmas.{first_value-rows}
use Rattle.command_words.specs.Taken.{refusals, value_of}

first_true : (a b : Bool) → (a && b) ≡ true → a ≡ true
first_true true b both = refl
first_true false b both = both

-- words that a command takes have the values that it gives them
pub taken_by : (command : App) (words : List (List ℕ)) (result : Result ArgMatches Error)
    (matches : ArgMatches) → is_simple_and_free command ≡ true →
    FailsBy (fault_of command words) result → IfOk result (HasMatchesOf command words) →
    result ≡ Ok matches → (refusals command words ≡ [])
    × ((name : List ℕ) → first_value (found_of matches) name ≡ value_of command words name)
unfolding refusals value_of
taken_by command words result matches free fails has is =
    let simple = first_true (is_simple command) (is_free_app (built command)) free in
    let none : fault_of command words ≡ [] =
    subst (λ (r : Result ArgMatches Error). FailsBy (fault_of command words) r) is fails in
    let rows : HasMatchesOf command words matches =
    subst (λ (r : Result ArgMatches Error). IfOk r (HasMatchesOf command words)) is has in (
      none,
      λ name. first_value-rows (found_of matches) name
          ∙ ap (λ (rs : List Row). first_of name rs) (rows simple).0,
    )

no_kind : (kinds : Kinds) (e : Error) → HasKind kinds e → (kind_of e ≡ OutOfMemory → ⊥) →
    kinds ≡ [] → ⊥
no_kind kinds e (inl memory) some none = some memory
no_kind kinds e (inr among) some none = subst (IsAmong (kind_of e)) none among

-- words that it doesn't take are refused
pub refused_by : (command : App) (words : List (List ℕ)) (result : Result ArgMatches Error)
    (e : Error) → FailsBy (fault_of command words) result → result ≡ Err e →
    (kind_of e ≡ OutOfMemory → ⊥) → refusals command words ≡ [] → ⊥
unfolding refusals
refused_by command words result e fails is some =
    no_kind (fault_of command words) e
    (subst (λ (r : Result ArgMatches Error). FailsBy (fault_of command words) r) is fails) some
