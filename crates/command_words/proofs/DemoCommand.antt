-- The command of the mode `demo`, and what words name by the values of a parse.
use Rattle.std.proofs.Common.{◌≡◌, ◌∙◌, true, ℕ, List, [], Option, Some, None, IfNone}
use Rattle.std.proofs.Common.{MatchOption, ap, arith, codes, refl, slice_index, subst, sym}
use Rattle.std.proofs.Common.{unwrap_or}
use Rattle.budget_duals.specs.declared.limits.Limits.{Limits}
use Rattle.cert_text.specs.Words.{profile_word}
use Rattle.cine_nums.specs.declared.profile.Profile.{Profile}
use Rattle.cine_nums.specs.declared.profile.Profile.TheVariants.{TwoK, FourK}
use Rattle.clap.specs.Faults.{is_simple_and_free}
use Rattle.clap.specs.Simple.{App, new_app, with_rule}
use Rattle.clap.specs.Walk.{Rule}
use Rattle.clap.proofs.OnLiterals.{clap_on_literals}
use Rattle.command_words.specs.Demo.{demo_command, AreDemo, NamesDemo}
use Rattle.command_words.specs.Encode.{option, positional, required_option}
use Rattle.command_words.specs.Limits.{LimitsBy}
use Rattle.command_words.specs.Taken.{value_of}

-- its matches and refusals are known from the words
pub is_simple : is_simple_and_free demo_command ≡ true
unfolding demo_command clap_on_literals
is_simple = refl

-- it is made argument by argument
pub five_arguments : (a b c d e f : App) → a ≡ new_app (codes "demo") →
    b ≡ with_rule a (positional (codes "number")) →
    c ≡ with_rule b (required_option (codes "profile")) →
    d ≡ with_rule c (option (codes "frame-bytes")) →
    e ≡ with_rule d (option (codes "inner-bytes")) →
    f ≡ with_rule e (option (codes "component-bytes")) → f ≡ demo_command
unfolding demo_command
five_arguments a b c d e f p q0 q1 q2 q3 q4 =
    q4 ∙ more (option (codes "component-bytes")) (q3 ∙ more (option (codes "inner-bytes"))
    (q2 ∙ more (option (codes "frame-bytes")) (q1 ∙ more (required_option (codes "profile"))
    (q0 ∙ more (positional (codes "number")) p))))
  where
    more : (rule : Rule) {m n : App} → m ≡ n → with_rule m rule ≡ with_rule n rule
    more rule same = ap (λ (app : App). with_rule app rule) same

-- values that are the same by their names name the same
pub same_names : (f g : List ℕ → Option (List ℕ)) (number : ℕ) (profile : Profile)
    (limits : Limits) → ((name : List ℕ) → f name ≡ g name) →
    NamesDemo f number profile limits → NamesDemo g number profile limits
same_names f g number profile limits same names = record {
  word = names.word;
  has_word = sym (same (codes "number")) ∙ names.has_word;
  number_is = names.number_is;
  profile_is = sym (same (codes "profile")) ∙ names.profile_is;
  limits_are =
      subst (λ (w : Option (List ℕ)). LimitsBy profile w (g (codes "inner-bytes"))
      (g (codes "component-bytes")) limits) (same (codes "frame-bytes"))
      (subst (λ (w : Option (List ℕ)). LimitsBy profile (f (codes "frame-bytes")) w
      (g (codes "component-bytes")) limits) (same (codes "inner-bytes"))
      (subst (λ (w : Option (List ℕ)). LimitsBy profile (f (codes "frame-bytes"))
      (f (codes "inner-bytes")) w limits) (same (codes "component-bytes")) names.limits_are));
}

-- where the values of a parse name nothing, the words are no command
pub none_named : {T : Type 0} (P : T → Type 0) (f : List ℕ → Option (List ℕ))
    (words : List (List ℕ)) (named : Option T) →
    ((name : List ℕ) → f name ≡ value_of demo_command words name) →
    MatchOption named ((number : ℕ) (profile : Profile) (limits : Limits) →
    NamesDemo f number profile limits → ⊥) P → IfNone named (AreDemo words → ⊥)
none_named P f words None same none = λ are.
    none are.0 are.1 are.2 (same_names (value_of demo_command words) f are.0 are.1 are.2
    (λ name. sym (same name)) are.3.names)
none_named P f words (Some x) same found = tt

-- a word names one profile
one_profile : (p q : Profile) → profile_word p ≡ profile_word q → p ≡ q
one_profile TwoK TwoK same = refl
one_profile TwoK FourK same =
    let bad : 50 ≡ 52 = ap (λ (w : List ℕ). slice_index w 0) same in absurd (omega (arith, bad))
one_profile FourK TwoK same =
    let bad : 52 ≡ 50 = ap (λ (w : List ℕ). slice_index w 0) same in absurd (omega (arith, bad))
one_profile FourK FourK same = refl

-- values of which no limits come name nothing
pub no_limits : (f : List ℕ → Option (List ℕ)) (profile : Profile)
    (word : List ℕ) (frame inner component : Option (List ℕ)) → Some word ≡ f (codes "profile") →
    word ≡ profile_word profile → frame ≡ f (codes "frame-bytes") →
    inner ≡ f (codes "inner-bytes") → component ≡ f (codes "component-bytes") →
    ((limits : Limits) → LimitsBy profile frame inner component limits → ⊥) →
    (number : ℕ) (p : Profile) (limits : Limits) → NamesDemo f number p limits → ⊥
no_limits f profile word frame inner component has spelt is_frame is_inner is_component none number
    p limits names =
    let words : Some (profile_word profile) ≡ Some (profile_word p) =
    ap Some (sym spelt) ∙ has ∙ names.profile_is in
    let same : p ≡ profile = one_profile p profile
    (ap (λ (o : Option (List ℕ)). unwrap_or o []) (sym words)) in
    none limits
    (subst (λ (q : Profile). LimitsBy q frame inner component limits) same
    (subst (λ (w : Option (List ℕ)). LimitsBy p w inner component limits) (sym is_frame)
    (subst (λ (w : Option (List ℕ)). LimitsBy p (f (codes "frame-bytes")) w component limits)
    (sym is_inner)
    (subst (λ (w : Option (List ℕ)). LimitsBy p (f (codes "frame-bytes")) (f (codes "inner-bytes"))
    w limits) (sym is_component) names.limits_are))))
