-- What words name, by the values of a parse or by those of the command: they are the same.
use Rattle.std.proofs.Common.{◌≡◌, ◌∙◌, ℕ, List, [], Option, Some, None, IfNone, MatchOption, codes}
use Rattle.std.proofs.Common.{ap, arith, refl, slice_index, subst, sym, unwrap_or}
use Rattle.budget_duals.specs.declared.limits.Limits.{Limits}
use Rattle.cert_text.specs.Words.{profile_word}
use Rattle.cine_nums.specs.declared.profile.Profile.{Profile}
use Rattle.cine_nums.specs.declared.profile.Profile.TheVariants.{TwoK, FourK}
use Rattle.command_words.specs.Check.{check_command, AreCheck}
use Rattle.command_words.specs.Encode.{encode_command, AreEncode, NamesEncode}
use Rattle.command_words.specs.Limits.{LimitsBy}
use Rattle.command_words.specs.Taken.{value_of}

pub same_names : (f g : List ℕ → Option (List ℕ)) (source target : List ℕ) (profile : Profile)
    (limits : Limits) → ((name : List ℕ) → f name ≡ g name) →
    NamesEncode f source target profile limits → NamesEncode g source target profile limits
same_names f g source target profile limits same names = record {
  source_is = sym (same (codes "source")) ∙ names.source_is;
  target_is = sym (same (codes "target")) ∙ names.target_is;
  profile_is = sym (same (codes "profile")) ∙ names.profile_is;
  limits_are =
      subst (λ (w : Option (List ℕ)). LimitsBy profile w (g (codes "inner-bytes"))
      (g (codes "component-bytes")) limits) (same (codes "frame-bytes"))
      (subst (λ (w : Option (List ℕ)). LimitsBy profile (f (codes "frame-bytes")) w
      (g (codes "component-bytes")) limits) (same (codes "inner-bytes"))
      (subst (λ (w : Option (List ℕ)). LimitsBy profile (f (codes "frame-bytes"))
      (f (codes "inner-bytes")) w limits) (same (codes "component-bytes")) names.limits_are));
}

-- where the values of a parse name nothing, the words are no command
pub none_named : {T : Type 0} (P : T → Type 0) (f : List ℕ → Option (List ℕ))
    (words : List (List ℕ)) (named : Option T) →
    ((name : List ℕ) → f name ≡ value_of encode_command words name) →
    MatchOption named ((source target : List ℕ) (profile : Profile) (limits : Limits) →
    NamesEncode f source target profile limits → ⊥) P → IfNone named (AreEncode words → ⊥)
none_named P f words None same none = λ are.
    none are.0 are.1 are.2 are.3 (same_names (value_of encode_command words) f are.0 are.1 are.2
    are.3 (λ name. sym (same name)) are.4.names)
none_named P f words (Some x) same found = tt

-- the same of the mode `check`, whose one value is a folder
pub no_folder : {T : Type 0} (P : T → Type 0) (value : Option (List ℕ)) (words : List (List ℕ))
    (named : Option T) → value ≡ value_of check_command words (codes "source") →
    MatchOption named ((source : List ℕ) → value ≡ Some source → ⊥) P →
    IfNone named (AreCheck words → ⊥)
no_folder P value words None same none = λ are. none are.0 (same ∙ are.1.source_is)
no_folder P value words (Some x) same found = tt

-- what holds of a value that was found
pub of_found : {T : Type 0} (N : Type 0) (P : T → Type 0) (found : Option T) (x : T) →
    found ≡ Some x → MatchOption found N P → P x
of_found {T} N P found x is holds = subst (λ (o : Option T). MatchOption o N P) is holds

-- what holds where there is no value
pub of_none : {T : Type 0} (N : Type 0) (P : T → Type 0) (found : Option T) → found ≡ None → N →
    MatchOption found N P
of_none {T} N P found is holds = subst (λ (o : Option T). MatchOption o N P) (sym is) holds

-- a word names one profile
one_profile : (p q : Profile) → profile_word p ≡ profile_word q → p ≡ q
one_profile TwoK TwoK same = refl
one_profile TwoK FourK same =
    let bad : 50 ≡ 52 = ap (λ (w : List ℕ). slice_index w 0) same in absurd (omega (arith, bad))
one_profile FourK TwoK same =
    let bad : 52 ≡ 50 = ap (λ (w : List ℕ). slice_index w 0) same in absurd (omega (arith, bad))
one_profile FourK FourK same = refl

-- values of which no limits come name nothing
pub no_limits : (f : List ℕ → Option (List ℕ)) (profile : Profile)
    (word : List ℕ) (frame inner component : Option (List ℕ)) → Some word ≡ f (codes "profile") →
    word ≡ profile_word profile → frame ≡ f (codes "frame-bytes") →
    inner ≡ f (codes "inner-bytes") → component ≡ f (codes "component-bytes") →
    ((limits : Limits) → LimitsBy profile frame inner component limits → ⊥) →
    (source target : List ℕ) (p : Profile) (limits : Limits) →
    NamesEncode f source target p limits → ⊥
no_limits f profile word frame inner component has spelt is_frame is_inner is_component none source
    target p limits names =
    let words : Some (profile_word profile) ≡ Some (profile_word p) =
    ap Some (sym spelt) ∙ has ∙ names.profile_is in
    let same : p ≡ profile = one_profile p profile
    (ap (λ (o : Option (List ℕ)). unwrap_or o []) (sym words)) in
    none limits
    (subst (λ (q : Profile). LimitsBy q frame inner component limits) same
    (subst (λ (w : Option (List ℕ)). LimitsBy p w inner component limits) (sym is_frame)
    (subst (λ (w : Option (List ℕ)). LimitsBy p (f (codes "frame-bytes")) w component limits)
    (sym is_inner)
    (subst (λ (w : Option (List ℕ)). LimitsBy p (f (codes "frame-bytes")) (f (codes "inner-bytes"))
    w limits) (sym is_component) names.limits_are))))
