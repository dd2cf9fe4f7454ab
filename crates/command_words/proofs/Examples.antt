-- Words that are written out, by the definition alone.
use Rattle.std.proofs.Common.{◌≡◌, ℕ, List, [], ◌∷◌, Some, codes, refl, slice_index, ap, arith}
use Rattle.std.specs.Prelude.{Option, unwrap_or}
use Rattle.budget_duals.specs.Held.{limits_of}
use Rattle.cine_nums.specs.declared.profile.Profile.{Profile}
use Rattle.cine_nums.specs.declared.profile.Profile.TheVariants.{TwoK, FourK}
use Rattle.cert_text.specs.Words.{profile_word}
use Rattle.clap.specs.declared.error.kind.ErrorKind.TheVariants.{MissingRequiredArgument}
use Rattle.clap.proofs.OnLiterals.{clap_on_literals}
use Rattle.command_words.specs.Check.{check_command, AreCheck, IsCheck}
use Rattle.command_words.specs.Encode.{encode_command, AreEncode, IsEncode}
use Rattle.command_words.specs.Taken.{refusals, value_of}

abbrev four : List ℕ → List ℕ → List (List ℕ) → List (List ℕ)
four option value more = codes "encode" ∷ codes "src" ∷ codes "dst" ∷ option ∷ value ∷ more

-- encode src dst --profile 2k
pub plain : IsEncode (four (codes "--profile") (codes "2k") []) (codes "src") (codes "dst") TwoK
    (limits_of TwoK)
unfolding refusals value_of encode_command clap_on_literals
plain = record {
  mode = refl;
  taken = refl;
  names = record {
    source_is = refl;
    target_is = refl;
    profile_is = refl;
    limits_are = record {
      frame = refl;
      inner = refl;
      component = 1041666;
      lowered = refl;
      components = refl;
    };
  };
}

no_such_profile : (profile : Profile) → Some (codes "3k") ≡ Some (profile_word profile) → ⊥
no_such_profile TwoK same =
    let bad : 51 ≡ 50 = ap (λ (o : Option (List ℕ)). slice_index (unwrap_or o []) 0) same in
    absurd (omega (arith, bad))
no_such_profile FourK same =
    let bad : 51 ≡ 52 = ap (λ (o : Option (List ℕ)). slice_index (unwrap_or o []) 0) same in
    absurd (omega (arith, bad))

-- encode src dst --profile 3k
pub other_profile : AreEncode (four (codes "--profile") (codes "3k") []) → ⊥
unfolding value_of encode_command clap_on_literals
other_profile are = no_such_profile are.2 are.4.names.profile_is

-- encode src dst --profile 2k --frame-bytes 0
pub limit_of_0 : AreEncode (four (codes "--profile") (codes "2k")
    (codes "--frame-bytes" ∷ codes "0" ∷ [])) → ⊥
unfolding value_of encode_command clap_on_literals
limit_of_0 are =
    let frame = are.4.names.limits_are.frame in
    absurd (omega (arith, frame.value, frame.least))

-- encode src
pub one_folder : AreEncode (codes "encode" ∷ codes "src" ∷ []) → ⊥
unfolding refusals encode_command clap_on_literals
one_folder are = let none : MissingRequiredArgument ∷ [] ≡ [] = are.4.taken in absurd cc

-- check src
pub checked : IsCheck (codes "check" ∷ codes "src" ∷ []) (codes "src")
unfolding refusals value_of check_command clap_on_literals
checked = record { mode = refl; taken = refl; source_is = refl }

-- check
pub no_folder : AreCheck (codes "check" ∷ []) → ⊥
unfolding refusals check_command clap_on_literals
no_folder are = let none : MissingRequiredArgument ∷ [] ≡ [] = are.1.taken in absurd cc
