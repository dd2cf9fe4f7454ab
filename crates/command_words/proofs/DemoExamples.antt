-- Words of the mode `demo` that are written out, by the definition alone.
use Rattle.std.proofs.Common.{◌≡◌, ℕ, List, [], ◌∷◌, Option, None, ap, arith, codes, refl}
use Rattle.std.proofs.Common.{unwrap_or}
use Rattle.std.specs.Str.Parse.{digits_value}
use Rattle.cine_nums.specs.declared.profile.Profile.TheVariants.{TwoK}
use Rattle.clap.specs.declared.error.kind.ErrorKind.TheVariants.{MissingRequiredArgument}
use Rattle.clap.proofs.OnLiterals.{clap_on_literals}
use Rattle.command_words.specs.Demo.{demo_command, AreDemo, IsDemo}
use Rattle.command_words.specs.Taken.{refusals, value_of}

abbrev numbered : List ℕ → List (List ℕ) → List (List ℕ)
numbered number more =
    codes "demo" ∷ number ∷ codes "--profile" ∷ codes "2k" ∷ more

-- demo 0 --profile 2k --frame-bytes 349
pub lowered : IsDemo (numbered (codes "0") (codes "--frame-bytes" ∷ codes "349" ∷ [])) 0 TwoK
    (record { frame = 349; inner = None; component = 1041666 ∷ 1041666 ∷ 1041666 ∷ [] })
unfolding refusals value_of demo_command clap_on_literals
lowered = record {
  mode = refl;
  taken = refl;
  names = record {
    word = codes "0";
    has_word = refl;
    number_is = record {
      digits = (omega arith, (omega arith, tt));
      value = refl;
      most = omega arith;
    };
    profile_is = refl;
    limits_are = record {
      frame = record {
        digits = (omega arith, (omega arith, (omega arith, (omega arith, tt))));
        value = refl;
        least = omega arith;
        low = omega arith;
      };
      inner = refl;
      component = 1041666;
      lowered = refl;
      components = refl;
    };
  };
}

-- demo 4294967296 --profile 2k
pub number_of_2_32 : AreDemo (numbered (codes "4294967296") []) → ⊥
unfolding value_of demo_command clap_on_literals
number_of_2_32 are =
    let names = are.3.names in
    let value : digits_value 10 (codes "4294967296") ≡ digits_value 10 names.word =
    ap (λ (word : Option (List ℕ)). digits_value 10 (unwrap_or word [])) names.has_word in
    absurd (omega (arith, value, names.number_is.value, names.number_is.most))

-- demo --profile 2k
pub no_number : AreDemo (codes "demo" ∷ codes "--profile" ∷ codes "2k" ∷ []) → ⊥
unfolding refusals demo_command clap_on_literals
no_number are = let none : MissingRequiredArgument ∷ [] ≡ [] = are.3.taken in absurd cc
