use Rattle.std.proofs.Common.{ℕ, zero, suc, ◌<◌, ◌≡◌, Bool, true, nat_lt, List, [], ◌∷◌, leb}
use Rattle.std.proofs.Common.{get_or, refl, ap, ◌∙◌}
use Rattle.std.specs.List.{list_all}
use Rattle.std.proofs.lemmas.Bool.{and_parts, ltb-true}
use Rattle.std.specs.Prelude.{bit_and}
use Rattle.flag_words.specs.declared.signs.TheConstants.{SIGN_CONTEXTS}
use Rattle.flag_words.proofs.Neighbours.{sign_by}
use Rattle.flag_words.proofs.signs.sign_context.Goals as goal

test : ℕ → Bool
test v = nat_lt (bit_and v 127) 19

all_at : (xs : List ℕ) (n : ℕ) → list_all test xs ≡ true → test (get_or xs n 0) ≡ true
unfolding test
all_at [] n h = refl
all_at (x ∷ xs) zero h = (and_parts _ _ h).0
all_at (x ∷ xs) (suc n) h = all_at xs n (and_parts _ _ h).1

all_few : list_all test SIGN_CONTEXTS ≡ true
unfolding test
all_few = refl

few_at : (n : ℕ) → bit_and (get_or SIGN_CONTEXTS n 0) 127 < 19
unfolding test
few_at n = ltb-true _ _ (all_at SIGN_CONTEXTS n all_few)

pub returns-clause-few : goal.returns-clause-few
returns-clause-few c = few_at c.sign_index.result

pub returns-clause-context : goal.returns-clause-context
returns-clause-context c = λ s p i column stripe cells at some is_left is is_right.
    ap (λ (n : ℕ). (
      bit_and (get_or SIGN_CONTEXTS n 0) 127,
      leb 128
          (get_or SIGN_CONTEXTS n 0),
    )) c.sign_index.ensures
    ∙ sign_by s p i column stripe c.args.r cells c.args.left c.args.word c.args.right c.requires at some is_left is is_right
