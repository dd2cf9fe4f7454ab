-- Words that ask about the program.
use Rattle.std.proofs.Common.{◌≡◌, ◌∙◌, ◌+◌, ◌<◌, ◌||◌, ℕ, zero, suc, Bool, true, false, List, []}
use Rattle.std.proofs.Common.{◌∷◌, String, string_bytes, length, get_or, take, ap, arith, refl}
use Rattle.command_words.specs.Requests.{has_either, is_either}
use Rattle.command_words.specs.Taken.{texts}

only_one : (a : Bool) → (a || false) ≡ a
only_one true = refl
only_one false = refl

regroup : (a b c : Bool) → (a || (b || c)) ≡ ((a || b) || c)
regroup true b c = refl
regroup false b c = refl

-- with one word more
pub one_more : {A : Type 0} (one other : List ℕ) (words : List (String A)) (i : ℕ)
    (word : String A) → i < length words →
    has_either one other (texts (take (i + 1) words))
    ≡ (has_either one other (texts (take i words))
    || is_either one other (string_bytes (get_or words i word)))
one_more one other [] i word within = absurd (omega arith)
one_more one other (w ∷ ws) zero word within = only_one (is_either one other (string_bytes w))
one_more one other (w ∷ ws) (suc i) word within =
    let next : suc i + 1 ≡ suc (i + 1) = omega arith in
    rw next (ap (λ (b : Bool). is_either one other (string_bytes w) || b)
    (one_more one other ws i word (omega (arith, within)))
    ∙ regroup (is_either one other (string_bytes w)) (has_either one other (texts (take i ws)))
    (is_either one other (string_bytes (get_or ws i word))))
