-- What a run of appends makes.
use Rattle.std.proofs.Common.{◌≡◌, ℕ, List, [], ◌++◌, append_assoc, ◌∙◌, ap}

-- two from nothing on, then four more
pub two_and_four : (none a b c d e f x y z w new : List ℕ) → none ≡ [] → x ≡ none ++ a ++ b →
    y ≡ x ++ c → z ≡ y ++ d →
    w ≡ z ++ e → new ≡ w ++ f → new ≡ a ++ b ++ c ++ d ++ e ++ f
two_and_four none a b c d e f x y z w new nothing p q r s t =
    t ∙ ap (λ v. v ++ f) (s ∙ ap (λ v. v ++ e)
    (r ∙ ap (λ v. v ++ d) (q ∙ ap (λ v. v ++ c) (p ∙ ap (λ v. v ++ a ++ b) nothing))))
    ∙ simp append_assoc
