-- The symbols of more passes begin with those of fewer, so their code is longer than what these
-- put out.
use Rattle.std.proofs.Common.{ℕ, zero, suc, ◌+◌, ◌-◌, ◌≤◌, ◌≡◌, Bool, List, [], ◌++◌, length}
use Rattle.std.proofs.Common.{append_assoc, append-nil, sym, ap, ◌∙◌, subst, arith}
use Rattle.mq_coder.specs.Code.{code, coded}
use Rattle.mq_coder.specs.Mark.{IsMarkOf}
use Rattle.mq_coder.specs.declared.mark.Mark.{Mark}
use Rattle.mq_coder.proofs.Grown.{later_long}
use Rattle.ebcot_contexts.specs.Asks.{symbols, outcome}
use Rattle.ebcot_contexts.specs.Contexts.{Shape}
use Rattle.ebcot_contexts.specs.Passes.{block, pass}
use Rattle.ebcot_contexts.specs.Meaning.{symbols_of}
use Rattle.ebcot_contexts.proofs.Loops.{pass_symbols}

-- d passes more than k
abbrev up : ℕ → ℕ → ℕ
up k zero = k
up k (suc d) = suc (up k d)

up_is : (k d : ℕ) → up k d ≡ k + d
up_is k zero = omega arith
up_is k (suc d) = let e = up_is k d in omega (arith, e)

-- their symbols beside those of the first k passes
abbrev more_of : List (ℕ × Bool) → Shape → ℕ → ℕ → List (ℕ × Bool)
more_of coefs s k zero = []
more_of coefs s k (suc d) =
    more_of coefs s k d ++ symbols coefs (pass s (up k d) (outcome coefs (block s (up k d))))

begins_with : (coefs : List (ℕ × Bool)) (s : Shape) (k d : ℕ) →
    symbols_of coefs s (up k d) ≡ symbols_of coefs s k ++ more_of coefs s k d
begins_with coefs s k zero = sym (append-nil (symbols_of coefs s k))
begins_with coefs s k (suc d) =
    let next = symbols coefs (pass s (up k d) (outcome coefs (block s (up k d)))) in
    pass_symbols coefs s (up k d)
    ∙ ap (λ (l : List (ℕ × Bool)). l ++ next) (begins_with coefs s k d)
    ∙ append_assoc (symbols_of coefs s k) (more_of coefs s k d) next

-- the ended code of as many passes or more is longer than what the first k put out
pub later_codes : (coefs : List (ℕ × Bool)) (s : Shape) (k j : ℕ) → k ≤ j →
    length (coded (symbols_of coefs s k)).bytes + 1 ≤ length (code (symbols_of coefs s j))
later_codes coefs s k j le =
    let made = up_is k (j - k) in
    let same : up k (j - k) ≡ j = omega (arith, le, made) in
    let put : ℕ = length (coded (symbols_of coefs s k)).bytes in
    subst (λ (v : ℕ). put + 1 ≤ length (code (symbols_of coefs s v))) same
    (subst (λ (l : List (ℕ × Bool)). put + 1 ≤ length (code l))
    (sym (begins_with coefs s k (j - k)))
    (later_long (symbols_of coefs s k) (more_of coefs s k (j - k))))

-- and than the bytes of their mark
pub later_bytes : (coefs : List (ℕ × Bool)) (s : Shape) (k j : ℕ) (mark : Mark) (buffer : List ℕ) →
    IsMarkOf mark buffer (symbols_of coefs s k) → k ≤ j →
    mark.count + 1 ≤ length (code (symbols_of coefs s j))
later_bytes coefs s k j mark buffer is le =
    let long = later_codes coefs s k j le in
    let count = is.count in
    omega (arith, long, count)
