-- The first 1 of four bits, as run mode has it.
use Rattle.std.proofs.Common.{◌%◌, ◌≡◌, ◌↔◌, Bool, true, false, ◌||◌, refl, sym}
use Rattle.std.specs.Prelude.{◌==◌, nat_le}
use Rattle.std.proofs.lemmas.Bool.{false≢true}
use Rattle.ebcot_contexts.specs.Asks.{first}

abbrev any : Bool → Bool → Bool → Bool → Bool
any a b c d = a || b || c || d

abbrev upper : Bool → Bool → Bool → Bool
upper a b c = nat_le 2 (first a b c)

abbrev lower : Bool → Bool → Bool → Bool
lower a b c = first a b c % 2 == 1

-- what run mode answers: that there is a 1, and the two bits of its number
abbrev pub RunShown : Bool → Bool → Bool → Bool → Bool → Bool → Type 0
RunShown a b c d h l = (true ≡ any a b c d) × (h ≡ upper a b c) × (l ≡ lower a b c)

pub none : (a b c d : Bool) → ((false ≡ a) × (false ≡ b) × (false ≡ c) × (false ≡ d)) ↔
    (false ≡ any a b c d)
none false false false false = (λ r. refl, λ e. (refl, refl, refl, refl))
none true b c d = (λ r. absurd (false≢true r.0), λ e. absurd (false≢true e))
none false true c d = (λ r. absurd (false≢true r.1), λ e. absurd (false≢true e))
none false false true d = (λ r. absurd (false≢true r.2), λ e. absurd (false≢true e))
none false false false true = (λ r. absurd (false≢true r.3), λ e. absurd (false≢true e))

pub at_0 : (a b c d : Bool) → (true ≡ a) ↔ RunShown a b c d false false
at_0 true b c d = (λ e. (refl, refl, refl), λ r. refl)
at_0 false true c d = (λ e. absurd (false≢true (sym e)), λ r. absurd (false≢true r.2))
at_0 false false true d = (λ e. absurd (false≢true (sym e)), λ r. absurd (false≢true r.1))
at_0 false false false d = (λ e. absurd (false≢true (sym e)), λ r. absurd (false≢true r.1))

pub at_1 : (a b c d : Bool) → ((false ≡ a) × (true ≡ b)) ↔ RunShown a b c d false true
at_1 false true c d = (λ e. (refl, refl, refl), λ r. (refl, refl))
at_1 true b c d = (λ e. absurd (false≢true e.0), λ r. absurd (false≢true (sym r.2)))
at_1 false false true d = (λ e. absurd (false≢true (sym e.1)), λ r. absurd (false≢true r.1))
at_1 false false false d = (λ e. absurd (false≢true (sym e.1)), λ r. absurd (false≢true r.1))

pub at_2 : (a b c d : Bool) → ((false ≡ a) × (false ≡ b) × (true ≡ c)) ↔ RunShown a b c d true false
at_2 false false true d = (λ e. (refl, refl, refl), λ r. (refl, refl, refl))
at_2 true b c d = (λ e. absurd (false≢true e.0), λ r. absurd (false≢true (sym r.1)))
at_2 false true c d = (λ e. absurd (false≢true e.1), λ r. absurd (false≢true (sym r.1)))
at_2 false false false d = (λ e. absurd (false≢true (sym e.2)), λ r. absurd (false≢true r.2))

pub at_3 : (a b c d : Bool) → ((false ≡ a) × (false ≡ b) × (false ≡ c) ×
    (true ≡ d)) ↔ RunShown a b c d true true
at_3 false false false true = (λ e. (refl, refl, refl), λ r. (refl, refl, refl, refl))
at_3 false false false false =
    (λ e. absurd (false≢true (sym e.3)), λ r. absurd (false≢true (sym r.0)))
at_3 true b c d = (λ e. absurd (false≢true e.0), λ r. absurd (false≢true (sym r.1)))
at_3 false true c d = (λ e. absurd (false≢true e.1), λ r. absurd (false≢true (sym r.1)))
at_3 false false true d = (λ e. absurd (false≢true e.2), λ r. absurd (false≢true (sym r.2)))
