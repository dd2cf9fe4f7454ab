-- A last byte FF gives the ones that follow a string anyway.
use Rattle.std.proofs.Common.{◌≡◌, ℕ, ◌+◌, ◌-◌, ◌*◌, ◌/◌, ◌^◌, ◌<◌, Bool, true, false, eqb, List}
use Rattle.std.proofs.Common.{[], ◌∷◌, ◌++◌, refl, sym, ap, ◌∙◌, arith}
use Rattle.std.proofs.lemmas.Nat.{pow_pos}
use Rattle.mq_coder.specs.Decisions.{look, ones}
use Rattle.mq_coder.proofs.Arithmetic.{split_pow, ones_div}
use Rattle.mq_coder.proofs.Look.{join, look_cut, look_short_by, look_long_by, look_end, look_cases}

pub ones_short : (acc d k : ℕ) → d + k ≡ 8 → (acc * 2 ^ 8 + 255) / 2 ^ k ≡ ones acc d
ones_short acc d k e =
    let s : 2 ^ 8 ≡ 2 ^ d * 2 ^ k = split_pow d k 8 e in
    let m : (acc + 1) * 2 ^ 8 ≡ (acc + 1) * (2 ^ d * 2 ^ k) = ap (λ x. (acc + 1) * x) s in
    let p : 0 < 2 ^ d = pow_pos d in
    let h : acc * 2 ^ 8 + 255 ≡ (acc + 1) * 2 ^ d * 2 ^ k - 1 = omega arith in
    ap (λ x. x / 2 ^ k) h ∙ ones_div ((acc + 1) * 2 ^ d) (2 ^ k) (omega arith) (pow_pos k)

pub ones_long : (acc d k : ℕ) → d ≡ 8 + k → ones (acc * 2 ^ 8 + 255) k ≡ ones acc d
ones_long acc d k e =
    let s : 2 ^ d ≡ 2 ^ 8 * 2 ^ k = split_pow 8 k d (sym e) in
    let m : (acc + 1) * 2 ^ d ≡ (acc + 1) * (2 ^ 8 * 2 ^ k) = ap (λ x. (acc + 1) * x) s in
    omega arith

alone : (acc : ℕ) (ff : Bool) (d : ℕ) → look acc ff (255 ∷ []) d ≡ ones acc d
alone acc true d = look_cut acc true 255 [] d refl
alone acc false d =
    look_cases (λ y. y ≡ ones acc d) acc false 255 [] d
    (λ h. refl)
    (λ k h e. ones_short acc d k e)
    (λ k h p e. look_end (join acc false 255) true k ∙ ones_long acc d k e)

pub look_ff : (acc : ℕ) (ff : Bool) (bs : List ℕ) (d : ℕ) →
    look acc ff (bs ++ 255 ∷ []) d ≡ look acc ff bs d
look_ff acc ff [] d = alone acc ff d ∙ sym (look_end acc ff d)
look_ff acc ff (b ∷ r) d =
    look_cases (λ y. look acc ff (b ∷ (r ++ 255 ∷ [])) d ≡ y) acc ff b r d
    (λ h. look_cut acc ff b (r ++ 255 ∷ []) d h)
    (λ k h e. look_short_by acc ff b (r ++ 255 ∷ []) d k h e)
    (λ k h p e. look_long_by acc ff b (r ++ 255 ∷ []) d k h p e
    ∙ look_ff (join acc ff b) (eqb b 255) r k)
