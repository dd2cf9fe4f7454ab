-- What the bytes of a string give: their digits as a number, how many, and strings that aren't cut.
use Rattle.std.proofs.Common.{◌≡◌, ℕ, zero, suc, ◌+◌, ◌-◌, ◌*◌, ◌/◌, ◌^◌, ◌<◌, ◌≤◌, Bool, true}
use Rattle.std.proofs.Common.{false, eqb, List, [], ◌∷◌, ◌++◌, refl, sym, ap, ◌∙◌, arith}
use Rattle.std.proofs.lemmas.Bool.{false≢true}
use Rattle.std.proofs.lemmas.Nat.{pow_pos, le-div}
use Rattle.std.proofs.Math.Nat.{div-mul-le_self}
use Rattle.mq_coder.specs.Decisions.{look, ones, width}
use Rattle.mq_coder.proofs.Look.{cut, join, look_short_by, look_long_by, look_end, look_cases}

-- the digits of acc and of the bytes, as a number
abbrev pub taken : ℕ → Bool → List ℕ → ℕ
taken acc ff [] = acc
taken acc ff (b ∷ r) = taken (join acc ff b) (eqb b 255) r

-- how many digits the bytes give
abbrev pub bits : Bool → List ℕ → ℕ
bits ff [] = 0
bits ff (b ∷ r) = width ff + bits (eqb b 255) r

-- whether the last byte is FF
abbrev pub ends_ff : Bool → List ℕ → Bool
ends_ff ff [] = ff
ends_ff ff (b ∷ r) = ends_ff (eqb b 255) r

-- bytes, with none above 8F after FF
abbrev pub Clean : Bool → List ℕ → Type 0
Clean ff [] = Unit {0}
Clean ff (b ∷ r) = (b ≤ 255) × (cut ff b ≡ false) × Clean (eqb b 255) r

pub taken_snoc : (acc : ℕ) (ff : Bool) (bs : List ℕ) (x : ℕ) →
    taken acc ff (bs ++ x ∷ []) ≡ join (taken acc ff bs) (ends_ff ff bs) x
taken_snoc acc ff [] x = refl
taken_snoc acc ff (b ∷ r) x = taken_snoc (join acc ff b) (eqb b 255) r x

pub bits_snoc : (ff : Bool) (bs : List ℕ) (x : ℕ) →
    bits ff (bs ++ x ∷ []) ≡ bits ff bs + width (ends_ff ff bs)
bits_snoc ff [] x = omega arith
bits_snoc ff (b ∷ r) x = let h : bits (eqb b 255) (r ++ x ∷ [])
    ≡ bits (eqb b 255) r + width (ends_ff (eqb b 255) r) = bits_snoc (eqb b 255) r x in omega arith

pub ends_snoc : (ff : Bool) (bs : List ℕ) (x : ℕ) → ends_ff ff (bs ++ x ∷ []) ≡ eqb x 255
ends_snoc ff [] x = refl
ends_snoc ff (b ∷ r) x = ends_snoc (eqb b 255) r x

pub Clean-snoc : (ff : Bool) (bs : List ℕ) (x : ℕ) → Clean ff bs → x ≤ 255 →
    cut (ends_ff ff bs) x ≡ false → Clean ff (bs ++ x ∷ [])
Clean-snoc ff [] x h le e = (le, e, tt)
Clean-snoc ff (b ∷ r) x h le e = (h.0, h.1, Clean-snoc (eqb b 255) r x h.2 le e)

pub Clean-prefix : (ff : Bool) (bs : List ℕ) (x : ℕ) → Clean ff (bs ++ x ∷ []) → Clean ff bs
Clean-prefix ff [] x h = tt
Clean-prefix ff (b ∷ r) x h = (h.0, h.1, Clean-prefix (eqb b 255) r x h.2)

pub Clean-last : (ff : Bool) (bs : List ℕ) (x : ℕ) → Clean ff (bs ++ x ∷ []) →
    (x ≤ 255) × (cut (ends_ff ff bs) x ≡ false)
Clean-last ff [] x h = (h.0, h.1)
Clean-last ff (b ∷ r) x h = Clean-last (eqb b 255) r x h.2

pub width_low : (ff : Bool) → 7 ≤ width ff
width_low true = omega arith
width_low false = omega arith

-- digits beyond all bytes are ones
pub look_full : (acc : ℕ) (ff : Bool) (bs : List ℕ) (d g : ℕ) → Clean ff bs → 1 ≤ d →
    d ≡ bits ff bs + g → look acc ff bs d ≡ (taken acc ff bs + 1) * 2 ^ g - 1
look_full acc ff [] d g clean one e =
    let s : d ≡ g = omega arith in
    look_end acc ff d ∙ ap (λ x. ones acc x) s
look_full acc ff (b ∷ []) d zero clean one e =
    let s : d + 0 ≡ width ff = omega arith in
    look_short_by acc ff b [] d 0 clean.1 s ∙ omega arith
look_full acc ff (b ∷ []) d (suc g) clean one e =
    let s : d ≡ width ff + suc g = omega arith in
    let p : 1 ≤ suc g = omega arith in
    look_long_by acc ff b [] d (suc g) clean.1 p s ∙ look_end (join acc ff b) (eqb b 255) (suc g)
look_full acc ff (b ∷ c ∷ r) d g clean one e =
    let k : ℕ = bits (eqb b 255) (c ∷ r) + g in
    let w : 7 ≤ width (eqb b 255) = width_low (eqb b 255) in
    let s : d ≡ width ff + k = omega arith in
    let p : 1 ≤ k = omega arith in
    look_long_by acc ff b (c ∷ r) d k clean.1 p s
    ∙ look_full (join acc ff b) (eqb b 255) (c ∷ r) k g clean.2 p refl

-- enough bytes: what follows doesn't count
pub look_front : (acc : ℕ) (ff : Bool) (bs r : List ℕ) (d : ℕ) → Clean ff bs → 1 ≤ d →
    d ≤ bits ff bs → look acc ff (bs ++ r) d ≡ look acc ff bs d
look_front acc ff [] r d clean one le = absurd (omega arith)
look_front acc ff (b ∷ s) r d clean one le =
    look_cases (λ y. look acc ff (b ∷ (s ++ r)) d ≡ y) acc ff b s d
    (λ h. absurd (false≢true (sym clean.1 ∙ h)))
    (λ k h e. look_short_by acc ff b (s ++ r) d k h e)
    (λ k h p e. look_long_by acc ff b (s ++ r) d k h p e
    ∙ look_front (join acc ff b) (eqb b 255) s r k clean.2 p (omega arith))

-- digits of which the last byte gives some
pub look_last : (acc : ℕ) (ff : Bool) (bs : List ℕ) (x d k : ℕ) → Clean ff (bs ++ x ∷ []) →
    bits ff bs < d → d + k ≡ bits ff (bs ++ x ∷ []) →
    look acc ff (bs ++ x ∷ []) d ≡ taken acc ff (bs ++ x ∷ []) / 2 ^ k
look_last acc ff [] x d k clean lt e =
    let s : d + k ≡ width ff = omega arith in
    look_short_by acc ff x [] d k clean.1 s
look_last acc ff (b ∷ r) x d k clean lt e =
    let m : ℕ = d - width ff in
    let s : d ≡ width ff + m = omega arith in
    let p : 1 ≤ m = omega arith in
    look_long_by acc ff b (r ++ x ∷ []) d m clean.1 p s
    ∙ look_last (join acc ff b) (eqb b 255) r x m k clean.2 (omega arith) (omega arith)

raised_short : (x y q : ℕ) → 0 < q → x ≤ y → x / q ≤ y / q
raised_short x y q pos le =
    let h : x / q * q ≤ x = div-mul-le_self x q in
    le-div (x / q) y q pos (omega arith)

-- one more in the last byte
pub look_raised : (acc : ℕ) (ff : Bool) (bs : List ℕ) (x d : ℕ) → Clean ff (bs ++ x ∷ []) →
    Clean ff (bs ++ (x + 1) ∷ []) → d ≤ bits ff (bs ++ x ∷ []) →
    look acc ff (bs ++ x ∷ []) d ≤ look acc ff (bs ++ (x + 1) ∷ []) d
look_raised acc ff [] x d clean clean' le =
    let k : ℕ = width ff - d in
    let s : d + k ≡ width ff = omega arith in
    rw (look_short_by acc ff x [] d k clean.1 s, look_short_by acc ff (x + 1) [] d k clean'.1 s)
    (raised_short (join acc ff x) (join acc ff (x + 1)) (2 ^ k) (pow_pos k) (omega arith))
look_raised acc ff (b ∷ r) x d clean clean' le =
    look_cases (λ y. y ≤ look acc ff (b ∷ (r ++ (x + 1) ∷ [])) d) acc ff b (r ++ x ∷ []) d
    (λ h. absurd (false≢true (sym clean.1 ∙ h)))
    (λ k h e. rw (look_short_by acc ff b (r ++ (x + 1) ∷ []) d k h e) (omega arith))
    (λ k h p e. rw (look_long_by acc ff b (r ++ (x + 1) ∷ []) d k h p e)
    (look_raised (join acc ff b) (eqb b 255) r x k clean.2 clean'.2 (omega arith)))
