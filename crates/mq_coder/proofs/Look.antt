-- The digits of a byte string.
use Rattle.std.proofs.Common.{◌≡◌, ℕ, ◌+◌, ◌-◌, ◌*◌, ◌/◌, ◌^◌, ◌<◌, ◌≤◌, Bool, true, false, ◌&&◌}
use Rattle.std.proofs.Common.{ltb, eqb, List, [], ◌∷◌, refl, sym, ap, ◌∙◌, arith, inl, inr, subst}
use Rattle.std.proofs.lemmas.Bool.{cases_lt, cases_Bool, cond-true, cond-false, le-leb, lt-leb}
use Rattle.std.proofs.lemmas.Bool.{false≢true}
use Rattle.std.proofs.lemmas.Nat.{pow_pos, pow-add, le-div}
use Rattle.mq_coder.specs.Decisions.{look, ones, width}
use Rattle.mq_coder.proofs.Arithmetic.{split_pow, shift_down, shift_up}

-- whether a string is cut before the byte b
abbrev pub cut : Bool → ℕ → Bool
cut after_ff b = after_ff && ltb 143 b

-- one byte more
abbrev pub join : ℕ → Bool → ℕ → ℕ
join acc after_ff b = acc * 2 ^ width after_ff + b

pub look_cut : (acc : ℕ) (ff : Bool) (b : ℕ) (r : List ℕ) (d : ℕ) → cut ff b ≡ true →
    look acc ff (b ∷ r) d ≡ ones acc d
unfolding look
look_cut acc ff b r d h = cond-true _ _ _ h

pub look_short : (acc : ℕ) (ff : Bool) (b : ℕ) (r : List ℕ) (d : ℕ) → cut ff b ≡ false →
    d ≤ width ff → look acc ff (b ∷ r) d ≡ join acc ff b / 2 ^ (width ff - d)
unfolding look
look_short acc ff b r d h le = cond-false _ _ _ h ∙ cond-true _ _ _ (le-leb d (width ff) le)

pub look_long : (acc : ℕ) (ff : Bool) (b : ℕ) (r : List ℕ) (d : ℕ) → cut ff b ≡ false →
    width ff < d → look acc ff (b ∷ r) d ≡ look (join acc ff b) (eqb b 255) r (d - width ff)
unfolding look
look_long acc ff b r d h lt = cond-false _ _ _ h ∙ cond-false _ _ _ (lt-leb d (width ff) lt)

pub look_end : (acc : ℕ) (ff : Bool) (d : ℕ) → look acc ff [] d ≡ ones acc d
unfolding look
look_end acc ff d = refl

-- with k in place of a difference
pub look_short_by : (acc : ℕ) (ff : Bool) (b : ℕ) (r : List ℕ) (d k : ℕ) → cut ff b ≡ false →
    d + k ≡ width ff → look acc ff (b ∷ r) d ≡ join acc ff b / 2 ^ k
look_short_by acc ff b r d k h e =
    let le : d ≤ width ff = omega arith in
    let same : width ff - d ≡ k = omega arith in
    look_short acc ff b r d h le ∙ ap (λ x. join acc ff b / 2 ^ x) same

pub look_long_by : (acc : ℕ) (ff : Bool) (b : ℕ) (r : List ℕ) (d k : ℕ) → cut ff b ≡ false → 1 ≤ k →
    d ≡ width ff + k → look acc ff (b ∷ r) d ≡ look (join acc ff b) (eqb b 255) r k
look_long_by acc ff b r d k h one e =
    let lt : width ff < d = omega arith in
    let same : d - width ff ≡ k = omega arith in
    look_long acc ff b r d h lt ∙ ap (λ x. look (join acc ff b) (eqb b 255) r x) same

-- the three ways of a byte
pub look_cases : (P : ℕ → Type 0) (acc : ℕ) (ff : Bool) (b : ℕ) (r : List ℕ) (d : ℕ) →
    (cut ff b ≡ true → P (ones acc d)) →
    ((k : ℕ) → cut ff b ≡ false → d + k ≡ width ff → P (join acc ff b / 2 ^ k)) →
    ((k : ℕ) → cut ff b ≡ false → 1 ≤ k → d ≡ width ff + k →
    P (look (join acc ff b) (eqb b 255) r k)) →
    P (look acc ff (b ∷ r) d)
look_cases P acc ff b r d flush short long =
    elim (cases_Bool (cut ff b)) [
      | inl h ↦ subst P (sym (look_cut acc ff b r d h)) (flush h)
      | inr h ↦ elim (cases_lt (width ff) d) [
        | inl lt ↦
            let e : d ≡ width ff + (d - width ff) = omega arith in
            let one : 1 ≤ d - width ff = omega arith in
            subst P (sym (look_long_by acc ff b r d (d - width ff) h one e))
            (long (d - width ff) h one e)
        | inr le ↦
            let e : d + (width ff - d) ≡ width ff = omega arith in
            subst P (sym (look_short_by acc ff b r d (width ff - d) h e)) (short (width ff - d) h e)
      ]
    ]

ones_above : (acc d : ℕ) → acc * 2 ^ d ≤ ones acc d
ones_above acc d = let p : 0 < 2 ^ d = pow_pos d in omega arith

grow_short : (acc b d k w : ℕ) → d + k ≡ w → acc * 2 ^ d ≤ (acc * 2 ^ w + b) / 2 ^ k
grow_short acc b d k w e =
    let s : 2 ^ w ≡ 2 ^ d * 2 ^ k = split_pow d k w e in
    let m : acc * 2 ^ w ≡ acc * (2 ^ d * 2 ^ k) = ap (λ x. acc * x) s in
    le-div (acc * 2 ^ d) (acc * 2 ^ w + b) (2 ^ k) (pow_pos k) (omega arith)

grow_long : (acc b d k w y : ℕ) → d ≡ w + k → (acc * 2 ^ w + b) * 2 ^ k ≤ y → acc * 2 ^ d ≤ y
grow_long acc b d k w y e h =
    let s : 2 ^ d ≡ 2 ^ w * 2 ^ k = split_pow w k d (sym e) in
    let m : acc * 2 ^ d ≡ acc * (2 ^ w * 2 ^ k) = ap (λ x. acc * x) s in
    omega arith

-- what was read stays in prefix
pub look_above : (acc : ℕ) (ff : Bool) (r : List ℕ) (d : ℕ) → acc * 2 ^ d ≤ look acc ff r d
look_above acc ff [] d = rw look_end (ones_above acc d)
look_above acc ff (b ∷ r) d =
    look_cases (λ y. acc * 2 ^ d ≤ y) acc ff b r d
    (λ h. ones_above acc d)
    (λ k h e. grow_short acc b d k (width ff) e)
    (λ k h one e. grow_long acc b d k (width ff) _ e (look_above (join acc ff b) (eqb b 255) r k))

more_ones : (acc d j : ℕ) → ones acc d * 2 ^ j ≤ ones acc (d + j)
more_ones acc d j =
    let s : 2 ^ (d + j) ≡ 2 ^ d * 2 ^ j = pow-add 2 d j in
    let p : 0 < 2 ^ d = pow_pos d in
    let q : 0 < 2 ^ j = pow_pos j in
    let e : ones acc d + 1 ≡ (acc + 1) * 2 ^ d = omega arith in
    let f : (ones acc d + 1) * 2 ^ j ≡ (acc + 1) * 2 ^ d * 2 ^ j = ap (λ x. x * 2 ^ j) e in
    let g : (acc + 1) * 2 ^ (d + j) ≡ (acc + 1) * (2 ^ d * 2 ^ j) = ap (λ x. (acc + 1) * x) s in
    omega arith

more_short : (x j k m : ℕ) → m ≡ j + k → x / 2 ^ m * 2 ^ j ≤ x / 2 ^ k
more_short x j k m e =
    let s : 2 ^ m ≡ 2 ^ j * 2 ^ k = split_pow j k m (sym e) in
    rw s (shift_down x (2 ^ j) (2 ^ k) (pow_pos k))

more_over : (x j k m y : ℕ) → j ≡ m + k → x * 2 ^ k ≤ y → x / 2 ^ m * 2 ^ j ≤ y
more_over x j k m y e h =
    let s : 2 ^ j ≡ 2 ^ m * 2 ^ k = split_pow m k j (sym e) in
    let u : x / 2 ^ m * (2 ^ m * 2 ^ k) ≤ x * 2 ^ k = shift_up x (2 ^ m) (2 ^ k) in
    rw s (omega arith)

-- More digits are at least the digits moved up. The other direction doesn't hold: a byte that
-- counts after FF may carry.
pub look_more : (acc : ℕ) (ff : Bool) (r : List ℕ) (d j : ℕ) →
    look acc ff r d * 2 ^ j ≤ look acc ff r (d + j)
look_more acc ff [] d j = rw (look_end acc ff d, look_end acc ff (d + j)) (more_ones acc d j)
look_more acc ff (b ∷ r) d j =
    look_cases (λ y. y * 2 ^ j ≤ look acc ff (b ∷ r) (d + j)) acc ff b r d
    (λ h. rw (look_cut acc ff b r (d + j) h) (more_ones acc d j))
    (λ k h e. look_cases (λ y. join acc ff b / 2 ^ k * 2 ^ j ≤ y) acc ff b r (d + j)
    (λ h'. absurd (false≢true (sym h ∙ h')))
    (λ k' h' e'. more_short (join acc ff b) j k' k (omega arith))
    (λ k' h' one e'. more_over (join acc ff b) j k' k _ (omega arith)
    (look_above (join acc ff b) (eqb b 255) r k')))
    (λ k h one e.
    let e' : d + j ≡ width ff + (k + j) = omega arith in
    let one' : 1 ≤ k + j = omega arith in
    rw (look_long_by acc ff b r (d + j) (k + j) h one' e')
    (look_more (join acc ff b) (eqb b 255) r k j))
