-- Bits that are taken one after the other, and the number that they have.
use Rattle.std.proofs.Common.{◌≡◌, ℕ, ◌+◌, ◌*◌, ◌<◌, ◌^◌, min, Bool, true, false, List, []}
use Rattle.std.proofs.Common.{◌∷◌, ◌++◌, length, refl, sym, ap, ◌∙◌, arith}
use Rattle.std.proofs.lemmas.List.{append-nil}
use mir.Val.{bool_byte}
use Rattle.bit_stuffing.specs.Bits.{bit_value, number, value}
use Rattle.bit_stuffing.specs.Source.{BitSource, Took}
use Rattle.bit_stuffing.proofs.BitLemmas.{number-value, bit_le, number-length}
use Rattle.bit_stuffing.proofs.BitLemmas.{value-push, value-number}
use Rattle.bit_stuffing.proofs.SourceLemmas.{took_more}

-- lists of one length that begin the same list
pub same_front : {A : Type 0} (p q x y : List A) → length p ≡ length q → p ++ x ≡ q ++ y → (p ≡ q)
    × (x ≡ y)
same_front [] [] x y l e = (refl, e)
same_front [] (b ∷ q) x y l e = absurd (omega arith)
same_front (a ∷ p) [] x y l e = absurd (omega arith)
same_front (a ∷ p) (b ∷ q) x y l e =
    let head : a ≡ b = cc in
    let tail : p ++ x ≡ q ++ y = cc in
    let r = same_front p q x y (omega arith) tail in
    let m = r.0 in (cc, r.1)

-- one bit more of a number that is kept up to a largest one
pub kept_more : (word : List Bool) (b : Bool) (n c : ℕ) → n ≡ min (value word) c
    → min (min (n * 2) c + bit_value b) c ≡ min (value (word ++ b ∷ [])) c
kept_more word b n c e = let p = value-push 0 word b in let s = bit_le b in omega arith

-- one bit more
pub one_took : (a b c : BitSource) (p : List Bool) (bit : Bool) → Took a p b → c.bytes ≡ b.bytes
    → b.ahead ≡ bit ∷ c.ahead → c.taken ≡ b.taken ++ bit ∷ [] → Took a (p ++ bit ∷ []) c
one_took a b c p bit h same ahead taken = took_more a b c p (bit ∷ []) h
    (record { same = same; ahead = ahead; taken = taken })

-- bits that end before a word does
pub number_ends : (a b : BitSource) (p : List Bool) → Took a p b → b.ahead ≡ []
    → length a.ahead ≡ length p
number_ends a b p h e = ap length (h.ahead ∙ ap (λ r. p ++ r) e ∙ append-nil p)

pub byte_is : (b : Bool) → bool_byte b ≡ bit_value b
byte_is true = refl
byte_is false = refl

-- a word of a number's bits
pub number_front : (w n : ℕ) (word x rest : List Bool) → n < 2 ^ w → length word ≡ w → number w n
    ++ x ≡ word ++ rest → (value word ≡ n) × (x ≡ rest)
number_front w n word x rest h l e =
    let r = same_front (number w n) word x rest (number-length w n ∙ sym l) e in
    (ap value (sym r.0) ∙ value-number w n h, r.1)

pub number_word : (w : ℕ) (word : List Bool) → length word ≡ w → number w (value word) ≡ word
number_word w word l = ap (λ k. number k (value word)) (sym l) ∙ number-value word
