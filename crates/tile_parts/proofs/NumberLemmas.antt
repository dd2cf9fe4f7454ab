-- Numbers that stand in bytes.
use Rattle.std.proofs.Common.{◌≡◌, ℕ, ◌+◌, ◌*◌, ◌/◌, ◌%◌, ◌<◌, ◌≤◌, List, ◌∷◌, ◌++◌, arith, ◌∙◌}
use Rattle.std.proofs.Common.{sym, ap, refl}
use Rattle.std.proofs.Common.{get_or, drop, length}
use Rattle.std.proofs.lemmas.List.{drop_more}
use Rattle.cine_nums.specs.Bytes.{word_at, long_at, word_bytes, long_bytes}

-- the bytes are below 256
abbrev pub AreBytes : List ℕ → Type 0
AreBytes bytes = (k : ℕ) → get_or bytes k 0 < 256

pub two_here : (bytes : List ℕ) (p : ℕ) → AreBytes bytes → p + 2 ≤ length bytes →
    drop p bytes ≡ word_bytes (word_at bytes p) ++ drop (p + 2) bytes
two_here bytes p small inside =
    let a = get_or bytes p 0 in
    let b = get_or bytes (p + 1) 0 in
    let sa : a < 256 = small p in
    let sb : b < 256 = small (p + 1) in
    let high : a ≡ word_at bytes p / 256 = omega (arith, sa, sb) in
    let low : b ≡ word_at bytes p % 256 = omega (arith, sa, sb) in
    let place : p + 1 + 1 ≡ p + 2 = omega arith in
    drop_more bytes p 0 (omega arith) ∙ ap (λ t. a ∷ t) (drop_more bytes (p + 1) 0 (omega arith)) ∙
    ap (λ q. a ∷ b ∷ drop q bytes) place ∙ ap (λ x. x ∷ b ∷ drop (p + 2) bytes) high ∙
    ap (λ y. word_at bytes p / 256 ∷ y ∷ drop (p + 2) bytes) low

pub word_small : (bytes : List ℕ) (p : ℕ) → AreBytes bytes → word_at bytes p < 65536
word_small bytes p small =
    let a : get_or bytes p 0 < 256 = small p in
    let b : get_or bytes (p + 1) 0 < 256 = small (p + 1) in
    omega arith

-- four bytes are two words
long_split : (v w : ℕ) → w < 65536 → long_bytes (v * 65536 + w) ≡ word_bytes v ++ word_bytes w
long_split v w small =
    let a : (v * 65536 + w) / 16777216 ≡ v / 256 = omega arith in
    let b : (v * 65536 + w) / 65536 % 256 ≡ v % 256 = omega arith in
    let c : (v * 65536 + w) / 256 % 256 ≡ w / 256 = omega arith in
    let d : (v * 65536 + w) % 256 ≡ w % 256 = omega arith in
    rw (a, b, c, d) refl

pub four_here : (bytes : List ℕ) (p : ℕ) → AreBytes bytes → p + 4 ≤ length bytes →
    drop p bytes ≡ long_bytes (long_at bytes p) ++ drop (p + 4) bytes
four_here bytes p small inside =
    let v = word_at bytes p in
    let w = word_at bytes (p + 2) in
    let place : p + 2 + 2 ≡ p + 4 = omega arith in
    let split : long_bytes (long_at bytes p) ≡ word_bytes v ++ word_bytes w =
    long_split v w (word_small bytes (p + 2) small) in
    two_here bytes p small (omega arith) ∙
    ap (λ t. word_bytes v ++ t) (two_here bytes (p + 2) small (omega arith) ∙
    ap (λ q. word_bytes w ++ drop q bytes) place) ∙
    ap (λ t. t ++ drop (p + 4) bytes) (sym split)
