-- Bytes after a place, and numbers of several bytes.
use Rattle.std.proofs.Common.{◌≡◌, ℕ, ◌+◌, ◌*◌, ◌/◌, ◌%◌, ◌≤◌, List, ◌++◌, arith, ◌∙◌, sym, ap}
use Rattle.std.proofs.Common.{append_assoc, get_or, take, drop, length, add-zero}
use Rattle.std.proofs.lemmas.List.{get_or-drop, drop_at, length-append, length-take-le}
use Rattle.std.proofs.lemmas.List.{take-append-drop}

-- a byte after a place, found in what stands there
pub byte_here : (bytes xs : List ℕ) (p k : ℕ) → drop p bytes ≡ xs →
    get_or bytes (p + k) 0 ≡ get_or xs k 0
byte_here bytes xs p k is = sym (get_or-drop p bytes k 0) ∙ ap (λ t. get_or t k 0) is

pub first_here : (bytes xs : List ℕ) (p : ℕ) → drop p bytes ≡ xs → get_or bytes p 0 ≡ get_or xs 0 0
first_here bytes xs p is = ap (λ q. get_or bytes q 0) (sym (add-zero p)) ∙ byte_here bytes xs p 0 is

-- what stands after a prefix
pub step_on : (bytes prefix suffix : List ℕ) (p : ℕ) → p ≤ length bytes →
    drop p bytes ≡ prefix ++ suffix →
    drop (p + length prefix) bytes ≡ suffix
step_on bytes prefix suffix p below is =
    let whole : bytes ≡ (take p bytes ++ prefix) ++ suffix =
    sym (take-append-drop p bytes) ∙ ap (λ t. take p bytes ++ t) is
    ∙ sym (append_assoc (take p bytes) prefix suffix) in
    let width : length (take p bytes ++ prefix) ≡ p + length prefix =
    length-append (take p bytes) prefix
    ∙ ap (λ n. n + length prefix) (length-take-le p bytes below) in
    ap (drop (p + length prefix)) whole
    ∙ drop_at (take p bytes ++ prefix) suffix (p + length prefix) width

-- two bytes, and four, give their number back
pub word_again : (n : ℕ) → n / 256 * 256 + n % 256 ≡ n
word_again n = omega arith

pub long_again : (n : ℕ) → (n / 16777216 * 256 + n / 65536 % 256) * 65536 +
    (n / 256 % 256 * 256 + n % 256) ≡ n
long_again n = omega arith
