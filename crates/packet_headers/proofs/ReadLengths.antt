-- The raises of Lblock and the length after them.
use Rattle.std.proofs.Common.{◌≡◌, ℕ, suc, zero, ◌+◌, ◌<◌, ◌≤◌, ◌^◌, min, Bool, true, false, List}
use Rattle.std.proofs.Common.{[], ◌∷◌, ◌++◌, length, refl, sym, ap, ◌∙◌, arith, append_assoc}
use Rattle.std.proofs.Common.{length-append}
use Rattle.std.specs.Prelude.{replicate, Result, Ok, Err, IfOk, IfErr, IsOkAnd}
use Rattle.bit_stuffing.specs.declared.fault.BitFault.{BitFault}
use Rattle.std.proofs.lemmas.List.{append-nil}
use Rattle.cine_nums.specs.Bits.{bit_len}
use Rattle.cine_nums.proofs.BitLength.{bit_len-above}
use Rattle.bit_stuffing.specs.Bits.{number, value}
use Rattle.bit_stuffing.specs.Source.{BitSource, Took}
use Rattle.bit_stuffing.proofs.BitLemmas.{number-length}
use Rattle.packet_headers.specs.Codewords.{length_bits, length_width}
use Rattle.bit_stuffing.proofs.SourceLemmas.{took_more}
use Rattle.packet_headers.proofs.ReadBits.{number_front, number_word, same_front}
use Rattle.bit_stuffing.proofs.BitLemmas.{value-below}
use Rattle.packet_headers.proofs.ReadCodes.{along, Word}

-- ones up to a zero, in one way
pub ones_are : (r s : ℕ) (x y : List Bool) → replicate r true ++ (false ∷ x) ≡ replicate s true
    ++ (false ∷ y) → (r ≡ s) × (x ≡ y)
ones_are zero zero x y e = (refl, cc)
ones_are zero (suc s) x y e = absurd (cc)
ones_are (suc r) zero x y e = absurd (cc)
ones_are (suc r) (suc s) x y e =
    let t : replicate r true ++ (false ∷ x) ≡ replicate s true ++ (false ∷ y) = cc in
    let k = ones_are r s x y t in (ap suc k.0, k.1)

pub ones_end : (r s : ℕ) (y : List Bool) → replicate r true ≡ replicate s true ++ (false ∷ y) → ⊥
ones_end zero zero y e = cc
ones_end zero (suc s) y e = cc
ones_end (suc r) zero y e = cc
ones_end (suc r) (suc s) y e = let t : replicate r true ≡ replicate s true ++ (false ∷ y) = cc in
    ones_end r s y t

pub one_more : (r : ℕ) → replicate r true ++ true ∷ [] ≡ replicate (r + 1) true
one_more zero = refl
one_more (suc r) = let e = one_more r in let f : suc r + 1 ≡ suc (r + 1) = omega arith in
    ap (λ k. true ∷ k) e ∙ ap (λ k. replicate k true) (sym f)

pub width_is : (passes raise : ℕ) → 1 ≤ passes → 2 + bit_len passes + raise
    ≡ length_width passes raise
width_is passes raise h =
    let a = bit_len-above passes in
    let z : bit_len passes ≡ 0 → ⊥ = λ e. (let f : 2 ^ bit_len passes ≡ 1 = ap (λ k. 2 ^ k) e in
    omega arith) in
    omega arith

module _ (a b d : BitSource) (raise : ℕ) (ones : Took a (replicate raise true) b) where
  pub reads_ends : (s len passes : ℕ) (rest : List Bool) → b.ahead ≡ []
      → a.ahead ≡ length_bits passes s len ++ rest → ⊥
  unfolding length_bits
  reads_ends s len passes rest z e =
      ones_end raise s (number (length_width passes s) len ++ rest)
      (sym (append-nil (replicate raise true)) ∙ ap (λ k. replicate raise true ++ k) (sym z)
      ∙ sym ones.ahead ∙ e
      ∙ append_assoc (replicate s true) (false ∷ number (length_width passes s) len) rest)

  module _ (zero_bit : Took b (false ∷ []) d) where
    begun : Took a (replicate raise true ++ false ∷ []) d
    begun = took_more a b d (replicate raise true) (false ∷ []) ones zero_bit

    left : (s len passes : ℕ) (rest : List Bool) → a.ahead ≡ length_bits passes s len ++ rest
        → (raise ≡ s) × (d.ahead ≡ number (length_width passes s) len ++ rest)
    unfolding length_bits
    left s len passes rest e =
        ones_are raise s d.ahead (number (length_width passes s) len ++ rest)
        (sym (append_assoc (replicate raise true) (false ∷ []) d.ahead) ∙ sym begun.ahead ∙ e
        ∙ append_assoc (replicate s true) (false ∷ number (length_width passes s) len) rest)

    pub reads_short : (s len passes width : ℕ) (rest : List Bool)
        → width ≡ length_width passes raise → length d.ahead < width
        → a.ahead ≡ length_bits passes s len ++ rest → ⊥
    reads_short s len passes width rest w l e =
        let k = left s len passes rest e in
        let q = ap (length_width passes) k.0 in
        let n = number-length (length_width passes s) len in
        let m = ap length k.1 ∙ length-append (number (length_width passes s) len) rest in
        omega arith

    module _ (f : BitSource) (kept passes width : ℕ) (w : width ≡ length_width passes raise)
        (word : Word width d f kept) where
      pub took_length : (len : ℕ) × (len < 2 ^ length_width passes raise)
          × Took a (length_bits passes raise len) f × (kept ≡ min len 4294967295)
      unfolding length_bits
      took_length = (
        value word.0,
        (let b = value-below word.0 in let e = ap (λ k. 2 ^ k) (word.1 ∙ w) in omega arith),
        along a f ((replicate raise true ++ false ∷ []) ++ word.0) (replicate raise true
            ++ (false ∷ number (length_width passes raise) (value word.0)))
            (append_assoc (replicate raise true) (false ∷ []) word.0
            ∙ ap (λ k. replicate raise true ++ (false ∷ k))
            (sym (number_word (length_width passes raise) word.0 (word.1 ∙ w))))
            (took_more a d f (replicate raise true ++ false ∷ []) word.0 begun word.2),
        word.3,
      )

      pub reads_length : (s len : ℕ) (rest : List Bool) → len < 2 ^ length_width passes s
          → a.ahead ≡ length_bits passes s len ++ rest → kept ≡ min len 4294967295
      reads_length s len rest h e =
          let k = left s len passes rest e in
          let q = w ∙ ap (length_width passes) k.0 in
          let r = number_front (length_width passes s) len word.0 rest f.ahead h (word.1
          ∙ q) (sym k.1 ∙ word.2.ahead) in
          word.3 ∙ ap (λ v. min v 4294967295) r.0

    -- the last call's answer, as it is returned
    pub took_by : (f : BitSource) (passes width : ℕ) → width ≡ length_width passes raise
        → (r : Result ℕ BitFault) → IfOk r (λ n. Word width d f n)
        → IfOk r (λ kept. (raise' len : ℕ) × (len < 2 ^ length_width passes raise')
        × Took a (length_bits passes raise' len) f × (kept ≡ min len 4294967295))
    took_by f passes width w (Ok n) word = let t = took_length f n passes width w word in
        (raise, t.0, t.1, t.2, t.3)
    took_by f passes width w (Err e) word = tt

    pub reads_by : (f : BitSource) (passes width : ℕ) → width ≡ length_width passes raise
        → (r : Result ℕ BitFault) → IfOk r (λ n. Word width d f n)
        → IfErr r (λ e. length d.ahead < width) → (s len : ℕ) (rest : List Bool)
        → len < 2 ^ length_width passes s → a.ahead ≡ length_bits passes s len ++ rest
        → IsOkAnd r (λ kept. kept ≡ min len 4294967295)
    reads_by f passes width w (Ok n) word ends s len rest h e =
        reads_length f n passes width w word s len rest h e
    reads_by f passes width w (Err fault) word ends s len rest h e =
        absurd (reads_short s len passes width rest w ends e)

-- a length's bits are found in one way
pub length_same : (passes r s m n : ℕ) (x y : List Bool) → length_bits passes r m
    ++ x ≡ length_bits passes s n ++ y → length_bits passes r m ≡ length_bits passes s n
unfolding length_bits
length_same passes r s m n x y e =
    let o = ones_are r s (number (length_width passes r) m ++ x) (number (length_width passes s) n
    ++ y)
    (sym (append_assoc (replicate r true) (false ∷ number (length_width passes r) m) x) ∙ e
    ∙ append_assoc (replicate s true) (false ∷ number (length_width passes s) n) y) in
    let l = number-length (length_width passes r) m ∙ ap (length_width passes) o.0
    ∙ sym (number-length (length_width passes s) n) in
    let f = same_front (number (length_width passes r) m) (number (length_width passes s) n) x y l
    o.1 in
    ap (λ k. replicate k true ++ (false ∷ number (length_width passes r) m)) o.0
    ∙ ap (λ k. replicate s true ++ (false ∷ k)) f.0
