-- The codewords of pass counts: which one a list of bits begins with.
use Rattle.std.proofs.Common.{◌≡◌, ℕ, ◌+◌, ◌-◌, ◌<◌, ◌≤◌, ◌^◌, min, Bool, true, false, List, []}
use Rattle.std.proofs.Common.{◌∷◌, ◌++◌, length, refl, sym, ap, subst, ◌∙◌, inl, inr, arith}
use Rattle.std.proofs.Common.{length-append}
use Rattle.std.specs.Prelude.{◌⊎◌}
use Rattle.std.proofs.lemmas.Bool.{cases_lt, le-leb, lt-leb}
use Rattle.bit_stuffing.specs.Bits.{number, value, value_from}
use Rattle.bit_stuffing.specs.Source.{BitSource, Took}
use Rattle.packet_headers.specs.Codewords.{pass_bits}
use Rattle.std.proofs.Math.Nat.{pow-le-pow_right}
use Rattle.bit_stuffing.proofs.BitLemmas.{number-length}
use Rattle.bit_stuffing.proofs.SourceLemmas.{took_more}
use Rattle.packet_headers.proofs.ReadBits.{number_front, number_word, same_front}
use Rattle.bit_stuffing.proofs.BitLemmas.{value-below}

pub passes_one : pass_bits 1 ≡ false ∷ []
unfolding pass_bits
passes_one = refl

pub passes_two : pass_bits 2 ≡ true ∷ false ∷ []
unfolding pass_bits
passes_two = refl

pub passes_few : (k : ℕ) → k < 3 → pass_bits (3 + k) ≡ true ∷ true ∷ number 2 k
unfolding pass_bits
passes_few k h =
    let a = lt-leb (3 + k) 1 (omega arith) in
    let b = lt-leb (3 + k) 2 (omega arith) in
    let c = le-leb (3 + k) 5 (omega arith) in
    let e : 3 + k - 3 ≡ k = omega arith in
    rw (a, b, c, e) refl

pub passes_some : (k : ℕ) → k < 31 → pass_bits (6 + k) ≡ true ∷ true ∷ true ∷ true ∷ number 5 k
unfolding pass_bits
passes_some k h =
    let a = lt-leb (6 + k) 1 (omega arith) in
    let b = lt-leb (6 + k) 2 (omega arith) in
    let c = lt-leb (6 + k) 5 (omega arith) in
    let d = le-leb (6 + k) 36 (omega arith) in
    let e : 6 + k - 6 ≡ k = omega arith in
    rw (a, b, c, d, e) refl

pub passes_many : (k : ℕ) → pass_bits (37 + k) ≡ true ∷ true ∷ true ∷ true ∷ true ∷ true ∷ true
    ∷ true ∷ true ∷ number 7 k
unfolding pass_bits
passes_many k =
    let a = lt-leb (37 + k) 1 (omega arith) in
    let b = lt-leb (37 + k) 2 (omega arith) in
    let c = lt-leb (37 + k) 5 (omega arith) in
    let d = lt-leb (37 + k) 36 (omega arith) in
    let e : 37 + k - 37 ≡ k = omega arith in
    rw (a, b, c, d, e) refl

-- the five kinds of codewords
data Kind (n : ℕ) : Type 0 where
  one : n ≡ 1 → Kind n
  two : n ≡ 2 → Kind n
  few : (k : ℕ) → k < 3 → n ≡ 3 + k → Kind n
  some : (k : ℕ) → k < 31 → n ≡ 6 + k → Kind n
  many : (k : ℕ) → k < 128 → n ≡ 37 + k → Kind n

kind_of : (n : ℕ) → 1 ≤ n → n ≤ 164 → Kind n
kind_of n h l = elim (cases_lt n 2) [
  | inl a ↦ one (omega arith)
  | inr a ↦ elim (cases_lt n 3) [
    | inl b ↦ two (omega arith)
    | inr b ↦ elim (cases_lt n 6) [
      | inl c ↦ few (n - 3) (omega arith) (omega arith)
      | inr c ↦ elim (cases_lt n 37) [
        | inl d ↦ some (n - 6) (omega arith) (omega arith)
        | inr d ↦ many (n - 37) (omega arith) (omega arith)
      ]
    ]
  ]
]

-- what stands after the first bits of a codeword
abbrev pub Begins : List Bool → ℕ → Type 0
Begins ahead n = (rest : List Bool) × (ahead ≡ pass_bits n ++ rest)

pub first_zero : (n : ℕ) (x : List Bool) → 1 ≤ n → n ≤ 164 → Begins (false ∷ x) n → n ≡ 1
first_zero n x h l (rest, e) = elim (kind_of n h l) [
  | one p ↦ p
  | two p ↦ absurd (let q = ap (λ k. pass_bits k ++ rest) p in let r =
      ap (λ k. k ++ rest) passes_two in cc)
  | few k a p ↦ absurd (let q = ap (λ k. pass_bits k ++ rest) p in let r =
      ap (λ k. k ++ rest) (passes_few k a) in cc)
  | some k a p ↦ absurd (let q = ap (λ k. pass_bits k ++ rest) p in let r =
      ap (λ k. k ++ rest) (passes_some k a) in cc)
  | many k a p ↦ absurd (let q = ap (λ k. pass_bits k ++ rest) p in let r =
      ap (λ k. k ++ rest) (passes_many k) in cc)
]

pub second_zero : (n : ℕ) (x : List Bool) → 1 ≤ n → n ≤ 164 → Begins (true ∷ false ∷ x) n → n ≡ 2
second_zero n x h l (rest, e) = elim (kind_of n h l) [
  | one p ↦ absurd (let q = ap (λ k. pass_bits k ++ rest) p in let r =
      ap (λ k. k ++ rest) passes_one in cc)
  | two p ↦ p
  | few k a p ↦ absurd (let q = ap (λ k. pass_bits k ++ rest) p in let r =
      ap (λ k. k ++ rest) (passes_few k a) in cc)
  | some k a p ↦ absurd (let q = ap (λ k. pass_bits k ++ rest) p in let r =
      ap (λ k. k ++ rest) (passes_some k a) in cc)
  | many k a p ↦ absurd (let q = ap (λ k. pass_bits k ++ rest) p in let r =
      ap (λ k. k ++ rest) (passes_many k) in cc)
]

-- after two ones: two bits, then five, then seven
Tail : ℕ → List Bool → Type 0
Tail n x = ((k : ℕ) × (rest : List Bool) × (k < 3) × (n ≡ 3 + k) × (x ≡ number 2 k ++ rest))
    ⊎ ((k : ℕ) × (rest : List Bool) × (k < 31) × (n ≡ 6 + k)
    × (x ≡ true ∷ true ∷ (number 5 k ++ rest)))
    ⊎ ((k : ℕ) × (rest : List Bool) × (k < 128) × (n ≡ 37 + k)
    × (x ≡ true ∷ true ∷ true ∷ true ∷ true ∷ true ∷ true ∷ (number 7 k ++ rest)))

tail_of : (n : ℕ) (x : List Bool) → 1 ≤ n → n ≤ 164 → Begins (true ∷ true ∷ x) n → Tail n x
unfolding Tail
tail_of n x h l (rest, e) = elim (kind_of n h l) [
  | one p ↦ absurd (let q = ap (λ k. pass_bits k ++ rest) p in let r =
      ap (λ k. k ++ rest) passes_one in cc)
  | two p ↦ absurd (let q = ap (λ k. pass_bits k ++ rest) p in let r =
      ap (λ k. k ++ rest) passes_two in cc)
  | few k a p ↦ inl (
    k,
    rest,
    a,
    p,
    (let q = ap (λ k. pass_bits k ++ rest) p in let r =
        ap (λ k. k ++ rest) (passes_few k a) in cc),
  )
  | some k a p ↦ inr (inl (
    k,
    rest,
    a,
    p,
    (let q = ap (λ k. pass_bits k ++ rest) p in let r =
        ap (λ k. k ++ rest) (passes_some k a) in cc),
  ))
  | many k a p ↦ inr (inr (
    k,
    rest,
    a,
    p,
    (let q = ap (λ k. pass_bits k ++ rest) p in let r =
        ap (λ k. k ++ rest) (passes_many k) in cc),
  ))
]

-- a number's bits against a word as long
word_is : (w k : ℕ) (word x y : List Bool) → k < 2 ^ w → length word ≡ w → word ++ y ≡ number w k
    ++ x → (value word ≡ k) × (y ≡ x)
word_is w k word x y h l e = let r = number_front w k word x y h l (sym e) in (r.0, sym r.1)

short : (w k : ℕ) (x rest : List Bool) → length x < w → x ≡ number w k ++ rest → ⊥
short w k x rest h e = let a = ap length e ∙ length-append (number w k) rest in let b =
    number-length w k in omega arith

Tail5 : ℕ → List Bool → Type 0
Tail5 n x = ((k : ℕ) × (rest : List Bool) × (k < 31) × (n ≡ 6 + k) × (x ≡ number 5 k ++ rest))
    ⊎ ((k : ℕ) × (rest : List Bool) × (k < 128) × (n ≡ 37 + k)
    × (x ≡ true ∷ true ∷ true ∷ true ∷ true ∷ (number 7 k ++ rest)))

abbrev Tail7 : ℕ → List Bool → Type 0
Tail7 n x = (k : ℕ) × (rest : List Bool) × (k < 128) × (n ≡ 37 + k) × (x ≡ number 7 k ++ rest)

two_is : (n : ℕ) (word y : List Bool) → length word ≡ 2 → value word < 3 → Tail n (word ++ y)
    → 3 + value word ≡ n
unfolding Tail value_from
two_is n word y l h (inl (k, rest, a, p, e)) = let r = word_is 2 k word rest y (omega arith) l e in
    let q = r.0 in omega arith
two_is n word y l h (inr (inl (k, rest, a, p, e))) =
    let r = same_front word (true ∷ true ∷ []) y (number 5 k ++ rest) l e in
    let v : value word ≡ 3 = ap value r.0 in absurd (omega arith)
two_is n word y l h (inr (inr (k, rest, a, p, e))) =
    let r = same_front word (true ∷ true ∷ []) y (true ∷ true ∷ true ∷ true ∷ true
    ∷ (number 7 k ++ rest)) l e in
    let v : value word ≡ 3 = ap value r.0 in absurd (omega arith)

two_ends : (n : ℕ) (x : List Bool) → length x < 2 → Tail n x → ⊥
unfolding Tail
two_ends n x h (inl (k, rest, a, p, e)) = short 2 k x rest h e
two_ends n x h (inr (inl (k, rest, a, p, e))) = let l = ap length e in omega arith
two_ends n x h (inr (inr (k, rest, a, p, e))) = let l = ap length e in omega arith

two_more : (n : ℕ) (word y : List Bool) → length word ≡ 2 → 3 ≤ value word → Tail n (word ++ y)
    → Tail5 n y
unfolding Tail Tail5
two_more n word y l h (inl (k, rest, a, p, e)) = absurd (let r =
    word_is 2 k word rest y (omega arith) l e in let q = r.0 in omega arith)
two_more n word y l h (inr (inl (k, rest, a, p, e))) =
    let r = same_front word (true ∷ true ∷ []) y (number 5 k ++ rest) l e in
    inl (k, rest, a, p, r.1)
two_more n word y l h (inr (inr (k, rest, a, p, e))) =
    let r = same_front word (true ∷ true ∷ []) y (true ∷ true ∷ true ∷ true ∷ true
    ∷ (number 7 k ++ rest)) l e in inr (k, rest, a, p, r.1)

five_is : (n : ℕ) (word y : List Bool) → length word ≡ 5 → value word < 31 → Tail5 n (word ++ y)
    → 6 + value word ≡ n
unfolding Tail5 value_from
five_is n word y l h (inl (k, rest, a, p, e)) = let r = word_is 5 k word rest y (omega arith) l e in
    let q = r.0 in omega arith
five_is n word y l h (inr (k, rest, a, p, e)) =
    let r = same_front word (true ∷ true ∷ true ∷ true ∷ true ∷ []) y (number 7 k ++ rest) l e in
    let v : value word ≡ 31 = ap value r.0 in absurd (omega arith)

five_ends : (n : ℕ) (x : List Bool) → length x < 5 → Tail5 n x → ⊥
unfolding Tail5
five_ends n x h (inl (k, rest, a, p, e)) = short 5 k x rest h e
five_ends n x h (inr (k, rest, a, p, e)) = let l = ap length e in omega arith

five_more : (n : ℕ) (word y : List Bool) → length word ≡ 5 → 31 ≤ value word → Tail5 n (word ++ y)
    → Tail7 n y
unfolding Tail5
five_more n word y l h (inl (k, rest, a, p, e)) = absurd (let r =
    word_is 5 k word rest y (omega arith) l e in let q = r.0 in omega arith)
five_more n word y l h (inr (k, rest, a, p, e)) =
    let r = same_front word (true ∷ true ∷ true ∷ true ∷ true ∷ []) y (number 7 k ++ rest) l e in
    (k, rest, a, p, r.1)

seven_is : (n : ℕ) (word y : List Bool) → length word ≡ 7 → Tail7 n (word ++ y)
    → 37 + value word ≡ n
seven_is n word y l (k, rest, a, p, e) = let r = word_is 7 k word rest y (omega arith) l e in
    let q = r.0 in omega arith

seven_ends : (n : ℕ) (x : List Bool) → length x < 7 → Tail7 n x → ⊥
seven_ends n x h (k, rest, a, p, e) = short 7 k x rest h e

three : true ∷ true ∷ [] ≡ number 2 3
unfolding number
three = refl

thirty_one : true ∷ true ∷ true ∷ true ∷ true ∷ [] ≡ number 5 31
unfolding number
thirty_one = refl

-- what the code knows of a word: its bits, and their number
abbrev pub Word : ℕ → BitSource → BitSource → ℕ → Type 0
Word w a b n = (word : List Bool) × (length word ≡ w) × Took a word b
    × (n ≡ min (value word) 4294967295)

word_value : (w : ℕ) (word : List Bool) (n : ℕ) → w ≤ 7 → length word ≡ w
    → n ≡ min (value word) 4294967295 → n ≡ value word
word_value w word n h l e =
    let b = value-below word in
    let m : length word ≤ 7 = omega arith in
    let p : 2 ^ length word ≤ 2 ^ 7 = pow-le-pow_right {n = 2} (omega arith) {i = length word} {j =
    7} m in omega arith

-- one bit that was taken
pub took_bit : (a b : BitSource) (bit : Bool) → b.bytes ≡ a.bytes → a.ahead ≡ bit ∷ b.ahead
    → b.taken ≡ a.taken ++ bit ∷ [] → Took a (bit ∷ []) b
took_bit a b bit same ahead taken = record { same = same; ahead = ahead; taken = taken }

pub along : (a b : BitSource) (p q : List Bool) → p ≡ q → Took a p b → Took a q b
along a b p q e h = let P : List Bool → Type 0 = λ k. Took a k b in subst P e h

-- a bit that is known
pub bit_is : (a b : BitSource) (bit known : Bool) → bit ≡ known → b.bytes ≡ a.bytes
    → a.ahead ≡ bit ∷ b.ahead → b.taken ≡ a.taken ++ bit ∷ [] → Took a (known ∷ []) b
bit_is a b bit known e same ahead taken = along a b (bit ∷ []) (known ∷ []) (ap (λ k. k ∷ []) e)
    (took_bit a b bit same ahead taken)

-- After two ones: what each step of the reading returns.
module _ (a b : BitSource) (two : Took a (true ∷ true ∷ []) b) where
  begins : (n : ℕ) (rest : List Bool) → 1 ≤ n → n ≤ 164 → a.ahead ≡ pass_bits n ++ rest
      → Tail n b.ahead
  begins n rest h l e = tail_of n b.ahead h l (rest, sym two.ahead ∙ e)

  pub reads_two_ends : (n : ℕ) (rest : List Bool) → length b.ahead < 2 → 1 ≤ n → n ≤ 164
      → a.ahead ≡ pass_bits n ++ rest → ⊥
  reads_two_ends n rest s h l e = two_ends n b.ahead s (begins n rest h l e)

  module _ (c : BitSource) (v : ℕ) (word : Word 2 b c v) where
    v_is : v ≡ value word.0
    v_is = word_value 2 word.0 v (omega arith) word.1 word.3

    pub took_few : v < 3 → Took a (pass_bits (3 + v)) c
    took_few h =
        let e = number_word 2 word.0 word.1 in
        let f = passes_few v h in
        let g : pass_bits (3 + v) ≡ true ∷ true ∷ word.0 = f
        ∙ ap (λ k. true ∷ true ∷ number 2 k) v_is ∙ ap (λ k. true ∷ true ∷ k) e in
        along a c (true ∷ true ∷ word.0) (pass_bits (3 + v)) (sym g)
        (took_more a b c (true ∷ true ∷ []) word.0 two word.2)

    pub reads_few : v < 3 → (n : ℕ) (rest : List Bool) → 1 ≤ n → n ≤ 164 → a.ahead ≡ pass_bits n
        ++ rest → 3 + v ≡ n
    reads_few h n rest l m e =
        let t = begins n rest l m e in
        let P : List Bool → Type 0 = λ k. Tail n k in
        let q = v_is in
        let r = two_is n word.0 c.ahead word.1 (omega arith) (subst P word.2.ahead t) in omega arith

    five_left : 3 ≤ v → (n : ℕ) (rest : List Bool) → 1 ≤ n → n ≤ 164 → a.ahead ≡ pass_bits n ++ rest
        → Tail5 n c.ahead
    five_left h n rest l m e =
        let t = begins n rest l m e in
        let P : List Bool → Type 0 = λ k. Tail n k in
        let q = v_is in
        two_more n word.0 c.ahead word.1 (omega arith) (subst P word.2.ahead t)

    pub reads_five_ends : 3 ≤ v → (n : ℕ) (rest : List Bool) → length c.ahead < 5 → 1 ≤ n → n ≤ 164
        → a.ahead ≡ pass_bits n ++ rest → ⊥
    reads_five_ends h n rest s l m e = five_ends n c.ahead s (five_left h n rest l m e)

    four : 3 ≤ v → v < 4 → Took a (true ∷ true ∷ true ∷ true ∷ []) c
    four h l =
        let q = v_is in
        let r : v ≡ 3 = omega arith in
        let e = number_word 2 word.0 word.1 in
        let f : true ∷ true ∷ [] ≡ word.0 = three ∙ ap (number 2) (sym r ∙ q) ∙ e in
        along a c (true ∷ true ∷ word.0) (true ∷ true ∷ true ∷ true ∷ [])
        (ap (λ k. true ∷ true ∷ k) (sym f)) (took_more a b c (true ∷ true ∷ []) word.0 two
        word.2)

    module _ (d : BitSource) (u : ℕ) (next : Word 5 c d u) where
      u_is : u ≡ value next.0
      u_is = word_value 5 next.0 u (omega arith) next.1 next.3

      pub took_some : 3 ≤ v → v < 4 → u < 31 → Took a (pass_bits (6 + u)) d
      took_some h l s =
          let e = number_word 5 next.0 next.1 in
          let f = passes_some u s in
          let g : pass_bits (6 + u) ≡ true ∷ true ∷ true ∷ true ∷ next.0 = f
          ∙ ap (λ k. true ∷ true ∷ true ∷ true ∷ number 5 k) u_is
          ∙ ap (λ k. true ∷ true ∷ true ∷ true ∷ k) e in
          along a d (true ∷ true ∷ true ∷ true ∷ next.0) (pass_bits (6 + u)) (sym g)
          (took_more a c d (true ∷ true ∷ true ∷ true ∷ []) next.0 (four h l) next.2)

      pub reads_some : 3 ≤ v → u < 31 → (n : ℕ) (rest : List Bool) → 1 ≤ n → n ≤ 164
          → a.ahead ≡ pass_bits n ++ rest → 6 + u ≡ n
      reads_some h s n rest l m e =
          let t = five_left h n rest l m e in
          let P : List Bool → Type 0 = λ k. Tail5 n k in
          let q = u_is in
          let r = five_is n next.0 d.ahead next.1 (omega arith) (subst P next.2.ahead t) in
          omega arith

      seven_left : 3 ≤ v → 31 ≤ u → (n : ℕ) (rest : List Bool) → 1 ≤ n → n ≤ 164
          → a.ahead ≡ pass_bits n ++ rest → Tail7 n d.ahead
      seven_left h s n rest l m e =
          let t = five_left h n rest l m e in
          let P : List Bool → Type 0 = λ k. Tail5 n k in
          let q = u_is in
          five_more n next.0 d.ahead next.1 (omega arith) (subst P next.2.ahead t)

      pub reads_seven_ends : 3 ≤ v → 31 ≤ u → (n : ℕ) (rest : List Bool) → length d.ahead < 7
          → 1 ≤ n → n ≤ 164 → a.ahead ≡ pass_bits n ++ rest → ⊥
      reads_seven_ends h g n rest s l m e = seven_ends n d.ahead s (seven_left h g n rest l m e)

      nine : 3 ≤ v → v < 4 → 31 ≤ u → u < 32
          → Took a (true ∷ true ∷ true ∷ true ∷ true ∷ true ∷ true ∷ true ∷ true ∷ []) d
      nine h l s w =
          let q = u_is in
          let r : u ≡ 31 = omega arith in
          let e = number_word 5 next.0 next.1 in
          let f : true ∷ true ∷ true ∷ true ∷ true ∷ [] ≡ next.0 = thirty_one
          ∙ ap (number 5) (sym r ∙ q) ∙ e in
          along a d (true ∷ true ∷ true ∷ true ∷ next.0) (true ∷ true ∷ true ∷ true ∷ true ∷ true
          ∷ true ∷ true ∷ true ∷ [])
          (ap (λ k. true ∷ true ∷ true ∷ true ∷ k) (sym f))
          (took_more a c d (true ∷ true ∷ true ∷ true ∷ []) next.0 (four h l) next.2)

      module _ (e' : BitSource) (t : ℕ) (last : Word 7 d e' t) where
        t_is : t ≡ value last.0
        t_is = word_value 7 last.0 t (omega arith) last.1 last.3

        pub took_many : 3 ≤ v → v < 4 → 31 ≤ u → u < 32 → Took a (pass_bits (37 + t)) e'
        took_many h l s w =
            let e = number_word 7 last.0 last.1 in
            let f = passes_many t in
            let g : pass_bits (37 + t) ≡ true ∷ true ∷ true ∷ true ∷ true ∷ true ∷ true ∷ true
            ∷ true ∷ last.0 =
            f ∙ ap (λ k. true ∷ true ∷ true ∷ true ∷ true ∷ true ∷ true ∷ true ∷ true ∷ number 7 k)
            t_is
            ∙ ap (λ k. true ∷ true ∷ true ∷ true ∷ true ∷ true ∷ true ∷ true ∷ true ∷ k) e in
            along a e' (true ∷ true ∷ true ∷ true ∷ true ∷ true ∷ true ∷ true ∷ true ∷ last.0)
            (pass_bits (37 + t)) (sym g)
            (took_more a d e' (true ∷ true ∷ true ∷ true ∷ true ∷ true ∷ true ∷ true ∷ true ∷ [])
            last.0 (nine h l s w) last.2)

        pub reads_many : 3 ≤ v → 31 ≤ u → (n : ℕ) (rest : List Bool) → 1 ≤ n → n ≤ 164
            → a.ahead ≡ pass_bits n ++ rest → 37 + t ≡ n
        reads_many h s n rest l m e =
            let left = seven_left h s n rest l m e in
            let P : List Bool → Type 0 = λ k. Tail7 n k in
            let q = t_is in
            let r = seven_is n last.0 e'.ahead last.1 (subst P last.2.ahead left) in omega arith

-- where the bits end before the second one
pub ends_first : (n : ℕ) (ahead rest : List Bool) → 1 ≤ n → n ≤ 164 → ahead ≡ []
    → ahead ≡ pass_bits n ++ rest → ⊥
ends_first n ahead rest h l z e = elim (kind_of n h l) [
  | one p ↦ (let q = ap (λ k. pass_bits k ++ rest) p in let r = ap (λ k. k ++ rest) passes_one in
      cc)
  | two p ↦ (let q = ap (λ k. pass_bits k ++ rest) p in let r = ap (λ k. k ++ rest) passes_two in
      cc)
  | few k a p ↦ (let q = ap (λ k. pass_bits k ++ rest) p in let r =
      ap (λ k. k ++ rest) (passes_few k a) in cc)
  | some k a p ↦ (let q = ap (λ k. pass_bits k ++ rest) p in let r =
      ap (λ k. k ++ rest) (passes_some k a) in cc)
  | many k a p ↦ (let q = ap (λ k. pass_bits k ++ rest) p in let r =
      ap (λ k. k ++ rest) (passes_many k) in cc)
]

pub ends_second : (n : ℕ) (ahead rest : List Bool) → 1 ≤ n → n ≤ 164 → ahead ≡ true ∷ []
    → ahead ≡ pass_bits n ++ rest → ⊥
ends_second n ahead rest h l z e = elim (kind_of n h l) [
  | one p ↦ (let q = ap (λ k. pass_bits k ++ rest) p in let r = ap (λ k. k ++ rest) passes_one in
      cc)
  | two p ↦ (let q = ap (λ k. pass_bits k ++ rest) p in let r = ap (λ k. k ++ rest) passes_two in
      cc)
  | few k a p ↦ (let q = ap (λ k. pass_bits k ++ rest) p in let r =
      ap (λ k. k ++ rest) (passes_few k a) in cc)
  | some k a p ↦ (let q = ap (λ k. pass_bits k ++ rest) p in let r =
      ap (λ k. k ++ rest) (passes_some k a) in cc)
  | many k a p ↦ (let q = ap (λ k. pass_bits k ++ rest) p in let r =
      ap (λ k. k ++ rest) (passes_many k) in cc)
]
