-- The table of the codewords of coding passes.
use Rattle.std.proofs.Common.{◌≡◌, ℕ, suc, zero, ◌+◌, ◌-◌, ◌^◌, ◌<◌, ◌≤◌, Bool, true, false, List}
use Rattle.std.proofs.Common.{[], ◌∷◌, ◌++◌, length, get_or, refl, ap, ◌∙◌, inl, inr, arith, eqb}
use Rattle.std.specs.Prelude.{◌&&◌, nat_le, if◌then◌else◌, replicate}
use Rattle.std.proofs.lemmas.Bool.{le-leb, lt-leb, cases_lt, eqb-true}
use Rattle.cine_nums.specs.Bits.{bit_len}
use Rattle.bit_stuffing.specs.Bits.{number}
use Rattle.bit_stuffing.proofs.RegisterLemmas.{number-join}
use Rattle.packet_headers.specs.declared.writing.passes.PassRow.{PassRow}
use Rattle.packet_headers.specs.Codewords.{pass_bits}

-- the codeword of a number of passes, its bits and as a number
abbrev word_width : ℕ → ℕ
word_width n = if nat_le n 1 then 1 else if nat_le n 2 then 2 else if nat_le n 5 then 4
    else if nat_le n 36 then 9 else 16

abbrev word_value : ℕ → ℕ
word_value n =
    if nat_le n 1 then 0 else if nat_le n 2 then 2 else if nat_le n 5 then 12 + (n - 3)
    else if nat_le n 36 then 480 + (n - 6) else 65408 + (n - 37)

record WordIs (n width value : ℕ) : Type 0 where
  bits : number width value ≡ pass_bits n
  fits : value < 2 ^ width
  few : width ≤ 16
  short : n ≤ 36 → width ≤ 9

two_ones : number 2 3 ≡ replicate 2 true
unfolding number
two_ones = refl

four_ones : number 4 15 ≡ replicate 4 true
unfolding number
four_ones = refl

nine_ones : number 9 511 ≡ replicate 9 true
unfolding number
nine_ones = refl

one_bits : (n : ℕ) → n ≤ 1 → number 1 0 ≡ pass_bits n
unfolding number pass_bits
one_bits n h = rw (le-leb n 1 h) refl

two_bits : (n : ℕ) → 1 < n → n ≤ 2 → number 2 2 ≡ pass_bits n
unfolding number pass_bits
two_bits n g h = rw (lt-leb n 1 g, le-leb n 2 h) refl

few_bits : (n : ℕ) → 2 < n → n ≤ 5 → number 4 (12 + (n - 3)) ≡ pass_bits n
unfolding pass_bits
few_bits n g h =
    let e = number-join 2 2 3 (n - 3) (omega arith) in
    rw (lt-leb n 1 (omega arith), lt-leb n 2 g, le-leb n 5 h) (e
    ∙ ap (λ r. r ++ number 2 (n - 3)) two_ones)

more_bits : (n : ℕ) → 5 < n → n ≤ 36 → number 9 (480 + (n - 6)) ≡ pass_bits n
unfolding pass_bits
more_bits n g h =
    let e = number-join 4 5 15 (n - 6) (omega arith) in
    rw (lt-leb n 1 (omega arith), lt-leb n 2 (omega arith), lt-leb n 5 g, le-leb n 36 h) (e
    ∙ ap (λ r. r ++ number 5 (n - 6)) four_ones)

many_bits : (n : ℕ) → 36 < n → n ≤ 164 → number 16 (65408 + (n - 37)) ≡ pass_bits n
unfolding pass_bits
many_bits n g h =
    let e = number-join 9 7 511 (n - 37) (omega arith) in
    rw (lt-leb n 1 (omega arith), lt-leb n 2 (omega arith), lt-leb n 5 (omega arith), lt-leb n 36 g)
    (e ∙ ap (λ r. r ++ number 7 (n - 37)) nine_ones)

word_is : (n : ℕ) → n ≤ 164 → WordIs n (word_width n) (word_value n)
word_is n m = elim (cases_lt 1 n) [
  | inr a ↦ rw (le-leb n 1 a) (record {
    bits = one_bits n a;
    fits = omega arith;
    few = omega arith;
    short = λ k. omega arith;
  })
  | inl a ↦ elim (cases_lt 2 n) [
    | inr b ↦ rw (lt-leb n 1 a, le-leb n 2 b) (record {
      bits = two_bits n a b;
      fits = omega arith;
      few = omega arith;
      short = λ k. omega arith;
    })
    | inl b ↦ elim (cases_lt 5 n) [
      | inr d ↦ rw (lt-leb n 1 a, lt-leb n 2 b, le-leb n 5 d) (record {
        bits = few_bits n b d;
        fits = omega arith;
        few = omega arith;
        short = λ k. omega arith;
      })
      | inl d ↦ elim (cases_lt 36 n) [
        | inr e ↦ rw (lt-leb n 1 a, lt-leb n 2 b, lt-leb n 5 d, le-leb n 36 e)
            (record {
              bits = more_bits n d e;
              fits = omega arith;
              few = omega arith;
              short =
                  λ k. omega arith;
            })
        | inl e ↦ rw (lt-leb n 1 a, lt-leb n 2 b, lt-leb n 5 d, lt-leb n 36 e)
            (record {
              bits = many_bits n e m;
              fits = omega arith;
              few = omega arith;
              short =
                  λ k. absurd (omega arith);
            })
      ]
    ]
  ]
]

-- a row says so
row_fits : ℕ → PassRow → Bool
row_fits n row = eqb row.value (word_value n)
    && (eqb row.bits_in_all (word_width n + (row.most_log + 2)) && eqb row.most_log (1 + bit_len n))

rows_fit : ℕ → List PassRow → Bool
rows_fit n [] = true
rows_fit n (row ∷ rows) = row_fits n row && rows_fit (n + 1) rows

both : (a b : Bool) → (a && b) ≡ true → (a ≡ true) × (b ≡ true)
both true b h = (refl, h)
both false b h = absurd (cc)

row_at : (rows : List PassRow) (n k : ℕ) (d : PassRow) → rows_fit n rows ≡ true → k < length rows
    → row_fits (n + k) (get_or rows k d) ≡ true
unfolding rows_fit
row_at [] n k d h l = absurd (omega arith)
row_at (row ∷ rows) n zero d h l = let z : n + 0 ≡ n = omega arith in
    rw z (both (row_fits n row) (rows_fit (n + 1) rows) h).0
row_at (row ∷ rows) n (suc k) d h l =
    let z : n + suc k ≡ n + 1 + k = omega arith in
    rw z (row_at rows (n + 1) k d (both (row_fits n row) (rows_fit (n + 1) rows) h).1 (omega arith))

pub record RowIs (n : ℕ) (row : PassRow) : Type 0 where
  pub bits : number (row.bits_in_all - (row.most_log + 2)) row.value ≡ pass_bits n
  pub fits : row.value < 2 ^ (row.bits_in_all - (row.most_log + 2))
  pub some : row.most_log + 2 ≤ row.bits_in_all
  pub few : row.bits_in_all - (row.most_log + 2) ≤ 16
  pub short : n ≤ 36 → row.bits_in_all - (row.most_log + 2) ≤ 9
  pub log : row.most_log ≡ 1 + bit_len n

row_says : (n : ℕ) (row : PassRow) → n ≤ 164 → row_fits n row ≡ true → RowIs n row
unfolding row_fits
row_says n row m h =
    let a = both (eqb row.value (word_value n)) (eqb row.bits_in_all
    (word_width n + (row.most_log + 2)) && eqb row.most_log (1 + bit_len n)) h in
    let b = both (eqb row.bits_in_all (word_width n + (row.most_log + 2)))
    (eqb row.most_log (1 + bit_len n)) a.1 in
    let v = eqb-true row.value (word_value n) a.0 in
    let t = eqb-true row.bits_in_all (word_width n + (row.most_log + 2)) b.0 in
    let w : row.bits_in_all - (row.most_log + 2) ≡ word_width n = omega arith in
    let i = word_is n m in
    record {
      bits = ap (λ k. number k row.value) w ∙ ap (λ k. number (word_width n) k) v ∙ i.bits;
      fits = rw (v, w) i.fits;
      some = omega arith;
      few = rw w i.few;
      short = λ k. rw w (i.short k);
      log = eqb-true row.most_log (1 + bit_len n) b.1;
    }

-- the table of the code
abbrev pub line : ℕ → ℕ → ℕ → PassRow
line value bits log = record { value = value; bits_in_all = bits; most_log = log }

unfoldable pub pass_table : List PassRow
pass_table =
    line 0 4 1 ∷ line 0 5 2 ∷ line 2 7 3 ∷ line 12 9 3 ∷ line 13 10 4 ∷ line 14 10 4 ∷ line 480 15 4
    ∷
    line 481 15 4 ∷ line 482 16 5 ∷ line 483 16 5 ∷ line 484 16 5 ∷ line 485 16 5 ∷ line 486 16 5
    ∷ line 487 16 5 ∷
    line 488 16 5 ∷ line 489 16 5 ∷ line 490 17 6 ∷ line 491 17 6 ∷ line 492 17 6 ∷ line 493 17 6
    ∷ line 494 17 6 ∷
    line 495 17 6 ∷ line 496 17 6 ∷ line 497 17 6 ∷ line 498 17 6 ∷ line 499 17 6 ∷ line 500 17 6
    ∷ line 501 17 6 ∷
    line 502 17 6 ∷ line 503 17 6 ∷ line 504 17 6 ∷ line 505 17 6 ∷ line 506 18 7 ∷ line 507 18 7
    ∷ line 508 18 7 ∷
    line 509 18 7 ∷ line 510 18 7 ∷ line 65408 25 7 ∷ line 65409 25 7 ∷ line 65410 25 7
    ∷ line 65411 25 7 ∷ line 65412 25 7 ∷
    line 65413 25 7 ∷ line 65414 25 7 ∷ line 65415 25 7 ∷ line 65416 25 7 ∷ line 65417 25 7
    ∷ line 65418 25 7 ∷ line 65419 25 7 ∷
    line 65420 25 7 ∷ line 65421 25 7 ∷ line 65422 25 7 ∷ line 65423 25 7 ∷ line 65424 25 7
    ∷ line 65425 25 7 ∷ line 65426 25 7 ∷
    line 65427 25 7 ∷ line 65428 25 7 ∷ line 65429 25 7 ∷ []

all_fit : rows_fit 0 pass_table ≡ true
unfolding rows_fit row_fits pass_table
all_fit = refl

long : length pass_table ≡ 59
unfolding pass_table
long = refl

module _ (n : ℕ) (d : PassRow) (h : n ≤ 58) where
  pub row_is : RowIs n (get_or pass_table n d)
  row_is =
      let z : 0 + n ≡ n = omega arith in
      let l : n < length pass_table = rw long (omega arith) in
      row_says n (get_or pass_table n d) (omega arith) (rw z at (row_at pass_table 0 n d all_fit l))
