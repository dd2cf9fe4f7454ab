-- The places of a column in turn. Those outside the block ask nothing.
use Rattle.std.proofs.Common.{ℕ, suc, ◌+◌, ◌*◌, ◌/◌, ◌%◌, ◌^◌, ◌<◌, ◌≤◌, ◌≡◌, inl, inr, Bool}
use Rattle.std.proofs.Common.{true, false, not, ◌&&◌, ◌==◌, eqb, bit_and, min, List, [], ◌∷◌, ◌++◌}
use Rattle.std.proofs.Common.{length, set, refl, sym, ap, ◌∙◌, subst, arith}
use Rattle.std.specs.Int.{bit_at}
use Rattle.std.proofs.lemmas.Bool.{ne_eqb}
use Rattle.std.proofs.lemmas.List.{get_or_past, length-set}
use Rattle.std.proofs.lemmas.Nat.{and_mask, and_mod, and_le_r}
use Rattle.std.proofs.lemmas.Nat.Bits.{bit_at_and, bit_at-zero}
use Rattle.mq_coder.specs.Decisions.{Interval}
use Rattle.mq_decoder.specs.declared.decoder.Decoder.{Decoder}
use Rattle.ebcot_contexts.specs.Cells.{Cell, fresh, cell_at, is_significant}
use Rattle.ebcot_contexts.specs.Contexts.{Shape, is_quiet}
use Rattle.ebcot_contexts.specs.Asks.{Asks, done, ask, chain, read}
use Rattle.ebcot_contexts.specs.Passes.{Kind, significance, refinement, cleanup, is_untouched}
use Rattle.ebcot_contexts.specs.Passes.{is_coded, visit, each}
use Rattle.ebcot_contexts.specs.Meaning.{next_decision}
use Rattle.ebcot_contexts.proofs.Trees.{AtEnds}
use Rattle.ebcot_contexts.proofs.Kept.{visit_kept}
use Rattle.ebcot_contexts.proofs.Loops.{read_chain}
use Rattle.flag_words.specs.Words.{IsFlagWord, IsIn}
use Rattle.flag_words.specs.Lookups.{neighbours_of}
use Rattle.flag_words.proofs.Quiet.{significance_test, refinement_test}
use Rattle.ebcot_reader.specs.Columns.{IsSplit}
use Rattle.ebcot_reader.specs.Reading.{Holds, after}
use Rattle.ebcot_reader.proofs.Places.{visit_case}

-- what follows questions, by what is known at their ends
pub chain_ends : (P : List Cell → Type 0) (t : Asks) (f g : List Cell → Asks) → AtEnds P t
    → ((c : List Cell) → P c → f c ≡ g c) → chain t f ≡ chain t g
chain_ends P (done cells) f g h e = e cells h
chain_ends P (ask cx q answered) f g h e =
    λ i. ask cx q (λ b. chain_ends P (answered b) f g (h b) e i)

-- a place that is not coded asks nothing
pub each_skip : (kind : Kind) (s : Shape) (p i : ℕ) (is : List ℕ) (cells : List Cell)
    → is_coded kind s p i cells ≡ false
    → each kind s p (i ∷ is) cells ≡ each kind s p is cells
each_skip kind s p i is cells uncoded =
    ap (λ (t : Asks). chain t (each kind s p is)) (visit_case kind s p i cells false uncoded)

outside_touched : (p i : ℕ) (cells : List Cell) → length cells ≤ i →
    is_untouched p (cell_at cells i) ≡ false
outside_touched p i cells past =
    ap (λ (c : Cell). c.unknown == suc p) (get_or_past cells i (fresh 0) past)
    ∙ ne_eqb 0 (suc p) (λ e. omega arith)

-- a place outside is not coded
outside_uncoded : (kind : Kind) (s : Shape) (p i : ℕ) (cells : List Cell) → length cells ≤ i →
    is_coded kind s p i cells ≡ false
outside_uncoded significance s p i cells past =
    ap (λ (b : Bool). b && not (is_significant (cell_at cells i)) && not (is_quiet s cells i))
    (outside_touched p i cells past)
outside_uncoded refinement s p i cells past =
    ap (λ (b : Bool). b && is_significant (cell_at cells i)) (outside_touched p i cells past)
outside_uncoded cleanup s p i cells past = outside_touched p i cells past

-- places past a block of n
abbrev AllPast : ℕ → List ℕ → Type 0
AllPast n [] = Unit {0}
AllPast n (i ∷ is) = (n ≤ i) × AllPast n is

-- the length of what is known
abbrev Long : ℕ → List Cell → Type 0
Long n cells = length cells ≡ n

long_kept : (n p : ℕ) (cells : List Cell) (i : ℕ) (x : Cell) → x.unknown ≡ p → Long n cells →
    Long n (set cells i x)
long_kept n p cells i x e long = length-set cells i x ∙ long

past_each : (kind : Kind) (s : Shape) (p n : ℕ) (js : List ℕ) (cells : List Cell) → AllPast n js
    → Long n cells → each kind s p js cells ≡ done cells
past_each kind s p n [] cells past long = refl
past_each kind s p n (j ∷ js) cells past long =
    let beyond = past.0 in
    each_skip kind s p j js cells (outside_uncoded kind s p j cells (omega arith))
    ∙ past_each kind s p n js cells past.1 long

each_prefix : (kind : Kind) (s : Shape) (p n : ℕ) (is js : List ℕ) (cells : List Cell)
    → AllPast n js → Long n cells → each kind s p (is ++ js) cells ≡ each kind s p is cells
each_prefix kind s p n [] js cells past long = past_each kind s p n js cells past long
each_prefix kind s p n (i ∷ is) js cells past long =
    chain_ends (Long n) (visit kind s p i cells) (each kind s p (is ++ js)) (each kind s p is)
    (visit_kept (Long n) p (long_kept n p) s kind i cells long)
    (λ c h. each_prefix kind s p n is js c past h)

-- the places of a column, of which the last ones may be outside
pub column_split : (kind : Kind) (s : Shape) (p n : ℕ) (is : List ℕ) (a b c d : ℕ)
    (cells : List Cell) → IsSplit n is a b c d → length cells ≡ n
    → each kind s p (a ∷ b ∷ c ∷ d ∷ []) cells ≡ each kind s p is cells
column_split kind s p n is a b c d cells (inl e) long =
    ap (λ (js : List ℕ). each kind s p js cells) (sym e)
column_split kind s p n is a b c d cells (inr (inl (nd, e))) long =
    each_prefix kind s p n (a ∷ b ∷ c ∷ []) (d ∷ []) cells (nd, tt) long
    ∙ ap (λ (js : List ℕ). each kind s p js cells) (sym e)
column_split kind s p n is a b c d cells (inr (inr (inl (nc, nd, e)))) long =
    each_prefix kind s p n (a ∷ b ∷ []) (c ∷ d ∷ []) cells (nc, (nd, tt)) long
    ∙ ap (λ (js : List ℕ). each kind s p js cells) (sym e)
column_split kind s p n is a b c d cells (inr (inr (inr (nb, nc, nd, e)))) long =
    each_prefix kind s p n (a ∷ []) (b ∷ c ∷ d ∷ []) cells (nb, (nc, (nd, tt))) long
    ∙ ap (λ (js : List ℕ). each kind s p js cells) (sym e)

-- what is known after four places in turn
abbrev pub after_rows : List ℕ → Kind → Shape → ℕ → ℕ → ℕ → ℕ → ℕ → List Cell × Interval →
    List Cell × Interval
after_rows bytes kind s p a b c d st =
    after bytes (after bytes (after bytes (after bytes st (visit kind s p a))
    (visit kind s p b)) (visit kind s p c)) (visit kind s p d)

each_read : (bytes : List ℕ) (kind : Kind) (s : Shape) (p i : ℕ) (is : List ℕ)
    (st : List Cell × Interval)
    → after bytes st (each kind s p (i ∷ is))
    ≡ after bytes (after bytes st (visit kind s p i)) (each kind s p is)
each_read bytes kind s p i is st =
    read_chain (next_decision bytes) st.1 (visit kind s p i st.0) (each kind s p is)

pub rows_read : (bytes : List ℕ) (kind : Kind) (s : Shape) (p a b c d : ℕ)
    (st : List Cell × Interval)
    → after bytes st (each kind s p (a ∷ b ∷ c ∷ d ∷ [])) ≡ after_rows bytes kind s p a b c d st
rows_read bytes kind s p a b c d st =
    let s1 : List Cell × Interval = after bytes st (visit kind s p a) in
    let s2 : List Cell × Interval = after bytes s1 (visit kind s p b) in
    let s3 : List Cell × Interval = after bytes s2 (visit kind s p c) in
    each_read bytes kind s p a (b ∷ c ∷ d ∷ []) st
    ∙ (each_read bytes kind s p b (c ∷ d ∷ []) s1
    ∙ (each_read bytes kind s p c (d ∷ []) s2 ∙ each_read bytes kind s p d [] s3))

pub rows_hold : (bytes : List ℕ) (kind : Kind) (s : Shape) (p : ℕ) (is : List ℕ) (a b c d : ℕ)
    (st : List Cell × Interval) (words grid : List ℕ) (decoder : Decoder)
    → IsSplit (s.width * s.height) is a b c d → length st.0 ≡ s.width * s.height
    → Holds bytes s p (after_rows bytes kind s p a b c d st) words grid decoder
    → Holds bytes s p (after bytes st (each kind s p is)) words grid decoder
rows_hold bytes kind s p is a b c d st words grid decoder split long h =
    subst (λ (x : List Cell × Interval). Holds bytes s p x words grid decoder)
    (sym (rows_read bytes kind s p a b c d st)
    ∙ ap (λ (t : Asks). read (next_decision bytes) st.1 t)
    (column_split kind s p (s.width * s.height) is a b c d st.0 split long)) h

-- A column of which nothing is coded.
pub none_coded : (bytes : List ℕ) (kind : Kind) (s : Shape) (p : ℕ) (is : List ℕ) (a b c d : ℕ)
    (st : List Cell × Interval) (words grid : List ℕ) (decoder : Decoder)
    → IsSplit (s.width * s.height) is a b c d
    → is_coded kind s p a st.0 ≡ false → is_coded kind s p b st.0 ≡ false
    → is_coded kind s p c st.0 ≡ false → is_coded kind s p d st.0 ≡ false
    → Holds bytes s p st words grid decoder
    → Holds bytes s p (after bytes st (each kind s p is)) words grid decoder
none_coded bytes kind s p is a b c d st words grid decoder split ua ub uc ud h =
    let none : each kind s p (a ∷ b ∷ c ∷ d ∷ []) st.0 ≡ done st.0 =
    each_skip kind s p a (b ∷ c ∷ d ∷ []) st.0 ua
    ∙ (each_skip kind s p b (c ∷ d ∷ []) st.0 ub
    ∙ (each_skip kind s p c (d ∷ []) st.0 uc ∙ each_skip kind s p d [] st.0 ud)) in
    subst (λ (t : Asks). Holds bytes s p (read (next_decision bytes) st.1 t) words grid decoder)
    (sym none ∙ column_split kind s p (s.width * s.height) is a b c d st.0 split h.long) h

-- Tests of a whole column.

no_neighbours : (x : ℕ) → x % 512 ≡ 0 → bit_and x 0x1EF ≡ 0
no_neighbours x e =
    let low = and_le_r x 0x1EF in
    let m : bit_and x 0x1EF % 2 ^ 9 ≡ 0 = and_mod x 0x1EF 9
    ∙ ap (λ (v : ℕ). bit_and v (0x1EF % 2 ^ 9)) e in
    omega arith

pub quiet_word : (word : ℕ) → bit_and word 0x3FFFF ≡ 0
    → (neighbours_of word 0 ≡ 0) × (neighbours_of word 1 ≡ 0) × (neighbours_of word 2 ≡ 0) ×
    (neighbours_of word 3 ≡ 0)
quiet_word word e =
    let low : word % 0x40000 ≡ 0 = sym (and_mask word 18) ∙ e in (
      no_neighbours (word / 2 ^ (3 * 0)) (omega arith),
      no_neighbours (word / 2 ^ (3 * 1)) (omega arith),
      no_neighbours (word / 2 ^ (3 * 2)) (omega arith),
      no_neighbours (word / 2 ^ (3 * 3)) (omega arith),
    )

and_false : (b : Bool) → (b && false) ≡ false
and_false true = refl
and_false false = refl

pub quiet_uncoded : (s : Shape) (p i column stripe r : ℕ) (cells : List Cell) (word : ℕ) → r < 4 →
    IsIn s.width i column stripe r → 0 < s.width
    → IsFlagWord s.width p cells column stripe word → neighbours_of word r ≡ 0 →
    is_coded significance s p i cells ≡ false
quiet_uncoded s p i column stripe r cells word few at some is none =
    sym (significance_test s p i column stripe r cells word few at some is)
    ∙ (ap (λ (k : ℕ). not (bit_at word (21 + 3 * r) == 1) && not
    (bit_at word (4 + 3 * r) == 1) && not (eqb k 0)) none ∙ and_false _)

bit_none : (word k : ℕ) → bit_and word 0x2490 ≡ 0 → bit_at 0x2490 k ≡ 1 → bit_at word k ≡ 0
bit_none word k e one =
    let both : min (bit_at word k) (bit_at 0x2490 k) ≡ 0 = sym (bit_at_and word 0x2490 k)
    ∙ (ap (λ (v : ℕ). bit_at v k) e ∙ bit_at-zero k) in
    let m : min (bit_at word k) 1 ≡ 0 = rw one at both in
    omega arith

pub none_significant : (word : ℕ) → bit_and word 0x2490 ≡ 0
    → (bit_at word (4 + 3 * 0) ≡ 0) × (bit_at word (4 + 3 * 1) ≡ 0) ×
    (bit_at word (4 + 3 * 2) ≡ 0) × (bit_at word (4 + 3 * 3) ≡ 0)
none_significant word e = (
  bit_none word 4 e refl,
  bit_none word 7 e refl,
  bit_none word 10 e refl,
  bit_none word 13 e
      refl,
)

pub unrefined : (s : Shape) (p i column stripe r : ℕ) (cells : List Cell) (word : ℕ) → r < 4 →
    IsIn s.width i column stripe r → 0 < s.width
    → IsFlagWord s.width p cells column stripe word → bit_at word (4 + 3 * r) ≡ 0 →
    is_coded refinement s p i cells ≡ false
unrefined s p i column stripe r cells word few at some is none =
    sym (refinement_test s p i column stripe r cells word few at some is)
    ∙ (ap (λ (k : ℕ). not (bit_at word (21 + 3 * r) == 1) && (k == 1)) none ∙ and_false _)
