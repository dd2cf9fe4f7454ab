-- The bytes of code-blocks that follow on one another, as their lengths cut them, and the spans
-- that say them.
use Rattle.std.proofs.Common.{◌≡◌, ℕ, ◌+◌, ◌-◌, ◌≤◌, List, [], ◌∷◌, ◌++◌, length, map, refl, ap}
use Rattle.std.proofs.Common.{sym, ◌∙◌, arith, append_assoc, slice_range}
use Rattle.std.specs.List.{flat_map, sum_by}
use Rattle.std.proofs.lemmas.List.Sums.{sum_by-cons}
use Rattle.packet_headers.specs.declared.entry.Entry.{Entry}
use Rattle.codestream_reader.specs.Spans.{said, spans_from}
use Rattle.codestream_reader.proofs.Pieces.{joined, part_split, length_part}

-- the sum of lengths, by recursion
abbrev pub total : List ℕ → ℕ
total [] = 0
total (n ∷ ns) = n + total ns

abbrev pub codes_at : List ℕ → ℕ → List ℕ → List (List ℕ)
codes_at bytes a [] = []
codes_at bytes a (n ∷ ns) = slice_range bytes a (a + n) ∷ codes_at bytes (a + n) ns

-- pieces of these lengths are cut there
pub codes_are : (bytes : List ℕ) (codes : List (List ℕ)) (rest lens : List ℕ) (a stop : ℕ) →
    map length codes ≡ lens → stop ≤ length bytes → a ≤ stop →
    slice_range bytes a stop ≡ flat_map (λ code. code) codes ++ rest →
    codes ≡ codes_at bytes a lens
codes_are bytes [] rest lens a stop lengths inside order is =
    ap (codes_at bytes a) lengths
codes_are bytes (code ∷ codes) rest lens a stop lengths inside order is =
    let parts = joined bytes code (flat_map (λ c. c) codes ++ rest) a stop inside order
    (is ∙ append_assoc code (flat_map (λ c. c) codes) rest) in
    ap (λ c. c ∷ codes) (sym parts.first)
    ∙ ap (λ cs. slice_range bytes a (a + length code) ∷ cs)
    (codes_are bytes codes rest (map length codes) (a + length code) stop refl inside parts.inside
    parts.rest)
    ∙ ap (codes_at bytes a) lengths

-- and they are pieces of these lengths
pub codes_lengths : (bytes lens : List ℕ) (a : ℕ) → a + total lens ≤ length bytes →
    map length (codes_at bytes a lens) ≡ lens
codes_lengths bytes [] a inside = refl
codes_lengths bytes (n ∷ ns) a inside =
    let first : length (slice_range bytes a (a + n)) ≡ n =
    length_part bytes a (a + n) (omega (arith, inside))
    ∙ (let e : a + n - a ≡ n = omega arith in e) in
    ap (λ m. m ∷ map length (codes_at bytes (a + n) ns)) first
    ∙ ap (λ ms. n ∷ ms) (codes_lengths bytes ns (a + n) (omega (arith, inside)))

pub codes_joined : (bytes lens : List ℕ) (a stop : ℕ) → a + total lens ≤ stop →
    slice_range bytes a stop
    ≡ flat_map (λ code. code) (codes_at bytes a lens) ++ slice_range bytes (a + total lens) stop
codes_joined bytes [] a stop inside =
    ap (λ m. slice_range bytes m stop) (let e : a ≡ a + 0 = omega arith in e)
codes_joined bytes (n ∷ ns) a stop inside =
    part_split bytes a n stop (omega (arith, inside))
    ∙ ap (λ t. slice_range bytes a (a + n) ++ t)
    (codes_joined bytes ns (a + n) stop (omega (arith, inside))
    ∙ ap (λ m. flat_map (λ code. code) (codes_at bytes (a + n) ns) ++ slice_range bytes m stop)
    (let e : a + n + total ns ≡ a + (n + total ns) = omega arith in e))
    ∙ sym (append_assoc (slice_range bytes a (a + n))
    (flat_map (λ code. code) (codes_at bytes (a + n) ns))
    (slice_range bytes (a + (n + total ns)) stop))

-- what the spans say
abbrev pub lengths_of : List Entry → List ℕ
lengths_of es = map (λ (e : Entry). e.len) es

pub entries_said : (bytes : List ℕ) (es : List Entry) (a : ℕ) →
    map (λ s. (said bytes s).entry) (spans_from a es) ≡ es
unfolding spans_from
entries_said bytes [] a = refl
entries_said bytes (e ∷ es) a = ap (λ t. e ∷ t) (entries_said bytes es (a + e.len))

pub codes_said : (bytes : List ℕ) (es : List Entry) (a : ℕ) →
    map (λ s. (said bytes s).code) (spans_from a es) ≡ codes_at bytes a (lengths_of es)
unfolding spans_from
codes_said bytes [] a = refl
codes_said bytes (e ∷ es) a =
    ap (λ t. slice_range bytes a (a + e.len) ∷ t) (codes_said bytes es (a + e.len))

pub total_is : (es : List Entry) → total (lengths_of es) ≡ sum_by (λ (e : Entry). e.len) es
total_is [] = refl
total_is (e ∷ es) =
    ap (λ n. e.len + n) (total_is es) ∙ sym (sum_by-cons (λ (e : Entry). e.len) e es)
