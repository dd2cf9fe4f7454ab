-- Spans set one after the other at numbers that differ.
use Rattle.std.proofs.Common.{◌≡◌, ℕ, zero, suc, ◌+◌, ◌<◌, List, [], ◌∷◌, length, get_or, set, map}
use Rattle.std.proofs.Common.{take, refl, ap, sym, ◌∙◌, arith, inl, inr, subst}
use Rattle.std.specs.List.{All, AllPairs, Contains, sum_by}
use Rattle.std.proofs.lemmas.Bool.{cases_lt}
use Rattle.std.proofs.lemmas.List.{length-set, get_or-set_same, get_or-set_other, get_or-map}
use Rattle.std.proofs.lemmas.List.{ext_get_or, get_or_default, length-map}
use Rattle.std.proofs.lemmas.List.Sums.{sum_by-cons, sum_by_more}
use Rattle.packet_headers.specs.declared.entry.Entry.{Entry}
use Rattle.codestream_reader.specs.Spans.{no_span, spans_from}
use Rattle.codestream_reader.specs.declared.span.BlockSpan.{BlockSpan}

abbrev pub entry_len : Entry → ℕ
entry_len e = e.len

pub length_spans : (a : ℕ) (es : List Entry) → length (spans_from a es) ≡ length es
unfolding spans_from
length_spans a [] = refl
length_spans a (e ∷ es) = ap suc (length_spans (a + e.len) es)

-- the span at a place
pub span_at : (a i : ℕ) (es : List Entry) (d : BlockSpan) (e : Entry) → i < length es →
    get_or (spans_from a es) i d
    ≡ record { entry = get_or es i e; at = a + sum_by entry_len (take i es) }
unfolding spans_from
span_at a i [] d e below = absurd (omega (arith, below))
span_at a zero (x ∷ es) d e below =
    ap (λ n. record { entry = x; at = n }) (let z : a ≡ a + 0 = omega arith in z)
span_at a (suc i) (x ∷ es) d e below =
    span_at (a + x.len) i es d e (omega (arith, below))
    ∙ ap (λ n. record { entry = get_or es i e; at = n })
    (let more = sum_by-cons entry_len x (take i es) in
    let z : a + x.len + sum_by entry_len (take i es) ≡ a + sum_by entry_len (x ∷ take i es) =
    omega (arith, more) in z)

-- the first i are set, and nothing else was changed
pub record Placed (numbers : List ℕ) (entries : List Entry) (from : ℕ) (old : List BlockSpan)
    (i at : ℕ) (spans : List BlockSpan) : Type 0 where
  pub at_is : at ≡ from + sum_by entry_len (take i entries)
  pub count : length spans ≡ length old
  pub placed : (k : ℕ) → k < i →
      get_or spans (get_or numbers k 0) no_span ≡ get_or (spans_from from entries) k no_span
  pub others : (n : ℕ) → ((k : ℕ) → k < i → get_or numbers k 0 ≡ n → ⊥) →
      get_or spans n no_span ≡ get_or old n no_span

pub none_placed : (numbers : List ℕ) (entries : List Entry) (from : ℕ) (old : List BlockSpan) →
    Placed numbers entries from old 0 from old
none_placed numbers entries from old = record {
  at_is = omega arith;
  count = refl;
  placed = λ k below. absurd (omega (arith, below));
  others = λ n not. refl;
}

pub one_placed : (numbers : List ℕ) (entries : List Entry) (from : ℕ) (old : List BlockSpan)
    (i at : ℕ) (spans : List BlockSpan) (n : ℕ) (e : Entry) →
    Placed numbers entries from old i at spans → i < length numbers →
    length entries ≡ length numbers → All (λ n. n < length old) numbers →
    AllPairs (λ a b. a ≡ b → ⊥) numbers → n ≡ get_or numbers i 0 → e ≡ get_or entries i e →
    Placed numbers entries from old (i + 1) (at + e.len)
    (set spans n (record { entry = e; at = at }))
one_placed numbers entries from old i at spans n e before below same within apart number entry =
    record {
      at_is =
          let more = sum_by_more entry_len entries i e (omega (arith, below, same)) in
          let len = ap entry_len entry in
          let at_is = before.at_is in
          omega (arith, more, len, at_is);
      count = length-set spans n span ∙ before.count;
      placed = placed;
      others = others;
    }
  where
    span : BlockSpan
    span = record { entry = e; at = at }

    inside : n < length spans
    inside =
        let is = within i 0 below in
        let count = before.count in
        omega (arith, is, count, number)

    last : get_or (set spans n span) (get_or numbers i 0) no_span
        ≡ get_or (spans_from from entries) i no_span
    last =
        ap (λ m. get_or (set spans n span) m no_span) (sym number)
        ∙ get_or-set_same spans n span no_span inside
        ∙ ap (λ x. record { entry = x; at = at }) entry
        ∙ ap (λ m. record { entry = get_or entries i e; at = m }) before.at_is
        ∙ sym (span_at from i entries no_span e (omega (arith, below, same)))

    placed : (k : ℕ) → k < i + 1 →
        get_or (set spans n span) (get_or numbers k 0) no_span
        ≡ get_or (spans_from from entries) k no_span
    placed k less = elim (cases_lt k i) [
      | inl earlier ↦
          get_or-set_other spans n (get_or numbers k 0) span no_span
          (λ is. apart k i 0 earlier below (is ∙ number))
          ∙ before.placed k earlier
      | inr later ↦
          let is : i ≡ k = omega (arith, less, later) in
          subst (λ m. get_or (set spans n span) (get_or numbers m 0) no_span
          ≡ get_or (spans_from from entries) m no_span) is last
    ]

    others : (m : ℕ) → ((k : ℕ) → k < i + 1 → get_or numbers k 0 ≡ m → ⊥) →
        get_or (set spans n span) m no_span ≡ get_or old m no_span
    others m not =
        get_or-set_other spans n m span no_span
        (λ is. not i (omega arith) (sym number ∙ sym is))
        ∙ before.others m (λ k less is. not k (omega (arith, less)) is)

pub all_placed : (numbers : List ℕ) (entries : List Entry) (from i at : ℕ)
    (old spans : List BlockSpan) → Placed numbers entries from old i at spans →
    i ≡ length numbers → length entries ≡ length numbers →
    map (λ n. get_or spans n no_span) numbers ≡ spans_from from entries
all_placed numbers entries from i at old spans placed whole same =
    ext_get_or no_span (map (λ n. get_or spans n no_span) numbers) (spans_from from entries)
    (length-map numbers (λ n. get_or spans n no_span) ∙ sym same ∙ sym (length_spans from entries))
    (λ k below.
    let within : k < length numbers =
    subst (λ m. k < m) (length-map numbers (λ n. get_or spans n no_span)) below in
    get_or-map (λ n. get_or spans n no_span) numbers k 0 no_span within
    ∙ placed.placed k (omega (arith, within, whole)))

pub others_kept : (numbers : List ℕ) (entries : List Entry) (from i at : ℕ)
    (old spans : List BlockSpan) → Placed numbers entries from old i at spans →
    i ≡ length numbers → (n : ℕ) → (Contains numbers n → ⊥) →
    get_or spans n no_span ≡ get_or old n no_span
others_kept numbers entries from i at old spans placed whole n not =
    placed.others n (λ k below is.
    let within : k < length numbers = omega (arith, below, whole) in
    not (k, within, get_or_default numbers k n 0 within ∙ is))
