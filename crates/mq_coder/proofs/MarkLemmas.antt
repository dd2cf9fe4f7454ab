-- The ended code at a mark is the code of the symbols for which the mark stands.
use Rattle.std.proofs.Common.{ℕ, zero, suc, ◌+◌, ◌-◌, ◌<◌, ◌≤◌, ◌≡◌, ◌⊎◌, inl, inr, Bool, List, []}
use Rattle.std.proofs.Common.{◌∷◌, ◌++◌, length, get_or, set, take, arith, refl, ap, sym, ◌∙◌}
use Rattle.std.proofs.lemmas.List.{length-append, length-take-le, take_more, take_more_set}
use Rattle.std.proofs.lemmas.List.{take-take, get_or-take, nil_from_length}
use Rattle.std.proofs.Math.Seq.{take-length}
use Rattle.mq_coder.specs.declared.mark.Mark.{Mark}
use Rattle.mq_coder.specs.Code.{Coding, last_byte, coded, flush, code}
use Rattle.mq_coder.specs.Mark.{last_of, coding_at, kept_at, tail_at, IsMarkOf, IsLeft}
use Rattle.mq_coder.proofs.After.{after, OwnsLast, ended_behind}
use Rattle.mq_coder.proofs.Lists.{take_less}
use Rattle.mq_coder.proofs.FlushForm.{ended_form}

-- the last byte, written to the prefix of a buffer
pub last_of_is : (count last : ℕ) (buffer : List ℕ) → 1 ≤ length buffer
    → (n : ℕ) → ((count ≡ 0) × (n ≡ 0)) ⊎ ((count ≡ 0 → ⊥) × (n ≡ 1))
    → take n (set buffer 0 last) ≡ last_of count last
last_of_is count last [] room n h = absurd (omega arith)
last_of_is zero last (b ∷ bs) room n (inl h) = rw h.1 refl
last_of_is zero last (b ∷ bs) room n (inr h) = absurd (h.0 refl)
last_of_is (suc k) last (b ∷ bs) room n (inl h) = absurd (omega (arith, h.0))
last_of_is (suc k) last (b ∷ bs) room n (inr h) = rw h.1 refl

-- as many bytes as count says, up to one
last_of_length : (count last : ℕ) → length (last_of count last) + (count - 1) ≡ count
last_of_length zero last = refl
last_of_length (suc k) last = omega arith

-- the tail at a mark, with the kept bytes
pub record IsTail (count : ℕ) (bytes : List ℕ) : Type 0 where
  pub some : 1 ≤ length bytes
  pub one_more : count + 1 ≤ count - 1 + length bytes
  pub two_more : count - 1 + length bytes ≤ count + 2
  pub no_ff : last_byte bytes ≡ 255 → ⊥

pub tail_form : (m : Mark) → IsTail m.count (tail_at m)
tail_form m =
    let e = last_of_length m.count m.last in
    let f = ended_form (coding_at m) in
    let one_more = f.one_more in
    let two_more = f.two_more in
    record { some = omega arith; one_more = omega arith; two_more = omega arith; no_ff = f.no_ff }

-- bytes, as all but the last and the last
split : (bytes : List ℕ) (count : ℕ) → count ≡ length bytes
    → take (count - 1) bytes ++ last_of count (last_byte bytes) ≡ bytes
split [] zero e = refl
split [] (suc k) e = absurd (omega arith)
split (b ∷ bs) zero e = absurd (omega arith)
split (b ∷ bs) (suc k) e =
    let within : k < length (b ∷ bs) = omega arith in
    let place : length (b ∷ bs) - 1 ≡ k = omega arith in
    let drop : suc k - 1 ≡ k = omega arith in
    let full : k + 1 ≡ length (b ∷ bs) = omega arith in
    rw (drop, place) (sym (take_more (b ∷ bs) k 0 within) ∙ rw full (take-length (b ∷ bs)))

owns_last : (count last : ℕ) (bytes : List ℕ) →
    OwnsLast (take (count - 1) bytes) (last_of count last)
owns_last zero last bytes = inl refl
owns_last (suc k) last bytes = inr (omega arith)

pub marked_code : (m : Mark) (buffer : List ℕ) (symbols : List (ℕ × Bool)) →
    IsMarkOf m buffer symbols
    → take (kept_at m) buffer ++ tail_at m ≡ code symbols
unfolding code
marked_code m buffer symbols h =
    let x : Coding = coded symbols in
    let prefix : List ℕ = take (kept_at m) x.bytes in
    let whole : prefix ++ last_of m.count m.last ≡ x.bytes =
    ap (λ (b : ℕ). prefix ++ last_of m.count b) h.last ∙ split x.bytes m.count h.count in
    let same : after prefix x.contexts (coding_at m) ≡ x =
    ap (λ (bs : List ℕ). record (after prefix x.contexts (coding_at m)) { bytes = bs }) whole
    ∙ (ap (λ (a : ℕ). record x { a = a; c = m.c; ct = m.ct }) h.a
    ∙ (ap (λ (c : ℕ). record x { c = c; ct = m.ct }) h.c
    ∙ ap (λ (ct : ℕ). record x { ct = ct }) h.ct)) in
    ap (λ (f : List ℕ). f ++ tail_at m) h.prefix
    ∙ (sym (ended_behind prefix x.contexts (coding_at m) (owns_last m.count m.last x.bytes))
    ∙ ap flush same)

-- a mark that lies after: the buffer's prefix is what it was
pub mark_kept : (m : Mark) (old new : List ℕ) (count : ℕ) (symbols : List (ℕ × Bool))
    → take (count - 1) new ≡ take (count - 1) old → m.count ≤ count → IsMarkOf m old symbols →
    IsMarkOf m new symbols
mark_kept m old new count symbols same within h =
    record {
      a = h.a;
      c = h.c;
      ct = h.ct;
      last = h.last;
      count = h.count;
      prefix = take_less new old (count - 1) (m.count - 1) same (omega arith) ∙ h.prefix;
    }

pub marked_length : (m : Mark) (buffer : List ℕ) (symbols : List (ℕ × Bool)) →
    IsMarkOf m buffer symbols
    → kept_at m + length (tail_at m) ≡ length (code symbols)
marked_length m buffer symbols h =
    let count = h.count in
    let kept : length (take (kept_at m) buffer) ≡ kept_at m =
    ap length h.prefix ∙ length-take-le (kept_at m) (coded symbols).bytes (omega arith) in
    let whole = length-append (take (kept_at m) buffer) (tail_at m) in
    let same = ap length (marked_code m buffer symbols h) in
    omega arith

-- a mark of the registers beside the buffer
pub marked : (m : Mark) (buffer : List ℕ) (contexts : List (ℕ × Bool)) (symbols : List (ℕ × Bool))
    → record { a = m.a; c = m.c; ct = m.ct; bytes = take m.count buffer; contexts = contexts }
    ≡ coded symbols
    → m.count ≤ length buffer → m.last ≡ last_byte (take m.count buffer) → IsMarkOf m buffer symbols
marked m buffer contexts symbols stood within last =
    let bytes = ap (λ (x : Coding). x.bytes) stood in
    record {
      a = ap (λ (x : Coding). x.a) stood;
      c = ap (λ (x : Coding). x.c) stood;
      ct = ap (λ (x : Coding). x.ct) stood;
      last = last ∙ ap last_byte bytes;
      count = sym (length-take-le m.count buffer within) ∙ ap length bytes;
      prefix = sym (take-take (kept_at m) m.count buffer (omega arith))
          ∙ ap (take (kept_at m)) bytes;
    }

-- the last byte at its own place
pub last_byte_take : (buffer : List ℕ) (count : ℕ) → 0 < count → count ≤ length buffer
    → last_byte (take count buffer) ≡ get_or buffer (count - 1) 0
last_byte_take buffer count some within =
    let e : length (take count buffer) ≡ count = length-take-le count buffer within in
    rw e (get_or-take count buffer (count - 1) 0 (omega arith))

-- bytes whose last one is written to a buffer that has the others
last_written : (xs bytes : List ℕ) (k last : ℕ) → k < length xs → take k xs ≡ take k bytes →
    k + 1 ≡ length bytes
    → get_or bytes k 0 ≡ last → take (k + 1) (set xs k last) ≡ bytes
last_written xs bytes k last room same full is =
    take_more_set xs k last room
    ∙ (ap (λ (ys : List ℕ). ys ++ last ∷ []) same
    ∙ (ap (λ (b : ℕ). take k bytes ++ b ∷ []) (sym is)
    ∙ (sym (take_more bytes k 0 (omega arith))
    ∙ (ap (λ (n : ℕ). take n bytes) full ∙ take-length bytes))))

-- the registers of a mark, beside a buffer to which its last byte is written back
abbrev pub coding_from : Mark → List ℕ → List (ℕ × Bool) → Coding
coding_from m buffer contexts =
    record { a = m.a; c = m.c; ct = m.ct; bytes = take m.count buffer; contexts = contexts }

same_coding : (a b c d e f : ℕ) (p q : List ℕ) (s t : List (ℕ × Bool)) → a ≡ b → c ≡ d → e ≡ f →
    p ≡ q → s ≡ t
    → (let x : Coding = record { a = a; c = c; ct = e; bytes = p; contexts = s } in x)
    ≡ record { a = b; c = d; ct = f; bytes = q; contexts = t }
same_coding a b c d e f p q s t h i j k l = cc

pub resumed : (m : Mark) (held : List (ℕ × Bool)) (buffer after : List ℕ)
    (symbols : List (ℕ × Bool)) → m.count ≤ length buffer
    → ((m.count ≡ 0) × (after ≡ buffer)) ⊎
    ((0 < m.count) × (after ≡ set buffer (m.count - 1) m.last))
    → IsLeft m held buffer symbols → coding_from m after held ≡ coded symbols
resumed m held buffer after symbols within (inl none) h =
    let x : Coding = coded symbols in
    let count = h.mark.count in
    let empty : x.bytes ≡ [] = nil_from_length x.bytes (omega (arith, none.0)) in
    same_coding _ x.a _ x.c _ x.ct _ x.bytes _ x.contexts h.mark.a h.mark.c h.mark.ct
    (rw (none.0, empty) refl) h.contexts
resumed m held buffer after symbols within (inr some) h =
    let x : Coding = coded symbols in
    let k : ℕ = m.count - 1 in
    let positive = some.0 in
    let e : k + 1 ≡ m.count = omega arith in
    let count = h.mark.count in
    let place : k ≡ length x.bytes - 1 = omega arith in
    let last : get_or x.bytes k 0 ≡ m.last = ap (λ (i : ℕ). get_or x.bytes i 0) place
    ∙ sym h.mark.last in
    let bytes : take (k + 1) after ≡ x.bytes =
    ap (take (k + 1)) some.1 ∙ last_written buffer x.bytes k m.last (omega arith) h.mark.prefix
    (omega arith) last in
    same_coding _ x.a _ x.c _ x.ct _ x.bytes _ x.contexts h.mark.a h.mark.c h.mark.ct
    (rw e at bytes) h.contexts
