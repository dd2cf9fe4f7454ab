-- The registers between two symbols, and the form of a code.
use Rattle.std.proofs.Common.{◌≡◌, ℕ, ◌+◌, ◌*◌, ◌^◌, ◌<◌, ◌≤◌, Bool, true, false, eqb, List, []}
use Rattle.std.proofs.Common.{◌∷◌, ◌++◌, length, fold, refl, sym, ap, ◌∙◌, arith, inl, inr}
use Rattle.std.proofs.lemmas.Bool.{cases_eq, eq-eqb, ltb-false, false≢true}
use Rattle.std.proofs.lemmas.List.{length-append}
use Rattle.mq_coder.specs.Decisions.{Interval, start_interval, part, doubled}
use Rattle.mq_coder.specs.Code.{Coding, start_coding, last_byte, set_bits, shift_out, drop_ff}
use Rattle.mq_coder.specs.Code.{code_symbol, coded, flush, code}
use Rattle.mq_coder.specs.Laws.{IsStuffedAfter, IsCodeForm, IsBetween}
use Rattle.mq_coder.proofs.Look.{cut}
use Rattle.mq_coder.proofs.Consumed.{ends_ff, Clean, Clean-prefix, Clean-last, ends_snoc}
use Rattle.mq_coder.proofs.Estimates.{lower_of}
use Rattle.mq_coder.proofs.Out.{Shape, Shape.none, Shape.some, last_snoc}
use Rattle.mq_coder.proofs.Stands.{Ready, coded_ready, start_ready}
use Rattle.mq_coder.proofs.FlushShifts.{shape_clean, set_bytes}
use Rattle.mq_coder.proofs.FlushForm.{ended_form}
use Rattle.mq_coder.proofs.Final.{Shifts, shifts, drop_ff_is, drop_ff_not, ended_is}

-- an encoder's state after some symbols, with its interval
record Reached (x : Coding) : Type 0 where
  from : ℕ
  to : ℕ
  p : ℕ
  it : Interval
  ready : Ready from to p x it

reached_from : (ys : List (ℕ × Bool)) (from to p : ℕ) (x : Coding) (it : Interval) →
    Ready from to p x it → Reached (fold code_symbol x ys)
reached_from [] from to p x it h = record { from = from; to = to; p = p; it = it; ready = h }
reached_from ((cx, bit) ∷ ys) from to p x it h =
    reached_from ys from to p (code_symbol x (cx, bit))
    (doubled 15 (part it cx (lower_of x.contexts x.a cx bit)))
    (coded_ready from to p x it cx bit h)

reached : (symbols : List (ℕ × Bool)) → Reached (coded symbols)
unfolding coded
reached symbols = reached_from symbols 0 (2 ^ 15) 0 start_coding start_interval start_ready

uncut_low : (before b : ℕ) → cut (eqb before 255) b ≡ false → before ≡ 255 → b ≤ 143
uncut_low before b h e = ltb-false 143 b (ap (λ v. cut v b) (sym (eq-eqb before 255 e)) ∙ h)

stuffed_from : (before : ℕ) (bs : List ℕ) → Clean (eqb before 255) bs → IsStuffedAfter before bs
stuffed_from before [] h = tt
stuffed_from before (b ∷ r) h = (h.0, uncut_low before b h.1, stuffed_from b r h.2)

shape_reach : (bs : List ℕ) (bound ct : ℕ) → Shape bs bound ct → bound ≤ 2 ^ 27 + 2 ^ 24
shape_reach bs bound ct (none e le) = omega arith
shape_reach bs bound ct (some pre x e clean low le after) = omega arith

shape_first : (bs : List ℕ) (bound ct : ℕ) → Shape bs bound ct → bs ≡ [] → bound ≤ 2 ^ 27
shape_first bs bound ct (none e le) first = le
shape_first bs bound ct (some pre x e clean low le after) first =
    let l : length bs ≡ length pre + 1 = ap length e ∙ length-append pre (x ∷ []) in
    let l' : length bs ≡ 0 = ap {B = ℕ} length first in
    absurd (omega arith)

between_ready : (from to p : ℕ) (x : Coding) (it : Interval) → Ready from to p x it → IsBetween x
between_ready from to p x it h =
    let a_is : x.a ≡ it.size = h.stands.a_is in
    let wide : 2 ^ 15 ≤ it.size = h.wide in
    let top : it.size < 2 ^ 16 = h.stands.held.top in
    let reach : (x.c + it.size) * 2 ^ x.ct ≤ 2 ^ 27 + 2 ^ 24 =
    shape_reach x.bytes _ x.ct h.stands.held.shape in
    record {
      wide = omega arith;
      narrow = omega arith;
      some = h.stands.live;
      few = h.stands.held.few;
      reach = rw a_is reach;
      reach_first = λ first. rw a_is (shape_first x.bytes _ x.ct h.stands.held.shape first);
      stuffed = stuffed_from 0 x.bytes (shape_clean x.bytes _ x.ct h.stands.held.shape);
    }

pub between : (symbols : List (ℕ × Bool)) → IsBetween (coded symbols)
between symbols = let r : Reached (coded symbols) =
    reached symbols in between_ready r.from r.to r.p (coded symbols) r.it r.ready

-- the bytes of an ending, of which a last FF is left out
record Form (bytes : List ℕ) (count : ℕ) : Type 0 where
  some : 1 ≤ length bytes
  few : length bytes ≤ count + 2
  not_ff : last_byte bytes ≡ 255 → ⊥
  stuffed : IsStuffedAfter 0 bytes

snoc_of : (bs : List ℕ) → 1 ≤ length bs → (pre : List ℕ) × (x : ℕ) × (bs ≡ pre ++ x ∷ [])
snoc_of [] le = absurd (omega arith)
snoc_of (b ∷ []) le = ([], b, refl)
snoc_of (b ∷ c ∷ r) le =
    let h : (pre : List ℕ) × (x : ℕ) × (c ∷ r ≡ pre ++ x ∷ []) = snoc_of (c ∷ r) (omega arith) in
    (b ∷ h.0, h.1, ap (λ v. b ∷ v) h.2)

-- the byte before a last FF isn't FF
not_ff_twice : (base : List ℕ) → 1 ≤ length base → Clean false (base ++ 255 ∷ []) →
    last_byte base ≡ 255 → ⊥
not_ff_twice base le clean is =
    let s : (pre : List ℕ) × (x : ℕ) × (base ≡ pre ++ x ∷ []) = snoc_of base le in
    let x_is : s.1 ≡ 255 = sym (last_snoc s.0 s.1) ∙ ap last_byte (sym s.2) ∙ is in
    let ends : ends_ff false base ≡ true = ap (λ v. ends_ff false v) s.2 ∙ ends_snoc false s.0 s.1
    ∙ eq-eqb s.1 255 x_is in
    let uncut : cut (ends_ff false base) 255 ≡ false = (Clean-last false base 255 clean).1 in
    false≢true (sym uncut ∙ ap (λ v. cut v 255) ends)

form_of : (base : List ℕ) (byte count : ℕ) → length base ≡ count + 1 →
    Clean false (base ++ byte ∷ []) → Form (drop_ff (base ++ byte ∷ [])) count
form_of base byte count l clean =
    let long : length (base ++ byte ∷ []) ≡ length base + 1 = length-append base (byte ∷ []) in
    elim (cases_eq byte 255) [
      | inl e ↦
          let clean' : Clean false (base ++ 255 ∷ []) = rw e at clean in
          rw (e, drop_ff_is base) record {
            some = omega arith;
            few = omega arith;
            not_ff = not_ff_twice base (omega arith) clean';
            stuffed = stuffed_from 0 base (Clean-prefix false base 255 clean');
          }
      | inr ne ↦
          rw (drop_ff_not base byte ne) record {
            some = omega arith;
            few = omega arith;
            not_ff = λ is. ne (sym (last_snoc base byte) ∙ is);
            stuffed = stuffed_from 0 (base ++ byte ∷ []) clean;
          }
    ]

form_ready : (from to p : ℕ) (x : Coding) (it : Interval) → Ready from to p x it →
    Form (flush x) (length x.bytes)
form_ready from to p x it h =
    let t : Shifts from to p x it.low it.scale = shifts from to p x it h in
    let one : length (shift_out (set_bits x)).bytes ≡ length x.bytes + 1 =
    ap length t.one.bytes_are ∙ length-append t.one.base (t.one.byte ∷ [])
    ∙ ap (λ v. v + 1) (t.one.length_is ∙ ap length (set_bytes x)) in
    rw (ended_is x, t.two.bytes_are)
    (form_of t.two.base t.two.byte (length x.bytes) (t.two.length_is ∙ one) t.two.clean_all)

pub code_form : (symbols : List (ℕ × Bool)) → IsCodeForm symbols
unfolding code
code_form symbols =
    let r : Reached (coded symbols) = reached symbols in
    let f : Form (flush (coded symbols)) (length (coded symbols).bytes) =
    form_ready r.from r.to r.p (coded symbols) r.it r.ready in
    record {
      some = f.some;
      least = (ended_form (coded symbols)).one_more;
      few = f.few;
      not_ff =
          f.not_ff;
      stuffed = f.stuffed;
    }
