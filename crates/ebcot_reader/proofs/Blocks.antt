-- A block, pass by pass.
use Rattle.std.proofs.Common.{ℕ, zero, suc, ◌+◌, ◌-◌, ◌*◌, ◌%◌, ◌<◌, ◌≡◌, List, length}
use Rattle.std.proofs.Common.{refl, sym, ap, ◌∙◌, subst, arith}
use Rattle.mq_coder.specs.Decisions.{Interval, start_interval}
use Rattle.mq_decoder.specs.declared.decoder.Decoder.{Decoder}
use Rattle.ebcot_contexts.specs.Cells.{Cell}
use Rattle.ebcot_contexts.specs.Contexts.{Shape}
use Rattle.ebcot_contexts.specs.Asks.{Asks, read}
use Rattle.ebcot_contexts.specs.Passes.{Kind, significance, refinement, cleanup, kind_at, kind_of}
use Rattle.ebcot_contexts.specs.Passes.{plane_of, columns, scan, pass, passes, start, block}
use Rattle.ebcot_contexts.specs.Meaning.{next_decision}
use Rattle.ebcot_contexts.proofs.Trees.{at_read}
use Rattle.ebcot_contexts.proofs.Loops.{pass_read}
use Rattle.ebcot_contexts.proofs.Levels.{before_plane, AllUnknown}
use Rattle.flag_words.specs.Words.{AreFlags}
use Rattle.ebcot_reader.specs.Runs.{IsSettled, plane_before}
use Rattle.ebcot_reader.specs.Reading.{Holds, after, state_after}
use Rattle.ebcot_reader.proofs.Settling.{refined_settles, start_settled}

-- the same in another plane, by its flags
pub holds_plane : (bytes : List ℕ) (s : Shape) (p q : ℕ) (st : List Cell × Interval)
    (before words grid : List ℕ) (decoder : Decoder)
    → Holds bytes s p st before grid decoder → AreFlags s.width q st.0 words
    → Holds bytes s q st words grid decoder
holds_plane bytes s p q st before words grid decoder h flags =
    record {
      narrow = h.narrow;
      long = h.long;
      plain = h.plain;
      flags = flags;
      grid_is = h.grid_is;
      decoder = h.decoder;
    }

pass_is : (s : Shape) (k : ℕ) (cells : List Cell) →
    pass s k cells ≡ columns (kind_of k) s (plane_of s k) (scan s.width s.height) cells
unfolding pass
pass_is s k cells = refl

pass_state : (bytes : List ℕ) (s : Shape) (k : ℕ)
    → state_after bytes s (suc k) ≡ after bytes (state_after bytes s k) (pass s k)
unfolding state_after
pass_state bytes s k = pass_read (next_decision bytes) start_interval s k

next_state : (bytes : List ℕ) (s : Shape) (k p : ℕ) (kind : Kind) → kind_of k ≡ kind →
    plane_of s k ≡ p
    → state_after bytes s (suc k)
    ≡ after bytes (state_after bytes s k) (columns kind s p (scan s.width s.height))
next_state bytes s k p kind ek ep =
    let st : List Cell × Interval = state_after bytes s k in
    pass_state bytes s k
    ∙ ap (λ (t : Asks). read (next_decision bytes) st.1 t)
    (pass_is s k st.0 ∙ (λ i. columns (ek i) s (ep i) (scan s.width s.height) st.0))

-- what is known after a pass
pub next_holds : (bytes : List ℕ) (s : Shape) (k p : ℕ) (kind : Kind) (words grid : List ℕ)
    (decoder : Decoder)
    → kind_of k ≡ kind → plane_of s k ≡ p
    → Holds bytes s p (after bytes (state_after bytes s k)
    (columns kind s p (scan s.width s.height))) words grid decoder
    → Holds bytes s (plane_before s (suc k)) (state_after bytes s (suc k)) words grid decoder
next_holds bytes s k p kind words grid decoder ek ep h =
    subst (λ (v : ℕ). Holds bytes s v (state_after bytes s (suc k)) words grid decoder) (sym ep)
    (subst (λ (st : List Cell × Interval). Holds bytes s p st words grid decoder)
    (sym (next_state bytes s k p kind ek ep)) h)

pub kind_significance : (k : ℕ) → (k + 2) % 3 ≡ 0 → kind_of k ≡ significance
kind_significance k e = ap kind_at e

pub kind_refinement : (k : ℕ) → (k + 2) % 3 ≡ 1 → kind_of k ≡ refinement
kind_refinement k e = ap kind_at e

pub kind_cleanup : (k : ℕ) → (k + 2) % 3 ≡ 2 → kind_of k ≡ cleanup
kind_cleanup k e = ap kind_at e

-- where a plane begins, its bits are all unknown
pub plane_begins : (bytes : List ℕ) (s : Shape) (k : ℕ) → k < 3 * s.planes - 2 →
    (k + 2) % 3 ≡ 0
    → AllUnknown (s.width * s.height) (suc (plane_of s k)) (state_after bytes s k).0
unfolding block state_after
plane_begins bytes s zero few e = absurd (omega arith)
plane_begins bytes s (suc k) few e =
    at_read (next_decision bytes)
    (AllUnknown (s.width * s.height) (suc (plane_of s (suc k)))) start_interval
    (passes s (suc k) (start s)) (before_plane s k few (omega arith))

pub plane_above : (s : Shape) (k : ℕ) → k < 3 * s.planes - 2 → (k + 2) % 3 ≡ 0 →
    plane_before s k ≡ suc (plane_of s k)
plane_above s zero few e = absurd (omega arith)
plane_above s (suc k) few e = omega arith

-- within a plane the flags are already those of the plane
pub same_plane : (s : Shape) (k : ℕ) → k < 3 * s.planes - 2 → ((k + 2) % 3 ≡ 0 → ⊥) →
    plane_before s k ≡ plane_of s k
same_plane s zero few e = omega arith
same_plane s (suc k) few e = omega arith

start_known : (bytes : List ℕ) (s : Shape) → (state_after bytes s 0).0 ≡ start s
unfolding block state_after
start_known bytes s = refl

-- before a cleanup pass each significant place has been read
pub cleanup_settled : (bytes : List ℕ) (s : Shape) (k : ℕ) → k < 3 * s.planes - 2 →
    (k + 2) % 3 ≡ 2 → length (state_after bytes s k).0 ≡ s.width * s.height
    → IsSettled (plane_of s k) (state_after bytes s k).0
cleanup_settled bytes s zero few e long =
    subst (λ (cells : List Cell). IsSettled (plane_of s 0) cells) (sym (start_known bytes s))
    (start_settled s (plane_of s 0))
cleanup_settled bytes s (suc k) few e long =
    let one : (k + 2) % 3 ≡ 1 = omega arith in
    let plane : plane_of s k ≡ plane_of s (suc k) = omega arith in
    let p : ℕ = plane_of s (suc k) in
    let st : List Cell × Interval = state_after bytes s k in
    let same = next_state bytes s k p refinement (kind_refinement k one) plane in
    subst (λ (v : List Cell × Interval). IsSettled p v.0) (sym same)
    (refined_settles bytes s p st
    (sym (ap (λ (v : List Cell × Interval). length v.0) same) ∙ long))
