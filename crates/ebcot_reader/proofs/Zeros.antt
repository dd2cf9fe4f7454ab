-- Run mode as it is read.
use Rattle.std.proofs.Common.{ℕ, ◌<◌, ◌≡◌, Bool, true, false, List, [], ◌∷◌, length, take, subst}
use Rattle.mq_coder.specs.Decisions.{Interval}
use Rattle.mq_decoder.specs.declared.decoder.Decoder.{Decoder}
use Rattle.ebcot_contexts.specs.Cells.{Cell, cell_at, is_significant, learn}
use Rattle.ebcot_contexts.specs.Contexts.{Shape}
use Rattle.ebcot_contexts.specs.Asks.{ask, read, row_low}
use Rattle.ebcot_contexts.specs.Passes.{learned, sign_asked, zeros}
use Rattle.ebcot_contexts.specs.Meaning.{next_decision}
use Rattle.flag_words.specs.Words.{AreFlags}
use Rattle.ebcot_reader.specs.Reading.{Holds, after}
use Rattle.ebcot_reader.specs.Runs.{head_at, head_found, run_head, row_index}
use Rattle.ebcot_reader.proofs.Grids.{known_kept, zero_word}
use Rattle.ebcot_reader.proofs.Places.{holds_set, zero_plain}
use Rattle.ebcot_reader.proofs.RunTrees.{row_place}

pub zero_holds : (bytes : List ℕ) (s : Shape) (p i : ℕ) (st : List Cell × Interval)
    (before words grid : List ℕ) (decoder : Decoder)
    → i < length st.0 → is_significant (cell_at st.0 i) ≡ false
    → Holds bytes s p st before grid decoder → AreFlags s.width p (learned p false i st.0) words
    → Holds bytes s p (learned p false i st.0, st.1) words grid decoder
zero_holds bytes s p i st before words grid decoder inside none h flags =
    holds_set bytes s p i (learn p false (cell_at st.0 i)) st st.1 before words grid grid decoder
    decoder inside (zero_plain p (cell_at st.0 i) none (h.plain i)) h flags
    (known_kept s.width i (learn p false (cell_at st.0 i)) st.0 grid inside
    (zero_word p (cell_at st.0 i) none) h.grid_is) h.decoder

-- no 1
pub run_none : (bytes : List ℕ) (s : Shape) (p a b c d : ℕ) (st : List Cell × Interval)
    (words grid : List ℕ) (decoder : Decoder)
    → false ≡ (next_decision bytes st.1 17).0
    → Holds bytes s p (zeros p (a ∷ b ∷ c ∷ d ∷ []) st.0, (next_decision bytes st.1 17).1)
    words grid decoder
    → Holds bytes s p (after bytes st (run_head s p a b c d)) words grid decoder
unfolding run_head
run_none bytes s p a b c d st words grid decoder none h =
    subst (λ (t : Bool). Holds bytes s p (read (next_decision bytes)
    (next_decision bytes st.1 17).1 (head_found s p a b c d st.0 t)) words grid decoder) none h

head_case : (bytes : List ℕ) (s : Shape) (p a b c d : ℕ) (cells : List Cell) (it : Interval)
    (words grid : List ℕ) (decoder : Decoder) (h l : Bool)
    → Holds bytes s p (after bytes (zeros p (take (row_index h l) (a ∷ b ∷ c ∷ d ∷ [])) cells, it)
    (sign_asked s p (row_place (row_index h l) a b c d))) words grid decoder
    → Holds bytes s p (read (next_decision bytes) it (head_at s p a b c d cells h l))
    words grid decoder
head_case bytes s p a b c d cells it words grid decoder false false held = held
head_case bytes s p a b c d cells it words grid decoder false true held = held
head_case bytes s p a b c d cells it words grid decoder true false held = held
head_case bytes s p a b c d cells it words grid decoder true true held = held

-- the intervals after the decisions of a run
abbrev pub after_17 : List ℕ → List Cell × Interval → Interval
after_17 bytes st = (next_decision bytes st.1 17).1

abbrev pub after_high : List ℕ → List Cell × Interval → Interval
after_high bytes st = (next_decision bytes (after_17 bytes st) 18).1

abbrev pub after_low : List ℕ → List Cell × Interval → Interval
after_low bytes st = (next_decision bytes (after_high bytes st) 18).1

-- the first 1 is in the row of these two bits
pub run_some : (bytes : List ℕ) (s : Shape) (p a b c d : ℕ) (st : List Cell × Interval)
    (words grid : List ℕ) (decoder : Decoder) (h l : Bool)
    → true ≡ (next_decision bytes st.1 17).0
    → h ≡ (next_decision bytes (after_17 bytes st) 18).0
    → l ≡ (next_decision bytes (after_high bytes st) 18).0
    → Holds bytes s p (after bytes
    (zeros p (take (row_index h l) (a ∷ b ∷ c ∷ d ∷ [])) st.0, after_low bytes st)
    (sign_asked s p (row_place (row_index h l) a b c d))) words grid decoder
    → Holds bytes s p (after bytes st (run_head s p a b c d)) words grid decoder
unfolding run_head
run_some bytes s p a b c d st words grid decoder h l some high low held =
    subst (λ (t : Bool). Holds bytes s p (read (next_decision bytes) (after_17 bytes st)
    (head_found s p a b c d st.0 t)) words grid decoder) some
    (subst (λ (v : Bool). Holds bytes s p (read (next_decision bytes) (after_high bytes st)
    (ask 18 (row_low p a b c d) (λ w. head_at s p a b c d st.0 v w))) words grid decoder) high
    (subst (λ (w : Bool). Holds bytes s p (read (next_decision bytes) (after_low bytes st)
    (head_at s p a b c d st.0 h w)) words grid decoder) low
    (head_case bytes s p a b c d st.0 (after_low bytes st) words grid decoder h l held)))
