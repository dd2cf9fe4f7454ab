-- Before the first pass, and after the last one.
use Rattle.std.proofs.Common.{ℕ, zero, suc, ◌+◌, ◌-◌, ◌*◌, ◌/◌, ◌%◌, ◌<◌, ◌≤◌, ◌≡◌, List}
use Rattle.std.proofs.Common.{[], length, get_or, replicate, refl, sym, ap, ◌∙◌, subst, arith}
use Rattle.std.proofs.lemmas.List.{length-replicate, get_or-replicate}
use Rattle.mq_coder.specs.Decisions.{start_interval, interval_after}
use Rattle.mq_decoder.specs.Decoder.{Stands}
use Rattle.mq_decoder.specs.declared.decoder.Decoder.{Decoder}
use Rattle.ebcot_contexts.specs.Cells.{Cell, fresh, cell_at}
use Rattle.ebcot_contexts.specs.Contexts.{Shape}
use Rattle.ebcot_contexts.specs.Passes.{start, block, passes, pass, plane_of}
use Rattle.ebcot_contexts.specs.Meaning.{next_decision, read_block}
use Rattle.ebcot_contexts.proofs.Shown.{Sound}
use Rattle.ebcot_contexts.proofs.Trees.{at_read, at_chain}
use Rattle.ebcot_contexts.proofs.Blocks.{block_honest}
use Rattle.ebcot_contexts.proofs.Levels.{Between, before_pass, pass_between}
use Rattle.flag_words.specs.Words.{AreFlags}
use Rattle.ebcot_reader.specs.Reading.{word_of, state_after, AreKnown, Holds}
use Rattle.ebcot_reader.specs.Results.{AreTops}
use Rattle.ebcot_reader.specs.Runs.{plane_before}
use Rattle.ebcot_reader.proofs.Showing.{tops_of_flags}

pub state_is : (bytes : List ℕ) (s : Shape) (k : ℕ) →
    (state_after bytes s k).0 ≡ read_block bytes s k
unfolding state_after
state_is bytes s k = refl

pub state_start : (bytes : List ℕ) (s : Shape) → (state_after bytes s 0).0 ≡ start s
unfolding state_after block
state_start bytes s = refl

at_start : (bytes : List ℕ) (s : Shape) → (state_after bytes s 0).1 ≡ start_interval
unfolding state_after block
at_start bytes s = refl

no_contexts : (bytes : List ℕ) → interval_after bytes [] ≡ start_interval
unfolding interval_after
no_contexts bytes = refl

zeros_at : (n k : ℕ) → ◌≡◌ {A = ℕ} (get_or (replicate n 0) k 0) 0
zeros_at zero k = refl
zeros_at (suc n) zero = refl
zeros_at (suc n) (suc k) = zeros_at n k

fresh_word : (u : ℕ) → word_of (fresh u) ≡ 0
fresh_word u = omega arith

start_cell : (n i u : ℕ) → i < n → cell_at (replicate n (fresh u)) i ≡ fresh u
start_cell n i u inside = get_or-replicate n i (fresh u) (fresh 0) inside

pub start_known : (bytes : List ℕ) (s : Shape) (grid : List ℕ) → grid ≡ replicate 1024 0
    → AreKnown s.width (state_after bytes s 0).0 grid
start_known bytes s grid e =
    let n : ℕ = s.width * s.height in
    let long : length (start s) ≡ n = length-replicate n (fresh s.planes) in
    let known : AreKnown s.width (start s) (replicate 1024 0) =
    record {
      long = length-replicate {A = ℕ} 1024 0;
      each = λ i inside. zeros_at 1024 (32 * (i / s.width) + i % s.width)
          ∙ (sym (fresh_word s.planes) ∙ sym (ap word_of (start_cell n i s.planes (omega arith))));
    } in
    subst (λ (g : List ℕ). AreKnown s.width (state_after bytes s 0).0 g) (sym e)
    (subst (λ (cells : List Cell). AreKnown s.width cells (replicate 1024 0))
    (sym (state_start bytes s)) known)

sound_state : (bytes : List ℕ) (s : Shape) (k : ℕ) →
    Sound (s.width * s.height) (state_after bytes s k).0
unfolding state_after
sound_state bytes s k =
    at_read (next_decision bytes) (Sound (s.width * s.height)) start_interval (block s k)
    (block_honest [] s k).ends

pub start_holds : (bytes : List ℕ) (s : Shape) (words grid : List ℕ) (decoder : Decoder)
    → s.width ≤ 32 → AreFlags s.width (s.planes - 1) (start s) words
    → AreKnown s.width (state_after bytes s 0).0 grid → Stands decoder []
    → decoder.bytes.now ≡ bytes
    → Holds bytes s (plane_before s 0) (state_after bytes s 0) words grid decoder
start_holds bytes s words grid decoder narrow flags known stands string =
    let sound = sound_state bytes s 0 in
    record {
      narrow = narrow;
      long = sound.long;
      plain = sound.plain;
      flags = subst (λ (cells : List Cell). AreFlags s.width (s.planes - 1) cells words)
          (sym (state_start bytes s)) flags;
      grid_is = known;
      decoder = record {
        string = string;
        asked = [];
        stands = stands;
        interval = no_contexts bytes ∙ sym (at_start bytes s);
      };
    }

-- which planes are unknown after k passes

between_start : (bytes : List ℕ) (s : Shape) → 1 ≤ s.planes
    → Between (s.width * s.height) (s.planes - 1) (state_after bytes s 0).0
between_start bytes s some =
    let plane : plane_of s 0 ≡ s.planes - 1 = omega arith in
    subst (λ (p : ℕ). Between (s.width * s.height) p (state_after bytes s 0).0) plane
    (subst (λ (cells : List Cell). Between (s.width * s.height) (plane_of s 0) cells)
    (sym (state_start bytes s)) (before_pass s 0 (omega arith)))

between_after : (bytes : List ℕ) (s : Shape) (k : ℕ) → k < 3 * s.planes - 2
    → Between (s.width * s.height) (plane_of s k) (state_after bytes s (suc k)).0
unfolding state_after block
between_after bytes s k few =
    let n : ℕ = s.width * s.height in
    at_read (next_decision bytes) (Between n (plane_of s k)) start_interval
    (passes s (suc k) (start s))
    (at_chain (Between n (plane_of s k)) (Between n (plane_of s k)) (passes s k (start s))
    (pass s k) (before_pass s k few) (λ c b. pass_between s k c b))

pub tops_after : (bytes : List ℕ) (s : Shape) (k : ℕ) (words grid : List ℕ) (decoder : Decoder)
    → s.height ≤ 32 → 1 ≤ s.planes → k ≤ 3 * s.planes - 2
    → Holds bytes s (plane_before s k) (state_after bytes s k) words grid decoder
    → AreTops s.width (s.planes - (k + 1) / 3) (state_after bytes s k).0 words
tops_after bytes s zero words grid decoder low some few h =
    let top : suc (s.planes - 1) ≡ s.planes - (0 + 1) / 3 = omega arith in
    subst (λ (t : ℕ). AreTops s.width t (state_after bytes s 0).0 words) top
    (tops_of_flags s (s.planes - 1) (state_after bytes s 0).0 words h.narrow low h.flags
    (between_start bytes s some))
tops_after bytes s (suc k) words grid decoder low some few h =
    let top : suc (plane_of s k) ≡ s.planes - (suc k + 1) / 3 = omega arith in
    subst (λ (t : ℕ). AreTops s.width t (state_after bytes s (suc k)).0 words) top
    (tops_of_flags s (plane_of s k) (state_after bytes s (suc k)).0 words h.narrow low h.flags
    (between_after bytes s k (omega arith)))

-- a block without bit-planes
pub tops_none : (bytes : List ℕ) (s : Shape) (words : List ℕ) → s.planes ≡ 0
    → AreTops s.width (s.planes - (0 + 1) / 3) (state_after bytes s 0).0 words
tops_none bytes s words none = λ i column stripe r at some inside few.
    let n : ℕ = s.width * s.height in
    let long = (sound_state bytes s 0).long in
    let cell : cell_at (state_after bytes s 0).0 i ≡ fresh s.planes =
    ap (λ (cells : List Cell). cell_at cells i) (state_start bytes s)
    ∙ start_cell n i s.planes (omega arith) in
    let unknown : (cell_at (state_after bytes s 0).0 i).unknown ≡ s.planes =
    ap (λ (c : Cell). c.unknown) cell in
    omega arith
