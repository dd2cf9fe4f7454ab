-- A block, pass by pass.
use Rattle.std.proofs.Common.{◌^◌, ◌%◌}
use Rattle.std.proofs.lemmas.Nat.{mul-le}
use Rattle.std.proofs.Math.Nat.{mod-eq_of_lt, pow-le-pow_right}
use Rattle.ebcot_contexts.specs.Cells.{coef_at}
use Rattle.distortion_sums.specs.Distortion.{distortion}
use Rattle.distortion_sums.proofs.Bounds.{block_few}
use Rattle.ebcot_passes.specs.Block.{IsAfter}
use Rattle.ebcot_passes.specs.declared.block.BlockCoder.{BlockCoder}
use Rattle.std.proofs.Common.{ℕ, zero, suc, ◌+◌, ◌-◌, ◌*◌, ◌<◌, ◌≤◌, ◌≡◌, Bool, List, []}
use Rattle.std.proofs.Common.{◌++◌, length, refl, sym, ap, ◌∙◌, subst, arith}
use Rattle.std.proofs.lemmas.List.{length-take-le}
use Rattle.mq_coder.specs.Code.{Coding, start_coding, coded}
use Rattle.mq_coder.specs.States.{start_contexts}
use Rattle.mq_coder.specs.Mark.{IsFirstMark, IsLeft}
use Rattle.mq_coder.specs.declared.mark.Mark.{Mark}
use Rattle.mq_coder.specs.Encoder.{Stands, count_of}
use Rattle.mq_coder.proofs.Grown.{few_bytes}
use Rattle.ebcot_contexts.proofs.Counts.{at_most}
use Rattle.ebcot_passes.specs.PassCoder.{PassCoder}
use Rattle.ebcot_contexts.specs.Cells.{Cell}
use Rattle.ebcot_contexts.specs.Contexts.{Shape}
use Rattle.ebcot_contexts.specs.Asks.{symbols, outcome}
use Rattle.ebcot_contexts.specs.Passes.{Kind, significance, refinement, cleanup, kind_at, kind_of}
use Rattle.ebcot_contexts.specs.Passes.{plane_of, columns, scan, pass, passes, start, block}
use Rattle.ebcot_contexts.specs.Meaning.{symbols_of, known_after, IsBlock}
use Rattle.ebcot_contexts.proofs.Views.{start_tells}
use Rattle.distortion_sums.specs.Places.{IsHeld}
use Rattle.mq_coder.specs.declared.encoder.Encoder.{Encoder}
use Rattle.ebcot_contexts.proofs.Trees.{at_outcome}
use Rattle.ebcot_contexts.proofs.Shown.{Sound}
use Rattle.ebcot_contexts.proofs.Blocks.{block_honest}
use Rattle.ebcot_contexts.proofs.Loops.{pass_symbols, pass_outcome}
use Rattle.ebcot_contexts.proofs.Levels.{before_plane, AllUnknown}
use Rattle.flag_words.specs.Words.{AreFlags}
use Rattle.ebcot_passes.specs.Coding.{Holds, HoldsAfter}
use Rattle.ebcot_passes.specs.Runs.{IsSettled, plane_before}
use Rattle.ebcot_passes.proofs.Settling.{refined_settles, start_settled}

known_sound : (coefs : List (ℕ × Bool)) (s : Shape) (k : ℕ) →
    Sound (s.width * s.height) (known_after coefs s k)
known_sound coefs s k = at_outcome (Sound (s.width * s.height)) coefs (block s k)
    (block_honest coefs s k).ends

-- what is known before a pass
pub block_holds : (coefs : List (ℕ × Bool)) (s : Shape) (k p : ℕ) (words : List ℕ)
    (coder : PassCoder)
    → IsBlock coefs s → IsHeld coder.distortion coefs (known_after coefs s k)
    → AreFlags s.width p (known_after coefs s k) words
    → Stands coder.encoder (symbols_of coefs s k)
    → Holds coefs s p (known_after coefs s k) (symbols_of coefs s k) words coder
block_holds coefs s k p words coder fits held flags stands =
    let sound = known_sound coefs s k in
    record {
      long = sound.long;
      whole = fits.long;
      plain = sound.plain;
      shown = (block_honest coefs s k).on (start_tells s coefs fits);
      flags = flags;
      stands = stands;
      held = held;
    }

pass_is : (s : Shape) (k : ℕ) (cells : List Cell) →
    pass s k cells ≡ columns (kind_of k) s (plane_of s k) (scan s.width s.height) cells
unfolding pass
pass_is s k cells = refl

-- what is known after it
pub next_holds : (coefs : List (ℕ × Bool)) (s : Shape) (k p : ℕ) (kind : Kind) (words : List ℕ)
    (coder : PassCoder)
    → kind_of k ≡ kind → plane_of s k ≡ p
    → HoldsAfter coefs s p (columns kind s p (scan s.width s.height) (known_after coefs s k))
    (symbols_of coefs s k) words coder
    → Holds coefs s p (known_after coefs s (suc k)) (symbols_of coefs s (suc k)) words coder
next_holds coefs s k p kind words coder ek ep h =
    let same : pass s k (known_after coefs s k)
    ≡ columns kind s p (scan s.width s.height) (known_after coefs s k) =
    pass_is s k (known_after coefs s k)
    ∙ (λ i. columns (ek i) s (ep i) (scan s.width s.height) (known_after coefs s k)) in
    let cells : known_after coefs s (suc k)
    ≡ outcome coefs (columns kind s p (scan s.width s.height) (known_after coefs s k)) =
    pass_outcome coefs s k ∙ ap (outcome coefs) same in
    let coded : symbols_of coefs s (suc k)
    ≡ symbols_of coefs s k ++ symbols coefs
    (columns kind s p (scan s.width s.height) (known_after coefs s k)) =
    pass_symbols coefs s k ∙ ap (λ t. symbols_of coefs s k ++ symbols coefs t) same in
    subst (λ (cs : List Cell). Holds coefs s p cs (symbols_of coefs s (suc k)) words coder)
    (sym cells)
    (subst (λ (l : List (ℕ × Bool)). Holds coefs s p
    (outcome coefs (columns kind s p (scan s.width s.height)
    (known_after coefs s k))) l words coder) (sym coded) h)

pub kind_significance : (k : ℕ) → (k + 2) % 3 ≡ 0 → kind_of k ≡ significance
kind_significance k e = ap kind_at e

pub kind_refinement : (k : ℕ) → (k + 2) % 3 ≡ 1 → kind_of k ≡ refinement
kind_refinement k e = ap kind_at e

pub kind_cleanup : (k : ℕ) → (k + 2) % 3 ≡ 2 → kind_of k ≡ cleanup
kind_cleanup k e = ap kind_at e

-- where a plane begins, its bits are all unknown
pub plane_begins : (coefs : List (ℕ × Bool)) (s : Shape) (k : ℕ) → k < 3 * s.planes - 2 →
    (k + 2) % 3 ≡ 0
    → AllUnknown (s.width * s.height) (suc (plane_of s k)) (known_after coefs s k)
unfolding block
plane_begins coefs s zero few e = absurd (omega arith)
plane_begins coefs s (suc k) few e =
    at_outcome (AllUnknown (s.width * s.height) (suc (plane_of s (suc k)))) coefs
    (passes s (suc k) (start s))
    (before_plane s k few (omega arith))

pub plane_above : (s : Shape) (k : ℕ) → k < 3 * s.planes - 2 → (k + 2) % 3 ≡ 0 →
    plane_before s k ≡ suc (plane_of s k)
plane_above s zero few e = absurd (omega arith)
plane_above s (suc k) few e = omega arith

-- within a plane the flags are already those of the plane
pub same_plane : (s : Shape) (k : ℕ) → k < 3 * s.planes - 2 → ((k + 2) % 3 ≡ 0 → ⊥) →
    plane_before s k ≡ plane_of s k
same_plane s zero few e = omega arith
same_plane s (suc k) few e = omega arith

-- before a cleanup pass each significant place has been coded
pub cleanup_settled : (coefs : List (ℕ × Bool)) (s : Shape) (k : ℕ) → k < 3 * s.planes - 2 →
    (k + 2) % 3 ≡ 2
    → IsSettled (plane_of s k) (known_after coefs s k)
unfolding block
cleanup_settled coefs s zero few e = start_settled s (plane_of s 0)
cleanup_settled coefs s (suc k) few e =
    let one : (k + 2) % 3 ≡ 1 = omega arith in
    let plane : plane_of s k ≡ plane_of s (suc k) = omega arith in
    let p : ℕ = plane_of s (suc k) in
    let cells : known_after coefs s (suc k)
    ≡ outcome coefs (columns refinement s p (scan s.width s.height) (known_after coefs s k)) =
    pass_outcome coefs s k ∙ ap (outcome coefs) (pass_is s k (known_after coefs s k)
    ∙ (λ i. columns (kind_refinement k one i) s (plane i) (scan s.width s.height)
    (known_after coefs s k))) in
    let long : length (outcome coefs
    (columns refinement s p (scan s.width s.height) (known_after coefs s k)))
    ≡ s.width * s.height =
    ap length (sym cells) ∙ (known_sound coefs s (suc k)).long in
    subst (λ (cs : List Cell). IsSettled p cs) (sym cells)
    (refined_settles coefs s p (known_after coefs s k) long)

-- the bytes of a block's first passes
pub few_after : (coefs : List (ℕ × Bool)) (s : Shape) (k : ℕ) (encoder : Encoder) →
    Stands encoder (symbols_of coefs s k)
    → s.width ≤ 32 → s.height ≤ 32 → s.planes ≤ 20 → k ≤ 3 * s.planes - 2 → count_of encoder ≤ 68023
few_after coefs s k encoder stands narrow low few passes_few =
    let filled = encoder.filled in
    let count : count_of encoder ≡ length (coded (symbols_of coefs s k)).bytes =
    sym (length-take-le (count_of encoder) encoder.bytes.now filled)
    ∙ ap (λ (x : Coding). length x.bytes) stands in
    let bytes = few_bytes (symbols_of coefs s k) in
    let symbols_few = at_most coefs s k narrow low few passes_few in
    omega arith

-- before the first pass
pub known_none : (coefs : List (ℕ × Bool)) (s : Shape) → known_after coefs s 0 ≡ start s
unfolding block
known_none coefs s = refl

pub symbols_none : (coefs : List (ℕ × Bool)) (s : Shape) → symbols_of coefs s 0 ≡ []
unfolding block
symbols_none coefs s = refl

pub first_left : (m : Mark) (contexts : List (ℕ × Bool)) (buffer : List ℕ) → IsFirstMark m →
    contexts ≡ start_contexts
    → IsLeft m contexts buffer []
unfolding coded start_coding
first_left m contexts buffer h e =
    record {
      mark = record {
        a = h.a;
        c = h.c;
        ct = h.ct;
        last = h.last;
        count = h.count;
        prefix =
            rw h.count refl;
      };
      contexts = e;
    }

-- the distortion of a block that was left fits in 64 bits
left_few : (coefs : List (ℕ × Bool)) (s : Shape) (k j : ℕ) (b : BlockCoder) (buffer : List ℕ) →
    IsAfter coefs s k b buffer → distortion coefs s j < 18446744073709551616
left_few coefs s k j b buffer h =
    let narrow = b.narrow in
    let low = b.low in
    let wide = h.wide in
    let high = h.high in
    let long : length coefs ≡ s.width * s.height = h.fits.long in
    let most : s.width * s.height ≤ 32 * 32 =
    mul-le s.width s.height 32 32 (omega arith) (omega arith) in
    let few : s.planes ≤ 20 = (let p = h.planes_are in let f = b.few_planes in omega arith) in
    block_few coefs (known_after coefs s j) (omega arith)
    (λ i. let below : (coef_at coefs i).0 < 2 ^ s.planes = h.fits.below i in
    let powers : 2 ^ s.planes ≤ 2 ^ 20 = pow-le-pow_right {n = 2} (omega arith) few in
    omega arith)

pub held_before : (coefs : List (ℕ × Bool)) (s : Shape) (k : ℕ) (b : BlockCoder)
    (buffer : List ℕ) → IsAfter coefs s k b buffer
    → IsHeld b.distortion coefs (known_after coefs s k)
held_before coefs s k b buffer h =
    h.distortion_is ∙ sym (mod-eq_of_lt (left_few coefs s k k b buffer h))

pub exact_after : (coefs : List (ℕ × Bool)) (s : Shape) (k d : ℕ) (b : BlockCoder)
    (buffer : List ℕ) → IsAfter coefs s k b buffer
    → IsHeld d coefs (known_after coefs s (suc k)) → d ≡ distortion coefs s (suc k)
exact_after coefs s k d b buffer h held =
    held ∙ mod-eq_of_lt (left_few coefs s k (suc k) b buffer h)
