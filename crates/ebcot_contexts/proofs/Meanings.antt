-- What is read is a meaning, the only one, and written code is read back.
use Rattle.std.proofs.Common.{ℕ, ◌-◌, ◌*◌, ◌≤◌, ◌≡◌, ◌↔◌, Bool, List, [], ◌∷◌, ◌++◌, length, map}
use Rattle.std.proofs.Common.{take, refl, sym, ap, ◌∙◌}
use Rattle.std.proofs.lemmas.List.{length-map}
use Rattle.mq_coder.specs.Decisions.{Interval, start_interval, decisions_from, decisions}
use Rattle.mq_coder.specs.Code.{code}
use Rattle.mq_coder.specs.Laws.{contexts_of, bits_of, Inverts}
use Rattle.ebcot_contexts.specs.Cells.{Cell, AllShow, view, coef_of}
use Rattle.ebcot_contexts.specs.Contexts.{Shape}
use Rattle.ebcot_contexts.specs.Asks.{Asks, chain, symbols, outcome, read, Decides}
use Rattle.ebcot_contexts.specs.Passes.{Kind, columns, start, block}
use Rattle.ebcot_contexts.specs.Meaning.{symbols_of, unknown_of, unknown_after, IsBlock, Means}
use Rattle.ebcot_contexts.specs.Meaning.{DecidedBy, next_decision}
use Rattle.ebcot_contexts.specs.Laws.{MeaningHolds, OneMeaning, ReadBack}
use Rattle.ebcot_contexts.proofs.Shown.{Sound}
use Rattle.ebcot_contexts.proofs.Trees.{at_read, at_outcome, follow, backward, Honest, honest_chain}
use Rattle.ebcot_contexts.proofs.Blocks.{block_honest, columns_honest}
use Rattle.ebcot_contexts.proofs.Scanned.{AllRising}
use Rattle.ebcot_contexts.proofs.Views.{tell_view, tell_spelled, start_tells, start_fits}

-- The cells that the coefficients themselves give are views of them.
outcome_sound : (coefs : List (ℕ × Bool)) (s : Shape) (k : ℕ) →
    Sound (s.width * s.height) (outcome coefs (block s k))
outcome_sound coefs s k = at_outcome (Sound (s.width * s.height)) coefs (block s k)
    (block_honest coefs s k).ends

pub outcome_view : (coefs : List (ℕ × Bool)) (s : Shape) (k : ℕ) → IsBlock coefs s →
    outcome coefs (block s k) ≡ view coefs (unknown_after coefs s k)
outcome_view coefs s k b =
    tell_view (outcome coefs (block s k)) coefs ((outcome_sound coefs s k).long ∙ sym b.long)
    ((block_honest coefs s k).on (start_tells s coefs b))

-- Whatever was read, also in the middle of a pass: a cell's magnitude and its unknown planes fit in
-- the block's planes. So twice a magnitude and 1 fit in as many bits as there are planes.
pub read_fits : {S : Type 0} (next : S → ℕ → Bool × S) (d : S) (s : Shape) (t : Asks)
    → ((coefs : List (ℕ × Bool)) → Honest (s.width * s.height) coefs (AllShow (start s) coefs) t)
    → IsBlock (map coef_of (read next d t).0) s
read_fits next d s t honest =
    let cells : List Cell = (read next d t).0 in
    let coefs : List (ℕ × Bool) = map coef_of cells in
    let sound : Sound (s.width * s.height) cells =
    at_read next (Sound (s.width * s.height)) d t (honest []).ends in
    start_fits s coefs (length-map cells coef_of ∙ sound.long)
    (backward next coefs (AllShow (start s) coefs) d t (honest coefs).back
    (tell_spelled cells sound.plain)).0

-- k passes, and then the first columns of the next
pub begun_honest : (coefs : List (ℕ × Bool)) (s : Shape) (k p : ℕ) (kind : Kind)
    (cs : List (List ℕ)) → AllRising (s.width * s.height) cs
    → Honest (s.width * s.height) coefs (AllShow (start s) coefs)
    (chain (block s k) (columns kind s p cs))
begun_honest coefs s k p kind cs r =
    honest_chain (s.width * s.height) coefs (AllShow (start s) coefs) (block s k)
    (columns kind s p cs) (block_honest coefs s k)
    (λ c h. columns_honest (s.width * s.height) coefs s p kind cs c r h)

-- Over any source.
module _ {S : Type 0} (next : S → ℕ → Bool × S) (d : S) (s : Shape) (k : ℕ) where
  read_sound : Sound (s.width * s.height) (read next d (block s k)).0
  read_sound = at_read next (Sound (s.width * s.height)) d (block s k) (block_honest [] s k).ends

  pub read_means : k ≤ 3 * s.planes - 2 → Means (Decides next d) s k (read next d (block s k)).0
  read_means few =
      let cells : List Cell = (read next d (block s k)).0 in
      let coefs : List (ℕ × Bool) = map coef_of cells in
      let all : AllShow (start s) coefs × Decides next d (symbols coefs (block s k)) =
      backward next coefs (AllShow (start s) coefs) d (block s k) (block_honest coefs s k).back
      (tell_spelled cells read_sound.plain) in
      record {
        few = few;
        plain = read_sound.plain;
        fits = start_fits s coefs (length-map cells coef_of ∙ read_sound.long) all.0;
        decided = all.1;
        planes = ap unknown_of (sym (follow next coefs d (block s k) all.1));
      }

  pub one_meaning : (cells : List Cell) → Means (Decides next d) s k cells →
      cells ≡ (read next d (block s k)).0
  one_meaning cells m =
      let coefs : List (ℕ × Bool) = map coef_of cells in
      let long : length coefs ≡ length cells = length-map cells coef_of in
      let after : List Cell = outcome coefs (block s k) in
      let truth : AllShow after coefs = (block_honest coefs s k).on (start_tells s coefs m.fits) in
      let here : cells ≡ view coefs (unknown_of cells) =
      tell_view cells coefs (sym long) (tell_spelled cells m.plain) in
      let there : after ≡ view coefs (unknown_of after) =
      tell_view after coefs ((outcome_sound coefs s k).long ∙ sym m.fits.long) truth in
      here ∙ ap (view coefs) (sym m.planes) ∙ sym there
      ∙ sym (follow next coefs d (block s k) m.decided)

  pub read_back : (coefs : List (ℕ × Bool)) → IsBlock coefs s →
      Decides next d (symbols_of coefs s k)
      → (read next d (block s k)).0 ≡ view coefs (unknown_after coefs s k)
  read_back coefs b h = follow next coefs d (block s k) h ∙ outcome_view coefs s k b

-- The decisions of a byte string are such a source.
head_same : (x y : Bool) (xs ys : List Bool) → x ∷ xs ≡ y ∷ ys → x ≡ y
head_same x y xs ys e = cc

tail_same : (x y : Bool) (xs ys : List Bool) → x ∷ xs ≡ y ∷ ys → xs ≡ ys
tail_same x y xs ys e = cc

decides_from : (bytes : List ℕ) (it : Interval) (syms : List (ℕ × Bool)) →
    decisions_from bytes it (contexts_of syms) ≡ bits_of syms →
    Decides (next_decision bytes) it syms
unfolding decisions_from
decides_from bytes it [] e = tt
decides_from bytes it (s ∷ rest) e = (
  head_same _ _ _ _ e,
  decides_from bytes (next_decision bytes it s.0).1 rest
      (tail_same _ _ _ _ e),
)

decides_to : (bytes : List ℕ) (it : Interval) (syms : List (ℕ × Bool)) →
    Decides (next_decision bytes) it syms →
    decisions_from bytes it (contexts_of syms) ≡ bits_of syms
unfolding decisions_from
decides_to bytes it [] h = refl
decides_to bytes it (s ∷ rest) h =
    ap (λ (b : Bool). b ∷ decisions_from bytes (next_decision bytes it s.0).1
    (contexts_of rest)) h.0
    ∙ ap (λ (l : List Bool). s.1 ∷ l) (decides_to bytes (next_decision bytes it s.0).1 rest h.1)

decided : (bytes : List ℕ) (syms : List (ℕ × Bool)) →
    DecidedBy bytes syms ↔ Decides (next_decision bytes) start_interval syms
unfolding decisions
decided bytes syms = (decides_from bytes start_interval syms, decides_to bytes start_interval syms)

decides_front : (bytes : List ℕ) (it : Interval) (syms : List (ℕ × Bool)) (further : List ℕ) →
    take (length syms) (decisions_from bytes it (contexts_of syms ++ further)) ≡ bits_of syms →
    Decides (next_decision bytes) it syms
unfolding decisions_from
decides_front bytes it [] further e = tt
decides_front bytes it (s ∷ rest) further e = (
  head_same _ _ _ _ e,
  decides_front bytes (next_decision bytes it s.0).1 rest further
      (tail_same _ _ _ _ e),
)

means_same : (P Q : List (ℕ × Bool) → Type 0) (s : Shape) (k : ℕ) (cells : List Cell) →
    ((syms : List (ℕ × Bool)) → P syms → Q syms) → Means P s k cells → Means Q s k cells
means_same P Q s k cells f m =
    record {
      few = m.few;
      plain = m.plain;
      fits = m.fits;
      decided = f _ m.decided;
      planes =
          m.planes;
    }

pub meaning_holds : MeaningHolds
meaning_holds bytes s k few =
    means_same (Decides (next_decision bytes) start_interval) (DecidedBy bytes) s k _
    (λ syms. (decided bytes syms).1) (read_means (next_decision bytes) start_interval s k few)

pub one_meaning_of_bytes : OneMeaning
one_meaning_of_bytes bytes s k cells m =
    one_meaning (next_decision bytes) start_interval s k cells
    (means_same (DecidedBy bytes) (Decides (next_decision bytes) start_interval) s k cells
    (λ syms. (decided bytes syms).0) m)

pub written_read_back : ((syms : List (ℕ × Bool)) (further : List ℕ) → Inverts syms further) →
    ReadBack
unfolding decisions
written_read_back inverts coefs s k b =
    read_back (next_decision (code (symbols_of coefs s k))) start_interval s k coefs b
    (decides_front (code (symbols_of coefs s k)) start_interval (symbols_of coefs s k) []
    (inverts (symbols_of coefs s k) []))
