-- What is kept of a block holds beside every buffer that begins with the kept bytes.
use Rattle.std.proofs.Common.{ℕ, zero, suc, ◌<◌, ◌≤◌, ◌≡◌, inl, inr, Bool, List}
use Rattle.std.proofs.Common.{◌++◌}
use Rattle.std.proofs.Common.{length, get_or, take, take-take, sym, ap, ◌∙◌}
use Rattle.std.proofs.Common.{arith}
use Rattle.std.proofs.lemmas.Bool.{cases_lt}
use Rattle.std.proofs.lemmas.List.{take-append-le, take_all, length-take-le}
use Rattle.mq_coder.specs.Code.{coded}
use Rattle.mq_coder.specs.Mark.{IsMarkOf, kept_at}
use Rattle.mq_coder.specs.declared.mark.Mark.{Mark}
use Rattle.mq_coder.proofs.Grown.{few_bytes}
use Rattle.ebcot_contexts.specs.Contexts.{Shape}
use Rattle.ebcot_contexts.specs.Meaning.{symbols_of}
use Rattle.ebcot_contexts.proofs.Counts.{at_most}
use Rattle.ebcot_passes.specs.Code.{IsPass, ArePasses, passes_of}
use Rattle.ebcot_passes.specs.declared.coded.CodedPass.{CodedPass}
use Rattle.ebcot_passes.specs.declared.left.LeftBlock.{LeftBlock}
use Rattle.demand_blocks.specs.Begun.{IsPassAnywhere, CanGoOn}
use Rattle.demand_blocks.specs.PointLaws.{IsSmallBlock}

-- fewer bytes are equal where more are
shorter : (k n : ℕ) (a b : List ℕ) → k ≤ n → take n b ≡ take n a → take k b ≡ take k a
shorter k n a b le same = sym (take-take k n b le) ∙ ap (take k) same ∙ take-take k n a le

pub mark_moves : (m : Mark) (a b : List ℕ) (symbols : List (ℕ × Bool)) →
    take (kept_at m) b ≡ take (kept_at m) a → IsMarkOf m a symbols → IsMarkOf m b symbols
mark_moves m a b symbols same is = record {
  a = is.a;
  c = is.c;
  ct = is.ct;
  last = is.last;
  count = is.count;
  prefix = same ∙ is.prefix;
}

-- a buffer has the bytes that a mark beside it keeps
pub enough : (m : Mark) (a : List ℕ) (symbols : List (ℕ × Bool)) → IsMarkOf m a symbols →
    kept_at m ≤ length a
enough m a symbols is = elim (cases_lt (length a) (kept_at m)) [
  | inl lt ↦
      let count = is.count in
      let whole : length (take (kept_at m) (coded symbols).bytes) ≡ kept_at m =
      length-take-le (kept_at m) (coded symbols).bytes (omega (arith, count)) in
      let same : length (take (kept_at m) a) ≡ length (take (kept_at m) (coded symbols).bytes) =
      ap length is.prefix in
      let all : length (take (kept_at m) a) ≡ length a =
      ap length (take_all (kept_at m) a (omega (arith, lt))) in
      absurd (omega (arith, lt, whole, same, all))
  | inr le ↦ le
]

-- a mark of a block's passes puts out at most 68,023 bytes
pub few_out : (coefs : List (ℕ × Bool)) (s : Shape) (k : ℕ) (m : Mark) (buffer : List ℕ) →
    IsSmallBlock coefs s → k ≤ passes_of s.planes → IsMarkOf m buffer (symbols_of coefs s k) →
    m.count ≤ 68023
few_out coefs s k m buffer small within is =
    let symbols = at_most coefs s k small.wide small.high small.few within in
    let bytes = few_bytes (symbols_of coefs s k) in
    let count = is.count in
    omega (arith, symbols, bytes, count)

-- the marks of the passes before put out no more bytes than that after them
pub marks_below : (coefs : List (ℕ × Bool)) (s : Shape) (k : ℕ) (passes : List CodedPass)
    (a b : List ℕ) (m : Mark) → ArePasses coefs s k passes a →
    IsMarkOf m b (symbols_of coefs s k) → (j : ℕ) (other : CodedPass) → j < k →
    (get_or passes j other).mark.count ≤ m.count
marks_below coefs s zero passes a b m are is j other lt = absurd (omega (arith, lt))
marks_below coefs s (suc k) passes a b m are is j other lt =
    let last = (are.each k other (omega arith)).mark.count in
    let count = is.count in
    let grows = are.grows j k other (omega (arith, lt)) (omega arith) in
    omega (arith, last, count, grows)

-- beside another buffer that begins with the bytes that the last mark keeps
pub passes_move : (coefs : List (ℕ × Bool)) (s : Shape) (k : ℕ) (passes : List CodedPass)
    (a b : List ℕ) (m : Mark) → ArePasses coefs s k passes a →
    IsMarkOf m a (symbols_of coefs s k) → take (kept_at m) b ≡ take (kept_at m) a →
    ArePasses coefs s k passes b
passes_move coefs s k passes a b m are is same = record {
  count = are.count;
  each = λ j other lt.
      let pass = are.each j other lt in
      let below = marks_below coefs s k passes a a m are is j other lt in
      record {
        mark = mark_moves (get_or passes j other).mark a b (symbols_of coefs s (suc j))
            (shorter (kept_at (get_or passes j other).mark) (kept_at m) a b (omega (arith, below))
            same) pass.mark;
        distortion_is = pass.distortion_is;
        few = pass.few;
      };
  grows = are.grows;
}

pub moves : (coefs : List (ℕ × Bool)) (s : Shape) (passes : List CodedPass) (left : LeftBlock)
    (a b : List ℕ) → CanGoOn coefs s passes left a →
    take (kept_at left.mark) b ≡ take (kept_at left.mark) a → CanGoOn coefs s passes left b
moves coefs s passes left a b can same = record {
  left_after = record {
    passes_are = can.left_after.passes_are;
    flags = can.left_after.flags;
    distortion_is = can.left_after.distortion_is;
    left = record {
      mark = mark_moves left.mark a b (symbols_of coefs s (length passes)) same
          can.left_after.left.mark;
      contexts = can.left_after.left.contexts;
    };
  };
  coded = passes_move coefs s (length passes) passes a b left.mark can.coded
      can.left_after.left.mark same;
}

-- the kept bytes at the beginning of a buffer
pub moves_to : (coefs : List (ℕ × Bool)) (s : Shape) (passes : List CodedPass) (left : LeftBlock)
    (bytes rest : List ℕ) → CanGoOn coefs s passes left bytes →
    CanGoOn coefs s passes left (bytes ++ rest)
moves_to coefs s passes left bytes rest can =
    let inside = enough left.mark bytes (symbols_of coefs s (length passes))
    can.left_after.left.mark in
    moves coefs s passes left bytes (bytes ++ rest) can
    (take-append-le (kept_at left.mark) bytes rest inside)

-- the bytes that the last mark keeps, alone
pub moves_from : (coefs : List (ℕ × Bool)) (s : Shape) (passes : List CodedPass) (left : LeftBlock)
    (buffer : List ℕ) → CanGoOn coefs s passes left buffer →
    CanGoOn coefs s passes left (take (kept_at left.mark) buffer)
moves_from coefs s passes left buffer can =
    moves coefs s passes left buffer (take (kept_at left.mark) buffer) can
    (take-take (kept_at left.mark) (kept_at left.mark) buffer (omega arith))

-- without a buffer
pub anywhere : (coefs : List (ℕ × Bool)) (s : Shape) (k : ℕ) (pass : CodedPass)
    (buffer : List ℕ) → IsPass coefs s k pass buffer → IsPassAnywhere coefs s k pass
anywhere coefs s k pass buffer is = record {
  mark = mark_moves pass.mark buffer (coded (symbols_of coefs s (suc k))).bytes
      (symbols_of coefs s (suc k)) (sym is.mark.prefix) is.mark;
  distortion_is = is.distortion_is;
  few = is.few;
}
