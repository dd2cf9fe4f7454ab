use Rattle.std.proofs.Common.{◌≡◌, ◌+◌, ◌^◌, arith, take, set, ℕ, ap, sym, ◌∙◌, refl, inl, inr}
use Rattle.mq_coder.specs.Code.{Coding, flush, set_bits, shift_out, drop_ff}
use Rattle.mq_coder.specs.Mark.{coding_at, last_of}
use Rattle.mq_coder.proofs.MarkLemmas.{last_of_is}
use Rattle.mq_coder.proofs.Widths.{less_reach}
use Rattle.mq_coder.proofs.flush.tail.Goals.{then-m-eq0, else-m-eq0}
use Rattle.mq_coder.proofs.flush.tail.Goals as goal

pub shift_out-left-requires-clause-within : goal.shift_out-left-requires-clause-within
shift_out-left-requires-clause-within c =
    rw c.from.ensures (less_reach c.args.m.now.c c.args.m.now.a c.args.m.now.ct
    (2 ^ 28) c.set_bits.result
    c.args.m.now.within c.set_bits.ensures.inside)

pub shift_out-left-requires-clause-within_first : goal.shift_out-left-requires-clause-within_first
shift_out-left-requires-clause-within_first c =
    rw c.from.ensures (elim c.if-m-eq0.branch [
      | then-m-eq0 w ↦ λ none. less_reach c.args.m.now.c c.args.m.now.a c.args.m.now.ct
          (2 ^ 27) c.set_bits.result
          (c.args.m.now.within_first w.if-m-eq0.true) c.set_bits.ensures.inside
      | else-m-eq0 w ↦ λ none. absurd (omega arith)
    ])

pub returns-clause-exact : goal.returns-clause-exact
unfolding flush
returns-clause-exact c =
    let x : Coding = coding_at c.args.m.now in
    let n : ℕ = c.if-m-eq0.count in
    let s = c.set_bits.ensures.exact x refl refl in
    let last : take n (set c.args.bytes.now 0 c.args.m.now.last)
    ≡ last_of c.args.m.now.count c.args.m.now.last =
    elim c.if-m-eq0.branch [
      | then-m-eq0 w ↦ last_of_is c.args.m.now.count c.args.m.now.last c.args.bytes.now
          (omega arith) n (inl (w.if-m-eq0.true, w.count-is))
      | else-m-eq0 w ↦ last_of_is c.args.m.now.count c.args.m.now.last c.args.bytes.now
          (omega arith) n (inr (w.if-m-eq0.false, w.count-is))
    ] in
    let first : shift_out (set_bits x) ≡ record x {
      c = c.shift_out-left.result.c;
      ct = c.shift_out-left.result.ct;
      bytes = take (n + 1) c.shift_out-left.new.bytes;
    } =
    ap shift_out s ∙ rw (last, c.from.ensures) at (c.shift_out-left.ensures.put x) in
    let second = c.shift_out.ensures.put x in
    let two : n + 1 + 1 ≡ n + 2 = omega arith in
    let bytes = rw two at (ap (λ (y : Coding). y.bytes) (ap shift_out first ∙ second)) in
    c.without_ff.ensures.exact ∙ ap drop_ff (sym bytes)
