use Rattle.std.proofs.Common.{◌≡◌, ◌+◌, ◌*◌, ◌≤◌, ◌^◌, length}
use Rattle.mq_coder.specs.Decisions.{Interval}
use Rattle.mq_decoder.specs.Registers.{HoldsAt}
use Rattle.mq_decoder.proofs.Turning.{Moved}
use Rattle.mq_decoder.proofs.renormalise.shifted_in.Given as goal

abbrev pub invariant-loop : goal.invariant-loop
invariant-loop l = record {
  in_step : (it : Interval) → HoldsAt l.bytes l.initial.now it →
      Moved l.bytes l.now it l.initial.due l.due;
  width : l.now.a * 2 ^ l.due ≡ l.initial.now.a * 2 ^ l.initial.due;
  first : l.counter ≡ 0 → l.due ≤ l.initial.due;
  pace : l.due + 7 * l.counter ≤ l.initial.due + 6;
  left : 1 ≤ l.counter → 6 ≤ l.now.ct;
  inside : l.now.place ≤ length l.bytes;
}
