use Rattle.std.proofs.Common.{◌≡◌, ℕ, ◌+◌, ◌-◌, ◌*◌, ◌≤◌, ◌^◌, Bool, List, take}
use Rattle.mq_coder.specs.Shifts.{shifts}
use Rattle.mq_coder.specs.Registers.{coding_of}
use Rattle.mq_coder.proofs.renormalise.shifted_out.Given as goal

abbrev pub invariant-loop : goal.invariant-loop
invariant-loop l = record {
  in_step : (contexts : List (ℕ × Bool)) →
      shifts l.initial.due (coding_of l.initial.now l.initial.bytes contexts)
      ≡ shifts l.due (coding_of l.now l.bytes contexts);
  width : l.now.a * 2 ^ l.due ≡ l.initial.now.a * 2 ^ l.initial.due;
  first : l.counter ≡ 0 → l.due ≤ l.initial.due;
  pace : l.due + 7 * l.counter ≤ l.initial.due + 6;
  seven : 1 ≤ l.counter → 7 ≤ l.now.ct;
  count : l.now.count ≡ l.initial.now.count + l.counter;
  fixed : take (l.initial.now.count - 1) l.bytes ≡ take (l.initial.now.count - 1) l.initial.bytes;
}
