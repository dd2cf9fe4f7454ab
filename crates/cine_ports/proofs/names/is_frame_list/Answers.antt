use Rattle.std.proofs.Common.{◌<◌, ◌^◌, length, arith, rules, of_calls}
use Rattle.std.specs.Cmp.Lexicographic.{slice_cmp}
use Rattle.std.specs.Ordering.{nat_cmp, is_lt}
use Rattle.std.proofs.lemmas.Fn.{always_returns_same}
use Rattle.cine_ports.proofs.NameOrder.{list_test}
use Rattle.cine_ports.proofs.names.is_frame_list.Goals as goal

pub returns-then-entries-lt-TOO_MANY : goal.returns-then-entries-lt-TOO_MANY
returns-then-entries-lt-TOO_MANY c =
    let few : length c.args.entries.now < 2 ^ 32 = omega (arith, c.if-entries-lt-TOO_MANY.true) in
    list_test (λ file. file.name) c.args.entries.now c.is_sorted_by.result few
    (c.is_sorted_by.ensures.cases (λ a b. is_lt (slice_cmp nat_cmp a.name b.name))
    (always_returns_same _ _ _ (λ a r f k. search (rules, of_calls))))
