use Rattle.std.proofs.Common.{◌<◌, ◌^◌, length, arith, rules, of_calls}
use Rattle.std.specs.Cmp.Lexicographic.{slice_cmp}
use Rattle.std.specs.Ordering.{nat_cmp, is_lt}
use Rattle.std.specs.String.{string_bytes}
use Rattle.std.proofs.lemmas.Fn.{always_returns_same}
use Rattle.cine_ports.proofs.NameOrder.{list_test}
use Rattle.cine_ports.proofs.names.is_name_list.Goals as goal

pub returns-then-names-lt-TOO_MANY : goal.returns-then-names-lt-TOO_MANY
returns-then-names-lt-TOO_MANY c =
    let few : length c.args.names.now < 2 ^ 32 = omega (arith, c.if-names-lt-TOO_MANY.true) in
    list_test string_bytes c.args.names.now c.is_sorted_by.result few
    (c.is_sorted_by.ensures.cases (λ a b. is_lt
    (slice_cmp nat_cmp (string_bytes a) (string_bytes b)))
    (always_returns_same _ _ _ (λ a r f k. search (rules, of_calls))))
