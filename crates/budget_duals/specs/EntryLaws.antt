-- The order of entries is total.
use Rattle.std.specs.Prelude.{◌≤◌}
use Rattle.std.proofs.Common.{arith}
use Rattle.std.specs.Cmp.{IsTotalOrder, then_total, back_total, on_total, nat_cmp_total}
use Rattle.std.specs.Cmp.{bool_cmp_total}
use Rattle.rd_hulls.specs.OrderLaws.{slopes_total}
use Rattle.budget_duals.specs.Entries.{gain_of, len_of, is_bound, entry_cmp}
use Rattle.budget_duals.specs.declared.entry.Entry.{Entry}
use Rattle.budget_duals.specs.declared.offer.Offer.{Offer}
use Rattle.budget_duals.specs.declared.offer.Offer.TheVariants.{Nothing, Step, AtMost}

pub some_len : (o : Offer) → 1 ≤ len_of o
some_len Nothing = omega arith
some_len (Step s) = s.longer
some_len (AtMost bound) = bound.longer

pub entry_total : IsTotalOrder entry_cmp
entry_total =
    then_total
    (then_total
    (back_total (slopes_total (λ (e : Entry). gain_of e.offer) (λ (e : Entry). len_of e.offer)
    (λ e. some_len e.offer)))
    (on_total (λ (e : Entry). is_bound e.offer) bool_cmp_total))
    (back_total (on_total (λ (e : Entry). e.block) nat_cmp_total))
