-- Entries of a heap over what blocks offer, and their order.
use Rattle.std.specs.Prelude.{ℕ, Bool, true, false, ◌*◌}
use Rattle.std.specs.Ordering.{nat_cmp, bool_cmp, on, flip_args, then_cmp}
use Rattle.std.specs.declared.cmp.Ordering.{Ordering}
use Rattle.budget_duals.specs.declared.entry.Entry.{Entry}
use Rattle.budget_duals.specs.declared.offer.Offer.{Offer}
use Rattle.budget_duals.specs.declared.offer.Offer.TheVariants.{Nothing, Step, AtMost}

-- the slope of an offer, as a gain for some bytes
abbrev pub gain_of : Offer → ℕ
gain_of Nothing = 0
gain_of (Step s) = s.gain
gain_of (AtMost bound) = bound.gain

abbrev pub len_of : Offer → ℕ
len_of Nothing = 1
len_of (Step s) = s.len
len_of (AtMost bound) = bound.len

abbrev pub is_bound : Offer → Bool
is_bound Nothing = false
is_bound (Step s) = false
is_bound (AtMost bound) = true

-- the steeper entry is the greater one
abbrev pub slope_cmp : Entry → Entry → Ordering
slope_cmp x y = nat_cmp (gain_of x.offer * len_of y.offer) (gain_of y.offer * len_of x.offer)

-- of equal slopes a bound is the greater one, and then the lower block
abbrev pub entry_cmp : Entry → Entry → Ordering
entry_cmp = then_cmp (then_cmp slope_cmp (on (λ (e : Entry). is_bound e.offer) bool_cmp))
    (flip_args (on (λ (e : Entry). e.block) nat_cmp))
