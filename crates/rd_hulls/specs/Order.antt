-- The order of steps: the steeper one first, of equal slopes by block, from, to, len and gain.
use Rattle.std.specs.Prelude.{◌*◌}
use Rattle.std.specs.Ordering.{nat_cmp, on, then_cmp}
use Rattle.std.specs.declared.cmp.Ordering.{Ordering}
use Rattle.rd_hulls.specs.declared.step.Step.{Step}

-- by slope, the steeper one first, by cross products
abbrev pub slope_cmp : Step → Step → Ordering
slope_cmp s t = nat_cmp (t.gain * s.len) (s.gain * t.len)

-- by the fields, rising
abbrev pub field_cmp : Step → Step → Ordering
field_cmp = then_cmp (on (λ (s : Step). s.block) nat_cmp)
    (then_cmp (on (λ (s : Step). s.from) nat_cmp)
    (then_cmp (on (λ (s : Step). s.to) nat_cmp)
    (then_cmp (on (λ (s : Step). s.len) nat_cmp) (on (λ (s : Step). s.gain) nat_cmp))))

-- by slope, and where that is equal by the fields
abbrev pub step_cmp : Step → Step → Ordering
step_cmp = then_cmp slope_cmp field_cmp
