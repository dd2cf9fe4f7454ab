-- Division that rounds up, as ISO/IEC 15444-1 writes it with the brackets of a ceiling.
use Rattle.std.specs.Prelude.{ℕ, ◌+◌, ◌-◌, ◌/◌}

-- n / d, rounded up; d is at least 1
abbrev pub div_up : ℕ → ℕ → ℕ
div_up n d = (n + (d - 1)) / d
