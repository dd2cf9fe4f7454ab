use Rattle.std.proofs.Common.{◌≡◌, ◌++◌, drop, string_bytes}
use Rattle.std.specs.List.{flat_map}
use Rattle.cert_text.specs.Lines.{number_field}
use Rattle.cert_text.proofs.refused_line.number_fields.Given as goal

-- what is written and the numbers that are left make the whole
abbrev pub invariant-loop-n : goal.invariant-loop-n
invariant-loop-n l =
    string_bytes l.out ++ flat_map number_field (drop l.n-index l.numbers)
    ≡ flat_map number_field l.numbers
