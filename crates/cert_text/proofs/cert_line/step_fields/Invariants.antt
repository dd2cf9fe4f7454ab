use Rattle.std.proofs.Common.{◌≡◌, ◌++◌, drop, string_bytes}
use Rattle.std.specs.List.{flat_map}
use Rattle.cert_text.specs.Lines.{step_field}
use Rattle.cert_text.proofs.cert_line.step_fields.Given as goal

-- what is written and the steps that are left make the whole
abbrev pub invariant-loop-step : goal.invariant-loop-step
invariant-loop-step l =
    string_bytes l.out ++ flat_map step_field (drop l.step-index l.refused)
    ≡ flat_map step_field l.refused
