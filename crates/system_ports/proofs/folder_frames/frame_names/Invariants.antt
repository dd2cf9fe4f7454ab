use Rattle.std.proofs.Common.{◌<◌, length, All}
use Rattle.std.specs.String.{string_bytes}
use Rattle.system_ports.proofs.folder_frames.frame_names.Given as goal

-- no name so far is empty
abbrev pub invariant-loop-entry : goal.invariant-loop-entry
invariant-loop-entry g l = All (λ name. 0 < length (string_bytes name)) l.names.items
