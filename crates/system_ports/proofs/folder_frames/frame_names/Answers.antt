use Rattle.std.proofs.Common.{◌<◌, length}
use Rattle.std.specs.String.{string_bytes}
use Rattle.std.proofs.lemmas.List.Sorted.{All-permutation}
use Rattle.system_ports.proofs.folder_frames.frame_names.Goals as goal

pub returns-clause-not_empty : goal.returns-clause-not_empty
returns-clause-not_empty g c =
    All-permutation (λ name. 0 < length
    (string_bytes name)) c.loop-entry.names.items c.sort.new.self.items
    c.sort.ensures.permutation c.loop-entry.invariant
