use Rattle.std.proofs.Common.{◌≡◌, ◌++◌, drop, string_bytes}
use Rattle.cert_text.specs.Names.{escaped}
use Rattle.cert_text.proofs.escaping.escaped.Given as goal

-- what is written and the bytes that are left make the whole
abbrev pub invariant-loop-byte : goal.invariant-loop-byte
invariant-loop-byte l = string_bytes l.out ++ escaped (drop l.byte-index l.byte-items)
    ≡ escaped l.byte-items
