use Rattle.std.proofs.Common.{take}
use Rattle.cert_text.specs.Stands.{Stands}
use Rattle.cert_text.proofs.parts.word.Given as goal

-- the bytes so far stand in the text
abbrev pub invariant-loop-byte : goal.invariant-loop-byte
invariant-loop-byte l = Stands l.text l.at (take l.byte-index l.word) l.end
