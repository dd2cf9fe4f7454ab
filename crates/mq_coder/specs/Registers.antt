-- The coder's registers and buffer as the state that the encoder's procedures change.
use Rattle.std.specs.Prelude.{ℕ, Bool, List, take}
use Rattle.mq_coder.specs.Code.{Coding}
use Rattle.mq_coder.specs.declared.registers.Registers.{Registers}

-- the state that registers, a buffer and contexts hold
abbrev pub coding_of : Registers → List ℕ → List (ℕ × Bool) → Coding
coding_of r buffer contexts =
    record { a = r.a; c = r.c; ct = r.ct; bytes = take r.count buffer; contexts = contexts }
