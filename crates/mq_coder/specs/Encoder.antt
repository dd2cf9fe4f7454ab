-- What an encoder stands for.
use Rattle.std.specs.Prelude.{ℕ, ◌≡◌, Bool, List}
use Rattle.mq_coder.specs.Code.{Coding, coded}
use Rattle.mq_coder.specs.Registers.{coding_of}
use Rattle.mq_coder.specs.declared.encoder.Encoder.{Encoder}

-- the state of the procedures that the encoder holds
abbrev pub state_of : Encoder → Coding
state_of e = coding_of e.registers e.bytes.now e.contexts

-- the number of bytes put out
abbrev pub count_of : Encoder → ℕ
count_of e = e.registers.count

-- an encoder stands for a list of symbols where it holds what the procedures have after that list
abbrev pub Stands : Encoder → List (ℕ × Bool) → Type 0
Stands e symbols = state_of e ≡ coded symbols
