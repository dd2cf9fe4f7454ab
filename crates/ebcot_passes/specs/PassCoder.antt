-- What codes a pass: the MQ coder, and the distortion that is left of the block, in 64 bits.
use Rattle.std.specs.Prelude.{ℕ}
use Rattle.mq_coder.specs.declared.encoder.Encoder.{Encoder}

pub record PassCoder : Type 0 where
  pub encoder : Encoder
  pub distortion : ℕ

abbrev pub coder_of : Encoder → ℕ → PassCoder
coder_of encoder distortion = record { encoder = encoder; distortion = distortion }
