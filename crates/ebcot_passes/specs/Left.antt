-- A block that was left after some of its passes.
use Rattle.std.specs.Prelude.{ℕ, ◌≡◌, Bool, List}
use Rattle.mq_coder.specs.Mark.{IsLeft}
use Rattle.ebcot_contexts.specs.Contexts.{Shape}
use Rattle.ebcot_contexts.specs.Meaning.{symbols_of, known_after}
use Rattle.distortion_sums.specs.Distortion.{distortion}
use Rattle.flag_words.specs.Words.{AreFlags}
use Rattle.ebcot_passes.specs.Runs.{plane_before}
use Rattle.ebcot_passes.specs.declared.left.LeftBlock.{LeftBlock}

-- The first k passes of a block were coded to a buffer: of `IsAfter` what can't be found again from
-- the block's coefficients.
pub record IsLeftAfter (coefs : List (ℕ × Bool)) (s : Shape) (k : ℕ) (b : LeftBlock)
    (buffer : List ℕ) : Type 0 where
  pub passes_are : b.passes ≡ k
  pub flags : AreFlags s.width (plane_before s k) (known_after coefs s k) b.words
  pub distortion_is : b.distortion ≡ distortion coefs s k
  pub left : IsLeft b.mark b.coder buffer (symbols_of coefs s k)
