-- A block after some of its passes.
use Rattle.std.specs.Prelude.{ℕ, ◌-◌, ◌≡◌, Bool, List}
use Rattle.mq_coder.specs.Mark.{IsLeft}
use Rattle.ebcot_contexts.specs.Contexts.{Shape}
use Rattle.ebcot_contexts.specs.Passes.{start}
use Rattle.ebcot_contexts.specs.Meaning.{symbols_of, known_after, IsBlock}
use Rattle.distortion_sums.specs.Distortion.{distortion}
use Rattle.flag_words.specs.Words.{AreFlags}
use Rattle.ebcot_passes.specs.Coding.{AreCoefs, AreContexts}
use Rattle.ebcot_passes.specs.Runs.{plane_before}
use Rattle.ebcot_passes.specs.declared.block.BlockCoder.{BlockCoder}

-- The first k passes of a block were coded to a buffer.
pub record IsAfter (coefs : List (ℕ × Bool)) (s : Shape) (k : ℕ) (b : BlockCoder)
    (buffer : List ℕ) : Type 0 where
  pub wide : s.width ≡ b.width
  pub high : s.height ≡ b.height
  pub planes_are : s.planes ≡ b.planes
  pub contexts : AreContexts s.orient b.contexts.now
  pub grid : AreCoefs s.width s.height coefs b.grid
  pub blank : AreFlags s.width (s.planes - 1) (start s) b.blank
  pub passes_are : b.passes ≡ k
  pub flags : AreFlags s.width (plane_before s k) (known_after coefs s k) b.words
  pub fits : IsBlock coefs s
  pub distortion_is : b.distortion ≡ distortion coefs s k
  pub left : IsLeft b.mark b.coder buffer (symbols_of coefs s k)
