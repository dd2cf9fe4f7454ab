-- The coding passes of a whole code-block: ISO/IEC 15444-1, Annex D.3.
use Rattle.std.specs.Prelude.{ℕ, suc, ◌*◌, ◌-◌, ◌<◌, ◌≤◌, ◌≡◌, Bool, List, length, get_or}
use Rattle.mq_coder.specs.Mark.{IsMarkOf}
use Rattle.ebcot_contexts.specs.Contexts.{Shape}
use Rattle.ebcot_contexts.specs.Meaning.{symbols_of}
use Rattle.distortion_sums.specs.Distortion.{distortion}
use Rattle.ebcot_passes.specs.declared.coded.CodedPass.{CodedPass}

-- how many passes a block has, by its bit-planes: three for each, less two, and none where it has
-- no bit-plane
abbrev pub passes_of : ℕ → ℕ
passes_of planes = 3 * planes - 2

-- Pass k of a block, counted from 0, was coded to a buffer: its mark stands for the symbols of the
-- passes up to it, and its distortion is what they leave.
pub record IsPass (coefs : List (ℕ × Bool)) (s : Shape) (k : ℕ) (pass : CodedPass)
    (buffer : List ℕ) : Type 0 where
  pub mark : IsMarkOf pass.mark buffer (symbols_of coefs s (suc k))
  pub distortion_is : pass.distortion ≡ distortion coefs s (suc k)
  pub few : pass.mark.count ≤ 68023

-- the first k passes, and no more; the bytes that were put out don't get fewer
pub record ArePasses (coefs : List (ℕ × Bool)) (s : Shape) (k : ℕ) (passes : List CodedPass)
    (buffer : List ℕ) : Type 0 where
  pub count : length passes ≡ k
  pub each : (j : ℕ) (other : CodedPass) → j < k → IsPass coefs s j (get_or passes j other) buffer
  pub grows : (i j : ℕ) (other : CodedPass) → i ≤ j → j < k →
      (get_or passes i other).mark.count ≤ (get_or passes j other).mark.count

-- all passes of a block
abbrev pub IsBlockCode : List (ℕ × Bool) → Shape → List CodedPass → List ℕ → Type 0
IsBlockCode coefs s passes buffer = ArePasses coefs s (passes_of s.planes) passes buffer
