-- How the passes and the bytes of the code-blocks of a frame are joined.
use Rattle.std.specs.Prelude.{ℕ, ◌+◌, ◌<◌, ◌≤◌, List, length, get_or}
use Rattle.mq_coder.specs.Mark.{kept_at}
use Rattle.ebcot_passes.specs.declared.coded.CodedPass.{CodedPass}
use Rattle.coded_blocks.specs.declared.row.CodedBlock.{CodedBlock}

-- the passes of a block stand among these passes, and its bytes, as far as the code of some of its
-- passes keeps them, among these bytes
pub record IsRowIn (passes : List CodedPass) (bytes : List ℕ) (row : CodedBlock) : Type 0 where
  pub passes_in : row.first + row.passes ≤ length passes
  pub bytes_in : (k : ℕ) (other : CodedPass) → k < row.passes →
      row.at + kept_at (get_or passes (row.first + k) other).mark ≤ length bytes

-- the marks of these passes keep at most so many bytes
abbrev pub KeepAtMost : List CodedPass → ℕ → Type 0
KeepAtMost passes most =
    (k : ℕ) (other : CodedPass) → k < length passes → kept_at (get_or passes k other).mark ≤ most

-- the bytes that were put out don't get fewer
abbrev pub Grow : List CodedPass → Type 0
Grow passes = (i j : ℕ) (other : CodedPass) → i ≤ j → j < length passes →
    (get_or passes i other).mark.count ≤ (get_or passes j other).mark.count
