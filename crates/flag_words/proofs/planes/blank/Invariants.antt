use Rattle.std.proofs.Common.{◌≡◌, ◌<◌, ℕ, length, get_or}
use Rattle.flag_words.specs.Blank.{blank_of}
use Rattle.flag_words.proofs.planes.blank.Given as goal

-- the words before n are set
abbrev pub invariant-loop-n : goal.invariant-loop-n
invariant-loop-n l =
    (length l.words ≡ 340) × ((j : ℕ) → j < l.n → get_or l.words j 0 ≡ blank_of l.width l.height j)
