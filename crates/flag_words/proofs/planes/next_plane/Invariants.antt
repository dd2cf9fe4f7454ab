use Rattle.std.proofs.Common.{◌≡◌, ◌<◌, ◌≤◌, ℕ, length, get_or}
use Rattle.flag_words.specs.Blank.{next_of}
use Rattle.flag_words.proofs.planes.next_plane.Given as goal

-- the words before n are those of the next plane, the others are as they were
abbrev pub invariant-loop-n : goal.invariant-loop-n
invariant-loop-n l =
    (length l.words ≡ 340)
    × ((j : ℕ) → j < l.n → get_or l.words j 0
    ≡ next_of (get_or l.initial.words j 0) (get_or l.blank j 0))
    × ((j : ℕ) → l.n ≤ j → get_or l.words j 0 ≡ get_or l.initial.words j 0)
