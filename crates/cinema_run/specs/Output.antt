-- What writing a whole output leaves.
use Rattle.std.specs.Prelude.{ℕ, ◌≡◌, ◌≤◌, ◌⊎◌, List, ◌++◌, Option, Some, None, length, take}
use Rattle.std.specs.Prelude.{option_map}
use Rattle.cine_ports.specs.Source.{File}
use Rattle.cine_ports.specs.Outputs.{Kept}

-- with these finished files more, and nothing unfinished
abbrev pub kept_and : List File → Kept → Kept
kept_and files kept = record { finished = kept.finished ++ files; unfinished = None }

-- with an unfinished file of this name and these bytes
abbrev pub kept_and_part : List ℕ → List ℕ → Kept → Kept
kept_and_part name bytes kept = record {
  finished = kept.finished;
  unfinished = Some (record { name = name; bytes = bytes });
}

-- The writing of an output broke off: nothing was begun, or a prefix of its bytes is written.
abbrev pub OutputBrokeOff : List ℕ → List ℕ → Option Kept → Option Kept → Type 0
OutputBrokeOff name bytes before now =
    (now ≡ before)
    ⊎ ((n : ℕ) × (n ≤ length bytes) × (now ≡ option_map (kept_and_part name (take n bytes)) before))
