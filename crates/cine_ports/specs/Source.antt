-- What a source of frames keeps.
use Rattle.std.specs.Prelude.{ℕ, ◌≡◌, Bool, false, List, [], Option}

-- a file: its name, which for a frame has no suffix, and its bytes
pub record File : Type 0 where
  pub name : List ℕ
  pub bytes : List ℕ

-- what lies in a source
pub record Source : Type 0 where
  -- the files in order, where they are known
  pub files : Option (List File)
  -- whether they have been listed
  pub is_listed : Bool
  -- the names that were listed, in order; none before
  pub names : List (List ℕ)

-- where the reading of a source stands
pub record Reading : Type 0 where
  -- the number of the frame that was asked for last, and 0 before
  pub asked : ℕ
  -- whether that frame is begun
  pub is_begun : Bool
  -- the bytes of the begun frame that are still to be read, where the files are known
  pub left : List ℕ

-- a source that isn't listed has no names, and no frame of it was asked for
abbrev pub IsUnlisted : Source → Reading → Type 0
IsUnlisted source reading = source.is_listed ≡ false → (source.names ≡ []) × (reading.asked ≡ 0)
