-- What every call that reads a frame keeps.
use Rattle.std.specs.Prelude.{◌≡◌, IsTrue, IsSome}
use Rattle.cine_ports.specs.Source.{Source, Reading}
use Rattle.cine_ports.specs.WholePieces.{IsSuffixOf}

-- The frame that was asked for stays begun, the source is the same, and what is left is an end of
-- what was left.
pub record ReadsOn (source_old source_new : Source) (old new : Reading) : Type 0 where
  pub begun : IsTrue new.is_begun
  pub asked : new.asked ≡ old.asked
  pub source : source_new ≡ source_old
  pub left : IsSome source_old.files → IsSuffixOf new.left old.left
