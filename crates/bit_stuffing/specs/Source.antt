-- What a reader of a header's bits stands for (ISO/IEC 15444-1, B.10.1).
use Rattle.std.specs.Prelude.{◌≡◌, ℕ, Bool, List, ◌++◌}

-- a reader of a header's bits: the bytes that it was given, the bits that were taken, and those
-- that can still be taken
pub record BitSource : Type 0 where
  pub bytes : List ℕ
  pub taken : List Bool
  pub ahead : List Bool

-- these bits were taken, and no others
pub record Took (old : BitSource) (bits : List Bool) (new : BitSource) : Type 0 where
  pub same : new.bytes ≡ old.bytes
  pub ahead : old.ahead ≡ bits ++ new.ahead
  pub taken : new.taken ≡ old.taken ++ bits
