-- What the steps of the reading find: the inside of this crate.
use Rattle.std.specs.Prelude.{ℕ, ◌+◌, ◌≡◌, ◌≤◌, true, List, slice_index, Option, Some, None}
use Rattle.cine_nums.specs.Bytes.{word_at, long_at}
use Rattle.tile_parts.specs.Head.{Sot}
use Rattle.tile_parts.specs.Refusals.{is_passed}

-- the fields that are read as those of SOT
abbrev pub sot_at : List ℕ → ℕ → Sot
sot_at bytes at = record {
  marker = word_at bytes at;
  lsot = word_at bytes (at + 2);
  isot = word_at bytes (at + 4);
  psot = long_at bytes (at + 6);
  tpsot = slice_index bytes (at + 10);
  tnsot = slice_index bytes (at + 11);
}

-- SOD stands there
pub record IsSod (bytes : List ℕ) (at stop : ℕ) : Type 0 where
  pub marker : word_at bytes at ≡ 0xFF93
  pub inside : at + 2 ≤ stop

-- a whole segment stands there, up to another place
pub record IsPassed (bytes : List ℕ) (at stop next : ℕ) : Type 0 where
  pub marker : is_passed (word_at bytes at) ≡ true
  pub some : 2 ≤ word_at bytes (at + 2)
  pub room : at + 4 ≤ stop
  pub next_is : next ≡ at + 2 + word_at bytes (at + 2)
  pub inside : next ≤ stop

-- one or the other
abbrev pub Stands : List ℕ → ℕ → ℕ → Option ℕ → Type 0
Stands bytes at stop None = IsSod bytes at stop
Stands bytes at stop (Some next) = IsPassed bytes at stop next
