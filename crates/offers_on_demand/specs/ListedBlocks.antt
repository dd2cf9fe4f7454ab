-- What blocks whose points stand in memory have, by their numbers.
use Rattle.std.specs.Prelude.{ℕ, ◌+◌, ◌==◌, Bool, true, List, [], ◌∷◌, length, take, Option, Some}
use Rattle.std.specs.Prelude.{None}
use Rattle.rd_hulls.specs.declared.point.Point.{Point}
use Rattle.rd_hulls.specs.Points.{origin}
use Rattle.offers_on_demand.specs.Listed.{bound_at}
use Rattle.offers_on_demand.specs.declared.listed.ListedPoints.{ListedPoints}

-- the points of all passes; of no block the one of no passes
abbrev pub all_in : Option ListedPoints → List Point
all_in None = origin ∷ []
all_in (Some block) = block.points.items

-- those that are known
abbrev pub known_in : Option ListedPoints → List Point
known_in None = origin ∷ []
known_in (Some block) = take (block.coded + 1) block.points.items

abbrev pub least_in : Option ListedPoints → ℕ
least_in None = 1
least_in (Some block) = bound_at block.least.items block.coded

abbrev pub whole_in : Option ListedPoints → Bool
whole_in None = true
whole_in (Some block) = block.coded + 1 == length block.points.items
