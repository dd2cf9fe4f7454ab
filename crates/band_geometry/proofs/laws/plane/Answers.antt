use Rattle.band_geometry.proofs.BlockPlaces.{band_at_place, somewhere, once}
use Rattle.band_geometry.proofs.PlaneLemmas.{in_band}
use Rattle.band_geometry.proofs.laws.plane.Goals as goal

pub returns : goal.returns
returns c = record { band = in_band; one_band = band_at_place; somewhere = somewhere; once = once }
