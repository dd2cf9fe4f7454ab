use Rattle.std.proofs.Common.{ap, rules}
use Rattle.band_geometry.proofs.TilingLemmas.{band_is_covered}
use Rattle.band_geometry.proofs.StandardLemmas.{standard_width, standard_height}
use Rattle.band_geometry.proofs.geometry.Geometry.band.Goals as goal

pub returns-in-LL-clause-covered : goal.returns-in-LL-clause-covered
returns-in-LL-clause-covered c =
    band_is_covered c.args.self.now c.args.res c.args.orient _ c.requires (search rules)

pub returns-in_default-clause-covered : goal.returns-in_default-clause-covered
returns-in_default-clause-covered c =
    band_is_covered c.args.self.now c.args.res c.args.orient _ c.requires c.detail_band.ensures

pub returns-in-LL-clause-standard_width : goal.returns-in-LL-clause-standard_width
returns-in-LL-clause-standard_width c =
    standard_width c.args.self.now c.args.res c.args.orient _ c.requires (search rules)

pub returns-in_default-clause-standard_width : goal.returns-in_default-clause-standard_width
returns-in_default-clause-standard_width c =
    standard_width c.args.self.now c.args.res c.args.orient _ c.requires
    (ap (λ b. b.width) c.detail_band.ensures)

pub returns-in-LL-clause-standard_height : goal.returns-in-LL-clause-standard_height
returns-in-LL-clause-standard_height c =
    standard_height c.args.self.now c.args.res c.args.orient _ c.requires (search rules)

pub returns-in_default-clause-standard_height : goal.returns-in_default-clause-standard_height
returns-in_default-clause-standard_height c =
    standard_height c.args.self.now c.args.res c.args.orient _ c.requires
    (ap (λ b. b.height) c.detail_band.ensures)
