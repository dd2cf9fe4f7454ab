use Rattle.packet_headers.proofs.QuarterLemmas.{place_below}
use Rattle.packet_headers.proofs.writing.quarters.quarter_of.Goals as goal

pub returns-clause-node : goal.returns-clause-node
returns-clause-node c = c.requires.quarters.node c.args.place
    (place_below c.args.width c.args.height c.args.place c.requires.height c.requires.place)

pub returns-clause-below : goal.returns-clause-below
returns-clause-below c = c.requires.quarters.below c.args.place
    (place_below c.args.width c.args.height c.args.place c.requires.height c.requires.place)
