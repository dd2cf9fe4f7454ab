use Rattle.tile_parts.proofs.HeadLemmas.{head_spells}
use Rattle.tile_parts.proofs.OnceLemmas.{part_returned, fault_returned, is_part, is_refused}
use Rattle.tile_parts.proofs.part.read_part.Goals as goal

pub returns-clause-spelled : goal.returns-clause-spelled
returns-clause-spelled c =
    is_part c.args.bytes.now c.args.at c.args.index c.args.count c.read_head.result
    c.read_head.ensures

pub returns-clause-spells : goal.returns-clause-spells
returns-clause-spells c =
    part_returned c.args.bytes.now c.args.at c.args.index c.args.count c.read_head.result
    c.requires.inside c.read_head.ensures

pub returns-clause-refused : goal.returns-clause-refused
returns-clause-refused c =
    is_refused c.args.bytes.now c.args.at c.args.index c.args.count c.read_head.result
    c.read_head.ensures

pub returns-clause-faults : goal.returns-clause-faults
returns-clause-faults c =
    fault_returned c.args.bytes.now c.args.at c.args.index c.args.count c.read_head.result
    c.requires.inside c.read_head.ensures

pub returns-clause-read_back : goal.returns-clause-read_back
returns-clause-read_back c = λ size large inside is.
    part_returned c.args.bytes.now c.args.at c.args.index c.args.count c.read_head.result
    c.requires.inside c.read_head.ensures _
    (head_spells c.args.bytes.now c.args.at c.args.index c.args.count size large inside is)
