use Rattle.std.proofs.Common.{refl, sym, subst, ◌<◌}
use Rattle.frame_reader.specs.Blocks.{planes_of}
use Rattle.frame_reader.proofs.Decoding.{decoded_more}
use Rattle.frame_reader.proofs.blocks.read_next.Goals as goal

pub returns-clause-decoded : goal.returns-clause-decoded
returns-clause-decoded c before =
    decoded_more c.args.n c.args.bytes.now c.args.found.now c.args.blocks.now _
    (planes_of c.args.planes.now) (planes_of c.read_numbered.new.planes) c.read_numbered.result
    (subst (λ m. c.args.n < m) (sym c.requires.count) c.requires.number) refl
    c.read_numbered.ensures.means c.read_numbered.ensures.others before
