use Rattle.std.proofs.Common.{arith}
use Rattle.codestream_reader.proofs.Lists.{ok_no_err}
use Rattle.codestream_reader.proofs.Pieces.{length_part}
use Rattle.codestream_reader.proofs.Refusals.{refused_returned, refused_within}
use Rattle.codestream_reader.proofs.packet.read_at.Goals as goal

pub moved-requires : goal.moved-requires
moved-requires c =
    let within = refused_within _ _ c.in-Err.own c.in-Err.ensures.refused in
    let whole = length_part c.args.bytes.now c.args.at c.args.stop c.requires.end in
    let inside = c.requires.inside in
    let end = c.requires.end in
    let places = c.requires.places in
    omega (arith, within, whole, inside, end, places)

pub returns-in-Ok-clause-faults : goal.returns-in-Ok-clause-faults
returns-in-Ok-clause-faults c fault is =
    absurd (ok_no_err c.read.result c.in-Ok.found is.own c.in-Ok.is
    (refused_returned _ _ c.read.result c.read.ensures.short c.read.ensures.zero_planes
    c.read.ensures.passes c.read.ensures.ends is.own is.refused))
