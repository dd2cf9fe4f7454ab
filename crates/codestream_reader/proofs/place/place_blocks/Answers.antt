use Rattle.std.proofs.Common.{◌≡◌, get_or, length, arith, refl}
use Rattle.std.proofs.lemmas.List.{get_or_default}
use Rattle.codestream_reader.specs.Spans.{no_span}
use Rattle.codestream_reader.proofs.Placing.{one_placed, all_placed}
use Rattle.codestream_reader.proofs.place.place_blocks.Goals as goal

pub loop-i-preserved : goal.loop-i-preserved
loop-i-preserved c =
    let below = c.loop-i-test.true in
    let same = c.requires.count in
    let entry = get_or c.args.entries.now c.loop-i.i no_span.entry in
    one_placed c.args.numbers.now c.args.entries.now c.args.from c.args.spans.now c.loop-i.i
    c.loop-i.at c.loop-i.spans (get_or c.args.numbers.now c.loop-i.i 0) entry c.loop-i.invariant
    (omega (arith, below)) same c.requires.numbers c.requires.apart refl
    (get_or_default c.args.entries.now c.loop-i.i no_span.entry entry (omega (arith, below, same)))

pub returns-clause-stand : goal.returns-clause-stand
returns-clause-stand c =
    let whole : c.loop-i.i ≡ length c.args.numbers.now =
    omega (arith, c.loop-i-test.false, c.loop-i.auto.i-end) in
    all_placed c.args.numbers.now c.args.entries.now c.args.from c.loop-i.i c.loop-i.at
    c.args.spans.now c.loop-i.spans c.loop-i.invariant whole c.requires.count
