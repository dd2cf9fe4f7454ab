use Rattle.std.proofs.Common.{◌≡◌, arith}
use Rattle.cine_nums.specs.Profile.{parts_of}
use Rattle.frame_packets.proofs.Begun.{begun_keeps, begun_kept, none_begun, one_more}
use Rattle.frame_packets.proofs.frame.FramePackets.empty.Goals as goal

pub loop-index-init : goal.loop-index-init
loop-index-init c =
    none_begun c.args.geometry.now c.args.steps.now c.new-parts.result.items
    c.new-parts.ensures.items

pub loop-index-preserved : goal.loop-index-preserved
loop-index-preserved c =
    one_more c.args.geometry.now c.args.steps.now c.loop-index.index c.loop-index.parts.items
    c.push.new.self.items c.in_ok-empty_part.field-0 c.loop-index.invariant
    c.in_ok-empty_part.ensures c.in_ok-push.ensures.items

all_parts : (c : goal.After-copy_of) → c.loop-index.index ≡ parts_of c.args.geometry.now.profile
all_parts c =
    let less = c.loop-index.auto.index-end in
    let more = c.loop-index-test.false in
    let is = c.parts-index-end.ensures in
    omega (arith, less, more, is)

pub invariant_of-result : goal.invariant_of-result
invariant_of-result c =
    begun_kept c.args.geometry.now c.args.steps.now c.copy_of.result c.loop-index.index
    c.loop-index.parts.items c.requires.levels c.requires.usable c.copy_of.ensures (all_parts c)
    c.loop-index.invariant

pub returns : goal.returns
returns c =
    begun_keeps c.args.geometry.now c.args.steps.now c.copy_of.result c.loop-index.index
    c.loop-index.parts.items c.requires.levels c.requires.usable c.copy_of.ensures (all_parts c)
    c.loop-index.invariant
