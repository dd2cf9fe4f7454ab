use Rattle.std.proofs.Common.{arith}
use Rattle.pnm_frames.specs.View.{picture_of}
use Rattle.frame_choice.proofs.FewBlocks.{few_blocks}
use Rattle.frame_encoder.proofs.Encoding.{encodes_so, own_profile}
use Rattle.frame_encoder.proofs.frame.encode_within.Goals as goal

pub choose_passes-requires-clause-geometry : goal.choose_passes-requires-clause-geometry
choose_passes-requires-clause-geometry c = own_profile c.args.order.now.profile
    (picture_of c.args.frame.now) c.args.geometry.now c.requires.geometry

pub returns-clause-encodes : goal.returns-clause-encodes
returns-clause-encodes c =
    encodes_so c.chosen_reads.ensures.reads c.chosen_reads.ensures.decodes_to c.args.order.now
    (picture_of c.args.frame.now) c.args.geometry.now c.in_ok-chosen.chosen.passes
    c.in_ok-bytes.bytes.items c.held-held.result c.in_ok-chosen.chosen.empty
    c.in_ok-chosen.chosen.certificate c.requires.geometry c.requires.allowed
    c.in_ok-chosen.ensures.geometry c.in_ok-chosen.ensures.frame c.in_ok-chosen.ensures.empty
    c.in_ok-chosen.ensures.chosen c.in_ok-bytes.ensures c.held-held.ensures

pub returns-clause-few : goal.returns-clause-few
returns-clause-few c =
    let passes = c.in_ok-chosen.chosen.passes in
    let few = few_blocks passes.geometry passes.levels in
    let count = passes.choice_count in
    omega (arith, few, count)
