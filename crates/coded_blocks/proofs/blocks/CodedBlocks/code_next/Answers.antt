use Rattle.std.proofs.Common.{◌≡◌, ◌-◌, refl, arith}
use Rattle.dz_quantiser.specs.Bands.{band_planes}
use Rattle.profile_reader.specs.Chosen.{Planes, block_coefs, block_shape}
use Rattle.coded_blocks.proofs.Joining.{grows, kept_within, joins, next, one_more}
use Rattle.coded_blocks.proofs.Planes.{few_planes}
use Rattle.coded_blocks.proofs.blocks.CodedBlocks.code_next.Goals as goal

pub overflow_sub-band : goal.overflow_sub-band
overflow_sub-band c =
    let planes : Planes = λ _. c.args.plane.now.cells.items in
    let few = few_planes c.args.geometry.now c.args.steps.now planes c.args.id c.args.plane.now
    c.requires.exists c.requires.plane refl in
    omega (arith, few, c.code_block-code.ensures.planes planes refl, c.band-band.ensures.planes)

pub join-requires-clause-grow : goal.join-requires-clause-grow
join-requires-clause-grow c =
    let planes : Planes = λ _. c.args.plane.now.cells.items in
    grows _ _ _ _ _ (c.code_block-code.ensures.codes planes refl)

pub join-requires-clause-inside : goal.join-requires-clause-inside
join-requires-clause-inside c =
    let planes : Planes = λ _. c.args.plane.now.cells.items in
    kept_within _ _ _ _ _ (c.code_block-code.ensures.codes planes refl)
    (omega (arith, c.requires.room, c.code_block-code.auto.buffer))

pub returns-clause-count : goal.returns-clause-count
returns-clause-count c =
    one_more c.args.self.now c.join.new.self c.code_block-code.result _ c.code_block-code.new.buffer
    c.in_ok-join.ensures

pub returns-clause-coded : goal.returns-clause-coded
returns-clause-coded c = λ planes cells before.
    let geometry = c.args.geometry.now in
    let code = c.code_block-code.result in
    let few = few_planes geometry c.args.steps.now planes c.args.id c.args.plane.now
    c.requires.exists c.requires.plane cells in
    let zero_planes = c.band-band.result.planes - code.planes in
    let zeros : zero_planes ≡ band_planes c.args.steps.now c.args.id.res c.args.id.orient
    - (block_shape geometry planes c.args.id).planes =
    omega (arith, c.band-band.ensures.planes, c.code_block-code.ensures.planes planes cells) in
    let joined = c.in_ok-join.ensures in
    let coded = joins (block_coefs geometry planes c.args.id)
    (block_shape geometry planes c.args.id)
    (band_planes c.args.steps.now c.args.id.res c.args.id.orient) zero_planes c.args.self.now
    c.join.new.self code c.code_block-code.new.buffer joined
    (c.code_block-code.ensures.codes planes cells) few zeros
    (c.code_block-code.ensures.start planes cells) in
    next geometry c.args.steps.now planes c.args.id code zero_planes c.code_block-code.new.buffer
    c.args.self.now c.join.new.self c.requires.exists joined coded before
