use Rattle.std.proofs.Common.{rules, ◌<◌, ◌≤◌, List, length, slice_index_or, subst}
use Rattle.dz_quantiser.specs.Bands.{planes_of}
use Rattle.dz_quantiser.specs.declared.band.BandStep.{BandStep}
use Rattle.codestream_reader.proofs.FewPlanes.{few_more, all_few}
use Rattle.codestream_reader.proofs.planes.many_planes.Goals as goal

abbrev no_step : BandStep
no_step = record { exponent = 0; mantissa = 0 }

pub loop-band-preserved : goal.loop-band-preserved
loop-band-preserved c =
    let guard = c.args.steps.now.guard in
    let bands = c.args.steps.now.bands.items in
    let band = c.loop-band.band in
    let below : band < length bands = search rules in
    let here : planes_of guard (slice_index_or bands band no_step).exponent ≤ 31 =
    subst (λ (l : List BandStep). planes_of guard (slice_index_or l band no_step).exponent ≤ 31)
    c.deref.ensures.0 (subst (λ n. n ≤ 31) c.planes.ensures c.if-planes-gt31.false) in
    few_more guard bands band no_step below c.loop-band.invariant here

pub returns-clause-none : goal.returns-clause-none
returns-clause-none c is =
    let whole : length c.args.steps.now.bands.items ≤ c.loop-band.band = search rules in
    all_few c.args.steps.now.guard c.args.steps.now.bands.items c.loop-band.band whole
    c.loop-band.invariant
