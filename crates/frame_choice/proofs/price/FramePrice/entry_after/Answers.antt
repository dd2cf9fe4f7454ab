use Rattle.std.proofs.Common.{◌≡◌, ap, get_or, arith}
use Rattle.dz_quantiser.specs.Bands.{band_planes}
use Rattle.profile_reader.specs.Chosen.{block_coefs, block_shape}
use Rattle.frame_choice.specs.PriceLaws.{planes_in}
use Rattle.frame_choice.specs.declared.present.PresentBlock.{PresentBlock}
use Rattle.frame_choice.proofs.HullLemmas.{within_band}
use Rattle.frame_choice.proofs.StepEntry.{entry_is, entry_can}
use Rattle.frame_choice.proofs.Taking.{no_block, row_inside, row_is, grown, grown_short}
use Rattle.frame_choice.proofs.Taking.{planes_here, passes_within}
use Rattle.frame_choice.proofs.price.FramePrice.entry_after.Goals as goal

pub index-present-requires : goal.index-present-requires
index-present-requires c =
    let s = c.args.self.now in
    let f = s.frame in
    let below = row_inside f.geometry.now f.steps.now (planes_in f) s.counts.items s.present.items
    s.present_are c.args.step.now c.args.id c.requires.id c.requires.can c.requires.known in
    omega (arith, below)

pub overflow_sub-result : goal.overflow_sub-result
overflow_sub-result c =
    let s = c.args.self.now in
    let f = s.frame in
    let g = f.geometry.now in
    let planes = planes_in f in
    let id = c.args.id in
    let step = c.args.step.now in
    let row = c.index-present.result.now in
    let same : row ≡ get_or s.present.items step.block no_block =
    row_is s.present.items step.block row
    (row_inside g f.steps.now planes s.counts.items s.present.items
    s.present_are step id c.requires.id c.requires.can c.requires.known) c.index-present.ensures in
    let of_row = ap (λ (p : PresentBlock). p.planes) same in
    let here = planes_here g f.steps.now planes s.counts.items s.present.items
    s.present_are step id c.requires.id c.requires.can c.requires.known in
    let band = c.band-band.ensures.planes in
    let below = within_band f id c.requires.exists in
    omega (arith, here, of_row, below, band)

pub overflow_add-result : goal.overflow_add-result
overflow_add-result c =
    let s = c.args.self.now in
    let f = s.frame in
    let g = f.geometry.now in
    let planes = planes_in f in
    let id = c.args.id in
    let step = c.args.step.now in
    let row = c.index-present.result.now in
    let same : row ≡ get_or s.present.items step.block no_block =
    row_is s.present.items step.block row
    (row_inside g f.steps.now planes s.counts.items s.present.items
    s.present_are step id c.requires.id c.requires.can c.requires.known) c.index-present.ensures in
    let bytes = ap (λ (p : PresentBlock). p.bytes) same in
    let short = grown_short g f.steps.now planes s.counts.items s.present.items
    s.present_are step id c.requires.id c.requires.can c.requires.known in
    omega (arith, short, bytes)

pub returns-clause-value : goal.returns-clause-value
returns-clause-value c =
    let s = c.args.self.now in
    let f = s.frame in
    let g = f.geometry.now in
    let planes = planes_in f in
    let id = c.args.id in
    let step = c.args.step.now in
    let row = c.index-present.result.now in
    let same : row ≡ get_or s.present.items step.block no_block =
    row_is s.present.items step.block row
    (row_inside g f.steps.now planes s.counts.items s.present.items
    s.present_are step id c.requires.id c.requires.can c.requires.known) c.index-present.ensures in
    let of_row = ap (λ (p : PresentBlock). p.planes) same in
    let here = planes_here g f.steps.now planes s.counts.items s.present.items
    s.present_are step id c.requires.id c.requires.can c.requires.known in
    let band = c.band-band.ensures.planes in
    let bytes = ap (λ (p : PresentBlock). p.bytes) same in
    let sum = grown g f.steps.now planes s.counts.items s.present.items
    s.present_are step id c.requires.id c.requires.can c.requires.known in
    let longer = step.longer in
    entry_is (band_planes f.steps.now id.res id.orient) (block_coefs g planes id)
    (block_shape g planes id) step.to _ _ (omega (arith, here, of_row, band))
    (omega (arith, sum, bytes)) (omega (arith, longer))

pub returns-clause-can_be_written : goal.returns-clause-can_be_written
returns-clause-can_be_written c =
    let s = c.args.self.now in
    let f = s.frame in
    let g = f.geometry.now in
    let planes = planes_in f in
    let id = c.args.id in
    let step = c.args.step.now in
    let row = c.index-present.result.now in
    let same : row ≡ get_or s.present.items step.block no_block =
    row_is s.present.items step.block row
    (row_inside g f.steps.now planes s.counts.items s.present.items
    s.present_are step id c.requires.id c.requires.can c.requires.known) c.index-present.ensures in
    let of_row = ap (λ (p : PresentBlock). p.planes) same in
    let here = planes_here g f.steps.now planes s.counts.items s.present.items
    s.present_are step id c.requires.id c.requires.can c.requires.known in
    let band = c.band-band.ensures.planes in
    let bytes = ap (λ (p : PresentBlock). p.bytes) same in
    let sum = grown g f.steps.now planes s.counts.items s.present.items
    s.present_are step id c.requires.id c.requires.can c.requires.known in
    let short = grown_short g f.steps.now planes s.counts.items s.present.items
    s.present_are step id c.requires.id c.requires.can c.requires.known in
    let longer = step.longer in
    entry_can (band_planes f.steps.now id.res id.orient) (block_coefs g planes id)
    (block_shape g planes id) step.to _ _ (omega (arith, here, of_row, band))
    (omega (arith, sum, bytes)) (omega (arith, longer)) (omega (arith, short, bytes))
    (within_band f id c.requires.exists)
    (passes_within g f.steps.now planes s.counts.items s.present.items
    s.present_are step id c.requires.id c.requires.can c.requires.known)
