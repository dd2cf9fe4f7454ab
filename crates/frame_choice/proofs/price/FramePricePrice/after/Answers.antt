use Rattle.std.proofs.Common.{set, sym, subst}
use Rattle.packet_headers.specs.Written.{CanWriteEntry}
use Rattle.dz_quantiser.specs.Bands.{band_planes}
use Rattle.dz_quantiser.specs.declared.steps.StepSizes.{StepSizes}
use Rattle.profile_reader.specs.Chosen.{chosen}
use Rattle.frame_choice.specs.PriceLaws.{planes_in}
use Rattle.frame_choice.proofs.Taking.{numbered, changed, plain}
use Rattle.frame_choice.proofs.price.FramePricePrice.after.Goals as goal

pub entry_after-entry-requires-clause-id : goal.entry_after-entry-requires-clause-id
entry_after-entry-requires-clause-id c =
    numbered c.args.self.now.frame c.args.step.now.block c.block_id-id.result c.requires.can.block
    c.block_id-id.ensures.value

pub held_with-requires-clause-entry : goal.held_with-requires-clause-entry
held_with-requires-clause-entry c =
    let id = c.block_id-id.result in
    subst (λ (s : StepSizes). CanWriteEntry (band_planes s id.res id.orient)
    c.entry_after-entry.result) (sym c.args.self.now.kept.steps_are)
    c.entry_after-entry.ensures.can_be_written

pub held_with-requires-clause-plain : goal.held_with-requires-clause-plain
held_with-requires-clause-plain c =
    plain c.args.self.now.frame c.args.step.now.block c.block_id-id.result c.requires.can.block
    c.block_id-id.ensures.value c.args.step.now.to c.entry_after-entry.result
    c.entry_after-entry.ensures.value

pub returns : goal.returns
returns c =
    let f = c.args.self.now.frame in
    let counts = c.args.self.now.counts.items in
    let n = c.args.step.now.block in
    c.held_with.ensures f.geometry.now f.steps.now
    (chosen f.geometry.now f.steps.now (planes_in f) counts)
    (chosen f.geometry.now f.steps.now (planes_in f) (set counts n c.args.step.now.to))
    c.args.self.now.kept
    (changed f n c.block_id-id.result c.requires.can.block c.block_id-id.ensures.value counts
    c.args.step.now.to c.entry_after-entry.result c.args.self.now.most.long
    c.entry_after-entry.ensures.value)
