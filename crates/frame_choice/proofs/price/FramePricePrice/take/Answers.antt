use Rattle.std.proofs.Common.{◌≡◌, ◌∙◌, ap, arith, get_or, set, subst, sym}
use Rattle.std.proofs.lemmas.List.{length-map}
use Rattle.band_geometry.specs.Numbering.{all_blocks}
use Rattle.packet_headers.specs.Written.{CanWriteEntry}
use Rattle.dz_quantiser.specs.Bands.{band_planes}
use Rattle.dz_quantiser.specs.declared.steps.StepSizes.{StepSizes}
use Rattle.profile_reader.specs.Chosen.{block_coefs, block_shape, chosen}
use Rattle.frame_choice.specs.Choice.{block_bytes, block_passes}
use Rattle.frame_choice.specs.PriceLaws.{planes_in}
use Rattle.frame_choice.specs.declared.present.PresentBlock.{PresentBlock}
use Rattle.frame_choice.proofs.HullLemmas.{entry_bytes}
use Rattle.frame_choice.proofs.Taking.{inside, numbered, changed, plain, counts_after}
use Rattle.frame_choice.proofs.Taking.{no_block, present_after, row_is}
use Rattle.frame_choice.proofs.price.FramePricePrice.take.Goals as goal

pub entry_after-entry-requires-clause-id : goal.entry_after-entry-requires-clause-id
entry_after-entry-requires-clause-id c =
    numbered c.args.self.now.frame c.args.step.now.block c.block_id-id.result c.requires.can.block
    c.block_id-id.ensures.value

pub set-requires-clause-entry : goal.set-requires-clause-entry
set-requires-clause-entry c =
    let id = c.block_id-id.result in
    subst (λ (s : StepSizes). CanWriteEntry (band_planes s id.res id.orient)
    c.entry_after-entry.result) (sym c.args.self.now.kept.steps_are)
    c.entry_after-entry.ensures.can_be_written

pub set-requires-clause-plain : goal.set-requires-clause-plain
set-requires-clause-plain c =
    plain c.args.self.now.frame c.args.step.now.block c.block_id-id.result c.requires.can.block
    c.block_id-id.ensures.value c.args.step.now.to c.entry_after-entry.result
    c.entry_after-entry.ensures.value

pub index-present-requires : goal.index-present-requires
index-present-requires c =
    let s = c.args.self.now in
    let within = inside s.frame c.args.step.now.block c.block_id-id.result c.requires.can.block
    c.block_id-id.ensures.value in
    let long = s.present_are.long in
    omega (arith, within, long)

pub invariant_of-self : goal.invariant_of-self
invariant_of-self c =
    let f = c.args.self.now.frame in
    let g = f.geometry.now in
    let steps = f.steps.now in
    let planes = planes_in f in
    let counts = c.args.self.now.counts.items in
    let present = c.args.self.now.present.items in
    let n = c.args.step.now.block in
    let to = c.args.step.now.to in
    let id = c.block_id-id.result in
    let below = c.requires.can.block in
    let found = c.block_id-id.ensures.value in
    let entry = c.entry_after-entry in
    let within = inside f n id below found in
    let are = c.args.self.now.present_are in
    let long = are.long in
    let row = c.index-present.result.now in
    let same : row ≡ get_or present n no_block =
    row_is present n row (omega (arith, within, long)) c.index-present.ensures in
    record {
      most = counts_after f n id below found counts to c.args.self.now.most c.requires.can.to;
      present_are = present_after g steps planes counts present n to
          (record { bytes = entry.result.len; planes = row.planes }) within
          (c.args.self.now.most.long ∙ length-map (all_blocks g) (block_passes g planes)) are
          (record {
            bytes = subst (λ b. entry.result.len ≡ block_bytes g steps planes b to)
                (sym (numbered f n id below found))
                (entry_bytes (band_planes steps id.res id.orient) (block_coefs g planes id)
                (block_shape g planes id) to entry.result entry.ensures.value);
            planes_are = ap (λ (p : PresentBlock). p.planes) same ∙ (are.each n within).planes_are;
          });
      kept = c.set.ensures.keeps g steps (chosen g steps planes counts)
          (chosen g steps planes (set counts n to)) c.args.self.now.kept
          (changed f n id below found counts to entry.result c.args.self.now.most.long
          entry.ensures.value);
    }
