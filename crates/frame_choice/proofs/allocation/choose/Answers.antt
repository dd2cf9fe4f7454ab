use Rattle.std.proofs.Common.{ℕ, ◌≡◌, ◌<◌, ◌∙◌, Err, List, ap, get_or, length, sym, subst, arith}
use Rattle.std.proofs.lemmas.List.{length-map}
use Rattle.band_geometry.specs.Numbering.{all_blocks}
use Rattle.band_geometry.specs.declared.places.BlockId.{BlockId}
use Rattle.budget_duals.specs.Held.{Breaks}
use Rattle.coded_blocks.specs.Codes.{AreChosenCodes}
use Rattle.demand_blocks.specs.declared.blocks.DemandBlocks.{DemandBlocks}
use Rattle.frame_packets.specs.Keeps.{Keeps, frame_held}
use Rattle.profile_reader.specs.Chosen.{chosen}
use Rattle.profile_reader.specs.Packets.{BlockBytes}
use Rattle.frame_choice.specs.Blocks.{most_passes}
use Rattle.frame_choice.specs.Choice.{block_passes, held_at}
use Rattle.frame_choice.specs.Demanded.{AreCodedUpTo}
use Rattle.frame_choice.specs.PriceLaws.{planes_in}
use Rattle.frame_choice.specs.declared.quantised.QuantisedFrame.{QuantisedFrame}
use Rattle.frame_choice.proofs.Demanding.{hulls_of}
use Rattle.frame_choice.proofs.NoPasses.{none_chosen}
use Rattle.frame_choice.proofs.Walked.{all_known, blocks_after, can_begin, chosen_by, coded_by}
use Rattle.frame_choice.proofs.Walked.{kept_frame, most_long, of_same}
use Rattle.frame_choice.proofs.allocation.choose.Goals as goal

pub allocate_offers-requires-clause-blocks : goal.allocate_offers-requires-clause-blocks
allocate_offers-requires-clause-blocks c =
    c.in_ok-offers.ensures.blocks ∙ c.in_ok-blocks.ensures.long
    ∙ sym (most_long c.args.frame c.in_ok-price.price.frame c.in_ok-price.ensures.frame)

pub allocate_offers-requires-clause-done : goal.allocate_offers-requires-clause-done
allocate_offers-requires-clause-done c = λ b below.
    c.in_ok-offers.ensures.done b (subst (λ (n : ℕ). b < n) c.in_ok-offers.ensures.blocks below)

pub allocate_offers-requires-clause-ready : goal.allocate_offers-requires-clause-ready
allocate_offers-requires-clause-ready c =
    let f = c.args.frame in
    can_begin f c.in_ok-price.price.frame c.in_ok-price.ensures.frame _
    c.in_ok-price.price.counts.items c.args.limits.now c.undecoded-empty.result
    (hulls_of f.geometry.now f.steps.now (planes_in f) c.in_ok-blocks.blocks.blocks.items _
    c.in_ok-blocks.ensures c.in_ok-offers.ensures.left)
    c.in_ok-price.ensures.counts c.undecoded-empty.ensures c.requires.low c.requires.inner

pub allocate_offers-requires-clause-known : goal.allocate_offers-requires-clause-known
allocate_offers-requires-clause-known c = λ b below.
    let f = c.args.frame in
    all_known f c.in_ok-price.price.frame c.in_ok-price.ensures.frame _
    (hulls_of f.geometry.now f.steps.now (planes_in f) c.in_ok-blocks.blocks.blocks.items _
    c.in_ok-blocks.ensures c.in_ok-offers.ensures.left) b
    (subst (λ (n : ℕ). b < n)
    (c.in_ok-offers.ensures.blocks ∙ c.in_ok-blocks.ensures.long) below)

pub codes_of-requires-clause-blocks : goal.codes_of-requires-clause-blocks
codes_of-requires-clause-blocks c =
    let f = c.args.frame in
    blocks_after f.geometry.now (planes_in f) c.in_ok-blocks.blocks c.in_ok-offers.offers.passes
    c.allocate_offers.new.offers.passes c.into_passes-coded.result c.in_ok-offers.ensures.passes
    c.into_passes-coded.ensures.same c.in-Ok.ensures.stays c.in_ok-blocks.ensures

pub codes_of-requires-clause-long : goal.codes_of-requires-clause-long
codes_of-requires-clause-long c =
    let f = c.args.frame in
    let q = c.in_ok-price.price.frame in
    let new = c.allocate_offers.new.price in
    let long = of_same (λ g s p. length new.counts.items ≡ length (most_passes g p)) f new.frame
    (kept_frame f q c.in_ok-price.ensures.frame new.frame c.in-Ok.ensures.keeps) new.most.long in
    ap length c.as_slice.ensures.value ∙ long
    ∙ length-map (all_blocks f.geometry.now) (block_passes f.geometry.now (planes_in f))

pub codes_of-requires-clause-coded : goal.codes_of-requires-clause-coded
codes_of-requires-clause-coded c =
    let f = c.args.frame in
    let g = f.geometry.now in
    let q = c.in_ok-price.price.frame in
    let given = c.into_passes-coded.result.blocks.items in
    let after = blocks_after g (planes_in f) c.in_ok-blocks.blocks c.in_ok-offers.offers.passes
    c.allocate_offers.new.offers.passes c.into_passes-coded.result c.in_ok-offers.ensures.passes
    c.into_passes-coded.ensures.same c.in-Ok.ensures.stays c.in_ok-blocks.ensures in
    let same = ap (λ (p : DemandBlocks). length p.blocks.items) c.into_passes-coded.ensures.same in
    subst (λ (counts : List ℕ). AreCodedUpTo g (length (all_blocks g)) (λ n. get_or counts n 0)
    given) (sym c.as_slice.ensures.value)
    (coded_by f q c.in_ok-price.ensures.frame _ _ _ _ c.undecoded-empty.result c.args.limits.now
    c.allocate_offers.new.price.counts.items c.in-Ok.certificate
    (hulls_of g f.steps.now (planes_in f) c.in_ok-blocks.blocks.blocks.items _
    c.in_ok-blocks.ensures c.in_ok-offers.ensures.left)
    (c.in_ok-offers.ensures.blocks ∙ c.in_ok-blocks.ensures.long) c.undecoded-empty.ensures
    c.in-Ok.ensures.certified given
    (λ n below. c.into_passes-coded.ensures.coded n
    (let long = after.long in omega (arith, below, long, same))))

pub returns-in_ok-codes-in-Ok-clause-chosen : goal.returns-in_ok-codes-in-Ok-clause-chosen
returns-in_ok-codes-in-Ok-clause-chosen c =
    let f = c.args.frame in
    let q = c.in_ok-price.price.frame in
    let new = c.allocate_offers.new.price in
    chosen_by f q c.in_ok-price.ensures.frame _ _ _ _ c.undecoded-empty.result c.args.limits.now
    new.counts.items c.in-Ok.certificate
    (hulls_of f.geometry.now f.steps.now (planes_in f) c.in_ok-blocks.blocks.blocks.items _
    c.in_ok-blocks.ensures c.in_ok-offers.ensures.left)
    (c.in_ok-offers.ensures.blocks ∙ c.in_ok-blocks.ensures.long) c.undecoded-empty.ensures
    c.in-Ok.ensures.certified new.frame c.in-Ok.ensures.keeps new.most c.requires.inner
    c.in-Ok.ensures.within

pub returns-in_ok-codes-in-Ok-clause-packets : goal.returns-in_ok-codes-in-Ok-clause-packets
returns-in_ok-codes-in-Ok-clause-packets c =
    let f = c.args.frame in
    let new = c.allocate_offers.new.price in
    of_same (λ g s p. Keeps g s (chosen g s p new.counts.items) new.packets) f new.frame
    (kept_frame f c.in_ok-price.price.frame c.in_ok-price.ensures.frame new.frame
    c.in-Ok.ensures.keeps) new.kept

pub returns-in_ok-codes-in-Ok-clause-codes : goal.returns-in_ok-codes-in-Ok-clause-codes
returns-in_ok-codes-in-Ok-clause-codes c =
    let f = c.args.frame in
    subst (λ (counts : List ℕ). AreChosenCodes f.geometry.now f.steps.now (planes_in f) counts
    c.in_ok-codes-in-Ok.codes) c.as_slice.ensures.value c.in_ok-codes-in-Ok.ensures

pub unreachable-requires : goal.unreachable-requires
unreachable-requires c =
    let f = c.args.frame in
    let g = f.geometry.now in
    let limits = c.args.limits.now in
    let here = c.in-Err-LimitTooSmall in
    let budget = here.field-0-0 in
    let price = c.in_ok-price.price in
    let small = (here.ensures.too_small budget here.field-0-1).0 (ap Err here.field-0-is) in
    let held = λ (h : QuantisedFrame) (counts : List ℕ).
    held_at h.geometry.now h.steps.now (planes_in h) counts in
    c.requires.within budget
    (subst (λ (given : BlockId → BlockBytes). Breaks limits (frame_held g f.steps.now given) budget)
    (none_chosen g f.steps.now (planes_in f) (length (all_blocks g)))
    (subst (λ (counts : List ℕ). Breaks limits (held f counts) budget)
    c.in_ok-price.ensures.counts
    (subst (λ (h : QuantisedFrame). Breaks limits (held h price.counts.items) budget)
    c.in_ok-price.ensures.frame small.0.broken)))
