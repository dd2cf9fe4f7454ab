-- More passes of one block are known, and the others are as they were.
use Rattle.std.proofs.Common.{ℕ, ◌+◌, ◌≡◌, List, Option, Some, length, slice_get, slice_set}
use Rattle.std.proofs.Common.{refl, ap, ◌∙◌, arith}
use Rattle.std.proofs.lemmas.Option.{slice_get_read}
use Rattle.demand_blocks.specs.Blocks.{block_coefs, block_shape, identity_in, known_in, whole_in}
use Rattle.demand_blocks.specs.PointLaws.{upto_long}
use Rattle.demand_blocks.specs.declared.block.DemandBlock.{DemandBlock}
use Rattle.demand_blocks.proofs.ByNumber.{set_here, set_elsewhere, set_same}
use Rattle.demand_blocks.proofs.blocks.DemandBlocksPasses.code_more.Goals as goal

known_long : (o : Option DemandBlock) (b : DemandBlock) →
    ◌≡◌ {A = Option DemandBlock} o (Some b) →
    length (known_in o) ≡ length b.passes.items + 1
known_long o b is =
    ap (λ (x : Option DemandBlock). length (known_in x)) is
    ∙ upto_long (block_coefs b) (block_shape b) (length b.passes.items)

pub returns-clause-grows : goal.returns-clause-grows
returns-clause-grows c =
    let items : List DemandBlock = c.args.self.now.blocks.items in
    let n : ℕ = c.args.block in
    let old : DemandBlock = c.index_mut-asked.result.now in
    let new : DemandBlock = c.code_more.new.self in
    let was = known_long (slice_get items n) old
    (slice_get_read items (length items) n old refl c.requires.block c.index_mut-asked.ensures.value) in
    let is = known_long (slice_get (slice_set items n new) n) new
    (set_here items n new c.requires.block) in
    let more = c.code_more.ensures.more in
    omega (arith, was, is, more)

pub returns-clause-others : goal.returns-clause-others
returns-clause-others c = λ k other.
    ap known_in (set_elsewhere c.args.self.now.blocks.items c.args.block k c.code_more.new.self
    other)

pub returns-clause-whole_others : goal.returns-clause-whole_others
returns-clause-whole_others c = λ k other.
    ap whole_in (set_elsewhere c.args.self.now.blocks.items c.args.block k c.code_more.new.self
    other)

pub returns-clause-stays : goal.returns-clause-stays
returns-clause-stays c = λ k.
    let items : List DemandBlock = c.args.self.now.blocks.items in
    let old : DemandBlock = c.index_mut-asked.result.now in
    let new : DemandBlock = c.code_more.new.self in
    let view = c.code_more.ensures.view in
    let orient = c.code_more.ensures.orient in
    set_same identity_in items c.args.block k old new
    (slice_get_read items (length items) c.args.block old refl c.requires.block
    c.index_mut-asked.ensures.value)
    (λ i. Some (view i, orient i))
