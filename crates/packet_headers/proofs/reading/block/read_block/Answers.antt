use Rattle.std.proofs.Common.{◌%◌, ◌/◌, inr, arith, ap}
use Rattle.std.specs.Prelude.{nat_lt}
use Rattle.tag_trees.specs.TagTree.{leaf_node}
use Rattle.bit_stuffing.specs.Stuffing.{fault_of}
use Rattle.packet_headers.proofs.ReadIncluded.{told_at}
use Rattle.packet_headers.proofs.ReadBlocks.{none_is, upto_less, reads_no_inclusion, found_out}
use Rattle.packet_headers.proofs.ReadBlocks.{reads_out, found_in, reads_in}
use Rattle.packet_headers.proofs.reading.block.read_block.Goals as goal

pub returns-in_err-read_upto-clause-reads : goal.returns-in_err-read_upto-clause-reads
returns-in_err-read_upto-clause-reads c before trees ending rest at s z fits a b t e = absurd
    (reads_no_inclusion c.args.shape c.args.inclusion.now c.requires.inclusion before c.args.place
    at c.args.bits.now c.in_err-read_upto.ensures.reads s trees ending rest fits a
    (told_at _ _ _ _ _ at t) e)

pub returns-then-not-branch-clause-found : goal.returns-then-not-branch-clause-found
returns-then-not-branch-clause-found c before at s z = inr
    (found_out c.args.shape c.args.inclusion.now c.requires.inclusion before c.args.place at
    c.read_upto.new.self c.args.bits.now c.read_upto.new.bits _
    c.in_ok-read_upto.ensures.stands c.in_ok-read_upto.ensures.reads c.in_ok-read_upto.ensures.read
    s _ (none_is _ c.default.ensures) c.if-not-branch.true c.args.zero_planes.now z)

pub returns-then-not-branch-clause-reads : goal.returns-then-not-branch-clause-reads
returns-then-not-branch-clause-reads c before trees ending rest at s z fits a b t e =
    reads_out c.args.shape c.args.inclusion.now c.requires.inclusion before c.args.place at
    c.read_upto.new.self c.args.bits.now c.read_upto.new.bits _
    c.in_ok-read_upto.ensures.stands c.in_ok-read_upto.ensures.reads c.in_ok-read_upto.ensures.read
    s _ (none_is _ c.default.ensures) c.if-not-branch.true
    c.args.zero_planes.now trees ending rest fits a b (told_at _ _ _ _ _ at t) e

pub read_included-requires-clause-few : goal.read_included-requires-clause-few
read_included-requires-clause-few c =
    let l = upto_less c.args.inclusion.now c.read_upto.new.self c.args.bits.now c.read_upto.new.bits
    _ _ (λ v. nat_lt (v (leaf_node (c.args.place % c.args.shape.width)
    (c.args.place / c.args.shape.width))) 1) _ _ c.in_ok-read_upto.ensures.width
    c.in_ok-read_upto.ensures.height c.requires.known_inclusion.1
    (c.in_ok-read_upto.ensures.stands _ c.requires.known_inclusion.1)
    c.in_ok-read_upto.ensures.read in
    omega (arith, c.requires.few)

pub returns-clause-found : goal.returns-clause-found
returns-clause-found c before at s z =
    found_in c.args.shape c.args.inclusion.now c.requires.inclusion before c.args.place at
    c.read_upto.new.self c.args.bits.now c.read_upto.new.bits _
    c.in_ok-read_upto.ensures.stands c.in_ok-read_upto.ensures.reads c.in_ok-read_upto.ensures.read
    s c.if-not-branch.false
    c.args.zero_planes.now c.read_included.new.tree c.read_included.new.bits _ _ _
    (ap fault_of c.in_ok-read_upto.ensures.same) (c.read_included.ensures.found before at z)

pub returns-clause-reads : goal.returns-clause-reads
returns-clause-reads c before trees ending rest at s z fits a b t e =
    reads_in c.args.shape c.args.inclusion.now c.requires.inclusion before c.args.place at
    c.read_upto.new.self c.args.bits.now c.read_upto.new.bits _
    c.in_ok-read_upto.ensures.stands c.in_ok-read_upto.ensures.reads c.in_ok-read_upto.ensures.read
    s c.if-not-branch.false
    c.args.zero_planes.now c.read_included.new.tree c.read_included.new.bits _ trees ending rest
    (λ i inside ahead. c.read_included.ensures.reads before trees ending rest at z fits i b inside t
    ahead) fits a (told_at _ _ _ _ _ at t) e
