use Rattle.std.proofs.Common.{refl, inr, arith}
use Rattle.packet_headers.proofs.ReadZeroPlanes.{asked_none, no_fault, asked_next, found_reads}
use Rattle.packet_headers.proofs.ReadZeroPlanes.{found_here, all_found_at, not_end}
use Rattle.packet_headers.proofs.reading.zero_planes.read_zero_planes.Goals as goal

pub loop-zero_planes-init : goal.loop-zero_planes-init
loop-zero_planes-init c = asked_none _ _ _ _ _

pub returns-in_err-read_upto-clause-reads : goal.returns-in_err-read_upto-clause-reads
returns-in_err-read_upto-clause-reads c v earlier rest n s a e = absurd
    (no_fault c.args.tree.now c.loop-zero_planes.tree c.read_upto.new.self c.args.bits.now
    c.loop-zero_planes.bits c.read_upto.new.bits c.args.x c.args.y c.args.planes
    c.loop-zero_planes.zero_planes c.loop-zero_planes.invariant c.requires.column c.requires.row
    c.in_err-read_upto.ensures.reads (omega arith) v earlier rest n s a e)

pub returns-then-branch-clause-found : goal.returns-then-branch-clause-found
returns-then-branch-clause-found c earlier s = inr
    (found_here c.args.tree.now c.loop-zero_planes.tree c.read_upto.new.self c.args.bits.now
    c.loop-zero_planes.bits c.read_upto.new.bits c.args.x c.args.y c.args.planes
    c.loop-zero_planes.zero_planes c.loop-zero_planes.invariant c.requires.column c.requires.row
    _ (omega arith)
    c.in_ok-read_upto.ensures.width c.in_ok-read_upto.ensures.height c.in_ok-read_upto.ensures.same
    c.in_ok-read_upto.ensures.stands c.in_ok-read_upto.ensures.reads c.in_ok-read_upto.ensures.read
    c.if-branch.true earlier s)

pub returns-then-branch-clause-reads : goal.returns-then-branch-clause-reads
returns-then-branch-clause-reads c v earlier rest n s a e = (
  found_reads c.args.tree.now c.loop-zero_planes.tree c.read_upto.new.self c.args.bits.now
      c.loop-zero_planes.bits c.read_upto.new.bits c.args.x c.args.y c.args.planes
      c.loop-zero_planes.zero_planes c.loop-zero_planes.invariant c.requires.column c.requires.row _
      (omega arith)
      c.in_ok-read_upto.ensures.width c.in_ok-read_upto.ensures.height
      c.in_ok-read_upto.ensures.same
      c.in_ok-read_upto.ensures.stands c.in_ok-read_upto.ensures.reads
      c.in_ok-read_upto.ensures.read v earlier rest n s a e,
  λ k. cc,
)

pub loop-zero_planes-preserved : goal.loop-zero_planes-preserved
loop-zero_planes-preserved c =
    asked_next c.args.tree.now c.loop-zero_planes.tree c.read_upto.new.self c.args.bits.now
    c.loop-zero_planes.bits c.read_upto.new.bits c.args.x c.args.y c.args.planes
    c.loop-zero_planes.zero_planes c.loop-zero_planes.invariant c.requires.column c.requires.row
    _ (omega arith)
    c.in_ok-read_upto.ensures.width c.in_ok-read_upto.ensures.height c.in_ok-read_upto.ensures.same
    c.in_ok-read_upto.ensures.stands c.in_ok-read_upto.ensures.reads c.in_ok-read_upto.ensures.read
    c.if-branch.false

pub returns-clause-found : goal.returns-clause-found
returns-clause-found c earlier s = inr
    (all_found_at _ _ _ _ _ _ _ _ _ c.loop-zero_planes.invariant (omega arith) c.place.ensures
    earlier s)

pub returns-clause-reads : goal.returns-clause-reads
returns-clause-reads c v earlier rest n s a e =
    (c.loop-zero_planes.invariant.reads v earlier rest n s a e, not_end _ _ _ refl)
