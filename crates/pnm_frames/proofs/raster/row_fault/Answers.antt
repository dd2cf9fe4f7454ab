use Rattle.std.proofs.Common.{◌+◌, ◌*◌, length, arith}
use Rattle.pnm_frames.specs.declared.fault.FrameFault.TheVariants.{SampleTooLarge, Truncated}
use Rattle.pnm_frames.proofs.Samples.{fault-on, fault-large, fault-short}
use Rattle.pnm_frames.proofs.raster.row_fault.Goals as goal

pub returns-then-bytes-i-gt4095-clause-fault : goal.returns-then-bytes-i-gt4095-clause-fault
returns-then-bytes-i-gt4095-clause-fault c = λ count lt.
    c.loop-i.invariant count (SampleTooLarge (c.args.at + 2 * c.loop-i.i)) lt
    (fault-large c.args.bytes.now c.loop-i.i count c.args.at (omega arith) (omega arith)
    (omega (arith, c.if-bytes-i-gt4095.true)))

pub loop-i-preserved : goal.loop-i-preserved
loop-i-preserved c = λ count fault lt e.
    c.loop-i.invariant count fault lt
    (fault-on c.args.bytes.now c.loop-i.i count c.args.at fault (omega arith) (omega arith)
    (omega (arith, c.if-bytes-i-gt4095.false)) e)

pub returns-clause-fault : goal.returns-clause-fault
returns-clause-fault c = λ count lt.
    c.loop-i.invariant count (Truncated (c.args.at + length c.args.bytes.now)) lt
    (fault-short c.args.bytes.now c.loop-i.i count c.args.at (omega arith) (omega arith) lt)
