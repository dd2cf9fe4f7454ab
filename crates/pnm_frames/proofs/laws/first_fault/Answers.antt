use Rattle.pnm_frames.proofs.FaultShown.{all-shown, fault-shown}
use Rattle.pnm_frames.proofs.FaultTold.{all-told, frame-told}
use Rattle.pnm_frames.proofs.FirstFault.{foretells, prefix-truncated}
use Rattle.pnm_frames.proofs.laws.first_fault.Goals as goal

pub returns-clause-stands : goal.returns-clause-stands
returns-clause-stands c = foretells

pub returns-clause-prefixes : goal.returns-clause-prefixes
returns-clause-prefixes c = prefix-truncated

pub returns-clause-ends : goal.returns-clause-ends
returns-clause-ends c = λ limits bytes fault.
    (frame-told limits bytes fault, fault-shown limits bytes fault)

pub returns-clause-frames : goal.returns-clause-frames
returns-clause-frames c = λ limits bytes.
    (λ frame. all-told limits bytes frame.0 frame.1, all-shown limits bytes)
