use Rattle.pnm_frames.proofs.Keeping.{keeps-then}
use Rattle.pnm_frames.proofs.header.read_header.Goals as goal

pub returns-in_err-width-clause-keeps : goal.returns-in_err-width-clause-keeps
returns-in_err-width-clause-keeps g c =
    keeps-then _ _ _ _ _ _ c.read_magic.ensures.keeps c.read_number.ensures.keeps

pub returns-in_default-clause-keeps : goal.returns-in_default-clause-keeps
returns-in_default-clause-keeps g c =
    keeps-then _ _ _ _ _ _ c.read_magic.ensures.keeps c.read_number.ensures.keeps

pub returns-in_err-height-clause-keeps : goal.returns-in_err-height-clause-keeps
returns-in_err-height-clause-keeps g c =
    keeps-then _ _ _ _ _ _
    (keeps-then _ _ _ _ _ _ c.read_magic.ensures.keeps c.read_number.ensures.keeps)
    c.read_number-2.ensures.keeps

pub returns-in_default-2-clause-keeps : goal.returns-in_default-2-clause-keeps
returns-in_default-2-clause-keeps g c =
    keeps-then _ _ _ _ _ _
    (keeps-then _ _ _ _ _ _ c.read_magic.ensures.keeps c.read_number.ensures.keeps)
    c.read_number-2.ensures.keeps

pub returns-in_err-read_number-clause-keeps : goal.returns-in_err-read_number-clause-keeps
returns-in_err-read_number-clause-keeps g c =
    keeps-then _ _ _ _ _ _
    (keeps-then _ _ _ _ _ _
    (keeps-then _ _ _ _ _ _ c.read_magic.ensures.keeps c.read_number.ensures.keeps)
    c.read_number-2.ensures.keeps)
    c.read_number-3.ensures.keeps

pub returns-in_default-3-clause-keeps : goal.returns-in_default-3-clause-keeps
returns-in_default-3-clause-keeps g c =
    keeps-then _ _ _ _ _ _
    (keeps-then _ _ _ _ _ _
    (keeps-then _ _ _ _ _ _ c.read_magic.ensures.keeps c.read_number.ensures.keeps)
    c.read_number-2.ensures.keeps)
    c.read_number-3.ensures.keeps

pub returns-clause-keeps : goal.returns-clause-keeps
returns-clause-keeps g c =
    keeps-then _ _ _ _ _ _
    (keeps-then _ _ _ _ _ _
    (keeps-then _ _ _ _ _ _ c.read_magic.ensures.keeps c.read_number.ensures.keeps)
    c.read_number-2.ensures.keeps)
    c.read_number-3.ensures.keeps
