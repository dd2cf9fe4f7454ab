use Rattle.pnm_frames.proofs.Keeping.{keeps-then}
use Rattle.pnm_frames.proofs.header.read_magic.Goals as goal

pub returns-in_err-read_header_byte-2-clause-keeps : goal.returns-in_err-read_header_byte-2-clause-keeps
returns-in_err-read_header_byte-2-clause-keeps g c =
    keeps-then _ _ _ _ _ _ c.read_header_byte.ensures.keeps c.read_header_byte-2.ensures.keeps

pub returns-then-branch-ne54-clause-keeps : goal.returns-then-branch-ne54-clause-keeps
returns-then-branch-ne54-clause-keeps g c =
    keeps-then _ _ _ _ _ _ c.read_header_byte.ensures.keeps c.read_header_byte-2.ensures.keeps

pub returns-in_err-b-clause-keeps : goal.returns-in_err-b-clause-keeps
returns-in_err-b-clause-keeps g c =
    keeps-then _ _ _ _ _ _
    (keeps-then _ _ _ _ _ _ c.read_header_byte.ensures.keeps c.read_header_byte-2.ensures.keeps) c.read_header_byte-3.ensures.keeps

pub returns-then-not-begins_gap-clause-keeps : goal.returns-then-not-begins_gap-clause-keeps
returns-then-not-begins_gap-clause-keeps g c =
    keeps-then _ _ _ _ _ _
    (keeps-then _ _ _ _ _ _ c.read_header_byte.ensures.keeps c.read_header_byte-2.ensures.keeps) c.read_header_byte-3.ensures.keeps

pub returns-clause-keeps : goal.returns-clause-keeps
returns-clause-keeps g c =
    keeps-then _ _ _ _ _ _
    (keeps-then _ _ _ _ _ _ c.read_header_byte.ensures.keeps c.read_header_byte-2.ensures.keeps) c.read_header_byte-3.ensures.keeps
