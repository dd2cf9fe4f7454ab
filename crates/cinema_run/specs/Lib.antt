-- The promises of `run`: Run and RightDemo, in the words of Right and RightCheck (which visits are
-- right in the modes `encode` and `check`), Visit (what a visit does and where it can break off),
-- ReportLine, Widths, Refused and StreamRefused (the lines) and Arguments (which words are a
-- command).
pub mod Run
pub mod Right
pub mod RightCheck
pub mod RightDemo
pub mod Visit
pub mod ReportLine
pub mod Refused
pub mod StreamRefused
pub mod Widths
pub mod Arguments
-- The inside of the crate: what its steps leave.
pub mod Progress
pub mod Output
pub mod Stop
