pub mod Counts
pub mod Corners
pub mod Lines
pub mod Scan
