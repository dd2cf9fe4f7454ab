pub mod ByNumber
pub mod Moving
pub mod Points
pub mod Resuming
