pub mod BitLength
pub mod ByteLemmas
pub mod FaultLemmas
pub mod Levels
mod Product
