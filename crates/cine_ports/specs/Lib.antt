pub mod Failure
pub mod Memory
pub mod WholePieces
pub mod Names
pub mod Outputs
pub mod Plan
pub mod Source
