pub mod Ict
pub mod Pointwise
