pub mod Block
pub mod Code
pub mod Coding
pub mod PassCoder
pub mod Runs
pub mod Left
