pub mod Asks
pub mod Cells
pub mod Columns
pub mod Contexts
pub mod Laws
pub mod Meaning
pub mod Passes
