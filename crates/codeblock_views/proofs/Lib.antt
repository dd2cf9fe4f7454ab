pub mod Cells
pub mod Fits
mod Largest
mod Together
