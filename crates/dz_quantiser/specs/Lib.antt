pub mod Bands
pub mod Coefficient
pub mod Error
pub mod Index
pub mod Usable
