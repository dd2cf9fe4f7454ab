mod Products
pub mod ApartLemmas
pub mod Casts
pub mod Levels
pub mod Lines
pub mod Moves
pub mod Planes
pub mod RowParts
pub mod Written
