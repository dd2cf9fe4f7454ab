pub mod Corners
pub mod Offers
pub mod Terms
