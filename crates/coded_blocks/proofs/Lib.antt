mod Joining
mod Looking
pub mod NextCode
pub mod Planes
