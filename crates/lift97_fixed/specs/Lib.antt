pub mod Apart
pub mod Line
pub mod Plane
