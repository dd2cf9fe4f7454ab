pub mod Bounds
pub mod Errors
pub mod Starts
pub mod Steps
