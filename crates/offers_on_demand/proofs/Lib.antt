pub mod Renewed
pub mod Taken
pub mod Walked
