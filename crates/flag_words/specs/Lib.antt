pub mod Blank
pub mod Lookups
pub mod Words
