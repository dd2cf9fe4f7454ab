pub mod Fields
pub mod Fits
pub mod MainHeader
pub mod Reading
pub mod Tables
pub mod Value
pub mod Words
