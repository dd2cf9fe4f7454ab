mod Matrix
pub mod Places
pub mod Range
