pub mod BuiltIn
pub mod Frame
pub mod Places
pub mod Planes
