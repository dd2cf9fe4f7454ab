pub mod Coefs
pub mod Distortion
pub mod Places
