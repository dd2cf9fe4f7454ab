pub mod Bytes
pub mod Decoder
pub mod Registers
pub mod Turns
