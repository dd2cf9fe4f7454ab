pub mod Bits
pub mod Stuffing
pub mod Source
pub mod Inside
