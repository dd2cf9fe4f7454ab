-- The promises of the crate: Encode, Check, Demo and Requests, in the words of Taken and Limits.
pub mod Encode
pub mod Check
pub mod Demo
pub mod Requests
pub mod Limits
pub mod Taken
