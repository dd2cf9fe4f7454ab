pub mod Demo
pub mod Made
