pub mod Coded
pub mod Codes
pub mod Ends
pub mod Frame
pub mod Rows
