pub mod Codewords
pub mod Words
pub mod Grammar
pub mod Written
pub mod Reading
pub mod InsideReading
pub mod InsideWriting
pub mod Kept
