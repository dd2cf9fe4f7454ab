pub mod Head
pub mod Spelling
pub mod Refusals
pub mod Inside
