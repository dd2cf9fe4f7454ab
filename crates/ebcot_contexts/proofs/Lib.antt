pub mod Blocks
pub mod Columns
mod Firsts
pub mod Meanings
mod Blockrows
pub mod Loops
pub mod Orients
pub mod Covered
pub mod Kept
pub mod Levels
pub mod Counts
mod Rows
pub mod Scanned
pub mod Steps
pub mod Shown
pub mod Trees
pub mod Views
