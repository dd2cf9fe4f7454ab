-- Which packets are kept, and what the byte budgets hold by them.
pub mod Keeps
-- One code-block with another entry.
pub mod Changes
-- The inside of the crate.
pub mod Inside
