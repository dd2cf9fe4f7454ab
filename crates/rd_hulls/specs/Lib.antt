pub mod Hull
pub mod Order
pub mod OrderLaws
pub mod Points
pub mod Search
pub mod Steps
