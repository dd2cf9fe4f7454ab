pub mod Known
pub mod Offered
