pub mod Columns
pub mod Reading
pub mod Results
pub mod Runs
