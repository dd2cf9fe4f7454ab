pub mod TagTree
pub mod TreeState
pub mod Inside
