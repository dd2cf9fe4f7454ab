pub mod Hulls
pub mod HullLaws
pub mod Rows
pub mod RowLaws
pub mod Listed
pub mod ListedBlocks
pub mod ListedLaws
pub mod Bodies
