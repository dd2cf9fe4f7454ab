pub mod Begun
pub mod BegunLaws
pub mod BlockLaws
pub mod Blocks
pub mod PointLaws
pub mod Points
pub mod Views
