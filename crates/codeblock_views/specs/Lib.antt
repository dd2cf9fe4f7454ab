pub mod Blocks
pub mod KnownCells
pub mod Magnitudes
pub mod RectangleLaws
pub mod Rectangles
pub mod Views
