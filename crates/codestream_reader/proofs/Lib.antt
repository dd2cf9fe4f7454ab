-- Lists: ranges that grow, parts between places, and pieces that lengths cut.
pub mod Lists
pub mod Pieces
pub mod Codes
-- The bands of a packet, and the spans of its blocks.
pub mod Shapes
pub mod Placing
-- Which refusal a packet has, and where.
pub mod Refusals
-- A packet that was read, and what its spans say.
pub mod Reading
pub mod Saying
pub mod OnePacket
-- Packets one after the other.
pub mod Going
-- Packets that fill a tile-part, and its head.
pub mod Filling
pub mod Heads
pub mod PartCases
-- Tile-parts one after the other.
pub mod PartsStanding
pub mod PartsSaying
pub mod PartsGoing
pub mod FewPlanes
-- The words of a codestream, and two meanings of the same bytes.
pub mod Streams
pub mod OneReading
-- A whole codestream.
pub mod Ending
pub mod AfterMain
pub mod Found
-- The steps of tests.
pub mod BuiltIn
