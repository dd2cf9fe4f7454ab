-- What stands between two places of the bytes, and where a code-block's bytes are.
pub mod Standing
pub mod Spans
-- The first fault of the packets of a tile-part, and of tile-parts.
pub mod PacketFaults
pub mod PartFaults
-- A whole codestream, and its first fault.
pub mod Whole
pub mod Faults
