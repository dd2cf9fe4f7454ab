-- The promises of `encode`: Encoded and Refused, in the words of Orders, of Packets, Spell, Chosen
-- and Shown of profile_reader, and of Keeps of frame_packets.
pub mod Encoded
pub mod Refused
pub mod Orders
-- The codestream whose packets include nothing.
pub mod Empty
-- The inside of the crate: a frame's blocks and packets at a choice of coding passes.
pub mod Writing
