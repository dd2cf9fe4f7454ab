-- What is written of a code-block and of a packet, and a codestream as a function of it.
pub mod Packets
pub mod Spell
-- The choice of coding passes, and what is written of the code-blocks by it.
pub mod Chosen
-- What the bytes of a codestream mean: packets and tile-parts as they stand, and the relation of
-- bytes and what is decoded of them.
pub mod Shapes
pub mod Words
pub mod Reads
-- What a codestream that is spelled is read as, and one of a choice of coding passes.
pub mod Spelled
pub mod Shown
-- Codestreams of small frames, byte by byte.
pub mod OnePixel
pub mod SmallFrames
