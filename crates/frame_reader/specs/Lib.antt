-- The code-blocks of a codestream that was found, and what is decoded of them.
pub mod Blocks
-- What is decoded of a codestream.
pub mod Decoded
