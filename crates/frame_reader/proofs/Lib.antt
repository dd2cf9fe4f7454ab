-- What packets say of each code-block fits its band.
pub mod Fitting
-- The cells of different blocks stand apart.
pub mod Apart
-- One block, and one more after those before.
pub mod Decoding
-- What was decoded is the meaning of the bytes.
pub mod Meaning
