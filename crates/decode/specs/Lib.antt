-- What the reading functions ask for.
pub mod Decoding
